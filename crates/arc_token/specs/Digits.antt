-- Numbers and tokens as decimal digits.
use Rattle.std.specs.Prelude.{ℕ, ◌^◌, ◌&&◌, Bool, nat_lt, nat_le, List, length, Option, Some, None, if◌then◌else◌}
use Rattle.std.specs.Char.{is_ascii_digit}
use Rattle.std.specs.List.{list_all}
use Rattle.std.specs.Str.Parse.{digits_value}

-- decimal digits, one at least, of a number below 2 ^ 64; leading zeros are allowed
abbrev pub is_number : List ℕ → Bool
is_number text = nat_lt 0 (length text) && list_all is_ascii_digit text && nat_lt (digits_value 10 text) (2 ^ 64)

-- the number below 2 ^ 64 that decimal digits spell
unfoldable pub number_in : List ℕ → Option ℕ
number_in text = if is_number text then Some (digits_value 10 text) else None

-- the token that 1 to 20 decimal digits of a number below 2 ^ 64 spell
abbrev pub token_in : List ℕ → Option ℕ
token_in text = if nat_le (length text) 20 then number_in text else None
