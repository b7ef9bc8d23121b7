-- Numbers in bytes, the highest byte first.
use Rattle.std.specs.Prelude.{ℕ, ◌+◌, ◌-◌, List, length, take, drop, Result, Ok, Err, nat_lt, if◌then◌else◌}
use Rattle.std.specs.Int.{Width, byte_len, from_be_bytes, to_be_bytes}
use Rattle.arc_bytes.specs.declared.numbers.Short.{Short}

-- a number in as many bytes as its type has
unfoldable pub number_bytes : Width → ℕ → List ℕ
number_bytes w n = to_be_bytes w n

-- The number that stands at a place and the place after it, or how many bytes remain there where they are too few.
unfoldable pub number_at : Width → List ℕ → ℕ → Result (ℕ × ℕ) Short
number_at w bytes at =
    if nat_lt (length bytes - at) (byte_len w)
    then Err (record { have = length bytes - at; need = byte_len w })
    else Ok (from_be_bytes w (take (byte_len w) (drop at bytes)), at + byte_len w)
