-- How the lines of steps are spelled.
use Rattle.std.specs.Prelude.{◌≡◌, ℕ, ◌<◌, ◌==◌, Bool, true, false, List, length, codes}
use Rattle.std.specs.List.{list_any, join_with_byte}
use Rattle.std.specs.Str.{IsUtf8}

-- a word of a line: text that isn't empty and has no space
pub record IsWord (word : List ℕ) : Type 0 where
  pub some : 0 < length word
  pub no_space : list_any (λ b. b == 32) word ≡ false
  pub utf8 : IsUtf8 word

-- words, one space between each two
abbrev pub line : List (List ℕ) → List ℕ
line words = join_with_byte 32 words

-- the word for a state
abbrev pub state_word : Bool → List ℕ
state_word true = codes "On"
state_word false = codes "Off"
