-- What clap reads of the words behind `drill`: one positional argument, or none.
use Rattle.std.proofs.Common.{◌≡◌, ◌∙◌, ℕ, ◌==◌, ◌&&◌, Bool, true, false, List, [], ◌∷◌, length, Some, None, codes, refl, ap, arith}
use Rattle.std.specs.Str.{bytes_eq}
use Rattle.std.proofs.lemmas.Bool.{not-true}
use Rattle.clap.specs.Lexer.{long_of, short_of}
use Rattle.clap.specs.Walk.{Held, Rule, Step, Text, Walk, after_step, finished, first_of, idle, nothing_held, value, walk_from, walked, word_met}
use Rattle.clap.specs.Simple.{App, app_of_fields, built, is_simple, matches_of, new_app, new_rule, on_top, with_rule}
use Rattle.clap.specs.declared.builder.command.Command.{Command}
use Rattle.clap.specs.declared.builder.command.Command.TheOpen.{Command-F}
use Rattle.clap.proofs.OnLiterals.{clap_on_literals}
use Rattle.arc_cli.specs.Forms.{NamesFile, drill_of, is_drill, path_in}

-- a command whose words don't begin with the program's name
abbrev pub nameless : App → App
nameless app = on_top (λ s. record s { no_binary_name = true }) app

-- the command of a drill
abbrev pub drill_app : App
drill_app = with_rule (nameless (new_app (codes "drill"))) (new_rule (codes "FILE"))

pub nameless_fields : (fields : Command-F Command) → app_of_fields (record fields { no_binary_name = true }) ≡ nameless (app_of_fields fields)
nameless_fields fields = refl

pub is_simple_app : is_simple drill_app ≡ true
unfolding clap_on_literals
is_simple_app = refl

-- its arguments, once it is built
abbrev rules : List Rule
rules = (built drill_app).top.rules

-- where the walk over its words begins
abbrev start : Walk
start = walk_from nothing_held

-- a word that is no option is a value
is_value : (arguments : List Rule) (held : Held) (word : Text) → bytes_eq word (45 ∷ 45 ∷ []) ≡ false → long_of word ≡ None → short_of word ≡ None
    → word_met arguments [] false idle 1 word held ≡ (held, value)
is_value arguments held word dashes long short = rw (dashes, long, short) refl

walks : (word : Text) → bytes_eq word (45 ∷ 45 ∷ []) ≡ false → long_of word ≡ None → short_of word ≡ None
    → walked rules [] start word ≡ after_step rules word start nothing_held value
unfolding walked
walks word dashes long short = ap (λ (met : Held × Step). after_step rules word start met.0 met.1) (is_value rules nothing_held word dashes long short)

keeps_word : (word : Text) → first_of (codes "FILE") (finished rules (after_step rules word start nothing_held value).held) ≡ Some word
unfolding clap_on_literals
keeps_word word = refl

value_is_read : (word : Text) → bytes_eq word (45 ∷ 45 ∷ []) ≡ false → long_of word ≡ None → short_of word ≡ None
    → first_of (codes "FILE") (matches_of drill_app (word ∷ [])) ≡ Some word
value_is_read word dashes long short =
    ap (λ (walk : Walk). first_of (codes "FILE") (finished rules walk.held)) (walks word dashes long short) ∙ keeps_word word

false_and : (b : Bool) → (false && b) ≡ false
false_and true = refl
false_and false = refl

no_dashes : (b : ℕ) (word : Text) → (b == 45) ≡ false → bytes_eq (b ∷ word) (45 ∷ 45 ∷ []) ≡ false
no_dashes b word plain = rw plain (false_and (bytes_eq word (45 ∷ [])))

no_long : (b : ℕ) (word : Text) → (b == 45) ≡ false → long_of (b ∷ word) ≡ None
no_long b word plain = rw plain refl

no_short : (b : ℕ) (word : Text) → (b == 45) ≡ false → short_of (b ∷ word) ≡ None
no_short b word plain = rw plain refl

-- so what is read is the path
pub path_is_read : (fields : List Text) → is_drill fields ≡ true → first_of (codes "FILE") (matches_of drill_app fields) ≡ path_in fields
unfolding clap_on_literals
path_is_read [] is = refl
path_is_read ([] ∷ []) is = refl
path_is_read ((b ∷ word) ∷ []) is =
    let plain : (b == 45) ≡ false = not-true (b == 45) is in
    value_is_read (b ∷ word) (no_dashes b word plain) (no_long b word plain) (no_short b word plain)
path_is_read (word ∷ other ∷ others) is = absurd cc

-- one word that is a path names a file
pub one_file : (fields : List Text) → length fields ≡ 1 → is_drill fields ≡ true → NamesFile (drill_of fields)
unfolding drill_of
one_file [] one is = absurd (omega arith)
one_file (path ∷ []) one is = rw is tt
one_file (path ∷ other ∷ others) one is = absurd cc
