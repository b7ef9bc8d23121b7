use Rattle.std.proofs.Common.{◌≡◌, ◌∙◌, rules, ap, ap₂, codes, map}
use Rattle.std.specs.Prelude.{string_bytes}
use Rattle.clap.specs.Words.{app_of, first_of, found_of, is_simple, new_app, with_rule}
use Rattle.clap.specs.Simple.{app_of_fields, matches_of}
use Rattle.clap.proofs.WalkLemmas.{first_value-rows}
use Rattle.arc_cli.proofs.Positional.{drill_app, is_simple_app, nameless, path_is_read}
use Rattle.arc_cli.proofs.read.file_in.Goals as goal

pub returns-in-Ok-clause-exact : goal.returns-in-Ok-clause-exact
returns-in-Ok-clause-exact c =
    let command_is : app_of c.no_binary_name.result ≡ nameless (new_app (codes "drill")) =
    ap app_of_fields c.no_binary_name.ensures ∙ ap nameless c.new.ensures.app in
    let app_is : app_of c.in_ok-command.command ≡ drill_app =
    c.in_ok-command.ensures.shape (search rules) ∙ ap₂ with_rule command_is c.new-file.ensures.rule in
    let rows = (c.in-Ok.ensures.matches (ap is_simple app_is ∙ is_simple_app)).0 in
    c.get_str.ensures ∙ first_value-rows (found_of c.in-Ok.matches) (codes "FILE")
    ∙ ap (first_of (codes "FILE")) (rows ∙ ap (λ app. matches_of app (map string_bytes c.args.fields.now)) app_is)
    ∙ path_is_read (map string_bytes c.args.fields.now) c.requires
