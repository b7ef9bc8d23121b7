use Rattle.std.proofs.Common.{◌≡◌, ◌==◌, ℕ, List, Vec, Bor, Global, map, length, IfOk, sym}
use Rattle.std.specs.List.{slice_split}
use Rattle.std.proofs.lemmas.Iterator.Consumers.{map_from_collect}
use Rattle.std.proofs.lemmas.Iterator.Splits.{YieldsList-from_str_split}
use Rattle.std.proofs.lemmas.List.{length-map}
use Rattle.arc_script.proofs.Lists.{some_part}
use Rattle.arc_script.proofs.words.parts_of.Goals as goal

pub returns : goal.returns
returns c =
    let exact : IfOk c.collect.result (λ parts. map (λ part. part.now) parts.items ≡ slice_split (λ b. b == c.args.between) c.args.text.now) =
    map_from_collect _ c.collect.ensures.ran (YieldsList-from_str_split c.args.between c.args.text.now c.requires c.split.ensures.text c.split.ensures.has_more c.split.ensures.pattern) in
    record {
      exact = exact;
      some = some_part (λ (parts : Vec (Bor (List ℕ)) Global). map (λ part. part.now) parts.items) (λ parts. length parts.items)
          (λ parts. sym (length-map parts.items (λ part. part.now))) (λ b. b == c.args.between) c.args.text.now c.collect.result exact;
    }
