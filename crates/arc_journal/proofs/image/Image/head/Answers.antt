-- A head names the node that stands at its place.
use Rattle.std.proofs.Common.{◌≡◌, ℕ, sym, ◌∙◌, subst}
use Rattle.arc_journal.specs.Views.{BeginsWithHead}
use Rattle.arc_journal.proofs.Heads.{node_named}
use Rattle.arc_journal.proofs.image.Image.head.Goals as goal

pub returns-in-Err : goal.returns-in-Err
returns-in-Err c = λ node slots begins.
    let image = c.args.self.now.bytes.now in
    let named : node ≡ c.node_in-node.result = sym (c.node_in-node.ensures ∙ node_named node slots image begins) in
    c.in-Err.ensures.other slots (subst (λ (n : ℕ). BeginsWithHead n slots image) named begins)
