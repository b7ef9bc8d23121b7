use Rattle.std.proofs.Common.{◌≡◌, length}
use Rattle.arc_members.specs.Lists.{all_differ}
use Rattle.arc_members.proofs.list.all_differ.Given as goal

-- none so far is there again, so that the rest decides
abbrev pub invariant-loop-rest : goal.invariant-loop-rest
invariant-loop-rest g l = all_differ g.K.Apart.same l.rest ≡ all_differ g.K.Apart.same l.items

abbrev pub decreases-loop-rest : goal.decreases-loop-rest
decreases-loop-rest g l = length l.rest
