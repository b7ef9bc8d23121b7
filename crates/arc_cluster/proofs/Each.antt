-- What became of each of five nodes that were handed their mail.
use Rattle.std.proofs.Common.{ℕ, List, Option, refl}
use Rattle.std.specs.Borrow.{Bor}
use Rattle.arc_bytes.specs.Five.{at}
use Rattle.arc_bytes.specs.declared.five.Five.{Five}
use Rattle.arc_data.specs.declared.message.Answer.{Answer}
use Rattle.arc_data.specs.declared.message.Message.{Message}
use Rattle.arc_disk.specs.declared.disk.Disk.{Ghosts}
use Rattle.arc_node.specs.Node.{disk_in, HasVotesInPlace, IsInOrder, IsSameNode}
use Rattle.arc_node.specs.declared.node.Node.{Node}
use Rattle.arc_voting.proofs.Three.{below_five}
use Rattle.arc_cluster.specs.Handling.{AllAnswer, AnswersAs, HandlesAll, MayHandle, lent_to}
use Rattle.arc_cluster.specs.Moments.{AllHandled, Handled, LeavesFronts}
use Rattle.arc_cluster.specs.Since.{Since}
use Rattle.arc_cluster.proofs.Fronts.{fronts_begin}
use Rattle.arc_cluster.proofs.Going.{nothing_handled}
use Rattle.arc_cluster.proofs.Quiet.{since_same}

-- five values
abbrev pub five_of : {T : Type 0} → T → T → T → T → T → Five T
five_of a b c d e = record { d0 = a; d1 = b; d2 = c; d3 = d; d4 = e }

module _ {D : Type 0} (disk : Ghosts D) where
  -- what became of a node that was handed these messages
  abbrev pub Did : Node D → Node D → List Message → Type 0
  Did old new messages =
      Handled disk.tells disk.content disk.may_leave disk.faults disk.moment disk.stops_in disk.is_tame disk.left_since
      old new messages

  -- one that handled them
  pub did : (old new : Node D) (messages : List Message)
      → IsInOrder disk.tells disk.content disk.may_leave new → HasVotesInPlace new → HandlesAll disk.faults old new messages
      → (disk.tells → LeavesFronts disk.moment disk.left_since old new messages)
      → Since disk.faults disk.stops_in disk.is_tame (disk_in old) (disk_in new) → IsSameNode old new → Did old new messages
  did old new messages order placed handles fronts since same =
      record { in_order = order; in_place = placed; handles = handles; any_moment = fronts; since = since; same = same }

  -- one that isn't reached
  pub untouched : (node : Node D) (messages : List Message)
      → ((d : D) (image : List ℕ) → disk.tells → disk.left_since d (disk.moment d) image → disk.may_leave d image)
      → MayHandle disk.tells disk.content disk.may_leave node messages → Did node node messages
  untouched node messages only_now may = record {
    in_order = may.in_order;
    in_place = may.in_place;
    handles = nothing_handled disk.faults node messages;
    any_moment = λ told.
        fronts_begin disk.tells disk.content disk.may_leave disk.moment disk.left_since node messages
        (λ image left. only_now (disk_in node) image told left) may.in_order told;
    since = since_same disk.moment disk.faults disk.stops_in disk.is_tame (disk_in node) (disk_in node) refl;
    same = record { number = refl; slots = refl };
  }

  -- each of the five
  pub each_of_five : (old new : Five (Node D)) (mail : Five (Bor (List Message)))
      → Did old.d0 new.d0 mail.d0.now → Did old.d1 new.d1 mail.d1.now → Did old.d2 new.d2 mail.d2.now
      → Did old.d3 new.d3 mail.d3.now → Did old.d4 new.d4 mail.d4.now
      → AllHandled disk.tells disk.content disk.may_leave disk.faults disk.moment disk.stops_in disk.is_tame
      disk.left_since old new (lent_to mail)
  each_of_five old new mail = below_five (λ n. Did (at old n) (at new n) (lent_to mail n))

-- what each of the five answers
pub each_answers : {D : Type 0} (old new : Five (Node D)) (mail : Five (Bor (List Message))) (answers : Five (Option Answer))
    → AnswersAs old.d0 new.d0 mail.d0.now answers.d0 → AnswersAs old.d1 new.d1 mail.d1.now answers.d1
    → AnswersAs old.d2 new.d2 mail.d2.now answers.d2 → AnswersAs old.d3 new.d3 mail.d3.now answers.d3
    → AnswersAs old.d4 new.d4 mail.d4.now answers.d4 → AllAnswer old new (lent_to mail) answers
each_answers old new mail answers =
    below_five (λ n. AnswersAs (at old n) (at new n) (lent_to mail n) (at answers n))
