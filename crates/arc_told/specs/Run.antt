-- A chain of moves, and what each of its lines tells.
use Rattle.std.specs.Prelude.{ℕ, ◌≡◌, ◌<◌, ◌≤◌, ◌⊎◌, ⊤, true, false, Option, Some, None, List, [], ◌∷◌, ◌++◌, length}
use Rattle.arc_data.specs.declared.command.Command.{Command}
use Rattle.arc_data.specs.declared.record.Record.TheVariants.{Opened}
use Rattle.arc_voting.specs.Growth.{Grows, HasVote}
use Rattle.arc_voting.specs.Lists.{applied}
use Rattle.arc_voting.specs.Sound.{IsSound}
use Rattle.arc_told.specs.Moves.{HadVote, IsNewId, Moves}
use Rattle.arc_told.specs.Report.{Asked, IsCall, Reported}
use Rattle.arc_told.specs.View.{IsInOrder, View, World, kept_in, limit_in}

-- These steps, one after another, lead from one view to another.
abbrev pub Run : World → View → List Reported → View → Type 0
Run world from [] to = to ≡ from
Run world from (next ∷ later) to = (between : View) × Moves world next from between × Run world between later to

-- P holds of each step, with those before it.
abbrev pub Each : (List Reported → Reported → Type 0) → List Reported → List Reported → Type 0
Each P before [] = ⊤
Each P before (next ∷ later) = P before next × Each P (before ++ next ∷ []) later

-- A view with which a drill starts: the journals at entry, with a start behind each at most, so that no command has its first vote
-- there; no exchange has a fate yet, and nothing is held. No disk is told to stop, and a node that isn't up has
-- a full journal; or its disk excuses it.
pub record IsStart (world : World) (view : View) : Type 0 where
  pub in_order : IsInOrder world view
  pub behind : Grows world.at_entry (kept_in view)
  pub votes : (c : Command) → HadVote view c → HasVote world.at_entry c
  pub up : (j : ℕ) → j < 5 → (view.node j).up ≡ false →
      (length (view.node j).kept ≡ limit_in world) ⊎ (world.excused j ≡ true)
  pub no_stop : (j : ℕ) → j < 5 → ((view.node j).stop ≡ None) ⊎ (world.excused j ≡ true)
  pub left : (j : ℕ) → j < 5 → view.left j ≡ Some 0
  pub silent : (j : ℕ) → j < 5 → view.silent j ≡ false
  pub mute : (j : ℕ) → j < 5 → view.mute j ≡ false
  pub held : view.held ≡ []

-- Five nodes that were created: each is up, with its first start alone.
abbrev pub created : View
created = record {
  node = λ j. record { kept = Opened 1 ∷ []; doubt = None; up = true; stop = None };
  left = λ j. Some 0;
  silent = λ j. false;
  mute = λ j. false;
  held = [];
}

-- The journals at the end are behind those of this view, sound together, and within their limits.
pub record IsBeforeEnd (world : World) (view : View) : Type 0 where
  pub grow : Grows (kept_in view) world.at_end
  pub sound : IsSound world.at_end
  pub within : (j : ℕ) → j < 5 → length (world.at_end j) ≤ limit_in world
  pub room : (j : ℕ) → j < 5 → length (applied (world.at_end j)) ≤ world.slots

-- What was begun behind this view and has no line: no call, or one with a new identifier, whose command alone got its first vote.
abbrev pub EndsBy : World → Option Asked → View → Type 0
EndsBy world None view = (c : Command) → HasVote world.at_end c → HadVote view c
EndsBy world (Some asked) view = (last : Command) × IsCall asked last × IsNewId view last.id
    × ((c : Command) → HasVote world.at_end c → HadVote view c ⊎ (c ≡ last))
