-- A drill starts with five nodes that were created.
use Rattle.std.proofs.Common.{◌≡◌, ℕ, ◌<◌, inl, [], ◌∷◌, ◌++◌, length, ap, sym, refl, subst, arith, true≢false}
use Rattle.arc_data.specs.declared.command.Command.{Command}
use Rattle.arc_data.specs.declared.record.Record.TheVariants.{Opened}
use Rattle.arc_voting.specs.Chosen.{HoldsVote}
use Rattle.arc_voting.specs.Growth.{HasVote}
use Rattle.arc_voting.specs.Journals.{Journals}
use Rattle.arc_voting.specs.Lists.{applied}
use Rattle.arc_voting.proofs.Starting.{first_starts_are_sound}
use Rattle.arc_told.specs.Moves.{HadVote}
use Rattle.arc_told.specs.Run.{IsStart, created}
use Rattle.arc_told.specs.View.{IsChoice, IsInOrder, World}
use Rattle.arc_told.proofs.Begun.{not_in_start}
use Rattle.arc_told.proofs.Possible.{sure_is_kept}

first_start : (js : Journals) → IsChoice created js → (node : ℕ) → node < 5 → js node ≡ Opened 1 ∷ []
first_start js choice node lt = sure_is_kept (created.node node) (js node) refl (choice node lt)

created_in_order : (world : World) → IsInOrder world created
created_in_order world = record {
  sound = λ js choice. (first_starts_are_sound js (first_start js choice)).0;
  within = λ js choice node lt.
      let len : length (js node) ≡ 1 = ap (λ l. length l) (first_start js choice node lt) in
      omega (arith, len);
  room = λ js choice node lt.
      let len : length (applied (js node)) ≡ 0 = ap (λ l. length (applied l)) (first_start js choice node lt) in
      omega (arith, len);
  sure = λ node lt up. refl;
}

created_votes : (world : World) (c : Command) → HadVote created c → HasVote world.at_entry c
created_votes world c had =
    let here : had.0 had.2.0 ≡ Opened 1 ∷ [] = first_start had.0 had.1 had.2.0 had.2.3 in
    absurd (not_in_start 1 had.2.1 had.2.2 c (subst (λ l. HoldsVote l had.2.1 had.2.2 c) here had.2.4))

pub created_start : (world : World) → ((j : ℕ) → j < 5 → world.at_entry j ≡ []) → IsStart world created
created_start world empty = record {
  in_order = created_in_order world;
  behind = λ j small. (Opened 1 ∷ [], ap (λ l. l ++ Opened 1 ∷ []) (sym (empty j small)));
  votes = λ c had. created_votes world c had;
  up = λ j small isnt. absurd (true≢false isnt);
  no_stop = λ j small. inl refl;
  left = λ j small. refl;
  silent = λ j small. refl;
  mute = λ j small. refl;
  held = refl;
}
