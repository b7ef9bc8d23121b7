-- There goes on to be a plain state for which the parts stand.
use Rattle.std.proofs.Common.{◌≡◌, ◌+◌, ◌<◌, ◌≤◌, ℕ, true, false, max, arith}
use Rattle.std.proofs.lemmas.Bool.{lt-ltb, le-ltb}
use Rattle.arc_data.specs.declared.command.Command.{Command}
use Rattle.arc_data.specs.declared.command.TheConstants.{MAX_MS}
use Rattle.arc_data.specs.declared.reply.Reply.{Reply}
use Rattle.arc_plain.specs.State.{Plain}
use Rattle.arc_plain.specs.Cluster.{arrived, effect_of, is_ahead, next}
use Rattle.arc_plain.proofs.Counts.{time_next}
use Rattle.arc_plain.proofs.Orderly.{orderly_next}
use Rattle.arc_state.specs.declared.parts.Parts.{Parts}
use Rattle.arc_state.specs.Standing.{Does, StandsFor}
use Rattle.arc_state.specs.State.{AreKept}

-- the parts as a command finds them
abbrev pub at_arrival : Parts → ℕ → Parts
at_arrival parts time = record parts { time = time; count = parts.count + 1 }

pub arrived_stands : (parts : Parts) (plain : Plain) (c : Command) (time : ℕ) → StandsFor parts plain →
    time ≡ max parts.time c.at_ms → StandsFor (at_arrival parts time) (arrived plain c)
arrived_stands parts plain c time stands is = record {
  time = omega (arith, is, stands.time);
  count = omega (arith, stands.count);
  panels = stands.panels;
  rules = stands.rules;
  resources = stands.resources;
  shifts = stands.shifts;
  practices = stands.practices;
  shifts_drawn = stands.shifts_drawn;
}

-- what stands for the next plain state is kept
kept_next : (old new : Parts) (c : Command) (kept : AreKept old) → c.at_ms ≤ MAX_MS → StandsFor new (next kept.plain c) → AreKept new
kept_next old new c kept timely stands = record {
  plain = next kept.plain c;
  stands = stands;
  orderly = orderly_next kept.plain c kept.orderly;
  in_time = omega (arith, stands.time, time_next kept.plain c, kept.stands.time, kept.in_time, timely);
}

-- a token ahead
pub ahead_kept : (old : Parts) (c : Command) (time : ℕ) → AreKept old → c.at_ms ≤ MAX_MS →
    time ≡ max old.time c.at_ms → old.count < c.token → AreKept (at_arrival old time)
ahead_kept old c time kept timely is token =
    let below : kept.plain.count < c.token = omega (arith, kept.stands.count, token) in
    let ahead : is_ahead c.token kept.plain.count ≡ true = lt-ltb kept.plain.count c.token below in
    kept_next old (at_arrival old time) c kept timely (rw ahead (arrived_stands old kept.plain c time kept.stands is))

-- an operation that was done
pub done_kept : (old new : Parts) (c : Command) (reply : Reply) (time : ℕ) → AreKept old → c.at_ms ≤ MAX_MS →
    time ≡ max old.time c.at_ms → c.token ≤ old.count →
    Does (λ plain. effect_of plain c.op) (at_arrival old time) reply new → AreKept new
done_kept old new c reply time kept timely is token does =
    let above : c.token ≤ kept.plain.count = omega (arith, kept.stands.count, token) in
    let not_ahead : is_ahead c.token kept.plain.count ≡ false = le-ltb kept.plain.count c.token above in
    kept_next old new c kept timely
    (rw not_ahead (does (arrived kept.plain c) (arrived_stands old kept.plain c time kept.stands is)).1)
