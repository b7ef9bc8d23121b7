-- What is shown of a row where its parts are those that are kept.
use Rattle.std.proofs.Common.{◌≡◌, refl, sym, subst}
use Rattle.arc_data.specs.declared.reply.Reply.{Reply}
use Rattle.arc_plain.specs.State.{Effect, Plain}
use Rattle.arc_plain.specs.Cluster.{left_by, reply_of}
use Rattle.arc_plain.specs.Rules.{PlainRules}
use Rattle.arc_rules.specs.Standing.{StandsFor as RulesStandFor}
use Rattle.arc_state.specs.declared.parts.Parts.{Parts}
use Rattle.arc_state.specs.Standing.{Does, StandsFor}

-- the plain state of kept parts, with rules for which the kept ones stand
abbrev pub plain_at : Parts → PlainRules → Plain
plain_at parts rules = record {
  time = parts.time;
  count = parts.count;
  controls = record { panels = parts.controls.panels; rules = rules };
  resources = parts.resources;
  shifts = parts.shifts;
  practices = parts.practices;
  shifts_drawn = parts.shifts_drawn;
}

-- parts stand for no other plain state with these rules
pub same_plain : (parts : Parts) (plain : Plain) → StandsFor parts plain → plain_at parts plain.controls.rules ≡ plain
same_plain parts plain stands = λ i. record {
  time = stands.time i;
  count = stands.count i;
  controls = record { panels = stands.panels i; rules = plain.controls.rules };
  resources = stands.resources i;
  shifts = stands.shifts i;
  practices = stands.practices i;
  shifts_drawn = stands.shifts_drawn i;
}

-- what a row does there, it does in every plain state for which the parts stand
pub does_at : (row : Plain → Effect) (old : Parts) (reply : Reply) (new : Parts) →
    ((rules : PlainRules) → RulesStandFor old.controls.rules rules →
    (reply ≡ reply_of (row (plain_at old rules))) × StandsFor new (left_by (plain_at old rules) (row (plain_at old rules)))) →
    Does row old reply new
does_at row old reply new at plain stands =
    subst (λ (p : Plain). (reply ≡ reply_of (row p)) × StandsFor new (left_by p (row p)))
    (same_plain old plain stands) (at plain.controls.rules stands.rules)

-- the same, for a row whose effect is known there
pub done_by : (row : Plain → Effect) (old : Parts) (reply : Reply) (new : Parts) (effect : PlainRules → Effect) →
    ((rules : PlainRules) → row (plain_at old rules) ≡ effect rules) →
    ((rules : PlainRules) → RulesStandFor old.controls.rules rules →
    (reply ≡ reply_of (effect rules)) × StandsFor new (left_by (plain_at old rules) (effect rules))) →
    Does row old reply new
done_by row old reply new effect is at =
    does_at row old reply new (λ rules stands.
    subst (λ (e : Effect). (reply ≡ reply_of e) × StandsFor new (left_by (plain_at old rules) e)) (sym (is rules)) (at rules stands))

-- parts stand for their plain state
pub stands_at : (parts : Parts) (rules : PlainRules) → RulesStandFor parts.controls.rules rules → StandsFor parts (plain_at parts rules)
stands_at parts rules stands = record {
  time = refl;
  count = refl;
  panels = refl;
  rules = stands;
  resources = refl;
  shifts = refl;
  practices = refl;
  shifts_drawn = refl;
}
