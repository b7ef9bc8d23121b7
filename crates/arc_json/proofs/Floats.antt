-- No reply has a number that isn't whole, so that each has one text.
use Rattle.std.proofs.Common.{◌≡◌, ℕ, false, List, [], ◌∷◌, map, Option, Some, None, refl}
use Rattle.std.proofs.lemmas.Bool.{or_from}
use Rattle.serde_json.specs.Data.{Data, string}
use Rattle.serde_json.specs.View.{items_of}
use Rattle.serde_json.specs.Written.{has_float, items_have_float}
use Rattle.arc_data.specs.declared.reply.Body.{Body}
use Rattle.arc_data.specs.declared.reply.Body.TheVariants as body
use Rattle.arc_data.specs.declared.reply.Refusal.{Refusal}
use Rattle.arc_data.specs.declared.reply.Refusal.TheVariants as refusal
use Rattle.arc_data.specs.declared.reply.Reply.{Reply}
use Rattle.arc_data.specs.declared.reply.Reply.TheVariants.{Done, Refused}
use Rattle.arc_data.specs.declared.rule.Cause.{Cause}
use Rattle.arc_data.specs.declared.rule.Cause.TheVariants.{AssertFalse, GateClosed, Waiting}
use Rattle.arc_data.specs.declared.shift.Kind.{Kind}
use Rattle.arc_data.specs.declared.shift.Outcome.{Outcome}
use Rattle.arc_data.specs.declared.shift.ShiftItem.{ShiftItem}
use Rattle.arc_json.specs.Done.{applied_value, body_value, control_value, resource_value, rule_value, shift_with}
use Rattle.arc_json.specs.Refusal.{cause_value, forbidden_value, refusal_value}
use Rattle.arc_json.specs.Reply.{value_of}

-- a list of values without any has none
list_whole : {A : Type 0} (f : A → Data) → ((x : A) → has_float (f x) ≡ false) → (xs : List A) →
    items_have_float (items_of (map f xs)) ≡ false
list_whole f h [] = refl
list_whole f h (x ∷ xs) = or_from _ _ (h x) (list_whole f h xs)

-- in the cause of a rule
cause_whole : (rule : List _) (cause : Cause) → has_float (cause_value rule cause) ≡ false
cause_whole rule AssertFalse = refl
cause_whole rule GateClosed = refl
cause_whole rule (Waiting until) = refl

-- in a shift or a run
shift_whole : (item : ShiftItem) (outcome : Option Outcome) → has_float (shift_with item outcome) ≡ false
shift_whole item None = refl
shift_whole item (Some outcome) = refl

-- in the shift that is applied
applied_whole : (applied : Option (Kind × List ℕ)) → has_float (applied_value applied) ≡ false
applied_whole None = refl
applied_whole (Some applied) = refl

-- in what was done
body_whole : (b : Body) → has_float (body_value b) ≡ false
body_whole body.Empty = refl
body_whole (body.Panel panel name) = refl
body_whole (body.Control panel name control) = refl
body_whole (body.Controls items) = or_from _ _ (list_whole control_value (λ item. refl) items) refl
body_whole (body.ControlState control name on) = refl
body_whole (body.Rule rule) = refl
body_whole (body.Rules items) = or_from _ _ (list_whole rule_value (λ item. refl) items) refl
body_whole (body.Resource resource) = refl
body_whole (body.ResourceDetail applied zones name resource autoshift) =
    or_from _ _ (applied_whole applied) (or_from _ _ (list_whole string (λ zone. refl) zones) refl)
body_whole (body.Resources items) = or_from _ _ (list_whole resource_value (λ item. refl) items) refl
body_whole (body.Shift item) = shift_whole item item.outcome
body_whole (body.Shifts items) = or_from _ _ (list_whole _ (λ item. shift_whole item item.outcome) items) refl
body_whole (body.Autoshift resource enabled) = refl

-- in a refusal
refusal_whole : (r : Refusal) → has_float (refusal_value r) ≡ false
refusal_whole (refusal.TokenAhead token place) = refl
refusal_whole (refusal.NotFound id) = refl
refusal_whole (refusal.Limit count) = refl
refusal_whole (refusal.NameTaken id) = refl
refusal_whole (refusal.InUse id) = refl
refusal_whole (refusal.Forbidden rules) =
    or_from _ _ refl (or_from _ _ (list_whole forbidden_value (λ f. cause_whole _ f.cause) rules) refl)
refusal_whole (refusal.NotConfigured resource) = refl
refusal_whole (refusal.Configured resource) = refl
refusal_whole (refusal.Enabled resource) = refl
refusal_whole (refusal.Started zone) = refl
refusal_whole (refusal.NotActive status) = refl
refusal_whole (refusal.Busy by) = refl
refusal_whole (refusal.WrongZone zone) = refl
refusal_whole (refusal.Blocked cause) = refl

-- in a reply
pub reply_whole : (reply : Reply) → has_float (value_of reply) ≡ false
reply_whole (Done b) = body_whole b
reply_whole (Refused r) = refusal_whole r
