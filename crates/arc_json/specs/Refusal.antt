-- The JSON value and the status of a refusal. Members stand in ascending byte order of their names.
use Rattle.std.specs.Prelude.{ℕ, List, map, codes}
use Rattle.serde_json.specs.Data.{Data, number, unsigned, string, array, object, member, no_members}
use Rattle.serde_json.specs.View.{items_of}
use Rattle.arc_ids.specs.Texts.{rule_text, resource_text}
use Rattle.arc_data.specs.declared.reply.Refusal.{Refusal}
use Rattle.arc_data.specs.declared.reply.Refusal.TheVariants as refusal
use Rattle.arc_data.specs.declared.rule.Cause.{Cause}
use Rattle.arc_data.specs.declared.rule.Cause.TheVariants.{AssertFalse, GateClosed, Waiting}
use Rattle.arc_data.specs.declared.rule.Forbidden.{Forbidden}
use Rattle.arc_json.specs.Words.{block_word, conflict, invalid, kind_word, missing, named_text, shift_word}

-- why a rule forbids a batch; a wait tells when it ends
abbrev pub cause_value : List ℕ → Cause → Data
cause_value rule AssertFalse =
    object (member (codes "Cause") (string (codes "AssertFalse")) (member (codes "SafetyRuleArn") (string rule) no_members))
cause_value rule GateClosed =
    object (member (codes "Cause") (string (codes "GateClosed")) (member (codes "SafetyRuleArn") (string rule) no_members))
cause_value rule (Waiting until) =
    object (
    member (codes "Cause") (string (codes "Waiting")) (
    member (codes "SafetyRuleArn") (string rule) (
    member (codes "Until") (number (unsigned until)) no_members)))

-- a rule that forbids a batch
abbrev pub forbidden_value : Forbidden → Data
forbidden_value forbidden = cause_value (rule_text forbidden.rule) forbidden.cause

-- a refusal that names one thing
abbrev pub about : List ℕ → List ℕ → List ℕ → Data
about reason name type =
    object (
    member (codes "Reason") (string reason) (
    member (codes "Resource") (string name) (
    member (codes "__type") (string type) no_members)))

-- why it was refused
abbrev pub refusal_value : Refusal → Data
refusal_value (refusal.TokenAhead token place) =
    object (
    member (codes "Place") (number (unsigned place)) (
    member (codes "Reason") (string (codes "TokenAhead")) (
    member (codes "Token") (number (unsigned token)) (
    member (codes "__type") (string conflict) no_members))))
refusal_value (refusal.NotFound id) = about (codes "NotFound") (named_text id) missing
refusal_value (refusal.Limit count) =
    object (
    member (codes "Count") (number (unsigned count)) (
    member (codes "Reason") (string (codes "Limit")) (
    member (codes "__type") (string (codes "ServiceLimitExceededException")) no_members)))
refusal_value (refusal.NameTaken id) = about (codes "NameTaken") (named_text id) conflict
refusal_value (refusal.InUse id) = about (codes "InUse") (named_text id) conflict
refusal_value (refusal.Forbidden rules) =
    object (
    member (codes "Reason") (string (codes "Forbidden")) (
    member (codes "Rules") (array (items_of (map forbidden_value rules))) (
    member (codes "__type") (string conflict) no_members)))
refusal_value (refusal.NotConfigured resource) = about (codes "NotConfigured") (resource_text resource) missing
refusal_value (refusal.Configured resource) = about (codes "Configured") (resource_text resource) conflict
refusal_value (refusal.Enabled resource) = about (codes "Enabled") (resource_text resource) conflict
refusal_value (refusal.Started zone) = about (codes "Started") zone conflict
refusal_value (refusal.NotActive status) =
    object (
    member (codes "Reason") (string (codes "NotActive")) (
    member (codes "Status") (string (shift_word status)) (
    member (codes "__type") (string conflict) no_members)))
refusal_value (refusal.Busy by) =
    object (
    member (codes "By") (string (kind_word by)) (
    member (codes "Reason") (string (codes "Busy")) (
    member (codes "__type") (string conflict) no_members)))
refusal_value (refusal.WrongZone zone) =
    object (
    member (codes "AwayFrom") (string zone) (
    member (codes "Reason") (string (codes "WrongZone")) (
    member (codes "__type") (string invalid) no_members)))
refusal_value (refusal.Blocked cause) =
    object (
    member (codes "Cause") (string (block_word cause)) (
    member (codes "Reason") (string (codes "Blocked")) (
    member (codes "__type") (string conflict) no_members)))

-- the status of a refusal, in the numbers of HTTP
abbrev pub refusal_status : Refusal → ℕ
refusal_status (refusal.TokenAhead token place) = 409
refusal_status (refusal.NotFound id) = 404
refusal_status (refusal.Limit count) = 402
refusal_status (refusal.NameTaken id) = 409
refusal_status (refusal.InUse id) = 409
refusal_status (refusal.Forbidden rules) = 409
refusal_status (refusal.NotConfigured resource) = 404
refusal_status (refusal.Configured resource) = 409
refusal_status (refusal.Enabled resource) = 409
refusal_status (refusal.Started zone) = 409
refusal_status (refusal.NotActive status) = 409
refusal_status (refusal.Busy by) = 409
refusal_status (refusal.WrongZone zone) = 400
refusal_status (refusal.Blocked cause) = 409
