use Rattle.std.proofs.Common.{◌≡◌, Bool, false, not, bytes_eq, filter, rules, List, ℕ, Ok, refl, sym, ap, subst, ◌∙◌}
use Rattle.std.proofs.lemmas.Fn.{filter_same}
use Rattle.arc_data.specs.declared.practice.Ending.TheVariants.{Alarm}
use Rattle.arc_plain.specs.Practice.{PlainPractices, alarm_set, fails_by}
use Rattle.arc_practice.specs.Kept.{HaveStarted}
use Rattle.arc_practice.proofs.Kept.{kept_after_end}
use Rattle.arc_practice.proofs.practices.Practices.alarm.Goals as goal

-- an alarm that isn't to be red is taken out of the red ones
not_red : (p : PlainPractices) (alarm : List ℕ) (red : Bool) (now : ℕ) → red ≡ false →
    alarm_set p alarm red now ≡ Ok (record p { red = filter (λ r. not (bytes_eq r alarm)) p.red })
unfolding alarm_set
not_red p alarm red now off = rw off refl

pub returns-then-not-red : goal.returns-then-not-red
returns-then-not-red c =
    let p : PlainPractices = record { configs = c.self.inside.configs.items; runs = c.self.inside.runs.items; red = c.self.inside.red.items } in
    let left = filter_same _ (λ r. not (bytes_eq r c.args.alarm.now)) _ (λ x b f' called. search rules) _ _ c.retain.ensures.filtered in
    ap (λ (x : PlainPractices). alarm_set x c.args.alarm.now c.args.red c.args.now) (sym c.self.view_is)
    ∙ not_red p c.args.alarm.now c.args.red c.args.now c.if-not-red.true
    ∙ ap (λ (red : List (List ℕ)). Ok (record p { red = red })) (sym left)

-- the runs have ended that fail by a red one
pub invariant_of-self-in-Ok : goal.invariant_of-self-in-Ok
invariant_of-self-in-Ok c =
    let p : PlainPractices = record { configs = c.self.inside.configs.items; runs = c.self.inside.runs.items; red = c.self.inside.red.items } in
    let begun = subst (λ (x : PlainPractices). HaveStarted x.runs c.args.now) (sym c.self.view_is) c.requires.after_all in
    kept_after_end p (fails_by c.args.alarm.now) Alarm c.args.now c.fail.new.runs.items c.redden.new.red.items
    c.self.invariant begun c.fail.ensures c.redden.ensures.within_limit
