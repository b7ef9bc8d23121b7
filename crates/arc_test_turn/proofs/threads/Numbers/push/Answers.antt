use Rattle.std.proofs.Common.{◌≡◌, ℕ, List, [], ◌∷◌, ◌++◌, refl, sym, ap, ◌∙◌, subst, rules}
use mathlib.Core.List.{IsPrefix, map-append}
use Rattle.arc_test_turn.specs.Numbers.{entries_of}
use Rattle.arc_test_turn.proofs.threads.Numbers.push.Goals as goal

-- one more number is one more entry
one_more : (numbers : List ℕ) (n : ℕ) → entries_of (numbers ++ n ∷ []) ≡ entries_of numbers ++ (n ∷ []) ∷ []
one_more numbers n = map-append (λ (k : ℕ). k ∷ []) numbers (n ∷ [])

-- a list begins itself
begins_self : {A : Type 0} (xs : List A) → IsPrefix xs xs
begins_self [] = ([], refl)
begins_self (x ∷ xs) = let r = begins_self xs in (r.0, ap (λ ys. x ∷ ys) r.1)

pub returns : goal.returns
returns c = (
  (c.args.number ∷ []) ∷ [],
  sym (ap entries_of c.in_ok-push.ensures.items ∙ one_more c.args.self.now.items.items c.args.number),
)

pub returns-in_err-push : goal.returns-in_err-push
returns-in_err-push c =
    let same : c.push.new.self.items ≡ c.args.self.now.items.items = search rules in
    subst (λ items. IsPrefix (entries_of c.args.self.now.items.items) (entries_of items)) (sym same) (begins_self (entries_of c.args.self.now.items.items))
