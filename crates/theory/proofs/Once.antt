-- At most one outcome, the form in which each contract is shown to leave no second one. Assumes nothing.
use mathlib.Core.Path.{◌≡◌, sym, ◌∙◌}

-- at most one value is as told
abbrev pub Once : {A : Type 0} → (A → Type 0) → Type 0
Once {A} told = (r s : A) → told r → told s → r ≡ s

-- what a total function gives is told of one value alone
pub no_second : {A : Type 0} (outcome : A) → Once (λ (r : A). r ≡ outcome)
no_second outcome r s p q = p ∙ sym q
