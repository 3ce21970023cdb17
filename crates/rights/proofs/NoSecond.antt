-- No second outcome of taking a command's counts into a tally. Assumes nothing.
use Prim.Native.Nat.{ℕ, ◌+◌}
use mathlib.Core.Path.{◌≡◌, sym, ◌∙◌}
use Rattle.rights.specs.declared.Tally.{Tally}
use Rattle.rights.specs.Tally.{capped}

abbrev TakingIn : Tally → ℕ → ℕ → Tally → Type 0
TakingIn t removed added r = (r.removed ≡ capped (t.removed + removed)) × (r.added ≡ capped (t.added + added))

pub no_second_tally : (t : Tally) (removed added : ℕ) (r r' : Tally) → TakingIn t removed added r → TakingIn t removed added r' → r ≡ r'
no_second_tally t removed added r r' a b = λ i. record { removed = (a.0 ∙ sym b.0) i; added = (a.1 ∙ sym b.1) i }
