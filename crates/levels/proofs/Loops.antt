-- A loop that tests one number after the other, as far as it has come: a test of those below i.
use Prim.Native.Nat.{ℕ, ◌+◌, ◌<◌}
use native.Mathlib.Numerals.{add-one}
use mathlib.Core.Path.{◌≡◌}
use mathlib.Core.Bool.{Bool, true, false}
use Rattle.rights.specs.Below.{all_below}
use Rattle.theory.proofs.Tests.{clash, fails}
use Rattle.theory.proofs.Below.{all_at}

-- one more at which it passes
pub all_more : (i : ℕ) (f : ℕ → Bool) → all_below i f ≡ true → f i ≡ true → all_below (i + 1) f ≡ true
unfolding all_below
all_more i f p q = rw (add-one, p, q)

-- one at which it fails, and it does not pass at each
pub one_fails : (n : ℕ) (f : ℕ → Bool) (k : ℕ) → k < n → f k ≡ false → all_below n f ≡ false
one_fails n f k l q = fails (all_below n f) (λ e. clash (all_at n f e k l) q)
