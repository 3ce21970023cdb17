-- A test that passes at one number at most.
use Prim.Native.Nat.{ℕ, zero, suc, ◌≤◌, ◌<◌}
use mathlib.Core.Path.{◌≡◌, refl, sym}
use mathlib.Core.Bool.{Bool, true, false, ◌||◌, or-false}
use native.Mathlib.Omega.{arith}
use lib.Dec.{eqb}
use borrow.Author.Tests.{eqb-true, eqb-false}
use Rattle.rights.specs.Below.{any_below}

-- a test that fails everywhere but at one number
pub any_at : (n : ℕ) (f : ℕ → Bool) (i : ℕ) → i < n → ((k : ℕ) → (k ≡ i → ⊥) → f k ≡ false) → any_below n f ≡ f i
unfolding any_below
any_at zero f i h other = let z : ⊥ = omega arith in absurd z
any_at (suc n) f i h other = go (any_at n f i) (eqb i n) refl
  where
    none : (m : ℕ) → m ≤ i → any_below m f ≡ false
    none zero h = refl
    none (suc m) h = rw (none m (omega arith), other m (λ z. omega arith))

    go : (i < n → ((k : ℕ) → (k ≡ i → ⊥) → f k ≡ false) → any_below n f ≡ f i) → (t : Bool) → eqb i n ≡ t → (any_below n f || f n) ≡ f i
    go ih true q = let z = eqb-true i n q in rw (none n (omega arith), z)
    go ih false q = rw (ih (omega (arith, eqb-false i n q)) other, other n (λ z. eqb-false i n q (sym z)), or-false)
