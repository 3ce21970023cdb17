-- The first number at which a test passes, as a loop finds it.
use Prim.Native.Nat.{ℕ, zero, suc, ◌≤◌, ◌<◌}
use native.Mathlib.Omega.{arith}
use mathlib.Core.Path.{◌≡◌, refl, sym, ◌∙◌}
use mathlib.Core.Logic.{⊎_elim}
use mathlib.Core.Bool.{Bool, true, false}
use lib.Dec.{ltb}
use borrow.Author.Tests.{lt-ltb, le-ltb}
use Rattle.rights.specs.Below.{any_below, first_below}
use Rattle.theory.proofs.Tests.{decided, clash}
use Rattle.theory.proofs.Below.{below_or_not, any_from, any_ext, first-at, first_below_lem, first-none, first_least}

module _ (n : ℕ) (f : ℕ → Bool) where
  -- the test passes at y, and at no number before
  pub first_found : (y : ℕ) → y < n → ((k : ℕ) → k < y → f k ≡ false) → f y ≡ true → y ≡ first_below n f
  first_found y l before at =
      ⊎_elim
      (λ (earlier : first_below n f < y). clash (first-at n f (any_from n f y l at)) (before (first_below n f) earlier))
      (λ (same : y ≤ first_below n f). let least = first_least n f y l at in omega arith)
      (below_or_not (first_below n f) y)

  -- the test passes at no number before m
  pub first_after : (m : ℕ) → m ≤ n → ((k : ℕ) → k < m → f k ≡ false) → m ≤ first_below n f
  first_after m within before =
      ⊎_elim
      (λ (e : any_below n f ≡ true).
      ⊎_elim
      (λ (early : first_below n f < m). clash (first-at n f e) (before (first_below n f) early))
      (λ (late : m ≤ first_below n f). late)
      (below_or_not (first_below n f) m))
      (λ (e : any_below n f ≡ false). let none = first-none n f e in omega arith)
      (decided (any_below n f))

  -- whether there is one
  pub first_any : ltb (first_below n f) n ≡ any_below n f
  first_any =
      ⊎_elim
      (λ (e : any_below n f ≡ true). lt-ltb (first_below n f) n (first_below_lem n f e) ∙ sym e)
      (λ (e : any_below n f ≡ false). le-ltb (first_below n f) n (let m = first-none n f e in omega arith) ∙ sym e)
      (decided (any_below n f))

  -- it is n at most
  pub first_most : (y : ℕ) → y ≡ first_below n f → y ≤ n
  first_most y at =
      ⊎_elim
      (λ (e : any_below n f ≡ true). let m = first_below_lem n f e in omega arith)
      (λ (e : any_below n f ≡ false). let m = first-none n f e in omega arith)
      (decided (any_below n f))

-- tests that pass at the same numbers first pass at the same one
pub first_ext : (n : ℕ) (f g : ℕ → Bool) → ((k : ℕ) → k < n → f k ≡ g k) → first_below n f ≡ first_below n g
unfolding first_below
first_ext zero f g e = refl
first_ext (suc n) f g e =
    rw (any_ext n f g (λ k h. e k (omega arith)), first_ext n f g (λ k h. e k (omega arith)), e n (omega arith))
