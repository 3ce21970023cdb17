-- Laws of tests and values at the numbers below a bound. Assumes nothing.
use Prim.Native.Nat.{ℕ, zero, suc, ◌+◌, ◌≤◌, ◌<◌}
use native.Mathlib.Nat.{not-suc-le-zero}
use native.Mathlib.Omega.{arith}
use native.Mathlib.Decide.{ℕ_discrete, dec_lt}
use mathlib.Core.Path.{◌≡◌, refl, ap, ap₂, sym, ◌∙◌}
use mathlib.Core.Logic.{◌⊎◌, inl, inr, ⊎_elim}
use mathlib.Core.Bool.{Bool, true, false, ◌&&◌, ◌||◌}
use mathlib.Core.List.{List, [], ◌∷◌, ◌++◌}
use lib.ListN.{length, get_or, length-append, get_or-append}
use lib.Seq.{get_or_at, ext_get_or}
use lib.Dec.{eqb}
use borrow.Author.Tests.{eqb-true}
use Rattle.rights.specs.Below.{any_below, all_below, sum_below, table, first_below}
use Rattle.theory.proofs.Tests.{both, left_of, right_of, or_left, or_right, either, decided, clash}

-- below suc n: n itself, or below n
pub last_or_below : (k n : ℕ) → k < suc n → (k ≡ n) ⊎ (k < n)
last_or_below k n h = go (ℕ_discrete k n)
  where
    go : Dec (k ≡ n) → (k ≡ n) ⊎ (k < n)
    go (yes e) = inl e
    go (no ne) = inr (omega arith)

-- below n, or not
pub below_or_not : (k n : ℕ) → (k < n) ⊎ (n ≤ k)
below_or_not k n = go (dec_lt k n)
  where
    go : Dec (k < n) → (k < n) ⊎ (n ≤ k)
    go (yes l) = inl l
    go (no ne) = inr (omega arith)

-- the same number, or not
pub same_or_not : (k m : ℕ) → (k ≡ m) ⊎ (k ≡ m → ⊥)
same_or_not k m = go (ℕ_discrete k m)
  where
    go : Dec (k ≡ m) → (k ≡ m) ⊎ (k ≡ m → ⊥)
    go (yes e) = inl e
    go (no ne) = inr ne

-- a test that passes at k passes somewhere below n
pub any_from : (n : ℕ) (f : ℕ → Bool) (k : ℕ) → k < n → f k ≡ true → any_below n f ≡ true
unfolding any_below
any_from zero f k h p = absurd (not-suc-le-zero h)
any_from (suc n) f k h p =
    ⊎_elim (λ e. or_right (any_below n f) (ap f (sym e) ∙ p)) (λ l. or_left (f n) (any_from n f k l p)) (last_or_below k n h)

-- where a test passes
pub record Found (n : ℕ) (f : ℕ → Bool) : Type 0 where
  pub at : ℕ
  pub below : at < n
  pub passes : f at ≡ true

found-more : (n : ℕ) (f : ℕ → Bool) → Found n f → Found (suc n) f
found-more n f r = record { at = r.at; below = omega (arith, r.below); passes = r.passes }

-- a test that passes somewhere below n passes at some number there
pub any_found : (n : ℕ) (f : ℕ → Bool) → any_below n f ≡ true → Found n f
unfolding any_below
any_found zero f p = clash p refl
any_found (suc n) f p =
    ⊎_elim (λ q. found-more n f (any_found n f q)) (λ q. record { at = n; below = omega arith; passes = q })
    (either (any_below n f) (f n) p)

pub all_at : (n : ℕ) (f : ℕ → Bool) → all_below n f ≡ true → (k : ℕ) → k < n → f k ≡ true
unfolding all_below
all_at zero f p k h = absurd (not-suc-le-zero h)
all_at (suc n) f p k h =
    ⊎_elim (λ e. ap f e ∙ right_of (all_below n f) (f n) p) (λ l. all_at n f (left_of (all_below n f) (f n) p) k l)
    (last_or_below k n h)

-- an equation between numbers: computed below n, it holds of each
pub same_below : (n : ℕ) (f g : ℕ → ℕ) → all_below n (λ k. eqb (f k) (g k)) ≡ true → (k : ℕ) → k < n → f k ≡ g k
same_below n f g e k h = eqb-true (f k) (g k) (all_at n (λ k. eqb (f k) (g k)) e k h)

pub all_from : (n : ℕ) (f : ℕ → Bool) → ((k : ℕ) → k < n → f k ≡ true) → all_below n f ≡ true
unfolding all_below
all_from zero f p = refl
all_from (suc n) f p = both (all_from n f (λ k h. p k (omega arith))) (p n (omega arith))

-- sums of equal values are equal
pub sum_ext : (n : ℕ) (f g : ℕ → ℕ) → ((k : ℕ) → k < n → f k ≡ g k) → sum_below n f ≡ sum_below n g
unfolding sum_below
sum_ext zero f g e = refl
sum_ext (suc n) f g e = ap₂ ◌+◌ (sum_ext n f g (λ k h. e k (omega arith))) (e n (omega arith))

-- tests that pass at the same numbers pass together
pub any_ext : (n : ℕ) (f g : ℕ → Bool) → ((k : ℕ) → k < n → f k ≡ g k) → any_below n f ≡ any_below n g
unfolding any_below
any_ext zero f g e = refl
any_ext (suc n) f g e = ap₂ ◌||◌ (any_ext n f g (λ k h. e k (omega arith))) (e n (omega arith))

pub all_ext : (n : ℕ) (f g : ℕ → Bool) → ((k : ℕ) → k < n → f k ≡ g k) → all_below n f ≡ all_below n g
unfolding all_below
all_ext zero f g e = refl
all_ext (suc n) f g e = ap₂ ◌&&◌ (all_ext n f g (λ k h. e k (omega arith))) (e n (omega arith))

module _ {A : Type 0} where
  pub length-table : (n : ℕ) (f : ℕ → A) → length (table n f) ≡ n
  unfolding table
  length-table zero f = refl
  length-table (suc n) f = simp (length-append, length-table n f) (omega arith)

  -- what stands at k of a table
  pub table_at : (n : ℕ) (f : ℕ → A) (k : ℕ) (d : A) → k < n → get_or (table n f) k d ≡ f k
  unfolding table
  table_at zero f k d h = absurd (not-suc-le-zero h)
  table_at (suc n) f k d h =
      ⊎_elim
      (λ e. get_or_at (table n f) (f n) [] d k (length-table n f ∙ sym e) ∙ ap f (sym e))
      (λ l. get_or-append (table n f) (f n ∷ []) d k (rw (length-table n f) l) ∙ table_at n f k d l)
      (last_or_below k n h)

  -- tables of equal values are equal
  pub table_ext : (n : ℕ) (f g : ℕ → A) → ((k : ℕ) → k < n → f k ≡ g k) → table n f ≡ table n g
  unfolding table
  table_ext zero f g e = refl
  table_ext (suc n) f g e =
      ap₂ (λ (l : List A) (x : A). l ++ (x ∷ [])) (table_ext n f g (λ k h. e k (omega arith))) (e n (omega arith))

  -- a list is the table of its elements
  pub table_of : (n : ℕ) (l : List A) (d : A) → length l ≡ n → table n (λ k. get_or l k d) ≡ l
  table_of n l d e =
      ext_get_or d (table n (λ k. get_or l k d)) l (length-table n (λ k. get_or l k d) ∙ sym e)
      (λ k h. table_at n (λ k. get_or l k d) k d (rw (length-table n (λ k. get_or l k d)) at h))

-- the first number at which a test passes, if it passes at all
pub first-at : (n : ℕ) (f : ℕ → Bool) → any_below n f ≡ true → f (first_below n f) ≡ true
unfolding any_below first_below
first-at zero f p = clash p refl
first-at (suc n) f p =
    ⊎_elim
    (λ (q : any_below n f ≡ true). rw q (first-at n f q))
    (λ (q : any_below n f ≡ false). let r : f n ≡ true = rw q at p in rw (q, r) r)
    (decided (any_below n f))

-- it is below n, if the test passes at all
pub first_below_lem : (n : ℕ) (f : ℕ → Bool) → any_below n f ≡ true → first_below n f < n
unfolding any_below first_below
first_below_lem zero f p = clash p refl
first_below_lem (suc n) f p =
    ⊎_elim
    (λ (q : any_below n f ≡ true). rw q (let l = first_below_lem n f q in omega arith))
    (λ (q : any_below n f ≡ false). let r : f n ≡ true = rw q at p in rw (q, r) (omega arith))
    (decided (any_below n f))

-- it is n, if the test passes nowhere
pub first-none : (n : ℕ) (f : ℕ → Bool) → any_below n f ≡ false → first_below n f ≡ n
unfolding any_below first_below
first-none zero f p = refl
first-none (suc n) f p =
    ⊎_elim
    (λ (q : any_below n f ≡ true). clash (or_left (f n) q) p)
    (λ (q : any_below n f ≡ false). let r : f n ≡ false = rw q at p in rw (q, r))
    (decided (any_below n f))

-- the test passes at no earlier number
pub first_least : (n : ℕ) (f : ℕ → Bool) (k : ℕ) → k < n → f k ≡ true → first_below n f ≤ k
unfolding any_below first_below
first_least zero f k h p = absurd (not-suc-le-zero h)
first_least (suc n) f k h p =
    ⊎_elim
    (λ (e : k ≡ n). ⊎_elim
    (λ (q : any_below n f ≡ true). rw q (let l = first_below_lem n f q in omega arith))
    (λ (q : any_below n f ≡ false). let r : f n ≡ true = ap f (sym e) ∙ p in rw (q, r) (omega arith))
    (decided (any_below n f)))
    (λ l. rw (any_from n f k l p) (first_least n f k l p))
    (last_or_below k n h)
