-- Sets of offices that only grow, round by round: after as many rounds as there is room for, a further round adds nothing.
-- Assumes nothing.
use Prim.Native.Nat.{ℕ, zero, suc, ◌+◌, ◌-◌, ◌≤◌, ◌<◌}
use native.Mathlib.Nat.{not-suc-le-zero, zero-add, suc-add}
use native.Mathlib.Omega.{arith}
use mathlib.Core.Path.{◌≡◌, refl, ap, sym, ◌∙◌}
use mathlib.Core.Logic.{◌⊎◌, inl, inr, ⊎_elim}
use mathlib.Core.Bool.{Bool, true, false, cond}
use lib.Dec.{leb}
use borrow.Author.Tests.{leb-true, leb-false}
use Rattle.rights.specs.Below.{sum_below}
use Rattle.theory.proofs.Tests.{decided}
use Rattle.theory.proofs.Below.{last_or_below}

-- a sum of smaller values is smaller
pub sum_le : (n : ℕ) (f g : ℕ → ℕ) → ((k : ℕ) → k < n → f k ≤ g k) → sum_below n f ≤ sum_below n g
unfolding sum_below
sum_le zero f g l = omega arith
sum_le (suc n) f g l = let rest = sum_le n f g (λ k h. l k (omega arith)) in omega (arith, rest, l n (omega arith))

-- smaller values with no smaller sum are the same values
pub sum_squeezed :
    (n : ℕ) (f g : ℕ → ℕ) →
    ((k : ℕ) → k < n → f k ≤ g k) →
    sum_below n g ≤ sum_below n f →
    (k : ℕ) → k < n → g k ≡ f k
unfolding sum_below
sum_squeezed zero f g l s k h = absurd (not-suc-le-zero h)
sum_squeezed (suc n) f g l s k h =
    let below : (k : ℕ) → k < n → f k ≤ g k = λ k h. l k (omega arith) in
    let rest = sum_le n f g below in
    let last = l n (omega arith) in
    ⊎_elim (λ e. let same : g n ≡ f n = omega arith in rw e same) (λ m. sum_squeezed n f g below (omega arith) k m) (last_or_below k n h)

-- how many numbers below n are marked
unfoldable pub marked : ℕ → (ℕ → Bool) → ℕ
marked n marks = sum_below n (λ y. cond (marks y) 1 0)

one_or_none : (a b : Bool) → (a ≡ true → b ≡ true) → cond a 1 0 ≤ cond b 1 0
one_or_none true b f = rw (f refl) (omega arith)
one_or_none false b f = omega arith

same_mark_lem : (a b : Bool) → ◌≡◌ {A = ℕ} (cond a 1 0) (cond b 1 0) → a ≡ b
same_mark_lem true true e = refl
same_mark_lem true false e = cc
same_mark_lem false true e = cc
same_mark_lem false false e = refl

-- more marks, and no larger count: the same marks
pub marked_same :
    (n : ℕ) (f g : ℕ → Bool) →
    ((y : ℕ) → y < n → f y ≡ true → g y ≡ true) →
    marked n g ≤ marked n f →
    (y : ℕ) → y < n → g y ≡ f y
unfolding marked
marked_same n f g l s y h =
    same_mark_lem (g y) (f y)
    (sum_squeezed n (λ y. cond (f y) 1 0) (λ y. cond (g y) 1 0) (λ y h. one_or_none (f y) (g y) (l y h)) s y h)

-- at most n numbers are marked
pub marked_most : (n : ℕ) (f : ℕ → Bool) → marked n f ≤ n
unfolding marked sum_below
marked_most zero f = omega arith
marked_most (suc n) f = omega (arith, marked_most n f, one_or_none (f n) true (λ e. refl))

-- fewer where one of them is not
pub marked_fewer : (n : ℕ) (f : ℕ → Bool) (y : ℕ) → y < n → f y ≡ false → marked n f < n
unfolding marked sum_below
marked_fewer zero f y h e = absurd (not-suc-le-zero h)
marked_fewer (suc n) f y h e =
    ⊎_elim
    (λ (q : y ≡ n). rw (ap f (sym q) ∙ e) (omega (arith, marked_most n f)))
    (λ l. omega (arith, marked_fewer n f y l e, one_or_none (f n) true (λ e. refl)))
    (last_or_below y n h)

-- The marks after each round: a round only adds, and where one added nothing, neither does the next.
module _
    (n : ℕ)
    (marks : ℕ → ℕ → Bool)
    (adds : (d y : ℕ) → y < n → marks d y ≡ true → marks (suc d) y ≡ true)
    (rests :
    (d : ℕ) →
    ((y : ℕ) → y < n → marks (suc d) y ≡ marks d y) →
    (y : ℕ) → y < n → marks (suc (suc d)) y ≡ marks (suc d) y)
  where
    -- a round adds nothing, or at least one mark
    more : (d : ℕ) → ((y : ℕ) → y < n → marks (suc d) y ≡ marks d y) ⊎ (marked n (marks d) < marked n (marks (suc d)))
    more d =
        ⊎_elim
        (λ e. inl (marked_same n (marks d) (marks (suc d)) (adds d) (leb-true (marked n (marks (suc d))) (marked n (marks d)) e)))
        (λ e. inr (leb-false (marked n (marks (suc d))) (marked n (marks d)) e))
        (decided (leb (marked n (marks (suc d))) (marked n (marks d))))

    -- a round adds nothing, or each round so far has added a mark
    growth : (d : ℕ) → ((y : ℕ) → y < n → marks (suc d) y ≡ marks d y) ⊎ (marked n (marks 0) + suc d ≤ marked n (marks (suc d)))
    growth zero = ⊎_elim inl (λ l. inr (omega arith)) (more zero)
    growth (suc d) = ⊎_elim (λ s. inl (rests d s)) (λ l. ⊎_elim inl (λ m. inr (omega arith)) (more (suc d))) (growth d)

    -- where m marks are the most that can be, a round adds nothing once the first marks and the rounds come to m
    pub settled :
        (m d : ℕ) →
        ((e : ℕ) → marked n (marks e) ≤ m) →
        m ≤ marked n (marks 0) + d →
        (y : ℕ) → y < n → marks (suc d) y ≡ marks d y
    settled m d most enough =
        ⊎_elim (λ s. s) (λ l. absurd (let b = most (suc d) in omega arith)) (growth d)

-- Once a round has altered nothing, no later one does.
module _ {X : Type 0} (step : X → X) (after : ℕ → X) (next : (d : ℕ) → after (suc d) ≡ step (after d)) where
  stays_for : (d k : ℕ) → after (suc d) ≡ after d → after (k + d) ≡ after d
  stays_for d zero e = rw zero-add
  stays_for d (suc k) e = rw suc-add (next (k + d) ∙ ap step (stays_for d k e) ∙ sym (next d) ∙ e)

  pub stays : (d e : ℕ) → d ≤ e → after (suc d) ≡ after d → after e ≡ after d
  stays d e l s = let sum : e ≡ (e - d) + d = omega arith in ap after sum ∙ stays_for d (e - d) s
