-- Law 6: SGD's rounds come to rest within n of them, and what they leave is sound. Assumes nothing.
use Prim.Native.Nat.{ℕ, zero, suc, ◌+◌, ◌*◌, ◌≤◌, ◌<◌, min}
use native.Mathlib.Nat.{add-zero, add-suc, suc-add}
use native.Mathlib.Omega.{arith}
use mathlib.Core.Path.{◌≡◌, refl, ap, sym, ◌∙◌}
use mathlib.Core.Logic.{◌⊎◌, inl, inr, ⊎_elim}
use mathlib.Core.Bool.{Bool, true, false, ◌||◌, cond}
use mathlib.Core.List.{List}
use lib.ListN.{length}
use lib.Dec.{eqb}
use borrow.Author.Tests.{eqb-true}
use Rattle.rights.specs.declared.Header.{Header}
use Rattle.rights.specs.Below.{all_below}
use Rattle.rights.specs.Register.{cell, soa_of}
use Rattle.rights.specs.Level.{is_in, level_in, independent_levels, other_than}
use Rattle.rights.specs.Sound.{sound}
use Rattle.rights.specs.Restriction.{restricted, columns_to, sweep}
use Rattle.rights.specs.Deletion.{column_step, losers, strong_round, same, until_rest, sgd}
use Rattle.theory.proofs.Tests.{or_left, decided}
use Rattle.theory.proofs.Below.{all_at}
use Rattle.theory.proofs.Growth.{marked_most, settled}
use Rattle.theory.proofs.Level.{level_most}
use Rattle.theory.proofs.Register.{same-cells}
use Rattle.theory.proofs.Restriction.{restricted-small, restricted_ext, restricted_twice}
use Rattle.theory.proofs.Sweep.{absorb, length-sweep}
use Rattle.theory.proofs.Standing.{Clean, restricted_clean, swept_sound}

-- the two ways a round goes on
module _ (h : Header) (R own : List ℕ) (k : ℕ) (S : List ℕ) where
  pub until_same : same h (strong_round h R own S) S ≡ true → until_rest h R own (suc k) S ≡ S
  unfolding until_rest
  until_same e = rw (e, until_rest)

  pub until_next : same h (strong_round h R own S) S ≡ false → until_rest h R own (suc k) S ≡ until_rest h R own k (strong_round h R own S)
  unfolding until_rest
  until_next e = rw (e, until_rest)

module _ (h : Header) (inside : soa_of h < h.n) (R : List ℕ) (clean : Clean h R) (i j : ℕ) where
  own : List ℕ
  own = independent_levels h R i

  -- the register after so many rounds, and the columns restricted by then
  after : ℕ → List ℕ
  after zero = sweep h (column_step h R i j)
  after (suc d) = strong_round h R own (after d)

  columns : ℕ → ℕ → Bool
  columns zero y = eqb j y
  columns (suc d) y = columns d y || is_in (losers h R (after d)) y

  both_columns : (s t : Bool) (v : ℕ) → v ≤ 2 → min (cond s v 2) (cond t v 2) ≡ cond (s || t) v 2
  both_columns true true v l = omega arith
  both_columns true false v l = omega arith
  both_columns false true v l = omega arith
  both_columns false false v l = omega arith

  -- after each round the register is R with those columns restricted, swept once
  after_is : (d : ℕ) → after d ≡ sweep h (restricted h R (columns_to (columns d) own))
  unfolding after columns own column_step strong_round columns_to independent_levels
  after_is zero = refl
  after_is (suc d) =
      ap (λ (S : List ℕ). sweep h (restricted h S (columns_to (is_in (losers h R (after d))) own))) (after_is d)
      ∙ absorb h inside (restricted h R (columns_to (columns d) own)) (restricted-small h R (columns_to (columns d) own) clean.small) (columns_to (is_in (losers h R (after d))) own)
      ∙ ap (sweep h)
      (restricted_twice h R (columns_to (columns d) own) (columns_to (is_in (losers h R (after d))) own)
      ∙ restricted_ext h R (λ x y. min (columns_to (columns d) own x y) (columns_to (is_in (losers h R (after d))) own x y)) (columns_to (columns (suc d)) own)
      (λ x y hx hy. both_columns (columns d y) (is_in (losers h R (after d)) y) (level_in own x) (level_most h R (other_than i) x)))

  -- a round that restricts no further column alters nothing
  unaltered : (d : ℕ) → ((y : ℕ) → y < h.n → columns (suc d) y ≡ columns d y) → after (suc d) ≡ after d
  unfolding columns_to
  unaltered d e =
      after_is (suc d)
      ∙ ap (sweep h)
      (restricted_ext h R (columns_to (columns (suc d)) own) (columns_to (columns d) own)
      (λ x y hx hy. ap (λ (t : Bool). cond t (level_in own x) 2) (e y hy)))
      ∙ sym (after_is d)

  or_again : (a b : Bool) → a || b || b ≡ a || b
  or_again true b = refl
  or_again false true = refl
  or_again false false = refl

  columns_rest :
      (d : ℕ) → ((y : ℕ) → y < h.n → columns (suc d) y ≡ columns d y) →
      (y : ℕ) → y < h.n → columns (suc (suc d)) y ≡ columns (suc d) y
  unfolding columns
  columns_rest d e y hy = rw (unaltered d e) (or_again (columns d y) (is_in (losers h R (after d)) y))

  columns_grow : (d y : ℕ) → y < h.n → columns d y ≡ true → columns (suc d) y ≡ true
  unfolding columns
  columns_grow d y hy e = or_left (is_in (losers h R (after d)) y) e

  -- within n rounds one alters nothing
  rest-after : after (suc h.n) ≡ after h.n
  rest-after =
      unaltered h.n
      (settled h.n columns columns_grow columns_rest h.n h.n (λ d. marked_most h.n (columns d)) (omega arith))

  length-after : (d : ℕ) → length (after d) ≡ h.n * h.n
  length-after d = rw (after_is d) (length-sweep h (restricted h R (columns_to (columns d) own)))

  same_after : (d : ℕ) → same h (after (suc d)) (after d) ≡ true → after (suc d) ≡ after d
  unfolding same
  same_after d e =
      same-cells h (after (suc d)) (after d) (length-after (suc d)) (length-after d)
      (λ x y hx hy.
      eqb-true (cell h (after (suc d)) x y) (cell h (after d) x y)
      (all_at h.n (λ y. eqb (cell h (after (suc d)) x y) (cell h (after d) x y))
      (all_at h.n (λ x. all_below h.n (λ y. eqb (cell h (after (suc d)) x y) (cell h (after d) x y))) e x hx) y hy))

  -- the rounds stop at the first that alters nothing, or after as many as they may take
  record Stopped (k d : ℕ) : Type 0 where
    rounds : ℕ
    is : until_rest h R own k (after d) ≡ after rounds
    rests : (after (suc rounds) ≡ after rounds) ⊎ (rounds ≡ d + k)

  stopped : (k d : ℕ) → Stopped k d
  unfolding until_rest after
  stopped zero d = record { rounds = d; is = refl; rests = inr (sym (add-zero d)) }
  stopped (suc k) d =
      ⊎_elim
      (λ (q : same h (after (suc d)) (after d) ≡ true). record { rounds = d; is = until_same h R own k (after d) q; rests = inl (same_after d q) })
      (λ (q : same h (after (suc d)) (after d) ≡ false).
      let s = stopped k (suc d) in
      record { rounds = s.rounds; is = until_next h R own k (after d) q ∙ s.is; rests = ⊎_elim inl (λ e. inr (e ∙ suc-add d k ∙ sym (add-suc d k))) s.rests })
      (decided (same h (after (suc d)) (after d)))

  -- after its last round another round alters nothing: the bound of n rounds cuts nothing off
  at_rest : (d : ℕ) → (after (suc d) ≡ after d) ⊎ (d ≡ 0 + h.n) → strong_round h R own (after d) ≡ after d
  unfolding after
  at_rest d (inl e) = e
  at_rest d (inr e) = let m : d ≡ h.n = omega arith in rw m rest-after

  pub sgd_rests : strong_round h R (independent_levels h R i) (sgd h R i j) ≡ sgd h R i j
  unfolding sgd own after
  sgd_rests = let s = stopped h.n 0 in rw s.is (at_rest s.rounds s.rests)

  -- what SGD leaves was swept
  pub sgd-sound : sound h (sgd h R i j) ≡ true
  unfolding sgd own after
  sgd-sound =
      let s = stopped h.n 0 in
      let to = columns_to (columns s.rounds) own in
      rw (s.is ∙ after_is s.rounds) (swept_sound h (restricted h R to) inside (restricted_clean h R to clean))

  pub length-sgd : length (sgd h R i j) ≡ h.n * h.n
  unfolding sgd own after
  length-sgd = let s = stopped h.n 0 in rw s.is (length-after s.rounds)
