-- Rows restricted one after the other.
use Prim.Native.Nat.{ℕ, ◌+◌, ◌-◌, ◌*◌, ◌≤◌, ◌<◌, zero-le}
use native.Mathlib.Omega.{arith}
use mathlib.Core.Path.{◌≡◌, refl, ap, sym, ◌∙◌}
use mathlib.Core.Bool.{Bool, true, false, cond}
use mathlib.Core.List.{List, map}
use lib.ListN.{get_or}
use lib.Dec.{eqb, ltb}
use borrow.Author.Tests.{eqb-true, ne_eqb, lt-ltb, le-ltb}
use borrow.Rule.Slice.PartMut.{mid_of, put_mid}
use Rattle.rights.specs.declared.Header.{Header}
use Rattle.rights.specs.Below.{table}
use Rattle.rights.specs.Cell.{restrict}
use Rattle.rights.specs.Register.{cell}
use Rattle.rights.specs.Restriction.{restricted, row_to}
use Rattle.rows.specs.Whole.{Whole}
use Rattle.rows.specs.Row.{at_level, on_row, to_levels}
use Rattle.theory.proofs.Below.{length-table, table_at, table_ext}
use Rattle.theory.proofs.Register.{register_ext, register_of}
use Rattle.theory.proofs.Restriction.{restricted-cell, restricted_ext, length-restricted}
use Rattle.rows.proofs.Table.{map_each, before_next}
use Rattle.rows.proofs.Part.{row_part, put_row}

-- what level 2 keeps is as it was
pub restricted-none : (h : Header) (R : List ℕ) → Whole h R → restricted h R (λ x y. 2) ≡ R
unfolding restricted restrict
restricted-none h R whole = register_of h R whole.cells

pub restricted-whole : (h : Header) (R : List ℕ) (to : ℕ → ℕ → ℕ) → Whole h R → Whole h (restricted h R to)
restricted-whole h R to whole = record { cells = length-restricted h R to; few = whole.few }

-- a row that there is none of
pub rows_nowhere : (h : Header) (R : List ℕ) → Whole h R → (k level : ℕ) → h.n ≤ k → restricted h R (row_to k level) ≡ R
unfolding row_to
rows_nowhere h R whole k level l =
    restricted_ext h R (row_to k level) (λ x y. 2) (λ x y hx hy. rw (ne_eqb x k (λ e. omega arith)))
    ∙ restricted-none h R whole

-- the rows before k restricted, and the others as they were: where a loop over the rows stands
unfoldable pub rows_before : ℕ → (ℕ → ℕ → ℕ) → ℕ → ℕ → ℕ
rows_before k to x y = cond (ltb x k) (to x y) 2

module _ (h : Header) (R : List ℕ) (whole : Whole h R) (to : ℕ → ℕ → ℕ) where
  pub rows_none : restricted h R (rows_before 0 to) ≡ R
  unfolding rows_before
  rows_none =
      restricted_ext h R (rows_before 0 to) (λ x y. 2) (λ x y hx hy. rw (le-ltb x 0 zero-le)) ∙ restricted-none h R whole

  pub rows_all : (k : ℕ) → h.n ≤ k → restricted h R (rows_before k to) ≡ restricted h R to
  unfolding rows_before
  rows_all k l = restricted_ext h R (rows_before k to) to (λ x y hx hy. rw (lt-ltb x k (omega arith)))

  -- one row more
  more-cell :
      (k x y : ℕ) → x < h.n → y < h.n → (b : Bool) → eqb x k ≡ b →
      restrict (cell h (restricted h R (rows_before k to)) x y) (on_row k (to k) x y)
      ≡ restrict (cell h R x y) (rows_before (k + 1) to x y)
  unfolding rows_before on_row restrict
  more-cell k x y hx hy true q =
      let same : x ≡ k = eqb-true x k q in
      rw (restricted-cell h R (rows_before k to) x y hx hy)
      (rw (q, same, le-ltb k k (omega arith), lt-ltb k (k + 1) (omega arith)))
  more-cell k x y hx hy false q =
      rw (q, before_next x k q) (restricted-cell h R (rows_before k to) x y hx hy)

  pub rows_more :
      (k : ℕ) → restricted h (restricted h R (rows_before k to)) (on_row k (to k)) ≡ restricted h R (rows_before (k + 1) to)
  unfolding restricted
  rows_more k =
      register_ext h (λ x y. restrict (cell h (restricted h R (rows_before k to)) x y) (on_row k (to k) x y))
      (λ x y. restrict (cell h R x y) (rows_before (k + 1) to x y))
      (λ x y hx hy. more-cell k x y hx hy (eqb x k) refl)

  -- a turn of a loop over the rows
  pub rows_next :
      {S T : List ℕ} (k : ℕ) → S ≡ restricted h R (rows_before k to) → T ≡ restricted h S (on_row k (to k)) → T ≡ restricted h R (rows_before (k + 1) to)
  rows_next k s t = t ∙ ap (λ (S : List ℕ). restricted h S (on_row k (to k))) s ∙ rows_more k

levels_of_table : (level : ℕ → ℕ) (n : ℕ) (f : ℕ → ℕ) → to_levels level (table n f) ≡ table n (λ y. restrict (f y) (level y))
unfolding to_levels
levels_of_table level n f =
    rw (length-table n f)
    (table_ext n (λ y. restrict (get_or (table n f) y 0) (level y)) (λ y. restrict (f y) (level y))
    (λ y hy. ap (λ (c : ℕ). restrict c (level y)) (table_at n f y 0 hy)))

-- a row that was lent as a part and has come back restricted
module _ (h : Header) (R : List ℕ) (whole : Whole h R) (i : ℕ) (office : i < h.n) (e : ℕ) (end : e ≡ i * h.n + h.n) where
  pub put_restricted :
      (to : ℕ → ℕ) →
      put_mid (i * h.n) (e - i * h.n) R (table h.n (λ y. restrict (cell h R i y) (to y))) ≡ restricted h R (on_row i to)
  unfolding restricted on_row restrict
  put_restricted to =
      put_row h R whole i office e end (λ y. restrict (cell h R i y) (to y))
      ∙ register_ext h (λ x y. cond (eqb x i) (restrict (cell h R i y) (to y)) (cell h R x y))
      (λ x y. restrict (cell h R x y) (on_row i to x y)) (λ x y hx hy. at x y (eqb x i) refl)
    where
      at : (x y : ℕ) (b : Bool) → eqb x i ≡ b →
          cond (eqb x i) (restrict (cell h R i y) (to y)) (cell h R x y) ≡ restrict (cell h R x y) (on_row i to x y)
      at x y true q = let same : x ≡ i = eqb-true x i q in rw (q, same)
      at x y false q = rw q

  pub put_to_levels :
      (level : ℕ → ℕ) → put_mid (i * h.n) (e - i * h.n) R (to_levels level (mid_of (i * h.n) (e - i * h.n) R)) ≡ restricted h R (on_row i level)
  put_to_levels level =
      ap (λ (row : List ℕ). put_mid (i * h.n) (e - i * h.n) R (to_levels level row)) (row_part h R whole i office e end)
      ∙ ap (put_mid (i * h.n) (e - i * h.n) R) (levels_of_table level h.n (cell h R i))
      ∙ put_restricted level

-- a row to one level
pub to_one_level : (level : ℕ) (row : List ℕ) → map (at_level level) row ≡ to_levels (λ y. level) row
unfolding at_level to_levels
to_one_level level row = sym (map_each (at_level level) row)
