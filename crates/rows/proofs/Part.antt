-- A row of a register lent as a part, and put back.
use Prim.Native.Nat.{ℕ, ◌+◌, ◌-◌, ◌*◌, ◌≤◌, ◌<◌}
use native.Mathlib.Omega.{arith}
use native.Mathlib.Nat.{mul-le-mul, mul-le-mul_right}
use mathlib.Core.Path.{◌≡◌, refl, ap, sym, ◌∙◌}
use mathlib.Core.Bool.{Bool, true, false, cond}
use mathlib.Core.List.{List, ◌++◌}
use lib.ListN.{length, get_or, take, drop, get_or-append}
use lib.Seq.{get_or-take, get_or-drop, get_or-append-add, length-take-le, ext_get_or}
use lib.Dec.{eqb, ltb}
use lib.Arith.{digits_lt}
use borrow.Author.Tests.{eqb-true, eqb-false, ltb-true, ltb-false}
use borrow.Rule.Slice.PartMut.{mid_of, put_mid, take_put, drop_put, mid_len, same_len_mid}
use Rattle.rights.specs.declared.Header.{Header}
use Rattle.rights.specs.Below.{table}
use Rattle.rights.specs.Register.{cell, register}
use Rattle.rows.specs.Whole.{Whole}
use Rattle.theory.proofs.Below.{length-table, table_at}
use Rattle.theory.proofs.Register.{length-register, cell-register, same-cells}

-- rows do not overlap, and the last one ends where the register does
pub row_end : (n i : ℕ) {m : ℕ} → i < m → i * n + n ≤ m * n
row_end n i {m} l = let e : (i + 1) * n ≤ m * n = mul-le-mul_right n (omega arith) in omega arith

-- with so few offices every index is small
pub square_small : (n : ℕ) → n ≤ 128 → n * n ≤ 16384
square_small n l = mul-le-mul l l

-- a list in which ys stand in the place of the elements from a to e
module _ (a e : ℕ) (xs ys : List ℕ) (start : a ≤ e) (end : e ≤ length xs) (fits : length ys ≡ e - a) where
  put_before : (m : ℕ) → m < a → get_or (put_mid a (e - a) xs ys) m 0 ≡ get_or xs m 0
  put_before m l =
      sym (get_or-take a (put_mid a (e - a) xs ys) m 0 l)
      ∙ ap (λ (zs : List ℕ). get_or zs m 0) (take_put a (e - a) xs ys (omega arith))
      ∙ get_or-take a xs m 0 l

  put_within : (m : ℕ) → m < e - a → get_or (put_mid a (e - a) xs ys) (a + m) 0 ≡ get_or ys m 0
  put_within m l =
      ap (λ (k : ℕ). get_or (put_mid a (e - a) xs ys) (k + m) 0) (sym (length-take-le a xs (omega arith)))
      ∙ get_or-append-add (take a xs) (ys ++ drop (e - a) (drop a xs)) m 0
      ∙ get_or-append ys (drop (e - a) (drop a xs)) 0 m (omega arith)

  put_after : (m : ℕ) → get_or (put_mid a (e - a) xs ys) (e + m) 0 ≡ get_or xs (e + m) 0
  put_after m =
      sym (get_or-drop e (put_mid a (e - a) xs ys) m 0)
      ∙ ap (λ (zs : List ℕ). get_or zs m 0) (drop_put a e xs ys start end fits)
      ∙ get_or-drop e xs m 0

module _ (h : Header) (R : List ℕ) (whole : Whole h R) (i : ℕ) (office : i < h.n) (e : ℕ) (end : e ≡ i * h.n + h.n) where
  inside : e ≤ length R
  inside = omega (arith, row_end h.n i office, whole.cells)

  fits : (new : ℕ → ℕ) → length (table h.n new) ≡ e - i * h.n
  fits new = let count : h.n ≡ e - i * h.n = omega arith in length-table h.n new ∙ count

  -- the row as it is lent
  pub row_part : mid_of (i * h.n) (e - i * h.n) R ≡ table h.n (cell h R i)
  unfolding cell
  row_part =
      let count : e - i * h.n ≡ h.n = omega arith in
      let long : length (mid_of (i * h.n) (e - i * h.n) R) ≡ h.n = mid_len (i * h.n) e R inside ∙ count in
      ext_get_or 0 (mid_of (i * h.n) (e - i * h.n) R) (table h.n (cell h R i))
      (long ∙ sym (length-table h.n (cell h R i)))
      (λ m l. let below : m < h.n = omega arith in
      get_or-take (e - i * h.n) (drop (i * h.n) R) m 0 (omega arith)
      ∙ get_or-drop (i * h.n) R m 0
      ∙ sym (table_at h.n (cell h R i) m 0 below))

  -- a cell of the register when the row has come back with other cells
  put_cell :
      (new : ℕ → ℕ) (x y : ℕ) → x < h.n → y < h.n → (b : Bool) → eqb x i ≡ b → (d : Bool) → ltb x i ≡ d →
      cell h (put_mid (i * h.n) (e - i * h.n) R (table h.n new)) x y ≡ cond (eqb x i) (new y) (cell h R x y)
  unfolding cell
  put_cell new x y lx ly true q d r =
      let same : x ≡ i = eqb-true x i q in
      rw (q, same)
      (put_within (i * h.n) e R (table h.n new) (omega arith) inside (fits new) y (omega arith) ∙ table_at h.n new y 0 ly)
  put_cell new x y lx ly false q true r =
      let above : x < i = ltb-true x i r in
      rw q (put_before (i * h.n) e R (table h.n new) (omega arith) inside (fits new) (x * h.n + y) (digits_lt above ly))
  put_cell new x y lx ly false q false r =
      let other : x ≡ i → ⊥ = eqb-false x i q in
      let below : i < x = let l = ltb-false x i r in omega arith in
      let past : e + (x * h.n + y - e) ≡ x * h.n + y = omega (arith, row_end h.n i below) in
      rw (q, ← past) (put_after (i * h.n) e R (table h.n new) (omega arith) inside (fits new) (x * h.n + y - e))

  pub put_row :
      (new : ℕ → ℕ) →
      put_mid (i * h.n) (e - i * h.n) R (table h.n new) ≡ register h (λ x y. cond (eqb x i) (new y) (cell h R x y))
  put_row new =
      let rule : ℕ → ℕ → ℕ = λ x y. cond (eqb x i) (new y) (cell h R x y) in
      same-cells h (put_mid (i * h.n) (e - i * h.n) R (table h.n new)) (register h rule)
      (same_len_mid (i * h.n) (e - i * h.n) R (table h.n new) (fits new ∙ sym (mid_len (i * h.n) e R inside)) ∙ whole.cells)
      (length-register h rule)
      (λ x y lx ly. put_cell new x y lx ly (eqb x i) refl (ltb x i) refl ∙ sym (cell-register h rule x y lx ly))
