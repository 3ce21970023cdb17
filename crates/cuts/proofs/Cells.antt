-- A store into one cell of a register.
use Prim.Native.Nat.{ℕ, ◌+◌, ◌*◌, ◌/◌, ◌%◌, ◌<◌}
use mathlib.Core.Path.{◌≡◌, refl, ap, sym, ◌∙◌}
use mathlib.Core.Bool.{Bool, true, false, cond}
use mathlib.Core.List.{List}
use lib.ListN.{set, length-set}
use lib.Seq.{get_or-set_same, get_or-set_other}
use lib.Dec.{eqb}
use lib.Arith.{digits_lt, digits_div, digits_mod}
use borrow.Author.Tests.{eqb-true, eq-eqb}
use Rattle.rights.specs.declared.Header.{Header}
use Rattle.rights.specs.declared.Permission.{Permission}
use Rattle.rights.specs.Permission.{code}
use Rattle.rights.specs.Cell.{union, restrict}
use Rattle.rights.specs.Register.{cell, register}
use Rattle.rights.specs.Restriction.{restricted, empty_where, is_cell, emptied}
use Rattle.rights.specs.Deletion.{granted_cell, granted}
use Rattle.rows.specs.Whole.{Whole}
use Rattle.cuts.specs.Stored.{stored}
use Rattle.theory.proofs.Tests.{left_of, right_of, both, clash, fails}
use Rattle.theory.proofs.Register.{length-register, cell-register, register_ext, register_of, same-cells}

module _ (h : Header) (R : List ℕ) (i j : ℕ) where
  -- both tests pass only at the cell itself
  here : {P : Type 0} (x y : ℕ) → is_cell i j x y ≡ true → (x ≡ i → y ≡ j → P) → P
  unfolding is_cell
  here x y q f =
      f (eqb-true x i (left_of (eqb x i) (eqb y j) q)) (eqb-true y j (right_of (eqb x i) (eqb y j) q))

  -- a cell after the byte of cell i, j was written
  set-cell :
      (v x y : ℕ) → Whole h R → i < h.n → j < h.n → x < h.n → y < h.n → (b : Bool) → is_cell i j x y ≡ b →
      cell h (set R (i * h.n + j) v) x y ≡ cond (is_cell i j x y) v (cell h R x y)
  unfolding cell is_cell
  set-cell v x y whole hi hj hx hy true q =
      here x y q (λ same_x same_y. rw (q, same_x, same_y)
      (get_or-set_same R (i * h.n + j) v 0 (rw whole.cells (digits_lt hi hj))))
  set-cell v x y whole hi hj hx hy false q = rw q (get_or-set_other R (i * h.n + j) (x * h.n + y) v 0 apart)
    where
      apart : x * h.n + y ≡ i * h.n + j → ⊥
      apart e =
          let same_x : x ≡ i = sym (digits_div x hy) ∙ ap (λ (k : ℕ). k / h.n) e ∙ digits_div i hj in
          let same_y : y ≡ j = sym (digits_mod x hy) ∙ ap (λ (k : ℕ). k % h.n) e ∙ digits_mod i hj in
          clash (both (eq-eqb x i same_x) (eq-eqb y j same_y)) q

  -- to write the byte of cell i, j is to store into that cell
  pub stored_set : (v : ℕ) → Whole h R → i < h.n → j < h.n → set R (i * h.n + j) v ≡ stored h R i j v
  unfolding stored
  stored_set v whole hi hj =
      let rule : ℕ → ℕ → ℕ = λ x y. cond (is_cell i j x y) v (cell h R x y) in
      same-cells h (set R (i * h.n + j) v) (register h rule)
      (length-set R (i * h.n + j) v ∙ whole.cells)
      (length-register h rule)
      (λ x y hx hy. set-cell v x y whole hi hj hx hy (is_cell i j x y) refl ∙ sym (cell-register h rule x y hx hy))

  -- where i or j is no office there is no such cell
  pub stored_nowhere : (v : ℕ) → Whole h R → (i < h.n → j < h.n → ⊥) → stored h R i j v ≡ R
  unfolding stored
  stored_nowhere v whole out =
      register_ext h (λ x y. cond (is_cell i j x y) v (cell h R x y)) (cell h R)
      (λ x y hx hy. rw (fails (is_cell i j x y)
      (λ q. here x y q (λ same_x same_y. out (rw same_x at hx) (rw same_y at hy)))))
      ∙ register_of h R whole.cells

  -- nothing changes where the cell is given what it has
  pub stored_same : {v : ℕ} → Whole h R → v ≡ cell h R i j → R ≡ stored h R i j v
  unfolding stored
  stored_same {v} whole e =
      sym (register_ext h (λ x y. cond (is_cell i j x y) v (cell h R x y)) (cell h R) (λ x y hx hy. at x y (is_cell i j x y) refl)
      ∙ register_of h R whole.cells)
    where
      at : (x y : ℕ) (b : Bool) → is_cell i j x y ≡ b → cond (is_cell i j x y) v (cell h R x y) ≡ cell h R x y
      at x y true q = here x y q (λ same_x same_y. rw (q, same_x, same_y) e)
      at x y false q = rw q

  pub emptied_stored : emptied h R i j ≡ stored h R i j 0
  unfolding emptied restricted empty_where stored restrict
  emptied_stored =
      register_ext h (λ x y. restrict (cell h R x y) (empty_where (is_cell i j) x y)) (λ x y. cond (is_cell i j x y) 0 (cell h R x y))
      (λ x y hx hy. at x y (is_cell i j x y) refl)
    where
      at : (x y : ℕ) (b : Bool) → is_cell i j x y ≡ b →
          restrict (cell h R x y) (empty_where (is_cell i j) x y) ≡ cond (is_cell i j x y) 0 (cell h R x y)
      at x y true q = rw q
      at x y false q = rw q

  pub granted_stored : (p : Permission) → granted h R i j p ≡ stored h R i j (union (cell h R i j) (code p))
  unfolding granted granted_cell stored
  granted_stored p =
      register_ext h (λ x y. cond (is_cell i j x y) (union (cell h R x y) (code p)) (cell h R x y))
      (λ x y. cond (is_cell i j x y) (union (cell h R i j) (code p)) (cell h R x y))
      (λ x y hx hy. at x y (is_cell i j x y) refl)
    where
      at : (x y : ℕ) (b : Bool) → is_cell i j x y ≡ b →
          cond (is_cell i j x y) (union (cell h R x y) (code p)) (cell h R x y)
          ≡ cond (is_cell i j x y) (union (cell h R i j) (code p)) (cell h R x y)
      at x y true q = here x y q (λ same_x same_y. rw (q, same_x, same_y))
      at x y false q = rw q
