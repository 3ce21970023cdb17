-- A row that is handed over cell by cell.
use Prim.Native.Nat.{ℕ, ◌+◌, ◌*◌, ◌≤◌, ◌<◌, zero-le}
use native.Mathlib.Nat.{mul-le-mul_right}
use native.Mathlib.Omega.{arith}
use mathlib.Core.Path.{◌≡◌, refl, ap, sym, ◌∙◌}
use mathlib.Core.Bool.{Bool, true, false, cond, and-false}
use mathlib.Core.List.{List}
use lib.ListN.{get_or-eq_default}
use lib.Dec.{eqb, ltb}
use borrow.Author.Tests.{eqb-true, eq-eqb, lt-ltb, le-ltb, ltb-true, ltb-false}
use Rattle.rights.specs.declared.Header.{Header}
use Rattle.rights.specs.Cell.{union, without}
use Rattle.rights.specs.Register.{cell, register}
use Rattle.rights.specs.Restriction.{is_cell}
use Rattle.rights.specs.Deletion.{handed_cell, handed_over}
use Rattle.theory.proofs.Register.{length-register, cell-register, register_ext, register_of}
use Rattle.rows.specs.Whole.{Whole}
use Rattle.rows.proofs.Table.{before_next}
use Rattle.cuts.specs.Stored.{stored, handed_at}
use Rattle.cuts.proofs.Cells.{stored_same}

-- past the last row there is nothing
cell_beyond : (h : Header) (R : List ℕ) → Whole h R → (x y : ℕ) → h.n ≤ x → cell h R x y ≡ 0
unfolding cell
cell_beyond h R whole x y l =
    get_or-eq_default R 0
    (let rows : h.n * h.n ≤ x * h.n = mul-le-mul_right h.n l in omega (arith, whole.cells))

-- a cell when the columns before k were handed over
unfoldable pub handed_before : Header → List ℕ → List ℕ → ℕ → ℕ → ℕ → ℕ → ℕ → ℕ
handed_before h R N i j k x y = cond (ltb y k) (handed_cell h R N i j x y) (cell h N x y)

module _ (h : Header) (R N : List ℕ) (whole : Whole h N) (i j : ℕ) where
  abbrev so_far : ℕ → List ℕ
  so_far k = register h (handed_before h R N i j k)

  so_far_whole : (k : ℕ) → Whole h (so_far k)
  so_far_whole k = record { cells = length-register h (handed_before h R N i j k); few = whole.few }

  -- column k is still as it was, in every row and past the last
  still : (k x : ℕ) → k < h.n → cell h (so_far k) x k ≡ cell h N x k
  unfolding handed_before
  still k x hk = go (ltb x h.n) refl
    where
      go : (b : Bool) → ltb x h.n ≡ b → cell h (so_far k) x k ≡ cell h N x k
      go true q =
          cell-register h (handed_before h R N i j k) x k (ltb-true x h.n q) hk ∙ rw (le-ltb k k (omega arith))
      go false q =
          cell_beyond h (so_far k) (so_far_whole k) x k (ltb-false x h.n q)
          ∙ sym (cell_beyond h N whole x k (ltb-false x h.n q))

  -- column k is what it is in the end
  now_handed : (k : ℕ) → k < h.n → handed_cell h R (so_far k) i j i k ≡ handed_cell h R N i j i k
  unfolding handed_cell
  now_handed k hk = rw (still k i hk, still k j hk)

  -- in every other row of column k nothing is handed over
  other_row : (k x : ℕ) → eqb x i ≡ false → cell h N x k ≡ handed_cell h R N i j x k
  unfolding handed_cell
  other_row k x p = rw p

  added :
      (k x y : ℕ) → k < h.n → x < h.n → y < h.n → (a : Bool) → eqb x i ≡ a → (b : Bool) → eqb y k ≡ b →
      cond (is_cell i k x y) (handed_cell h R (so_far k) i j i k) (cell h (so_far k) x y) ≡ handed_before h R N i j (k + 1) x y
  unfolding handed_before is_cell
  added k x y hk hx hy true p true q =
      let same_x : x ≡ i = eqb-true x i p in
      let same_y : y ≡ k = eqb-true y k q in
      rw (p, q, same_y, same_x, lt-ltb k (k + 1) (omega arith)) (now_handed k hk)
  added k x y hk hx hy false p true q =
      let same_y : y ≡ k = eqb-true y k q in
      rw (p, same_y, lt-ltb k (k + 1) (omega arith)) (still k x hk ∙ other_row k x p)
  added k x y hk hx hy a p false q =
      rw (q, and-false (eqb x i), before_next y k q) (cell-register h (handed_before h R N i j k) x y hx hy)

  one_more : (k : ℕ) → k < h.n → handed_at h R (so_far k) i j k ≡ so_far (k + 1)
  unfolding handed_at stored
  one_more k hk =
      register_ext h (λ x y. cond (is_cell i k x y) (handed_cell h R (so_far k) i j i k) (cell h (so_far k) x y))
      (handed_before h R N i j (k + 1)) (λ x y hx hy. added k x y hk hx hy (eqb x i) refl (eqb y k) refl)

module _ (h : Header) (R N : List ℕ) (whole : Whole h N) (i j : ℕ) where
  -- before the first turn nothing is handed over
  pub handed_start : register h (handed_before h R N i j 0) ≡ N
  unfolding handed_before
  handed_start = register_ext h (handed_before h R N i j 0) (cell h N) (λ x y hx hy. rw (le-ltb y 0 zero-le)) ∙ register_of h N whole.cells

  -- a turn
  pub handed_next :
      {S T : List ℕ} (k : ℕ) → k < h.n → S ≡ register h (handed_before h R N i j k) → T ≡ handed_at h R S i j k →
      T ≡ register h (handed_before h R N i j (k + 1))
  handed_next k l s t = t ∙ ap (λ (S : List ℕ). handed_at h R S i j k) s ∙ one_more h R N whole i j k l

  -- after the last turn all is
  pub handed_end : (k : ℕ) → h.n ≤ k → register h (handed_before h R N i j k) ≡ handed_over h R N i j
  unfolding handed_before handed_over
  handed_end k l = register_ext h (handed_before h R N i j k) (handed_cell h R N i j) (λ x y hx hy. rw (lt-ltb y k (omega arith)))

-- one cell: k is another office than i, or i itself
module _ (h : Header) (R N : List ℕ) (i j k : ℕ) where
  pub handed_other :
      eqb k i ≡ false → handed_at h R N i j k ≡ stored h N i k (union (cell h N i k) (without (cell h R j k) (cell h N j k)))
  unfolding handed_at handed_cell
  handed_other other = rw (eq-eqb i i refl, other)

  pub handed_own : Whole h N → eqb k i ≡ true → handed_at h R N i j k ≡ N
  unfolding handed_at handed_cell
  handed_own whole own = sym (stored_same h N i k whole (rw (eq-eqb i i refl, own)))
