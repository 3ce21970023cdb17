-- The records of a register in the order of the text: they ascend, and what stands in the cells stands in the list.
use Prim.Native.Nat.{ℕ, zero, suc, ◌+◌, ◌*◌, ◌≤◌, ◌<◌}
use mathlib.Core.Path.{◌≡◌, refl, sym, ◌∙◌}
use mathlib.Core.Bool.{Bool, true, false, ◌&&◌, ◌||◌, cond, or-false, and-true, and-false}
use mathlib.Core.List.{List, [], ◌∷◌}
use native.Mathlib.Omega.{arith}
use native.Mathlib.Nat.{le_trans, le_refl}
use lib.Dec.{eqb}
use borrow.Author.Tests.{eq-eqb, ne_eqb}
use Rattle.rights.specs.declared.Header.{Header}
use Rattle.rights.specs.Below.{any_below}
use Rattle.rights.specs.declared.Permission.{Permission}
use Rattle.rights.specs.declared.Permission.TheVariants.{TT, TF, FT, FF}
use Rattle.rights.specs.Permission.{code}
use Rattle.rights.specs.Cell.{has}
use Rattle.rights.specs.Register.{cell}
use Rattle.wording.specs.Records.{Record, joined, record_of, cell_records, row_records_up_to, row_records}
use Rattle.wording.proofs.Below.{any_at}
use Rattle.wording.proofs.Cell.{code-is_code}
use Rattle.wording.proofs.Order.{rank, Ascending, none, more, ascending_append, stands, stands_append}

-- the records of a register
unfoldable pub all_records : Header → List ℕ → List Record
all_records h R = joined h.n (row_records h R)

ascending_to : {n lo hi : ℕ} {rs : List Record} (high : ℕ) → hi ≤ high → Ascending n lo hi rs → Ascending n lo high rs
ascending_to high h (none e) = none (le_trans e h)
ascending_to high h (more p e a) = more p e (ascending_to high h a)

-- lists that ascend from bound to bound ascend when joined
joined_ascending :
    {n : ℕ} (m : ℕ) (f : ℕ → List Record) (bound : ℕ → ℕ) →
    ((k : ℕ) → k < m → Ascending n (bound k) (bound (suc k)) (f k)) → Ascending n (bound zero) (bound m) (joined m f)
unfolding joined
joined_ascending zero f bound each = none (le_refl _)
joined_ascending (suc m) f bound each = ascending_append (joined_ascending m f bound (λ k h. each k (omega arith))) (each m (omega arith))

record_ascending :
    {n : ℕ} (i j c : ℕ) (p : Permission) (lo hi : ℕ) → i < n → j < n → lo ≤ rank i j (code p) → rank i j (code p) < hi → Ascending n lo hi (record_of i j c p)
unfolding record_of
record_ascending {n} i j c p lo hi hi' hj low high = go (has c p) refl
  where
    go : (t : Bool) → has c p ≡ t → Ascending n lo hi (cond t (record { by = i; to = j; perm = code p } ∷ []) [])
    go true e = more (record { by_below = hi'; to_below = hj; coded = code-is_code p }) low (none high)
    go false e = let wide : lo ≤ hi = omega arith in none wide

-- where the ranks of the cell i, j begin
abbrev start : ℕ → ℕ → ℕ
start i j = (i * 65536 + j) * 16 + 1

cell_ascending : {n : ℕ} (i j c : ℕ) → i < n → j < n → Ascending n (start i j) (start i (suc j)) (cell_records i j c)
unfolding cell_records code
cell_ascending i j c hi hj =
    ascending_append (record_ascending i j c TT (start i j) (start i j + 8) hi hj (omega arith) (omega arith))
    (ascending_append (record_ascending i j c TF (start i j + 8) (start i j + 12) hi hj (omega arith) (omega arith))
    (ascending_append (record_ascending i j c FT (start i j + 12) (start i j + 14) hi hj (omega arith) (omega arith))
    (record_ascending i j c FF (start i j + 14) (start i (suc j)) hi hj (omega arith) (omega arith))))

row_ascending : (h : Header) (R : List ℕ) (i : ℕ) → h.n ≤ 65536 → i < h.n → Ascending h.n (start i 0) (start (suc i) 0) (row_records h R i)
unfolding row_records_up_to row_records
row_ascending h R i small hi =
    ascending_to (start (suc i) 0) (omega arith)
    (joined_ascending h.n (λ j. cell_records i j (cell h R i j)) (start i) (λ j hj. cell_ascending i j (cell h R i j) hi hj))

-- the records of a register ascend
pub all_ascending : (h : Header) (R : List ℕ) → h.n ≤ 65536 → Ascending h.n 1 (h.n * 65536 * 16 + 1) (all_records h R)
unfolding all_records
all_ascending h R small =
    ascending_to (h.n * 65536 * 16 + 1) (omega arith)
    (joined_ascending h.n (row_records h R) (λ i. start i 0) (λ i hi. row_ascending h R i small hi))

stands_joined : (m : ℕ) (f : ℕ → List Record) (i j p : ℕ) → stands (joined m f) i j p ≡ any_below m (λ k. stands (f k) i j p)
unfolding joined any_below stands
stands_joined zero f i j p = refl
stands_joined (suc m) f i j p = stands_append (joined m f) (f m) i j p ∙ (rw (stands_joined m f i j p))

any_none : (m : ℕ) (f : ℕ → Bool) → ((k : ℕ) → f k ≡ false) → any_below m f ≡ false
unfolding any_below
any_none zero f each = refl
any_none (suc m) f each = rw (any_none m f each, each m)

stands_record :
    (x y c : ℕ) (p : Permission) (i j : ℕ) (q : Permission) →
    stands (record_of x y c p) i j (code q) ≡ (eqb i x && (eqb j y && (eqb (code q) (code p) && has c p)))
unfolding stands record_of
stands_record x y c p i j q = go (has c p) refl
  where
    go : (t : Bool) → has c p ≡ t → stands (cond t (record { by = x; to = y; perm = code p } ∷ []) []) i j (code q) ≡ (eqb i x && (eqb j y && (eqb (code q) (code p) && t)))
    go true e = simp (or-false, and-true)
    go false e = simp and-false

-- a record stands in the list of a cell if it is of that cell and stands in it
stands_cell : (x y c i j : ℕ) (q : Permission) → stands (cell_records x y c) i j (code q) ≡ (eqb i x && (eqb j y && has c q))
unfolding cell_records code
stands_cell x y c i j q = simp (stands_append, stands_record) (go (eqb i x) (eqb j y) q)
  where
    told : Bool → Bool → Permission → Permission → Bool
    told e f q p = e && (f && (eqb (code q) (code p) && has c p))

    go : (e f : Bool) (q : Permission) → (told e f q TT || (told e f q TF || (told e f q FT || told e f q FF))) ≡ (e && (f && has c q))
    go false f q = refl
    go true false q = refl
    go true true TT = or-false (has c TT)
    go true true TF = or-false (has c TF)
    go true true FT = or-false (has c FT)
    go true true FF = refl

-- what stands in the list of a register is what stands in its cells
pub stands_all : (h : Header) (R : List ℕ) (i j : ℕ) (q : Permission) → i < h.n → j < h.n → stands (all_records h R) i j (code q) ≡ has (cell h R i j) q
unfolding all_records row_records_up_to row_records
stands_all h R i j q hi hj =
    stands_joined h.n (row_records h R) i j (code q)
    ∙ any_at h.n (λ x. stands (row_records h R x) i j (code q)) i hi other_row
    ∙ row i
    ∙ any_at h.n (in_cell i) j hj other_cell
    ∙ (rw (eq-eqb i i refl, eq-eqb j j refl))
  where
    in_cell : ℕ → ℕ → Bool
    in_cell x y = eqb i x && (eqb j y && has (cell h R x y) q)

    row : (x : ℕ) → stands (row_records h R x) i j (code q) ≡ any_below h.n (in_cell x)
    row x = stands_joined h.n (λ y. cell_records x y (cell h R x y)) i j (code q) ∙ (simp stands_cell)

    other_row : (x : ℕ) → (x ≡ i → ⊥) → stands (row_records h R x) i j (code q) ≡ false
    other_row x differ = row x ∙ any_none h.n (in_cell x) (λ y. rw (ne_eqb i x (λ e. differ (sym e))))

    other_cell : (y : ℕ) → (y ≡ j → ⊥) → in_cell i y ≡ false
    other_cell y differ = rw (ne_eqb j y (λ e. differ (sym e))) (and-false (eqb i i))
