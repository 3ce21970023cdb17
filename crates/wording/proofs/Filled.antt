-- A register from its records and back: adding the records of a register gives the register, and a register has the records that were added.
use Prim.Native.Nat.{ℕ, ◌*◌, ◌≤◌, ◌<◌}
use mathlib.Core.Path.{◌≡◌, sym, ap, ◌∙◌}
use mathlib.Core.Bool.{Bool, true, false, ◌&&◌, ◌||◌, cond, or-false, or_assoc}
use mathlib.Core.List.{List, [], ◌∷◌}
use native.Mathlib.Omega.{arith}
use lib.Dec.{eqb}
use lib.ListN.{length}
use Rattle.rights.specs.declared.Header.{Header}
use Rattle.rights.specs.declared.Permission.{Permission}
use Rattle.rights.specs.Permission.{code, decoded}
use Rattle.rights.specs.Cell.{has, union}
use Rattle.rights.specs.Register.{cell, register}
use Rattle.rights.specs.Restriction.{is_cell}
use Rattle.rights.specs.Deletion.{granted_cell, granted}
use Rattle.wording.specs.Records.{Record}
use Rattle.wording.specs.RegisterReader.{nothing, added, filled}
use Rattle.theory.proofs.Register.{length-register, cell-register, same-cells}
use Rattle.theory.proofs.Cell.{cell_of-small, cell_ext, no_record}
use Rattle.wording.proofs.Cell.{has-union, has_code, code-decoded}
use Rattle.wording.proofs.Order.{Ascending, none, more, is_record, stands, same_list}
use Rattle.wording.proofs.CellRecords.{all_records, all_ascending, stands_all}

module _ (h : Header) where
  -- a record that is added stands, and every other record stands as before
  has-granted :
      (R : List ℕ) (i j : ℕ) (p : Permission) (x y : ℕ) (q : Permission) → x < h.n → y < h.n →
      has (cell h (granted h R i j p) x y) q ≡ (has (cell h R x y) q || (eqb x i && (eqb y j && eqb (code q) (code p))))
  unfolding granted granted_cell is_cell
  has-granted R i j p x y q hx hy =
      ap (λ c. has c q) (cell-register h (λ x y. cond (eqb x i && eqb y j) (union (cell h R x y) (code p)) (cell h R x y)) x y hx hy)
      ∙ go (eqb x i) (eqb y j)
    where
      go : (s t : Bool) →
          has (cond (s && t) (union (cell h R x y) (code p)) (cell h R x y)) q ≡ (has (cell h R x y) q || (s && (t && eqb (code q) (code p))))
      go true true = rw (has-union, has_code)
      go true false = sym (or-false _)
      go false t = sym (or-false _)

  -- after records are added, those stand and those that stood before
  has-added :
      {n lo hi : ℕ} {rs : List Record} (R : List ℕ) (x y : ℕ) (q : Permission) → x < h.n → y < h.n → Ascending n lo hi rs →
      has (cell h (added h R rs) x y) q ≡ (has (cell h R x y) q || stands rs x y (code q))
  unfolding added stands
  has-added R x y q hx hy (none e) = sym (or-false _)
  has-added R x y q hx hy (more {r} {rs} p e a) =
      has-added (granted h R r.by r.to (decoded r.perm)) x y q hx hy a
      ∙ (rw (has-granted R r.by r.to (decoded r.perm) x y q hx hy, code-decoded r.perm p.coded)
      (or_assoc (has (cell h R x y) q) (is_record r x y (code q)) (stands rs x y (code q))))

  small-granted :
      (R : List ℕ) (i j : ℕ) (p : Permission) (x y : ℕ) → x < h.n → y < h.n → cell h R x y ≤ 15 → cell h (granted h R i j p) x y ≤ 15
  unfolding granted granted_cell is_cell union
  small-granted R i j p x y hx hy small =
      rw (cell-register h (λ x y. cond (eqb x i && eqb y j) (union (cell h R x y) (code p)) (cell h R x y)) x y hx hy) (go (eqb x i && eqb y j))
    where
      go : (t : Bool) → cond t (union (cell h R x y) (code p)) (cell h R x y) ≤ 15
      go true = cell_of-small _
      go false = small

  small-added : (rs : List Record) (R : List ℕ) (x y : ℕ) → x < h.n → y < h.n → cell h R x y ≤ 15 → cell h (added h R rs) x y ≤ 15
  unfolding added
  small-added [] R x y hx hy small = small
  small-added (r ∷ rs) R x y hx hy small = small-added rs _ x y hx hy (small-granted R r.by r.to (decoded r.perm) x y hx hy small)

  length-added : (rs : List Record) (R : List ℕ) → length R ≡ h.n * h.n → length (added h R rs) ≡ h.n * h.n
  unfolding added granted
  length-added [] R e = e
  length-added (r ∷ rs) R e = length-added rs _ (length-register h _)

  -- the register of a list has n·n cells, each a set of permissions, and in them what stands in the list
  pub length-filled : (rs : List Record) → length (filled h rs) ≡ h.n * h.n
  unfolding filled
  length-filled rs = length-added rs (register h nothing) (length-register h nothing)

  pub small-filled : (rs : List Record) (x y : ℕ) → x < h.n → y < h.n → cell h (filled h rs) x y ≤ 15
  unfolding filled nothing
  small-filled rs x y hx hy = small-added rs (register h nothing) x y hx hy (rw (cell-register h nothing x y hx hy) (omega arith))

  pub has-filled :
      {n lo hi : ℕ} {rs : List Record} (x y : ℕ) (q : Permission) → x < h.n → y < h.n → Ascending n lo hi rs →
      has (cell h (filled h rs) x y) q ≡ stands rs x y (code q)
  unfolding filled nothing
  has-filled x y q hx hy a = has-added (register h nothing) x y q hx hy a ∙ (rw (cell-register h nothing x y hx hy, no_record))

  -- a list of records in order is the list of its register
  pub all_filled : {hi : ℕ} {rs : List Record} → h.n ≤ 65536 → Ascending h.n 1 hi rs → all_records h (filled h rs) ≡ rs
  all_filled {rs} small a =
      same_list (all_ascending h (filled h rs) small) a (λ i j q hi hj. stands_all h (filled h rs) i j q hi hj ∙ has-filled i j q hi hj a)

  -- a register of cells of at most 15 is the register of its list
  pub filled_all :
      (R : List ℕ) → h.n ≤ 65536 → length R ≡ h.n * h.n → ((i j : ℕ) → i < h.n → j < h.n → cell h R i j ≤ 15) → filled h (all_records h R) ≡ R
  filled_all R small whole each =
      same-cells h (filled h (all_records h R)) R (length-filled (all_records h R)) whole
      (λ i j hi hj. cell_ext _ _ (small-filled (all_records h R) i j hi hj) (each i j hi hj)
      (λ q. has-filled i j q hi hj (all_ascending h R small) ∙ stands_all h R i j q hi hj))
