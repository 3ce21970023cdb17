-- The text of a row by its parts: how long they are, and that each begins where the one before it ends.
use Prim.Native.Nat.{ℕ, zero, suc, ◌+◌, ◌*◌, ◌-◌, ◌≤◌, ◌<◌}
use native.Mathlib.Nat.{add-zero, add-mul, add_assoc}
use native.Mathlib.Numerals.{add-one}
use native.Mathlib.Omega.{arith}
use mathlib.Core.Path.{◌≡◌, refl}
use mathlib.Core.Bool.{Bool, true, false, cond}
use mathlib.Core.List.{List, [], ◌∷◌, ◌++◌, append-nil, append_assoc}
use lib.ListN.{length, length-append}
use Rattle.std.specs.List.{flat_map}
use Rattle.rights.specs.declared.Header.{Header}
use Rattle.rights.specs.declared.Permission.{Permission}
use Rattle.rights.specs.declared.Permission.TheVariants.{TT, TF, FT, FF}
use Rattle.rights.specs.Permission.{code}
use Rattle.rights.specs.Cell.{has, size}
use Rattle.rights.specs.Register.{cell}
use Rattle.theory.proofs.Cell.{cond_le}
use Rattle.wording.specs.Word.{key, form, perms, word_for}
use Rattle.wording.specs.Line.{numeral, word_of, line_text}
use Rattle.wording.specs.Records.{record_text, records_text, joined, record_of, cell_records, row_records_up_to, row_records, row_text}
use Rattle.wording.proofs.Content.{records_text-append}
use Rattle.printing.specs.declared.Page.{Page}
use Rattle.printing.specs.Page.{Fits, Adds}
use Rattle.printing.proofs.Adds.{fits_second}
use Rattle.printing.specs.NumberLine.{number_line}
use Rattle.row_writer.specs.Row.{pair_text, perm_text, member_text, cell_text, row_up_to}

perm-size : (p : Permission) → length (perm_text p) ≡ 8
unfolding perm_text line_text key form word_of perms word_for code
perm-size TT = refl
perm-size TF = refl
perm-size FT = refl
perm-size FF = refl

record_size : (i j : ℕ) (p : Permission) → length (pair_text i j ++ perm_text p) ≡ 16 + length (numeral i) + length (numeral j)
unfolding pair_text number_line key
record_size i j p = simp length-append (omega (arith, perm-size p))

-- a record that stands is its three lines, and one that does not is nothing
pub member_stands : (i j c : ℕ) (p : Permission) → has c p ≡ true → member_text i j c p ≡ pair_text i j ++ perm_text p
unfolding member_text record_of records_text record_text line_text key form word_of number_line pair_text perm_text
member_stands i j c p e = rw (e, append-nil) (simp append_assoc)

pub member_lacks : (i j c : ℕ) (p : Permission) → has c p ≡ false → member_text i j c p ≡ []
unfolding member_text record_of records_text
member_lacks i j c p e = rw e

-- the permissions in the order of a cell's records
abbrev pub all : List Permission
all = TT ∷ TF ∷ FT ∷ FF ∷ []

pub cell_members : (i j c : ℕ) → cell_text i j c ≡ flat_map (member_text i j c) all
unfolding cell_text cell_records member_text
cell_members i j c = simp (records_text-append, append-nil)

member_size : (i j c : ℕ) (p : Permission) → length (member_text i j c p) ≡ cond (has c p) 1 0 * (16 + length (numeral i) + length (numeral j))
member_size i j c p = go (has c p) refl
  where
    go : (t : Bool) → has c p ≡ t → length (member_text i j c p) ≡ cond (has c p) 1 0 * (16 + length (numeral i) + length (numeral j))
    go true e = rw (member_stands i j c p e, e) (omega (arith, record_size i j p))
    go false e = rw (member_lacks i j c p e, e) (omega arith)

pub cell-size : (i j c : ℕ) → length (cell_text i j c) ≡ size c * (16 + length (numeral i) + length (numeral j))
unfolding size
cell-size i j c = rw (cell_members i j c) (simp (length-append, member_size, add-mul, add_assoc, add-zero))

-- no cell has more than four records
pub few-records : (c : ℕ) → size c ≤ 4
unfolding size
few-records c = omega (arith, cond_le (has c TT) 1, cond_le (has c TF) 1, cond_le (has c FT) 1, cond_le (has c FF) 1)

-- the text so far: none, one cell more, all
pub row_none : (h : Header) (R : List ℕ) (i : ℕ) → row_up_to h R i 0 ≡ []
unfolding row_up_to row_records_up_to joined records_text
row_none h R i = refl

pub row_more : (h : Header) (R : List ℕ) (i m : ℕ) → row_up_to h R i (m + 1) ≡ row_up_to h R i m ++ cell_text i m (cell h R i m)
unfolding row_up_to row_records_up_to joined cell_text
row_more h R i m = rw (add-one, joined) (records_text-append _ _)

pub row_all : (h : Header) (R : List ℕ) (i m : ℕ) → m ≡ h.n → row_up_to h R i m ≡ row_text h R i
unfolding row_up_to row_text row_records
row_all h R i m e = rw e

-- the text up to a cell of the row is no longer than the whole
row_longer : (h : Header) (R : List ℕ) (i m k : ℕ) → length (row_up_to h R i m) ≤ length (row_up_to h R i (m + k))
row_longer h R i m zero = rw add-zero (omega arith)
row_longer h R i m (suc k) =
    let next : m + suc k ≡ (m + k) + 1 = omega arith in
    rw (next, row_more) (omega (arith, row_longer h R i m k, length-append (row_up_to h R i (m + k)) (cell_text i (m + k) (cell h R i (m + k)))))

pub row_within : (h : Header) (R : List ℕ) (i m : ℕ) → m ≤ h.n → length (row_up_to h R i m) ≤ length (row_text h R i)
row_within h R i m le =
    let whole : m + (h.n - m) ≡ h.n = omega arith in
    rw (row_all h R i (m + (h.n - m)) whole) at (row_longer h R i m (h.n - m))

-- a page with room for a row has room for a cell of it behind the cells before
pub row_fits :
    (h : Header) (R : List ℕ) (i m : ℕ) {before between : Page} → m < h.n → Adds (row_up_to h R i m) before between → Fits (row_text h R i) before →
    Fits (cell_text i m (cell h R i m)) between
row_fits h R i m {before} below so_far fits =
    let whole : Fits (row_up_to h R i (m + 1)) before = record { enough = omega (arith, fits.enough, row_within h R i (m + 1) (omega arith)) } in
    fits_second _ so_far (rw row_more at whole)
