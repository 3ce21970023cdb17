-- How long the texts are at most: a room of 11264 bytes is enough for any row, one of 26 for any header.
use Prim.Native.Nat.{ℕ, zero, suc, ◌+◌, ◌*◌, ◌≤◌, ◌<◌}
use mathlib.Core.Path.{◌≡◌, refl}
use mathlib.Core.Bool.{Bool, true, false, cond}
use mathlib.Core.List.{List, [], ◌∷◌}
use native.Mathlib.Omega.{arith}
use lib.ListN.{length, length-append}
use Rattle.rights.specs.declared.Header.{Header}
use Rattle.rights.specs.declared.Permission.{Permission}
use Rattle.rights.specs.declared.Permission.TheVariants.{TT, TF, FT, FF}
use Rattle.rights.specs.Permission.{code}
use Rattle.rights.specs.Cell.{has}
use Rattle.rights.specs.Register.{cell}
use Rattle.rights.specs.Sound.{headed}
use Rattle.wording.specs.Word.{Kind, key, form, perms, word_for}
use Rattle.wording.specs.Line.{word_of, line_text}
use Rattle.wording.specs.Lines.{lines_text, header_lines, header_values, header_text}
use Rattle.wording.specs.Records.{record_text, records_text, joined, record_of, cell_records, row_records_up_to, row_records, row_text}
use Rattle.theory.proofs.Ready.{headed_high, headed_inside}
use Rattle.wording.proofs.Digits.{few-digits}
use Rattle.wording.proofs.Content.{records_text-append}

line_length : (k : Kind) (v : ℕ) → length (line_text k v) ≡ length (key k) + (length (word_of (form k) v) + 1)
unfolding line_text
line_length k v = simp length-append

perm-word : (p : Permission) → length (word_for perms (code p)) ≡ 2
unfolding word_for perms code
perm-word TT = refl
perm-word TF = refl
perm-word FT = refl
perm-word FF = refl

-- by=127, to=126, perm=TT
record_short : (i j : ℕ) (p : Permission) → i < 1000 → j < 1000 → length (record_text (record { by = i; to = j; perm = code p })) ≤ 22
unfolding record_text key form word_of
record_short i j p hi hj =
    simp (length-append, line_length) (omega (arith, few-digits 2 i (omega arith), few-digits 2 j (omega arith), perm-word p))

part_short : (i j c : ℕ) (p : Permission) → i < 1000 → j < 1000 → length (records_text (record_of i j c p)) ≤ 22
unfolding record_of records_text
part_short i j c p hi hj = go (has c p)
  where
    go : (t : Bool) → length (records_text (cond t (record { by = i; to = j; perm = code p } ∷ []) [])) ≤ 22
    go true = simp length-append (omega (arith, record_short i j p hi hj))
    go false = omega arith

cell_short : (i j c : ℕ) → i < 1000 → j < 1000 → length (records_text (cell_records i j c)) ≤ 88
unfolding cell_records
cell_short i j c hi hj =
    simp (records_text-append, length-append)
    (omega (arith, part_short i j c TT hi hj, part_short i j c TF hi hj, part_short i j c FT hi hj, part_short i j c FF hi hj))

cells_short : (m i : ℕ) (c : ℕ → ℕ) → i < 1000 → m ≤ 1000 → length (records_text (joined m (λ j. cell_records i j (c j)))) ≤ 88 * m
unfolding joined records_text
cells_short zero i c hi hm = omega arith
cells_short (suc m) i c hi hm =
    simp (records_text-append, length-append) (omega (arith, cells_short m i c hi (omega arith), cell_short i m (c m) hi (omega arith)))

-- the text of a row
pub row_short : (h : Header) (R : List ℕ) (i : ℕ) → headed h ≡ true → i < h.n → length (row_text h R i) ≤ 11264
unfolding row_text row_records_up_to row_records
row_short h R i head hi =
    let small = headed_high h head in
    omega (arith, cells_short h.n i (cell h R i) (omega arith) (omega arith))

-- the text of a header: n=128, soa=127, layer=65535
pub header_short : (h : Header) → headed h ≡ true → h.layer.0 ≤ 65535 → length (header_text h) ≤ 26
unfolding header_text lines_text header_lines header_values key form word_of
header_short h head layer =
    let small = headed_high h head in
    let soa = headed_inside h head in
    simp (length-append, line_length)
    (omega (arith, few-digits 2 h.n (omega arith), few-digits 2 h.soa.0 (omega arith), few-digits 4 h.layer.0 (omega arith)))
