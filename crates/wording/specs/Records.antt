-- Records one after the other: the text of a register between its header and its end.
use Rattle.std.specs.Prelude.{ℕ, zero, suc, Bool, ◌&&◌, ◌||◌, cond, List, [], ◌∷◌, ◌++◌, ltb, leb}
use Rattle.rights.specs.declared.Header.{Header}
use Rattle.rights.specs.declared.Permission.{Permission}
use Rattle.rights.specs.declared.Permission.TheVariants.{TT, TF, FT, FF}
use Rattle.rights.specs.Permission.{code}
use Rattle.rights.specs.Cell.{has}
use Rattle.rights.specs.Register.{cell}
use Rattle.wording.specs.Word.{by_line, to_line, perm_line, end_text}
use Rattle.wording.specs.Line.{Line, value, bad, after, otherwise, after_word, line_of, line_text}
use Rattle.wording.specs.Lines.{Reading, got, bad_at, and_before, header_text}

-- one record: its grantor, its subject and the code of its permission
pub record Record : Type 0 where
  pub by : ℕ
  pub to : ℕ
  pub perm : ℕ

-- what stands in for the record before the first one: every record comes after it
unfoldable pub first : Record
first = record { by = 0; to = 0; perm = 16 }

-- 01: 'for each record `by=`, `to=`, `perm=`'
unfoldable pub record_text : Record → List ℕ
record_text r = line_text by_line r.by ++ (line_text to_line r.to ++ line_text perm_line r.perm)

-- the lines of the records, one record behind the other: 'Then for each record'
unfoldable pub records_text : List Record → List ℕ
records_text [] = []
records_text (r ∷ rs) = record_text r ++ records_text rs

-- 01: 'ascending by grantor, subject, then in that order of perm .. Where a record does not come after the one before it, the bad
-- line is its `by=` if that is smaller, else its `to=` if that is smaller, else its `perm=`.' The order of perm is that of falling codes.
unfoldable pub by_may : Record → ℕ → Bool
by_may last i = leb last.by i

-- the same sentence: 'else its `to=` if that is smaller'
unfoldable pub to_may : Record → ℕ → ℕ → Bool
to_may last i j = ltb last.by i || leb last.to j

-- a record's permission is not `none`
unfoldable pub perm_may : Record → ℕ → ℕ → ℕ → Bool
perm_may last i j p = leb 1 p && (ltb last.by i || ltb last.to j || ltb p last.perm)

-- what the third line of a record makes of it; the line is given with the text that begins with it
unfoldable pub with_perm : Record → ℕ → ℕ → List ℕ → Line → Reading Record
with_perm last i j text (value p rest) = cond (perm_may last i j p) (got (record { by = i; to = j; perm = p }) rest) (bad_at text)
with_perm last i j text bad = bad_at text

-- what the second line of a record makes of it, with the third behind it
unfoldable pub with_to : Record → ℕ → List ℕ → Line → Reading Record
with_to last i text (value j rest) = cond (to_may last i j) (with_perm last i j rest (line_of perm_line rest)) (bad_at text)
with_to last i text bad = bad_at text

-- what the first line of a record makes of it, with the two behind it
unfoldable pub with_by : Record → List ℕ → Line → Reading Record
with_by last text (value i rest) = cond (by_may last i) (with_to last i rest (line_of to_line rest)) (bad_at text)
with_by last text bad = bad_at text

-- one record that comes after the last one
unfoldable pub record_from : Record → List ℕ → Reading Record
record_from last text = with_by last text (line_of by_line text)

-- 01: 'Then `end=register`.' The records up to it, so many at most; that the text's length is enough is a law.
unfoldable pub records_from : ℕ → Record → List ℕ → Reading (List Record)
records_from zero last text = bad_at text
records_from (suc k) last text =
    elim (after_word end_text text) [
      | after rest ↦ got [] rest
      | otherwise ↦ elim (record_from last text) [ got r rest ↦ and_before r (records_from k r rest) | bad_at line ↦ bad_at line ]
    ]

-- what there is at 0, 1 .. n - 1, one after the other
unfoldable pub joined : {A : Type 0} → ℕ → (ℕ → List A) → List A
joined zero f = []
joined (suc n) f = joined n f ++ f n

-- the record p of the cell i, j, if it stands there
unfoldable pub record_of : ℕ → ℕ → ℕ → Permission → List Record
record_of i j c p = cond (has c p) (record { by = i; to = j; perm = code p } ∷ []) []

-- 'A cell is a set of permissions .. Each member is one record', 'in that order of perm'
unfoldable pub cell_records : ℕ → ℕ → ℕ → List Record
cell_records i j c = record_of i j c TT ++ (record_of i j c TF ++ (record_of i j c FT ++ record_of i j c FF))

-- the records of row i to the subjects below m
unfoldable pub row_records_up_to : Header → List ℕ → ℕ → ℕ → List Record
row_records_up_to h R i m = joined m (λ j. cell_records i j (cell h R i j))

-- all records of row i
unfoldable pub row_records : Header → List ℕ → ℕ → List Record
row_records h R i = row_records_up_to h R i h.n

-- the text of row i, one of 01's 'rows 0 to n − 1'
unfoldable pub row_text : Header → List ℕ → ℕ → List ℕ
row_text h R i = records_text (row_records h R i)

-- 01: 'A register's text is header, rows 0 to n − 1, end.'
unfoldable pub register_text : Header → List ℕ → List ℕ
register_text h R = header_text h ++ (joined h.n (row_text h R) ++ end_text)
