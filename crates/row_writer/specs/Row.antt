-- Names for the parts of a row's text.
use Rattle.std.specs.Prelude.{ℕ, List, ◌++◌}
use Rattle.rights.specs.declared.Header.{Header}
use Rattle.rights.specs.declared.Permission.{Permission}
use Rattle.rights.specs.Permission.{code}
use Rattle.wording.specs.Word.{by_line, to_line, perm_line, key}
use Rattle.wording.specs.Line.{line_text}
use Rattle.wording.specs.Records.{records_text, record_of, cell_records, row_records_up_to}
use Rattle.printing.specs.NumberLine.{number_line}

-- a record's lines `by=` and `to=`
unfoldable pub pair_text : ℕ → ℕ → List ℕ
pair_text i j = number_line (key by_line) i ++ number_line (key to_line) j

-- a record's line `perm=`
unfoldable pub perm_text : Permission → List ℕ
perm_text p = line_text perm_line (code p)

-- the text of the record p of the cell i, j, if it stands there
unfoldable pub member_text : ℕ → ℕ → ℕ → Permission → List ℕ
member_text i j c p = records_text (record_of i j c p)

-- the text of the cell i, j
unfoldable pub cell_text : ℕ → ℕ → ℕ → List ℕ
cell_text i j c = records_text (cell_records i j c)

-- the text of row i up to the subject m
unfoldable pub row_up_to : Header → List ℕ → ℕ → ℕ → List ℕ
row_up_to h R i m = records_text (row_records_up_to h R i m)
