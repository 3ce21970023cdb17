-- What is answered of one record: each answer by what the definitions of the text make of the bytes.
use Rattle.std.specs.Prelude.{ℕ, List, drop}
use Rattle.std.specs.declared.result.Result.{Result}
use Rattle.std.specs.declared.result.Result.TheVariants.{Ok, Err}
use Rattle.wording.specs.Lines.{Reading, got, bad_at, offset}
use Rattle.wording.specs.Records.{Record as TextRecord, record_from}
use Rattle.records.specs.declared.Record.{Record}

-- not of 01: the record of the text for a record of the code, whose offices are of their own type
unfoldable pub text_record : Record → TextRecord
text_record r = record { by = r.by.0; to = r.to.0; perm = r.perm }

-- not of 01: the record of the code for a record of the text
unfoldable pub typed_record : TextRecord → Record
typed_record r = record { by = record { 0 = r.by }; to = record { 0 = r.to }; perm = r.perm }

-- a record and where in the text the next line starts, or where the bad line starts
unfoldable pub record_read : List ℕ → Reading TextRecord → Result (Record × ℕ) ℕ
record_read text (got r rest) = Ok (typed_record r, offset text rest)
record_read text (bad_at line) = Err (offset text line)

-- what stands at the byte `at` as a record that comes after the last one
unfoldable pub record_at : List ℕ → ℕ → Record → Result (Record × ℕ) ℕ
record_at text at last = record_read text (record_from (text_record last) (drop at text))
