-- What the writers of header, row and end line answer and leave.
use Rattle.std.specs.Prelude.{ℕ, not, cond, List, ◌++◌, length, drop, eqb, ltb}
use Rattle.rights.specs.declared.Header.{Header}
use Rattle.rights.specs.Sound.{headed, first_of, unless, register_refusal}
use Rattle.wording.specs.Word.{end_text}
use Rattle.wording.specs.Lines.{header_text}
use Rattle.wording.specs.Records.{row_text}

-- what a writer answers and leaves
pub record Written : Type 0 where
  pub answer : ℕ
  pub size : ℕ
  pub room : List ℕ

-- 'refused, the room is unchanged and the length 0'
unfoldable pub not_written : List ℕ → ℕ → Written
not_written room number = record { answer = number; size = 0; room = room }

-- 'Done, the text stands at the start of the room, its length is given, and the rest of the room stays.'
unfoldable pub written : List ℕ → List ℕ → Written
written room text = record { answer = 0; size = length text; room = text ++ drop (length text) room }

-- '14 (refused exactly if the row's text is longer than the room)', behind the refusal of the checks before it, 0 where none applies
unfoldable pub written_behind : ℕ → List ℕ → List ℕ → Written
written_behind refusal room text =
    cond (not (eqb refusal 0)) (not_written room refusal) (cond (ltb (length room) (length text)) (not_written room 14) (written room text))

-- 'The row writer checks 1, 2, 3, 6, then 14'
unfoldable pub row_refusal : Header → List ℕ → ℕ → ℕ
row_refusal h R i = first_of (register_refusal h R) (unless (ltb i h.n) 6)

-- the one outcome of writing row i
unfoldable pub row_written : Header → List ℕ → ℕ → List ℕ → Written
row_written h R i room = written_behind (row_refusal h R i) room (row_text h R i)

-- 'Header and end line have writers too, by the same rule (1 and 14; 14).'
unfoldable pub header_written : Header → List ℕ → Written
header_written h room = written_behind (unless (headed h) 1) room (header_text h)

-- the end line's writer, which of the same rule has '14' alone
unfoldable pub end_written : List ℕ → Written
end_written room = written_behind 0 room end_text
