-- What a loop over the records finds and leaves.
use Rattle.std.specs.Prelude.{ℕ, ◌≡◌, Bool, false, ◌&&◌, ◌||◌, cond, List, [], ◌∷◌, ltb, length, get_or, set, drop, replicate}
use Rattle.std.specs.declared.result.Result.{Result}
use Rattle.std.specs.declared.result.Result.TheVariants.{Ok, Err}
use Rattle.rights.specs.declared.Header.{Header}
use Rattle.rights.specs.Cell.{union}
use Rattle.rights.specs.Register.{place}
use Rattle.wording.specs.Lines.{Reading, got, bad_at, offset}
use Rattle.wording.specs.Records.{Record, first, records_from}
use Rattle.wording.specs.RegisterReader.{any_record, in_range, outside, forbidden}
use Rattle.records.specs.declared.RecordsEnd.{RecordsEnd}

-- the byte of a record's cell
unfoldable pub place_of : Header → Record → ℕ
place_of h r = place h r.by r.to

-- the record has a cell, and a buffer of this size has room for it
unfoldable pub room_for : Header → ℕ → Record → Bool
room_for h size r = in_range h r && ltb (place_of h r) size

-- the buffer with the record added, where it has a cell
unfoldable pub stored_one : Header → List ℕ → Record → List ℕ
stored_one h cells r = cond (room_for h (length cells) r) (set cells (place_of h r) (union (get_or cells (place_of h r) 0) r.perm)) cells

-- the buffer with each record added in turn, where it has a cell
unfoldable pub stored_all : Header → List ℕ → List Record → List ℕ
stored_all h cells [] = cells
stored_all h cells (r ∷ rs) = stored_all h (stored_one h cells r) rs

-- What a loop over the records has found in the end: whether a record is outside, whether one is forbidden, the buffer with the
-- records added, and where in the text it goes on behind the end line; or where the first bad line starts.
pub data Found : Type 0 where
  found : Bool → Bool → List ℕ → ℕ → Found
  stopped : ℕ → Found

-- what it finds in the end, from what it has found so far and what is left to read
unfoldable pub found_on : List ℕ → Header → Bool → Bool → List ℕ → Reading (List Record) → Found
found_on text h out barred cells (got rs rest) =
    found (out || any_record (outside h) rs) (barred || any_record (forbidden h) rs) (stored_all h cells rs) (offset text rest)
found_on text h out barred cells (bad_at line) = stopped (offset text line)

-- what it finds in the records that start at the byte `at`
unfoldable pub found_at : List ℕ → ℕ → Header → List ℕ → Found
found_at text at h cells = found_on text h false false cells (records_from (length (drop at text)) first (drop at text))

-- what an answer and the buffer say
unfoldable pub found_is : Result RecordsEnd ℕ → List ℕ → Found
found_is (Ok end) cells = found end.outside end.forbidden cells end.next
found_is (Err line) cells = stopped line

-- the answer that says what was found
unfoldable pub answer_of : Found → Result RecordsEnd ℕ
answer_of (found out barred cells next) = Ok (record { outside = out; forbidden = barred; next = next })
answer_of (stopped line) = Err line

-- the buffer of this size that what was found leaves; for a bad line 01's 'Refused: the whole buffer zero'
unfoldable pub cells_of : ℕ → Found → List ℕ
cells_of size (found out barred cells next) = cells
cells_of size (stopped line) = replicate size 0

-- what is found with the records added to an empty buffer of this size
unfoldable pub records_at : List ℕ → ℕ → Header → ℕ → Found
records_at text at h size = found_at text at h (replicate size 0)

-- the answer and the buffer are those of what is found
pub record RecordsTold (f : Found) (size : ℕ) (r : Result RecordsEnd ℕ) (cells : List ℕ) : Type 0 where
  pub answer : r ≡ answer_of f
  pub buffer : cells ≡ cells_of size f
