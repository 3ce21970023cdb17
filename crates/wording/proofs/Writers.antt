-- The writers one after the other in one room: a sound register, written by header, rows and end, and read, is the same register.
use Prim.Native.Nat.{ℕ, zero, suc, ◌+◌, ◌*◌, ◌-◌, ◌≤◌, ◌<◌}
use mathlib.Core.Path.{◌≡◌, ap, ◌∙◌}
use mathlib.Core.Bool.{true}
use mathlib.Core.List.{List, [], ◌++◌, append_assoc, append-nil}
use native.Mathlib.Omega.{arith}
use lib.ListN.{length, take, drop, replicate, length-append, length-drop}
use lib.Seq.{take-append_seam, drop-append_seam, drop-drop}
use borrow.Author.Tests.{lt-ltb, le-ltb}
use Rattle.rights.specs.declared.Header.{Header}
use Rattle.rights.specs.Sound.{headed, whole, sound, first_of, unless, register_refusal}
use Rattle.wording.specs.Word.{end_text}
use Rattle.wording.specs.Lines.{header_text}
use Rattle.wording.specs.Records.{joined, row_text, register_text}
use Rattle.wording.specs.RegisterReader.{register_read}
use Rattle.wording.specs.Writer.{Written, written, written_behind, row_refusal, row_written, header_written, end_written}
use Rattle.wording.proofs.RegisterText.{register_written_read}

-- a room of which some bytes at the start are used
pub record Room : Type 0 where
  pub used : ℕ
  pub bytes : List ℕ

-- a writer is lent the room from the used bytes on
unfoldable pub put : (List ℕ → Written) → Room → Room
put write room =
    record {
      used = room.used + (write (drop room.used room.bytes)).size;
      bytes = take room.used room.bytes ++ (write (drop room.used room.bytes)).room;
    }

-- rows 0 to m - 1
unfoldable pub rows_put : Header → List ℕ → ℕ → Room → Room
rows_put h R zero room = room
rows_put h R (suc m) room = put (row_written h R m) (rows_put h R m room)

-- 'A register's text is header, rows 0 to n − 1, end.'
unfoldable pub register_put : Header → List ℕ → List ℕ → Room
register_put h R bytes = put end_written (rows_put h R h.n (put (header_written h) (record { used = 0; bytes = bytes })))

-- the room with a text at its start, and the rest as it was
abbrev pub holding : List ℕ → List ℕ → Room
holding bytes text = record { used = length text; bytes = text ++ drop (length text) bytes }

-- a writer with no refusal before 14 writes a text for which there is room
pub room-enough : (room text : List ℕ) → length text ≤ length room → written_behind 0 room text ≡ written room text
unfolding written_behind
room-enough room text h = rw (le-ltb (length room) (length text) h)

-- a writer that writes its text wherever there is room for it writes it behind the text that stands there
put_behind :
    (write : List ℕ → Written) (bytes text next : List ℕ) → ((room : List ℕ) → length next ≤ length room → write room ≡ written room next) →
    length (text ++ next) ≤ length bytes → put write (holding bytes text) ≡ holding bytes (text ++ next)
unfolding put written
put_behind write bytes text next writes fits =
    let room : length next ≤ length (drop (length text) bytes) = simp length-drop (omega (arith, length-append text next)) in
    simp (take-append_seam, drop-append_seam, writes (drop (length text) bytes) room, length-append, append_assoc, drop-drop)

pub header-written : (h : Header) (room : List ℕ) → headed h ≡ true → length (header_text h) ≤ length room → header_written h room ≡ written room (header_text h)
unfolding header_written unless
header-written h room head fits = rw head (room-enough room (header_text h) fits)

pub end_written_lem : (room : List ℕ) → length end_text ≤ length room → end_written room ≡ written room end_text
unfolding end_written
end_written_lem room fits = room-enough room end_text fits

pub row_written_lem :
    (h : Header) (R : List ℕ) (i : ℕ) (room : List ℕ) → headed h ≡ true → whole h R ≡ true → sound h R ≡ true → i < h.n →
    length (row_text h R i) ≤ length room → row_written h R i room ≡ written room (row_text h R i)
unfolding row_written row_refusal register_refusal first_of unless
row_written_lem h R i room head full tested below fits = rw (head, full, tested, lt-ltb i h.n below) (room-enough room (row_text h R i) fits)

module _ (h : Header) (R bytes : List ℕ) (head : headed h ≡ true) (full : whole h R ≡ true) (tested : sound h R ≡ true) where
  rows_put_lem :
      (m : ℕ) (text : List ℕ) → m ≤ h.n → length (text ++ joined m (row_text h R)) ≤ length bytes →
      rows_put h R m (holding bytes text) ≡ holding bytes (text ++ joined m (row_text h R))
  unfolding rows_put joined
  rows_put_lem zero text below fits = rw append-nil
  rows_put_lem (suc m) text below fits =
      let before = text ++ joined m (row_text h R) in
      let fits_row : length (before ++ row_text h R m) ≤ length bytes = rw append_assoc fits in
      let fits_before : length before ≤ length bytes = omega (arith, length-append before (row_text h R m)) in
      ap (put (row_written h R m)) (rows_put_lem m text (omega arith) fits_before)
      ∙ put_behind (row_written h R m) bytes before (row_text h R m) (λ room. row_written_lem h R m room head full tested below) fits_row
      ∙ ap (holding bytes) (append_assoc text (joined m (row_text h R)) (row_text h R m))

  -- with room for it, the text of a register is written whole, and the rest of the room stays
  pub register_put_lem : length (register_text h R) ≤ length bytes → register_put h R bytes ≡ holding bytes (register_text h R)
  unfolding register_put register_text
  register_put_lem fits =
      let rows = joined h.n (row_text h R) in
      let fits_end : length (header_text h ++ rows ++ end_text) ≤ length bytes = rw append_assoc fits in
      let fits_rows : length (header_text h ++ rows) ≤ length bytes = omega (arith, length-append (header_text h ++ rows) end_text) in
      let fits-header : length (header_text h) ≤ length bytes = omega (arith, length-append (header_text h) rows) in
      let one = put_behind (header_written h) bytes [] (header_text h) (λ room. header-written h room head) fits-header in
      ap (λ room. put end_written (rows_put h R h.n room)) one
      ∙ ap (put end_written) (rows_put_lem h.n (header_text h) (omega arith) fits_rows)
      ∙ put_behind end_written bytes (header_text h ++ rows) end_text end_written_lem fits_end
      ∙ ap (holding bytes) (append_assoc (header_text h) rows end_text)

  -- a sound register, written by header, rows and end into a room that is large enough, and read from the bytes used, is the same
  -- register and header, and nothing is left
  pub register_put_read :
      (buffer : List ℕ) → length (register_text h R) ≤ length bytes → h.layer.0 ≤ 65535 → h.n * h.n ≤ length buffer →
      register_read (take (register_put h R bytes).used (register_put h R bytes).bytes) buffer ≡
      record {
        answer = 0;
        at = 0;
        header = h;
        buffer = R ++ replicate (length buffer - length R) 0;
        next = length (register_text h R);
        rest = [];
      }
  register_put_read buffer fits layer room =
      rw (register_put_lem fits, take-append_seam)
      (rw (append-nil (register_text h R)) at (register_written_read h R buffer [] head full tested layer room))
