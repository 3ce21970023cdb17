-- The register reader's outcome, from what it read and found.
use Prim.Native.Nat.{ℕ, ◌*◌, ◌-◌, ◌≤◌}
use mathlib.Core.Path.{◌≡◌, refl, sym, ap, ◌∙◌}
use mathlib.Core.Bool.{Bool, true, false}
use mathlib.Core.List.{List, [], ◌∷◌, ◌++◌}
use native.Mathlib.Omega.{arith}
use lib.Dec.{leb}
use lib.ListN.{length, drop, replicate, length-replicate}
use borrow.Author.Tests.{leb-true, eq-eqb, ne_eqb}
use Rattle.rights.specs.declared.Header.{Header}
use Rattle.std.specs.declared.result.Result.{Result}
use Rattle.std.specs.declared.result.Result.TheVariants.{Ok, Err}
use Rattle.rights.specs.declared.Refusal.{Refusal}
use Rattle.rights.specs.Refusal.{number}
use Rattle.theory.proofs.Refusal.{number-nonzero}
use Rattle.rights.specs.Sound.{first_of, unless}
use Rattle.wording.specs.Lines.{Reading, got, bad_at, offset, lines_of, lines_text, header_lines, header_of}
use Rattle.wording.specs.Records.{Record, first, records_from}
use Rattle.wording.specs.RegisterReader.{with_header, behind_header, content_of, any_record, outside, forbidden, filled, read_refusal, content_refusal, register_done, register_refused, judged, register_read}
use Rattle.wording.proofs.Truth.{never}
use Rattle.wording.proofs.Lines.{lines_read, rest_by_offset}
use Rattle.wording.proofs.Order.{Ascending}
use Rattle.wording.proofs.Records.{before_first, records_read}
use Rattle.wording.proofs.Filled.{length-filled}
use Rattle.wording.proofs.Accepted.{accepted}
use Rattle.records.specs.Stored.{stored_one, stored_all, found_on, found_at, answer_of, cells_of, records_at, RecordsTold}
use Rattle.records.specs.declared.RecordsEnd.{RecordsEnd}
use Rattle.records.proofs.SoFar.{stored-length}
use Rattle.records.proofs.Granted.{stored-filled, register_part}
use Rattle.register_reader.specs.Told.{header_read, header_in, register_answer, register_not, RegisterTold, buffer_refusal, behind_header_at}
use Rattle.register_reader.specs.declared.RegisterRead.{RegisterRead}

all_stored_length : (h : Header) (cells : List ℕ) (rs : List Record) → length (stored_all h cells rs) ≡ length cells
unfolding stored_all
all_stored_length h cells [] = refl
all_stored_length h cells (r ∷ rs) = all_stored_length h (stored_one h cells r) rs ∙ stored-length h cells r

-- what is refused of a text's records is what is refused of the buffer with them; where 2 applies, the buffer has no such register
content_refusal_lem :
    {m lo hi : ℕ} (h : Header) (rs : List Record) (size : ℕ) → Ascending m lo hi rs →
    content_refusal (record { header = h; records = rs }) size ≡
    buffer_refusal h (stored_all h (replicate size 0) rs) (any_record (outside h) rs) (any_record (forbidden h) rs)
unfolding content_refusal buffer_refusal read_refusal first_of unless
content_refusal_lem h rs size a = go (leb (h.n * h.n) size) refl
  where
    long : length (stored_all h (replicate size 0) rs) ≡ size
    long = all_stored_length h (replicate size 0) rs ∙ length-replicate size 0

    go : (t : Bool) → leb (h.n * h.n) size ≡ t →
        content_refusal (record { header = h; records = rs }) size ≡
        buffer_refusal h (stored_all h (replicate size 0) rs) (any_record (outside h) rs) (any_record (forbidden h) rs)
    go true e = rw (long, register_part h size (leb-true (h.n * h.n) size e) a)
    go false e = rw (long, e)

-- a register that is read, with the rest from the byte `next` on
abbrev pub done : Header → ℕ → RegisterRead
done h next = record { answer = 0; at = 0; header = h; next = next }

module _ (text buffer : List ℕ) (h : Header) (at : ℕ) where
  -- the records from the byte `at` on
  read : Reading (List Record)
  read = records_from (length (drop at text)) first (drop at text)

  -- a bad line
  pub judged-bad :
      {line : ℕ} {cells : List ℕ} → RecordsTold (records_at text at h (length buffer)) (length buffer) (Err line) cells →
      RegisterTold (behind_header_at text buffer h at) (register_not 13 line (length text)) cells
  unfolding read records_at found_at found_on answer_of cells_of behind_header_at with_header judged register_refused register_answer register_not
  judged-bad {line} {cells} told = go read refl
    where
      go : (x : Reading (List Record)) → read ≡ x → RegisterTold (behind_header_at text buffer h at) (register_not 13 line (length text)) cells
      go (bad_at l) q =
          let answer : ◌≡◌ {A = Result RecordsEnd ℕ} (Err line) (Err (offset text l)) = rw q at told.answer in
          let zero : cells ≡ replicate (length buffer) 0 = rw q at told.buffer in
          let same : line ≡ offset text l = cc in
          rw q record { answer = rw same refl; buffer = zero }
      go (got rs rest) q =
          let answer : ◌≡◌ {A = Result RecordsEnd ℕ} (Err line) (Ok (record { outside = any_record (outside h) rs; forbidden = any_record (forbidden h) rs; next = offset text rest })) =
          rw q at told.answer
          in
          never (cc)

  -- all records, with what is found of them
  record AllRead (found : RecordsEnd) (cells : List ℕ) : Type 0 where
    records : List Record
    rest : List ℕ
    was : read ≡ got records rest
    next_is : found.next ≡ offset text rest
    long : length cells ≡ length buffer
    refusal_is : content_refusal (record { header = h; records = records }) (length buffer) ≡ buffer_refusal h cells found.outside found.forbidden
    done_is : h.n * h.n ≤ length buffer → cells ≡ filled h records ++ replicate (length buffer - length (filled h records)) 0

  all_read : {found : RecordsEnd} {cells : List ℕ} → RecordsTold (records_at text at h (length buffer)) (length buffer) (Ok found) cells → AllRead found cells
  unfolding read records_at found_at found_on answer_of cells_of
  all_read {found} {cells} told = go read refl
    where
      go : (x : Reading (List Record)) → read ≡ x → AllRead found cells
      go (bad_at l) q =
          let answer : ◌≡◌ {A = Result RecordsEnd ℕ} (Ok found) (Err (offset text l)) = rw q at told.answer in
          never (cc)
      go (got rs rest) q =
          let answer : ◌≡◌ {A = Result RecordsEnd ℕ} (Ok found) (Ok (record { outside = any_record (outside h) rs; forbidden = any_record (forbidden h) rs; next = offset text rest })) =
          rw q at told.answer
          in
          let is : found ≡ record { outside = any_record (outside h) rs; forbidden = any_record (forbidden h) rs; next = offset text rest } = cc in
          let all : cells ≡ stored_all h (replicate (length buffer) 0) rs = rw q at told.buffer in
          let ascends = (records_read (length (drop at text)) first (drop at text) rs rest before_first q).ascending in
          record {
            records = rs;
            rest = rest;
            was = q;
            next_is = ap (λ f. f.next) is;
            long = ap length all ∙ all_stored_length h (replicate (length buffer) 0) rs ∙ length-replicate (length buffer) 0;
            refusal_is = content_refusal_lem h rs (length buffer) ascends ∙ (rw (all, is) refl);
            done_is = λ room. all ∙ stored-filled h (length buffer) room ascends ∙ (rw (length-filled h rs) refl);
          }

  -- nothing is refused
  pub judged-done :
      {found : RecordsEnd} {cells : List ℕ} → RecordsTold (records_at text at h (length buffer)) (length buffer) (Ok found) cells →
      0 ≡ buffer_refusal h cells found.outside found.forbidden → RegisterTold (behind_header_at text buffer h at) (done h found.next) cells
  unfolding read behind_header_at with_header judged register_done register_answer
  judged-done told zero =
      let a = all_read told in
      let none : content_refusal (record { header = h; records = a.records }) (length buffer) ≡ 0 = a.refusal_is ∙ sym zero in
      rw (a.was, eq-eqb _ 0 none)
      record { answer = ap (done h) a.next_is; buffer = a.done_is (accepted (record { header = h; records = a.records }) (length buffer) none).room_ok }

  -- something is
  pub judged-not :
      {found : RecordsEnd} {cells : List ℕ} (r : Refusal) → RecordsTold (records_at text at h (length buffer)) (length buffer) (Ok found) cells →
      number r ≡ buffer_refusal h cells found.outside found.forbidden →
      RegisterTold (behind_header_at text buffer h at) (register_not (number r) 0 (length text)) (replicate (length cells) 0)
  unfolding read behind_header_at with_header judged register_refused register_answer register_not
  judged-not r told e =
      let a = all_read told in
      let some_is : content_refusal (record { header = h; records = a.records }) (length buffer) ≡ number r = a.refusal_is ∙ sym e in
      rw (a.was, some_is, ne_eqb (number r) 0 (number-nonzero r)) record { answer = refl; buffer = ap (λ n. replicate n 0) a.long }

module _ (text buffer : List ℕ) where
  -- a header, and what is read behind it
  pub record HeaderFound (h : Header) (next : ℕ) : Type 0 where
    pub within : next ≤ length text
    pub behind : register_read text buffer ≡ behind_header_at text buffer h next

  pub header-found : {h : Header} {next : ℕ} → header_in text ≡ Ok (h, next) → HeaderFound h next
  unfolding header_in header_read register_read content_of behind_header behind_header_at offset
  header-found {h} {next} e = go (lines_of header_lines text) refl e
    where
      go : (x : Reading (List ℕ)) → lines_of header_lines text ≡ x → header_read text x ≡ Ok (h, next) → HeaderFound h next
      go (bad_at line) q f = never (cc)
      go (got vs rest) q f =
          let pair : ◌≡◌ {A = Header × ℕ} (header_of vs, offset text rest) (h, next) = cc in
          let same : header_of vs ≡ h = ap (λ p. p.0) pair in
          let place : offset text rest ≡ next = ap (λ p. p.1) pair in
          let part : rest ≡ drop next text = rw place at (rest_by_offset (lines_text header_lines vs) rest text (lines_read header_lines text vs rest q).written) in
          record { within = rw (← place) (omega arith); behind = rw (q, same, part) refl }

  -- no header
  pub header-missing : {line : ℕ} → header_in text ≡ Err line → RegisterTold (register_read text buffer) (register_not 13 line (length text)) (replicate (length buffer) 0)
  unfolding header_in header_read register_read content_of behind_header judged register_refused register_answer register_not
  header-missing {line} e = go (lines_of header_lines text) refl e
    where
      go : (x : Reading (List ℕ)) → lines_of header_lines text ≡ x → header_read text x ≡ Err line →
          RegisterTold (register_read text buffer) (register_not 13 line (length text)) (replicate (length buffer) 0)
      go (bad_at l) q f = let same : offset text l ≡ line = cc in rw (q, same) record { answer = refl; buffer = refl }
      go (got vs rest) q f = never (cc)
