-- Register text: what is read is written again, what is written is read again, and the rest is the caller's own text.
use Prim.Native.Nat.{ℕ, ◌*◌, ◌-◌, ◌≤◌}
use mathlib.Core.Path.{◌≡◌, refl, sym, ap, ◌∙◌}
use mathlib.Core.Bool.{Bool, true, false, cond}
use mathlib.Core.List.{List, ◌++◌}
use native.Mathlib.Omega.{arith}
use lib.Dec.{eqb}
use lib.ListN.{length, take, drop, replicate}
use lib.Seq.{drop-length, take_at}
use borrow.Author.Tests.{eqb-true, eqb-false, eq-eqb, le-leb}
use Rattle.rights.specs.declared.Header.{Header}
use Rattle.rights.specs.Sound.{headed, whole, sound}
use Rattle.wording.specs.Word.{form}
use Rattle.wording.specs.Line.{fits}
use Rattle.wording.specs.Lines.{offset, Reading, got, bad_at, all_fit, header_lines, header_values}
use Rattle.wording.specs.Records.{register_text}
use Rattle.wording.specs.RegisterReader.{Content, content_of, filled, content_refusal, RegisterRead, register_done, register_refused, judged, register_read}
use Rattle.theory.proofs.Ready.{headed_high, headed_inside}
use Rattle.theory.proofs.Sound.{sound-cells}
use Rattle.wording.proofs.Lines.{offset_behind, rest_by_offset}
use Rattle.wording.proofs.Filled.{length-filled, filled_all, all_filled}
use Rattle.wording.proofs.CellRecords.{all_records, all_ascending}
use Rattle.wording.proofs.Content.{content_text, register_text_lem, content_read, content_written}
use Rattle.wording.proofs.Accepted.{accepted, accepted_sound, not-refused, inside, wider}

-- the cells that a reader has written
abbrev pub cells_of : RegisterRead → List ℕ
cells_of r = take (r.header.n * r.header.n) r.buffer

-- how a reading of a register may end
data Ended (text buffer : List ℕ) : Type 0 where
  done :
      (t : Content) (rest : List ℕ) → content_of text ≡ got t rest → content_refusal t (length buffer) ≡ 0 →
      register_read text buffer ≡ register_done text buffer t.header (filled t.header t.records) rest → Ended text buffer
  refused : (number at : ℕ) → (number ≡ 0 → ⊥) → register_read text buffer ≡ register_refused text buffer number at → Ended text buffer

ended : (text buffer : List ℕ) → Ended text buffer
unfolding register_read judged
ended text buffer = at_content (content_of text) refl
  where
    at-refusal : (t : Content) (rest : List ℕ) → content_of text ≡ got t rest → (x : Bool) → eqb (content_refusal t (length buffer)) 0 ≡ x → Ended text buffer
    at-refusal t rest q true w = done t rest q (eqb-true (content_refusal t (length buffer)) 0 w) (rw (q, w))
    at-refusal t rest q false w = refused (content_refusal t (length buffer)) 0 (eqb-false (content_refusal t (length buffer)) 0 w) (rw (q, w))

    at_content : (x : Reading Content) → content_of text ≡ x → Ended text buffer
    at_content (bad_at line) q = refused 13 (offset text line) (λ z. omega arith) (rw q)
    at_content (got t rest) q = at-refusal t rest q (eqb (content_refusal t (length buffer)) 0) refl

-- what a refusal answers is not 0
not_zero : (text buffer : List ℕ) (number at : ℕ) → register_read text buffer ≡ register_refused text buffer number at → (register_read text buffer).answer ≡ 0 → number ≡ 0
unfolding register_refused
not_zero text buffer number at s e = sym (ap (λ (r : RegisterRead). r.answer) s) ∙ e

-- the cells written are the register of the content
cells-done : (text buffer : List ℕ) (t : Content) (rest : List ℕ) → cells_of (register_done text buffer t.header (filled t.header t.records) rest) ≡ filled t.header t.records
unfolding register_done
cells-done text buffer t rest = take_at (filled t.header t.records) _ _ (length-filled t.header t.records)

-- a register text that is accepted, written again from the header and the cells read, is that text up to the part handed back
pub register_read-written :
    (text buffer : List ℕ) → (register_read text buffer).answer ≡ 0 →
    register_text (register_read text buffer).header (cells_of (register_read text buffer)) ++ (register_read text buffer).rest ≡ text
unfolding register_done
register_read-written text buffer e = go (ended text buffer)
  where
    go : Ended text buffer → register_text (register_read text buffer).header (cells_of (register_read text buffer)) ++ (register_read text buffer).rest ≡ text
    go (done t rest q zero-refusal s) =
        let a = accepted t (length buffer) zero-refusal in
        let small = headed_high t.header a.headed_ok in
        let narrow : t.header.n ≤ 65536 = omega arith in
        let c = content_read text t rest q in
        let same = all_filled t.header narrow (inside t.header a.inside_ok c.ascending) in
        rw (s, cells-done text buffer t rest, register_text_lem t.header (filled t.header t.records), same) c.written
    go (refused number at some s) = absurd (some (not_zero text buffer number at s e))

-- a register that is read has a header in range, n·n cells, and is sound
pub record SoundRead (r : RegisterRead) : Type 0 where
  pub headed_read : headed r.header ≡ true
  pub whole_read : whole r.header (cells_of r) ≡ true
  pub sound_read : sound r.header (cells_of r) ≡ true

pub register_read-sound : (text buffer : List ℕ) → (register_read text buffer).answer ≡ 0 → SoundRead (register_read text buffer)
unfolding register_done whole
register_read-sound text buffer e = go (ended text buffer)
  where
    go : Ended text buffer → SoundRead (register_read text buffer)
    go (done t rest q zero-refusal s) =
        let a = accepted t (length buffer) zero-refusal in
        let cells = cells-done text buffer t rest in
        rw s
        record {
          headed_read = a.headed_ok;
          whole_read = rw cells (eq-eqb _ _ (length-filled t.header t.records));
          sound_read = rw cells a.sound_ok;
        }
    go (refused number at some s) = absurd (some (not_zero text buffer number at s e))

-- the rest, and a bad line, start within the text or at its end
pub register_within : (text buffer : List ℕ) → ((register_read text buffer).next ≤ length text) × ((register_read text buffer).at ≤ length text)
unfolding register_read judged register_done register_refused offset
register_within text buffer = go (content_of text)
  where
    either : (t : Bool) (c : Content) (rest : List ℕ) →
        let r = cond t (register_done text buffer c.header (filled c.header c.records) rest) (register_refused text buffer (content_refusal c (length buffer)) 0) in
        (r.next ≤ length text) × (r.at ≤ length text)
    either true c rest = (omega arith, omega arith)
    either false c rest = (omega arith, omega arith)

    go : (x : Reading Content) → ((judged text buffer x).next ≤ length text) × ((judged text buffer x).at ≤ length text)
    go (got c rest) = either (eqb (content_refusal c (length buffer)) 0) c rest
    go (bad_at line) = (omega arith, omega arith)

-- the part handed back is the caller's text from `next` on
pub register-rest : (text buffer : List ℕ) → (register_read text buffer).rest ≡ drop (register_read text buffer).next text
unfolding register_done register_refused
register-rest text buffer = go (ended text buffer)
  where
    go : Ended text buffer → (register_read text buffer).rest ≡ drop (register_read text buffer).next text
    go (done t rest q zero-refusal s) = rw s (rest_by_offset (content_text t) rest text (content_read text t rest q).written)
    go (refused number at some s) = rw s (sym (drop-length text))

-- the values of a header fit their lines
header-fits : (h : Header) → headed h ≡ true → h.layer.0 ≤ 65535 → all_fit header_lines (header_values h) ≡ true
unfolding all_fit header_lines header_values fits form
header-fits h head layer =
    let small = headed_high h head in
    let soa = headed_inside h head in
    rw (le-leb h.n 65535 (omega arith), le-leb h.soa.0 65535 (omega arith), le-leb h.layer.0 65535 layer)

-- a sound register, written by header, rows and end and read with more text behind it, is the same register and header with that
-- text as the rest
pub register_written_read :
    (h : Header) (R buffer behind : List ℕ) → headed h ≡ true → whole h R ≡ true → sound h R ≡ true → h.layer.0 ≤ 65535 → h.n * h.n ≤ length buffer →
    register_read (register_text h R ++ behind) buffer ≡
    record {
      answer = 0;
      at = 0;
      header = h;
      buffer = R ++ replicate (length buffer - length R) 0;
      next = length (register_text h R);
      rest = behind;
    }
unfolding register_read judged register_done whole
register_written_read h R buffer behind head full tested layer room =
    let t : Content = record { header = h; records = all_records h R } in
    let small = headed_high h head in
    let narrow : h.n ≤ 65536 = omega arith in
    let read : content_of (register_text h R ++ behind) ≡ got t behind =
    rw (register_text_lem h R) (content_written t behind (header-fits h head layer) (wider 65536 narrow (all_ascending h R narrow)))
    in
    let zero-refusal = not-refused t (length buffer) (accepted_sound h R (length buffer) head full tested room) in
    let same = filled_all h R narrow (eqb-true (length R) (h.n * h.n) full) (λ i j hi hj. ((sound-cells h R).0 tested i j hi hj).small) in
    rw (read, zero-refusal, same, offset_behind)
