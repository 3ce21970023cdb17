-- The loop over the records: what it has found so far, and what each turn makes of that.
use Prim.Native.Nat.{ℕ, ◌+◌, ◌≤◌, ◌<◌}
use mathlib.Core.Path.{◌≡◌, refl, sym, ap, ◌∙◌}
use mathlib.Core.Bool.{Bool, true, false, ◌||◌, or_assoc, or-false, cond}
use mathlib.Core.List.{List}
use native.Mathlib.Omega.{arith}
use lib.ListN.{length, drop, set, length-set}
use Rattle.rights.specs.declared.Header.{Header}
use Rattle.wording.specs.Lines.{Reading, got, bad_at, and_before, offset}
use Rattle.wording.specs.Records.{Record, first, record_text, record_from}
use Rattle.wording.specs.RegisterReader.{any_record, outside, forbidden}
use Rattle.wording.proofs.Truth.{never}
use Rattle.wording.proofs.Lines.{rest_within}
use Rattle.wording.proofs.Records.{Before, before_first, before_next, record_read_lem, record_long}
use Rattle.wording.proofs.Steps.{records_on, step_end, step_more, step_bad}
use Rattle.lines.specs.Read.{end_at}
use Rattle.std.specs.declared.option.Option.TheVariants.{Some, None}
use Rattle.std.specs.declared.result.Result.TheVariants.{Ok, Err}
use Rattle.numbers.proofs.Byte.{offset-drop}
use Rattle.lines.proofs.Found.{end_found, end_other}
use Rattle.records.specs.Read.{text_record, typed_record, record_read}
use Rattle.records.specs.Stored.{place_of, room_for, stored_one, stored_all, stopped, found_on, found_at, found_is}
use Rattle.records.specs.declared.Record as Read

-- one record more, and what is left gives what the whole gives
found-more :
    (text : List ℕ) (h : Header) (out barred : Bool) (cells : List ℕ) (r : Record) (x : Reading (List Record)) →
    found_on text h out barred cells (and_before r x) ≡ found_on text h (out || outside h r) (barred || forbidden h r) (stored_one h cells r) x
unfolding found_on and_before any_record stored_all
found-more text h out barred cells r (got rs rest) =
    rw (or_assoc out (outside h r) (any_record (outside h) rs), or_assoc barred (forbidden h r) (any_record (forbidden h) rs))
found-more text h out barred cells r (bad_at line) = refl

pub stored-length : (h : Header) (cells : List ℕ) (r : Record) → length (stored_one h cells r) ≡ length cells
unfolding stored_one
stored-length h cells r = go (room_for h (length cells) r) _
  where
    go : (t : Bool) (v : ℕ) → length (cond t (set cells (place_of h r) v) cells) ≡ length cells
    go true v = length-set cells (place_of h r) v
    go false v = refl

-- the byte `at` comes next, behind the last record: what is left gives what the whole gives
pub record ScanSoFar
    (text : List ℕ) (start : ℕ) (h : Header) (cells₀ cells : List ℕ) (at : ℕ) (last : Record) (out barred : Bool) : Type 0 where
  pub within : at ≤ length text
  pub before : Before last
  pub as_long : length cells ≡ length cells₀
  pub left : found_on text h out barred cells (records_on last (drop at text)) ≡ found_at text start h cells₀

pub scan_start : (text : List ℕ) (start : ℕ) (h : Header) (cells : List ℕ) → start ≤ length text → ScanSoFar text start h cells cells start first false false
unfolding found_at
scan_start text start h cells within = record { within = within; before = before_first; as_long = refl; left = refl }

module _ {text : List ℕ} {start : ℕ} {h : Header} {cells₀ cells : List ℕ} {at : ℕ} {last : Record} {out barred : Bool}
    (s : ScanSoFar text start h cells₀ cells at last out barred) where
  -- at the end line
  pub scan_end : (next : ℕ) → end_at text at ≡ Some next → found_is (Ok (record { outside = out; forbidden = barred; next = next })) cells ≡ found_at text start h cells₀
  unfolding found_is found_on any_record stored_all
  scan_end next e =
      let w = end_found text at next e in
      rw (← s.left, step_end last (drop at text) (drop next text) s.before w.behind, or-false out, or-false barred, offset-drop text next w.within) refl

  -- at a bad line
  pub scan_bad : (line : ℕ) → end_at text at ≡ None → record_read text (record_from last (drop at text)) ≡ Err line → found_is (Err line) cells ≡ found_at text start h cells₀
  unfolding found_is found_on record_read
  scan_bad line e q = go (record_from last (drop at text)) refl q
    where
      go : (x : Reading Record) → record_from last (drop at text) ≡ x → record_read text x ≡ Err line → stopped line ≡ found_at text start h cells₀
      go (bad_at l) w f =
          let n : offset text l ≡ line = cc in
          rw (← s.left, step_bad last (drop at text) l s.before (end_other text at e) w, n) refl
      go (got r rest) w f = never (cc)

  -- at a record: the state behind it, which is further on
  pub record MoreRead (told : Record) (next : ℕ) : Type 0 where
    pub state : ScanSoFar text start h cells₀ (stored_one h cells told) next told (out || outside h told) (barred || forbidden h told)
    pub further : at < next

  pub scan_more : (told : Read.Record) (next : ℕ) → end_at text at ≡ None → record_read text (record_from last (drop at text)) ≡ Ok (told, next) → MoreRead (text_record told) next
  unfolding record_read typed_record text_record
  scan_more told next e q = go (record_from last (drop at text)) refl q
    where
      go : (x : Reading Record) → record_from last (drop at text) ≡ x → record_read text x ≡ Ok (told, next) → MoreRead (text_record told) next
      go (bad_at l) w f = never (cc)
      go (got r rest) w f =
          let one = record_read_lem last (drop at text) r rest s.before w in
          let place = rest_within text at (record_text r) rest s.within one.written in
          let pair : ◌≡◌ {A = Read.Record × ℕ} (typed_record r, offset text rest) (told, next) = cc in
          let same : typed_record r ≡ told = ap (λ p. p.0) pair in
          let n : offset text rest ≡ next = ap (λ p. p.1) pair in
          let part : rest ≡ drop next text = rw n at place.part in
          let inside : next ≤ length text = rw n at place.fits in
          let far : next ≡ at + length (record_text r) = rw n at place.next in
          let w' : record_from last (drop at text) ≡ got r (drop next text) = rw part at w in
          let state : ScanSoFar text start h cells₀ (stored_one h cells r) next r (out || outside h r) (barred || forbidden h r) =
          record {
            within = inside;
            before = before_next r one.proper;
            as_long = stored-length h cells r ∙ s.as_long;
            left =
                sym (found-more text h out barred cells r (records_on r (drop next text)))
                ∙ ap (found_on text h out barred cells) (sym (step_more last (drop at text) r (drop next text) s.before (end_other text at e) w'))
                ∙ s.left;
          }
          in
          rw (← same) record { state = state; further = omega (arith, record_long r) }
