-- The reader of records without its bound: the text's length is bound enough, so each step leaves the reading of what is left.
use Prim.Native.Nat.{ℕ, zero, suc, ◌≤◌, ◌<◌}
use mathlib.Core.Path.{◌≡◌, refl, sym, ap, ◌∙◌}
use mathlib.Core.List.{List, [], ◌∷◌}
use native.Mathlib.Omega.{arith}
use lib.ListN.{length, length-append}
use Rattle.wording.specs.Word.{key, end_text}
use Rattle.wording.specs.Line.{after, otherwise, after_word, behind_key, line_of}
use Rattle.wording.specs.Lines.{Reading, got, bad_at, and_before}
use Rattle.wording.specs.Records.{Record, with_by, record_from, records_from}
use Rattle.wording.proofs.Records.{Before, before_next, record_read_lem, record_long, records_end, records-more, records-bad, records-cases}

-- with nothing left to read, a line is missing
records-missing : (k : ℕ) (last : Record) → records_from k last [] ≡ bad_at []
unfolding records_from after_word end_text record_from with_by line_of behind_key key
records-missing zero last = refl
records-missing (suc k) last = refl

-- what stands behind a record is shorter
pub record_shorter : (last : Record) (text : List ℕ) (r : Record) (rest : List ℕ) → Before last → record_from last text ≡ got r rest → length rest < length text
record_shorter last text r rest f e =
    let one = record_read_lem last text r rest f e in
    omega (arith, record_long r, simp length-append at (ap length one.written))

records-enough : (k l : ℕ) (last : Record) (text : List ℕ) → Before last → length text ≤ k → length text ≤ l → records_from k last text ≡ records_from l last text
records-enough zero l last [] f a b = records-missing zero last ∙ sym (records-missing l last)
records-enough zero l last (c ∷ text) f a b = let z : ⊥ = omega arith in absurd z
records-enough (suc k) zero last [] f a b = records-missing (suc k) last ∙ sym (records-missing zero last)
records-enough (suc k) zero last (c ∷ text) f a b = let z : ⊥ = omega arith in absurd z
records-enough (suc k) (suc l) last text f a b =
    records-cases last text
    (λ s q. records_end k last text s q ∙ sym (records_end l last text s q))
    (λ line q w. records-bad k last text line q w ∙ sym (records-bad l last text line q w))
    (λ r s q w.
    let shorter = record_shorter last text r s f w in
    let proper = (record_read_lem last text r s f w).proper in
    records-more k last text r s q w
    ∙ ap (and_before r) (records-enough k l r s (before_next r proper) (omega arith) (omega arith))
    ∙ sym (records-more l last text r s q w))

-- the records from here on
abbrev pub records_on : Record → List ℕ → Reading (List Record)
records_on last text = records_from (length text) last text

one_more : (last : Record) (text : List ℕ) → Before last → records_on last text ≡ records_from (suc (length text)) last text
one_more last text f = records-enough (length text) (suc (length text)) last text f (omega arith) (omega arith)

-- at the end line
pub step_end : (last : Record) (text rest : List ℕ) → Before last → after_word end_text text ≡ after rest → records_on last text ≡ got [] rest
step_end last text rest f e = one_more last text f ∙ records_end (length text) last text rest e

-- at a record: it, and what is left to read behind it
pub step_more :
    (last : Record) (text : List ℕ) (r : Record) (rest : List ℕ) → Before last → after_word end_text text ≡ otherwise → record_from last text ≡ got r rest →
    records_on last text ≡ and_before r (records_on r rest)
step_more last text r rest f e g =
    let shorter = record_shorter last text r rest f g in
    let proper = (record_read_lem last text r rest f g).proper in
    one_more last text f ∙ records-more (length text) last text r rest e g
    ∙ ap (and_before r) (records-enough (length text) (length rest) r rest (before_next r proper) (omega arith) (omega arith))

-- at a bad line
pub step_bad :
    (last : Record) (text line : List ℕ) → Before last → after_word end_text text ≡ otherwise → record_from last text ≡ bad_at line →
    records_on last text ≡ bad_at line
step_bad last text line f e g = one_more last text f ∙ records-bad (length text) last text line e g
