-- A bad line is a part of the caller's text: the offset that 13 gives is where that part begins.
use Prim.Native.Nat.{ℕ, zero, suc}
use mathlib.Core.Path.{◌≡◌, refl}
use mathlib.Core.Bool.{Bool, true, false, cond}
use mathlib.Core.List.{List, [], ◌∷◌, ◌++◌, append_assoc}
use lib.ListN.{length, drop}
use Rattle.wording.specs.Word.{Kind, by_line, to_line, perm_line}
use Rattle.wording.specs.Line.{Line, value, bad, line_of, line_text}
use Rattle.wording.specs.Lines.{offset, Reading, got, bad_at, and_before, lines_of, lines_text, header_lines, header_of, command_lines}
use Rattle.wording.specs.Records.{Record, first, record_text, by_may, to_may, perm_may, with_perm, with_to, with_by, record_from, records_from}
use Rattle.wording.specs.RegisterReader.{with_header, behind_header, content_of}
use Rattle.wording.proofs.Truth.{never}
use Rattle.wording.proofs.Line.{line_read_lem}
use Rattle.wording.proofs.Lines.{rest_by_offset, lines_read}
use Rattle.wording.proofs.Records.{Before, before_first, before_next, record_read_lem, records_end, records-more, records-bad, records-cases}

-- the text ends with the part
record EndsWith (text part : List ℕ) : Type 0 where
  front : List ℕ
  whole : front ++ part ≡ text

itself : (text : List ℕ) → EndsWith text text
itself text = record { front = []; whole = refl }

behind : (text front rest part : List ℕ) → front ++ rest ≡ text → EndsWith rest part → EndsWith text part
behind text front rest part e w = record { front = front ++ w.front; whole = simp append_assoc (rw w.whole e) }

-- if the reading is bad at a line, the text ends with what begins there
abbrev BadWithin : {A : Type 0} → List ℕ → Reading A → Type 0
BadWithin text (got a rest) = Unit {0}
BadWithin text (bad_at line) = EndsWith text line

bad_before : {A : Type 0} (text : List ℕ) (a : A) (x : Reading (List A)) → BadWithin text x → BadWithin text (and_before a x)
unfolding and_before
bad_before text a (got read rest) w = tt
bad_before text a (bad_at line) w = w

bad_behind : {A : Type 0} (text front rest : List ℕ) (x : Reading A) → front ++ rest ≡ text → BadWithin rest x → BadWithin text x
bad_behind text front rest (got a s) e w = tt
bad_behind text front rest (bad_at line) e w = behind text front rest line e w

lines_within : (kinds : List Kind) (text : List ℕ) → BadWithin text (lines_of kinds text)
unfolding lines_of
lines_within [] text = tt
lines_within (k ∷ kinds) text = go (λ rest. lines_within kinds rest) (line_of k text) refl
  where
    go : ((rest : List ℕ) → BadWithin rest (lines_of kinds rest)) → (l : Line) → line_of k text ≡ l →
        BadWithin {A = List ℕ} text (elim l as (λ _. Reading (List ℕ)) [ value v rest ↦ and_before v (lines_of kinds rest) | bad ↦ bad_at text ])
    go ih (value v rest) q =
        bad_before text v (lines_of kinds rest)
        (bad_behind text (line_text k v) rest (lines_of kinds rest) (line_read_lem k text v rest q).written (ih rest))
    go ih bad q = itself text

bad_if : {A : Type 0} (t : Bool) (text : List ℕ) (x : Reading A) → BadWithin text x → BadWithin text (cond t x (bad_at text))
bad_if true text x w = w
bad_if false text x w = itself text

perm_within : (last : Record) (i j : ℕ) (text : List ℕ) (l : Line) → line_of perm_line text ≡ l → BadWithin text (with_perm last i j text l)
unfolding with_perm
perm_within last i j text (value p rest) q = bad_if (perm_may last i j p) text (got (record { by = i; to = j; perm = p }) rest) tt
perm_within last i j text bad q = itself text

to_within : (last : Record) (i : ℕ) (text : List ℕ) (l : Line) → line_of to_line text ≡ l → BadWithin text (with_to last i text l)
unfolding with_to
to_within last i text (value j rest) q =
    let x = with_perm last i j rest (line_of perm_line rest) in
    bad_if (to_may last i j) text x
    (bad_behind text (line_text to_line j) rest x (line_read_lem to_line text j rest q).written (perm_within last i j rest (line_of perm_line rest) refl))
to_within last i text bad q = itself text

by_within : (last : Record) (text : List ℕ) (l : Line) → line_of by_line text ≡ l → BadWithin text (with_by last text l)
unfolding with_by
by_within last text (value i rest) q =
    let x = with_to last i rest (line_of to_line rest) in
    bad_if (by_may last i) text x
    (bad_behind text (line_text by_line i) rest x (line_read_lem by_line text i rest q).written (to_within last i rest (line_of to_line rest) refl))
by_within last text bad q = itself text

record_within : (last : Record) (text : List ℕ) → BadWithin text (record_from last text)
unfolding record_from
record_within last text = by_within last text (line_of by_line text) refl

records_within : (k : ℕ) (last : Record) (text : List ℕ) → Before last → BadWithin text (records_from k last text)
unfolding records_from
records_within zero last text f = itself text
records_within (suc k) last text f =
    records-cases last text
    (λ s q. rw (records_end k last text s q) tt)
    (λ line q w. rw (records-bad k last text line q w) (rw w at (record_within last text)))
    (λ r s q w.
    let one = record_read_lem last text r s f w in
    rw (records-more k last text r s q w)
    (bad_before text r (records_from k r s)
    (bad_behind text (record_text r) s (records_from k r s) one.written (records_within k r s (before_next r one.proper)))))

header_within : (h : List ℕ) (x : Reading (List Record)) (text : List ℕ) → BadWithin text x → BadWithin text (with_header (header_of h) x)
unfolding with_header
header_within h (got rs rest) text w = tt
header_within h (bad_at line) text w = w

content_within : (text : List ℕ) → BadWithin text (content_of text)
unfolding content_of behind_header
content_within text = go (lines_of header_lines text) refl (lines_within header_lines text)
  where
    go : (x : Reading (List ℕ)) → lines_of header_lines text ≡ x → BadWithin text x → BadWithin text (behind_header x)
    go (bad_at line) q w = w
    go (got vs rest) q w =
        let l = lines_read header_lines text vs rest q in
        let x = records_from (length rest) first rest in
        header_within vs x text
        (bad_behind text (lines_text header_lines vs) rest x l.written (records_within (length rest) first rest before_first))

by-offset : {A : Type 0} (text line : List ℕ) (x : Reading A) → x ≡ bad_at line → BadWithin text x → line ≡ drop (offset text line) text
by-offset text line (got a rest) e w = never (cc)
by-offset text line (bad_at other) e w =
    let same : other ≡ line = cc in
    rest_by_offset w.front line text (rw same at w.whole)

-- the bad line of a register's text begins at the offset that is given with 13, and so does that of a command's
pub register_bad_line : (text line : List ℕ) → content_of text ≡ bad_at line → line ≡ drop (offset text line) text
register_bad_line text line e = by-offset text line (content_of text) e (content_within text)

pub command_bad_line : (text line : List ℕ) → lines_of command_lines text ≡ bad_at line → line ≡ drop (offset text line) text
command_bad_line text line e = by-offset text line (lines_of command_lines text) e (lines_within command_lines text)
