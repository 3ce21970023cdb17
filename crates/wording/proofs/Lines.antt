-- Lines one after the other: what is read is written again, and what is written is read again.
use Prim.Native.Nat.{ℕ, suc, ◌+◌, ◌-◌, ◌≤◌}
use mathlib.Core.Path.{◌≡◌, refl, sym, ap, ◌∙◌}
use mathlib.Core.Bool.{true}
use mathlib.Core.List.{List, [], ◌∷◌, ◌++◌, append_assoc}
use native.Mathlib.Omega.{arith}
use lib.ListN.{length, drop, length-append, length-drop}
use lib.Seq.{drop_at, drop-drop, drop-append_seam}
use Rattle.theory.proofs.Tests.{left_of, right_of}
use Rattle.wording.proofs.Truth.{never}
use Rattle.wording.proofs.Line.{line_read_lem, line_written}
use Rattle.wording.specs.Word.{Kind, form}
use Rattle.wording.specs.Line.{Line, value, bad, line_of, fits}
use Rattle.wording.specs.Lines.{offset, Reading, got, bad_at, and_before, lines_of, lines_text, all_fit}

-- the part that a text ends with stands where the text before it ends
pub offset_behind : (front rest : List ℕ) → offset (front ++ rest) rest ≡ length front
unfolding offset
offset_behind front rest = simp length-append (omega arith)

-- the part that a text ends with, by its offset
pub rest_by_offset : (front rest text : List ℕ) → front ++ rest ≡ text → rest ≡ drop (offset text rest) text
rest_by_offset front rest text e = rw (← e) (sym (drop_at front rest _ (sym (offset_behind front rest))))

-- where a part stands that was read from the byte `at` on: behind what was read
pub record Within (text : List ℕ) (at : ℕ) (front rest : List ℕ) : Type 0 where
  pub next : offset text rest ≡ at + length front
  pub fits : offset text rest ≤ length text
  pub part : rest ≡ drop (offset text rest) text

pub rest_within : (text : List ℕ) (at : ℕ) (front rest : List ℕ) → at ≤ length text → front ++ rest ≡ drop at text → Within text at front rest
unfolding offset
rest_within text at front rest h e =
    let sizes : length front + length rest ≡ length text - at = sym (length-append front rest) ∙ ap length e ∙ length-drop at text in
    let next : length text - length rest ≡ at + length front = omega arith in
    record { next = next; fits = omega arith; part = rw (next, ← (drop-drop (length front) at text), ← e) (sym (drop-append_seam front rest)) }

-- what was read has an element before
pub got_before :
    {A : Type 0} (a : A) (r : Reading (List A)) (all : List A) (rest : List ℕ) → and_before a r ≡ got all rest →
    (read : List A) × (r ≡ got read rest) × (a ∷ read ≡ all)
unfolding and_before
got_before a (got read s) all rest e = (read, cc, cc)
got_before a (bad_at line) all rest e = never (cc)

-- lines that are read are the lines written from their values, which can be had
pub record LinesRead (kinds : List Kind) (text vs rest : List ℕ) : Type 0 where
  pub written : lines_text kinds vs ++ rest ≡ text
  pub fit : all_fit kinds vs ≡ true

pub lines_read : (kinds : List Kind) (text vs rest : List ℕ) → lines_of kinds text ≡ got vs rest → LinesRead kinds text vs rest
unfolding lines_of lines_text all_fit
lines_read [] text vs rest e = let none : [] ≡ vs = cc in rw (← none) record { written = cc; fit = refl }
lines_read (k ∷ kinds) text vs rest e = go (λ s us. lines_read kinds s us rest) (line_of k text) refl e
  where
    go : ((s us : List ℕ) → lines_of kinds s ≡ got us rest → LinesRead kinds s us rest) → (l : Line) → line_of k text ≡ l →
        elim l as (λ _. Reading (List ℕ)) [ value v s ↦ and_before v (lines_of kinds s) | bad ↦ bad_at text ] ≡ got vs rest →
        LinesRead (k ∷ kinds) text vs rest
    go ih (value v s) q f =
        let b = got_before v (lines_of kinds s) vs rest f in
        let l = line_read_lem k text v s q in
        let r = ih s b.0 b.1 in
        rw (← b.2) record { written = simp append_assoc (cc (r.written, l.written)); fit = rw l.fit r.fit }
    go ih bad q f = never (cc)

-- lines written from values that can be had are read as those values
pub lines_written : (kinds : List Kind) (vs rest : List ℕ) → all_fit kinds vs ≡ true → lines_of kinds (lines_text kinds vs ++ rest) ≡ got vs rest
unfolding lines_of lines_text all_fit and_before
lines_written [] [] rest e = refl
lines_written [] (v ∷ vs) rest e = never (cc)
lines_written (k ∷ kinds) [] rest e = never (cc)
lines_written (k ∷ kinds) (v ∷ vs) rest e =
    let ih = lines_written kinds vs rest (right_of (fits (form k) v) _ e) in
    let l = line_written k v (lines_text kinds vs ++ rest) (left_of _ _ e) in
    rw (append_assoc, l, lines_of) (rw ih)

pub fit_length : (kinds : List Kind) (vs : List ℕ) → all_fit kinds vs ≡ true → length vs ≡ length kinds
unfolding all_fit
fit_length [] [] e = refl
fit_length [] (v ∷ vs) e = never (cc)
fit_length (k ∷ kinds) [] e = never (cc)
fit_length (k ∷ kinds) (v ∷ vs) e = ap suc (fit_length kinds vs (right_of (fits (form k) v) _ e))
