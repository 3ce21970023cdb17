-- What a caller learns from a line reader's answer.
use Prim.Native.Nat.{ℕ, ◌≤◌}
use mathlib.Core.Path.{◌≡◌, refl, sym, ap}
use mathlib.Core.Logic.{⊎_elim}
use mathlib.Core.Bool.{Bool, true, ◌&&◌}
use mathlib.Core.List.{List, [], ◌∷◌}
use native.Mathlib.Omega.{arith}
use lib.Dec.{eqb, leb}
use lib.ListN.{length, drop}
use borrow.Author.Tests.{eqb-true, leb-true}
use Rattle.theory.proofs.Tests.{left_of, right_of, either}
use Rattle.theory.proofs.Below.{below_or_not}
use Rattle.wording.specs.Word.{Choice, Kind, act_line, perm_line, acts, perms, form, worded, end_text}
use Rattle.wording.specs.Line.{Line, value, bad, line_of, line_text, fits, otherwise, after_word}
use Rattle.wording.specs.Lines.{offset}
use Rattle.wording.proofs.Line.{line_read_lem}
use Rattle.wording.proofs.Lines.{rest_within}
use Rattle.wording.proofs.Truth.{never}
use Rattle.numbers.specs.Line.{line_read}
use Rattle.lines.specs.Read.{line_at, end_at}
use Rattle.std.specs.declared.option.Option.TheVariants.{Some, None}
use Rattle.lines.proofs.Words.{no_line, no_end, WordFound, word-found, other_word}

-- a line with a value: what the definitions read there, and that the next line starts within the text
pub record LineFound (text : List ℕ) (at : ℕ) (k : Kind) (v next : ℕ) : Type 0 where
  pub read : line_of k (drop at text) ≡ value v (drop next text)
  pub within : next ≤ length text
  pub fit : fits (form k) v ≡ true

pub line_found : (text : List ℕ) (at : ℕ) (k : Kind) (v next : ℕ) → line_at text at k ≡ Some (v, next) → LineFound text at k v next
unfolding line_at line_read
line_found text at k v next e = ⊎_elim (λ past. never (cc (no_line text at k past))) (λ h. go h (line_of k (drop at text)) refl e) (below_or_not (length text) at)
  where
    go : at ≤ length text → (l : Line) → line_of k (drop at text) ≡ l → line_read text l ≡ Some (v, next) → LineFound text at k v next
    go h (value w rest) q f =
        let one = line_read_lem k (drop at text) w rest q in
        let place = rest_within text at (line_text k w) rest h one.written in
        let pair : ◌≡◌ {A = ℕ × ℕ} (w, offset text rest) (v, next) = cc in
        let same : w ≡ v = ap (λ p. p.0) pair in
        let n : offset text rest ≡ next = ap (λ p. p.1) pair in
        let part : rest ≡ drop next text = rw n at place.part in
        let inside : next ≤ length text = rw n at place.fits in
        let fit : fits (form k) v ≡ true = rw same at one.fit in
        record { read = cc; within = inside; fit = fit }
    go h bad q f = never (cc)

-- a bad line
pub line_bad : (text : List ℕ) (at : ℕ) (k : Kind) → line_at text at k ≡ None → line_of k (drop at text) ≡ bad
unfolding line_at line_read
line_bad text at k e = go (line_of k (drop at text)) e
  where
    go : (l : Line) → line_read text l ≡ None → l ≡ bad
    go (value v rest) f = never (cc)
    go bad f = refl

-- the end line, and another
pub end_found : (text : List ℕ) (at next : ℕ) → end_at text at ≡ Some next → WordFound text at end_text next
unfolding end_at
end_found text at next e = ⊎_elim (λ past. never (cc (no_end text at past))) (λ h. word-found text at end_text next h (sym e)) (below_or_not (length text) at)

pub end_other : (text : List ℕ) (at : ℕ) → end_at text at ≡ None → after_word end_text (drop at text) ≡ otherwise
unfolding end_at
end_other text at e = other_word text (after_word end_text (drop at text)) (sym e)

-- the numbers of the words are small
all_up_to : ℕ → List Choice → Bool
all_up_to m [] = true
all_up_to m (c ∷ cs) = leb c.number m && all_up_to m cs

worded-small : (m : ℕ) (cs : List Choice) (v : ℕ) → all_up_to m cs ≡ true → worded cs v ≡ true → v ≤ m
unfolding all_up_to worded
worded-small m [] v s e = never (cc)
worded-small m (c ∷ cs) v s e =
    ⊎_elim (λ q. omega (arith, eqb-true v c.number q, leb-true c.number m (left_of (leb c.number m) (all_up_to m cs) s)))
    (λ q. worded-small m cs v (right_of (leb c.number m) (all_up_to m cs) s) q) (either (eqb v c.number) (worded cs v) e)

pub act-small : (v : ℕ) → fits (form act_line) v ≡ true → v ≤ 4
unfolding fits form acts all_up_to
act-small v e = worded-small 4 acts v refl e

pub perm-small : (v : ℕ) → fits (form perm_line) v ≡ true → v ≤ 8
unfolding fits form perms all_up_to
perm-small v e = worded-small 8 perms v refl e
