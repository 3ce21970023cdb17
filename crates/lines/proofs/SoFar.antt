-- Lines of given kinds one after the other: what has been read so far, and what each line makes of that.
use Prim.Native.Nat.{ℕ, ◌≤◌}
use mathlib.Core.Path.{◌≡◌, refl, ap, ◌∙◌}
use mathlib.Core.List.{List, [], ◌∷◌, ◌++◌}
use native.Mathlib.Omega.{arith}
use lib.ListN.{length, drop}
use Rattle.wording.specs.Word.{Kind}
use Rattle.wording.specs.Lines.{Reading, got, bad_at, and_before, lines_of}
use Rattle.lines.specs.Read.{line_at}
use Rattle.std.specs.declared.option.Option.TheVariants.{Some, None}
use Rattle.lines.proofs.Found.{line_found, line_bad}

-- the values read so far, before what is read behind them
unfoldable pub behind : List ℕ → Reading (List ℕ) → Reading (List ℕ)
behind [] x = x
behind (v ∷ vs) x = and_before v (behind vs x)

behind_more : (vs : List ℕ) (v : ℕ) (x : Reading (List ℕ)) → behind vs (and_before v x) ≡ behind (vs ++ (v ∷ [])) x
unfolding behind
behind_more [] v x = refl
behind_more (w ∷ vs) v x = ap (and_before w) (behind_more vs v x)

behind_got : (vs rest : List ℕ) → behind vs (got [] rest) ≡ got vs rest
unfolding behind and_before
behind_got [] rest = refl
behind_got (v ∷ vs) rest = ap (and_before v) (behind_got vs rest)

behind_bad : (vs line : List ℕ) → behind vs (bad_at line) ≡ bad_at line
unfolding behind and_before
behind_bad [] line = refl
behind_bad (v ∷ vs) line = ap (and_before v) (behind_bad vs line)

-- of all the lines those with the values vs have been read; the kinds are left, from the byte `at` on
pub record LinesSoFar (text : List ℕ) (all kinds : List Kind) (vs : List ℕ) (at : ℕ) : Type 0 where
  pub within : at ≤ length text
  pub left : lines_of all text ≡ behind vs (lines_of kinds (drop at text))

-- before the first line
pub start : (text : List ℕ) (all : List Kind) → LinesSoFar text all all [] 0
unfolding behind
start text all = record { within = omega arith; left = refl }

module _ {text : List ℕ} {all kinds : List Kind} {k : Kind} {vs : List ℕ} {at : ℕ} (s : LinesSoFar text all (k ∷ kinds) vs at) where
  -- a line with a value
  pub lines_more : {v next : ℕ} → line_at text at k ≡ Some (v, next) → LinesSoFar text all kinds (vs ++ (v ∷ [])) next
  unfolding lines_of
  lines_more {v} {next} e =
      let f = line_found text at k v next e in
      let one : lines_of (k ∷ kinds) (drop at text) ≡ and_before v (lines_of kinds (drop next text)) = rw (f.read, lines_of) refl in
      record { within = f.within; left = s.left ∙ ap (behind vs) one ∙ behind_more vs v (lines_of kinds (drop next text)) }

  -- a bad line
  pub lines_stop : line_at text at k ≡ None → lines_of all text ≡ bad_at (drop at text)
  unfolding lines_of
  lines_stop e =
      let one : lines_of (k ∷ kinds) (drop at text) ≡ bad_at (drop at text) = rw (line_bad text at k e, lines_of) refl in
      s.left ∙ ap (behind vs) one ∙ behind_bad vs (drop at text)

-- all lines
pub lines_all : {text : List ℕ} {all : List Kind} {vs : List ℕ} {at : ℕ} → LinesSoFar text all [] vs at → lines_of all text ≡ got vs (drop at text)
unfolding lines_of
lines_all {text} {all} {vs} {at} s = s.left ∙ behind_got vs (drop at text)
