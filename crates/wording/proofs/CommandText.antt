-- Command text: what is read is written again, what is written is read again, and the rest is the caller's own text.
use Prim.Native.Nat.{ℕ, ◌≤◌}
use mathlib.Core.Path.{◌≡◌, refl, sym}
use mathlib.Core.Bool.{true}
use mathlib.Core.List.{List, [], ◌∷◌, ◌++◌}
use native.Mathlib.Omega.{arith}
use lib.ListN.{length, drop}
use lib.Seq.{drop-length}
use Rattle.rights.specs.declared.Command.{Command}
use Rattle.wording.proofs.Lines.{offset_behind, rest_by_offset, lines_read, lines_written, fit_length}
use Rattle.wording.specs.Lines.{Reading, got, bad_at, offset, lines_of, lines_text, all_fit, command_lines, command_of, command_values, command_text}
use Rattle.wording.specs.CommandReader.{command_judged, command_read}

command_values_lem : (vs : List ℕ) → length vs ≡ 5 → command_values (command_of vs) ≡ vs
unfolding command_values command_of
command_values_lem [] e = let z : ⊥ = omega arith in absurd z
command_values_lem (a ∷ []) e = let z : ⊥ = omega arith in absurd z
command_values_lem (a ∷ b ∷ []) e = let z : ⊥ = omega arith in absurd z
command_values_lem (a ∷ b ∷ c ∷ []) e = let z : ⊥ = omega arith in absurd z
command_values_lem (a ∷ b ∷ c ∷ d ∷ []) e = let z : ⊥ = omega arith in absurd z
command_values_lem (a ∷ b ∷ c ∷ d ∷ f ∷ []) e = refl
command_values_lem (a ∷ b ∷ c ∷ d ∷ f ∷ g ∷ more) e = let z : ⊥ = omega arith in absurd z

-- a command text that is accepted, written again from the command read, is that text up to the part handed back
pub command_read-written : (text : List ℕ) → (command_read text).answer ≡ 0 → command_text (command_read text).command ++ (command_read text).rest ≡ text
unfolding command_read command_judged command_text command_lines
command_read-written text e = go (lines_of command_lines text) refl e
  where
    go : (r : Reading (List ℕ)) → lines_of command_lines text ≡ r → (command_judged text r).answer ≡ 0 →
        command_text (command_judged text r).command ++ (command_judged text r).rest ≡ text
    go (got vs rest) q f =
        let l = lines_read command_lines text vs rest q in
        rw (command_values_lem vs (fit_length command_lines vs l.fit)) l.written
    go (bad_at line) q f = let z : ⊥ = omega arith in absurd z

-- a command whose values fit their lines, written and read with more text behind it, is the same command with that text as the rest
pub command_written_read :
    (c : Command) (more : List ℕ) → all_fit command_lines (command_values c) ≡ true →
    command_read (command_text c ++ more) ≡ record { answer = 0; at = 0; command = c; next = length (command_text c); rest = more }
unfolding command_read command_judged command_of command_values command_text
command_written_read c more e = rw (lines_written command_lines (command_values c) more e, offset_behind)

-- the rest, and a bad line, start within the text or at its end
pub command_within : (text : List ℕ) → ((command_read text).next ≤ length text) × ((command_read text).at ≤ length text)
unfolding command_read command_judged offset
command_within text = go (lines_of command_lines text)
  where
    go : (x : Reading (List ℕ)) → ((command_judged text x).next ≤ length text) × ((command_judged text x).at ≤ length text)
    go (got vs rest) = (omega arith, omega arith)
    go (bad_at line) = (omega arith, omega arith)

-- the part handed back is the caller's text from `next` on
pub command-rest : (text : List ℕ) → (command_read text).rest ≡ drop (command_read text).next text
unfolding command_read command_judged
command-rest text = go (lines_of command_lines text) refl
  where
    go : (r : Reading (List ℕ)) → lines_of command_lines text ≡ r → (command_judged text r).rest ≡ drop (command_judged text r).next text
    go (got vs rest) q = rest_by_offset (lines_text command_lines vs) rest text (lines_read command_lines text vs rest q).written
    go (bad_at line) q = sym (drop-length text)
