-- The five lines of a command, by what has been read of them so far.
use Prim.Native.Nat.{ℕ}
use mathlib.Core.Path.{◌≡◌, refl, ap}
use mathlib.Core.List.{List, [], ◌∷◌}
use lib.ListN.{length}
use Rattle.wording.specs.Word.{Kind, layer_line, act_line, by_line, to_line, perm_line}
use Rattle.rights.specs.declared.Command.{Command}
use Rattle.wording.specs.Lines.{Reading, got, bad_at, offset, lines_of, command_lines, command_of}
use Rattle.wording.specs.CommandReader.{no_command, command_judged, command_read}
use Rattle.lines.specs.Read.{line_at}
use Rattle.std.specs.declared.option.Option.TheVariants.{None}
use Rattle.std.specs.declared.result.Result.TheVariants.{Ok, Err}
use Rattle.numbers.proofs.Byte.{offset-drop}
use Rattle.lines.proofs.SoFar.{LinesSoFar, start, lines_stop, lines_all}
use Rattle.command_reader.specs.CommandTold.{five_read, command_in, command_answer, command_told, command_refused}

pub command_start : (text : List ℕ) → LinesSoFar text command_lines (act_line ∷ layer_line ∷ by_line ∷ to_line ∷ perm_line ∷ []) [] 0
unfolding command_lines
command_start text = start text command_lines

module _ {text vs : List ℕ} {at : ℕ} where
  pub command-bad : {kinds : List Kind} {k : Kind} → LinesSoFar text command_lines (k ∷ kinds) vs at → line_at text at k ≡ None → Err at ≡ command_in text
  unfolding command_in five_read
  command-bad s e = rw (lines_stop s e, offset-drop text at s.within) refl

  pub command-got : LinesSoFar text command_lines [] vs at → Ok (command_of vs, at) ≡ command_in text
  unfolding command_in five_read
  command-got s = rw (lines_all s, offset-drop text at s.within) refl

zeros : (c : Command) → (c.act ≡ 0) × ((c.layer.0 ≡ 0) × ((c.by.0 ≡ 0) × ((c.to.0 ≡ 0) × (c.perm ≡ 0)))) → c ≡ no_command
unfolding no_command
zeros c z =
    let e : record { act = c.act; layer = record { 0 = c.layer.0 }; by = record { 0 = c.by.0 }; to = record { 0 = c.to.0 }; perm = c.perm } ≡ no_command =
    rw (z.0, z.1.0, z.1.1.0, z.1.1.1.0, z.1.1.1.1) refl
    in
    e

-- what is answered, from the five lines
module _ (text : List ℕ) where
  pub told_got : {c : Command} {next : ℕ} → Ok (c, next) ≡ command_in text → record { answer = 0; at = 0; command = c; next = next } ≡ command_told text
  unfolding command_in five_read command_told command_answer command_read command_judged
  told_got {c} {next} e = go (lines_of command_lines text) refl e
    where
      go : (x : Reading (List ℕ)) → lines_of command_lines text ≡ x → Ok (c, next) ≡ five_read text x → record { answer = 0; at = 0; command = c; next = next } ≡ command_told text
      go (got vs rest) q f =
          let pair : ◌≡◌ {A = Command × ℕ} (c, next) (command_of vs, offset text rest) = cc in
          rw (q, ap (λ p. p.0) pair, ap (λ p. p.1) pair) refl
      go (bad_at line) q f = absurd (cc)

  pub told_bad :
      {at number : ℕ} {c : Command} → Err at ≡ command_in text → number ≡ 13 →
      (c.act ≡ 0) × ((c.layer.0 ≡ 0) × ((c.by.0 ≡ 0) × ((c.to.0 ≡ 0) × (c.perm ≡ 0)))) →
      record { answer = number; at = at; command = c; next = length text } ≡ command_told text
  unfolding command_in five_read command_told command_answer command_refused command_read command_judged
  told_bad {at} {number} {c} e is z = rw (is, zeros c z) (go (lines_of command_lines text) refl e)
    where
      go : (x : Reading (List ℕ)) → lines_of command_lines text ≡ x → Err at ≡ five_read text x → command_refused at (length text) ≡ command_told text
      go (got vs rest) q f = absurd (cc)
      go (bad_at line) q f = let n : at ≡ offset text line = cc in rw (q, n) refl
