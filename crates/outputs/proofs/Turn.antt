-- One command of a text, as code reads it and carries it out: what it adds to the output, and what is left.
use Prim.Native.Nat.{ℕ, ◌+◌, ◌≤◌}
use native.Mathlib.Omega.{arith}
use mathlib.Core.Path.{◌≡◌, sym, ◌∙◌}
use mathlib.Core.List.{List, ◌++◌}
use lib.ListN.{length, drop, length-drop}
use Rattle.rights.specs.declared.Header.{Header}
use Rattle.rights.specs.Command.{outcome}
use Rattle.wording.specs.CommandReader.{command_read}
use Rattle.wording.proofs.CommandText.{command-rest, command_within}
use Rattle.answers.specs.Answers.{answer_text, refused_text}
use Rattle.command_reader.specs.CommandTold.{command_told, command_answer}
use Rattle.command_reader.specs.declared.CommandRead.{CommandRead}
use Rattle.commands.specs.declared.Outcome.{Outcome}
use Rattle.commands.specs.Post.{Answers}
use Rattle.outputs.specs.Output.{answer_lines, commands_output}
use Rattle.outputs.proofs.Commands.{command_shorter, output-refused, output-answered}

module _ (text : List ℕ) (r : CommandRead) (told : r ≡ command_told text) where
  pub bad_within : r.at ≤ length text
  unfolding command_told command_answer
  bad_within = rw told (command_within text).1

  -- what is left of the text
  module _ (rest : List ℕ) (left : rest ≡ drop r.next text) where
    rest_read : rest ≡ (command_read text).rest
    unfolding command_told command_answer
    rest_read = left ∙ rw told (sym (command-rest text))

    pub rest_within : r.next + length rest ≡ length text
    unfolding command_told command_answer
    rest_within = rw (left, told, length-drop) (omega (arith, (command_within text).0))

    pub rest_shorter : r.answer ≡ 0 → length rest + 26 ≤ length text
    unfolding command_told command_answer
    rest_shorter good = rw rest_read (command_shorter text (rw told at good))

    pub turn_answered :
        (h : Header) (R : List ℕ) (at : ℕ) (done : Outcome) (S : List ℕ) → 1 ≤ length text → r.answer ≡ 0 → Answers (outcome h R r.command) done S →
        answer_text done.answer done.removed done.added ++ commands_output h S (at + r.next) rest ≡ commands_output h R at text
    unfolding command_told command_answer answer_lines
    turn_answered h R at done S some good o =
        rw (o.answer, o.removed, o.added, o.cells, rest_read, told) (sym (output-answered h R at text some (rw told at good)))

  pub turn_refused :
      (h : Header) (R : List ℕ) (at : ℕ) → 1 ≤ length text → (r.answer ≡ 0 → ⊥) → refused_text r.answer (at + r.at) ≡ commands_output h R at text
  unfolding command_told command_answer
  turn_refused h R at some bad = rw told (sym (output-refused h R at text some (rw told at bad)))
