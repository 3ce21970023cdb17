-- The output for a register and commands that were written as text: the answer of each command in turn, and the register that a run of
-- them leaves.
use Prim.Native.Nat.{ℕ, ◌+◌, ◌*◌, ◌≤◌}
use native.Mathlib.Nat.{mul-le-mul}
use native.Mathlib.Omega.{arith}
use mathlib.Core.Path.{◌≡◌, refl, ap, sym, ◌∙◌}
use mathlib.Core.Bool.{true}
use mathlib.Core.List.{List, [], ◌∷◌, ◌++◌, append_assoc}
use lib.ListN.{length, replicate, length-append}
use lib.Seq.{take_at}
use Rattle.rights.specs.declared.Header.{Header}
use Rattle.rights.specs.declared.Command.{Command}
use Rattle.rights.specs.Command.{outcome}
use Rattle.rights.specs.Run.{ran}
use Rattle.theory.proofs.Ready.{Ready, headed_high, whole_length}
use Rattle.wording.specs.Lines.{all_fit, command_lines, command_values, command_text}
use Rattle.wording.specs.Records.{register_text}
use Rattle.wording.specs.CommandReader.{CommandRead, command_read}
use Rattle.wording.proofs.CommandText.{command_written_read}
use Rattle.wording.proofs.RegisterText.{register_written_read}
use Rattle.outputs.specs.Output.{answer_lines, commands_output, behind_register, output}
use Rattle.outputs.proofs.Commands.{command_long, output_ended, output-answered}
use Rattle.outputs.proofs.Whole.{output_read}

-- the texts of commands, one behind the other
unfoldable pub commands_text : List Command → List ℕ
commands_text [] = []
commands_text (c ∷ commands) = command_text c ++ commands_text commands

-- their answers in turn, each on the register that the command before it left
unfoldable pub answers_text : Header → List ℕ → List Command → List ℕ
answers_text h R [] = []
answers_text h R (c ∷ commands) = answer_lines (outcome h R c) ++ answers_text h (outcome h R c).cells commands

-- each value can be written
pub data Fitting : List Command → Type 0 where
  none : Fitting []
  more : (c : Command) {commands : List Command} → all_fit command_lines (command_values c) ≡ true → Fitting commands → Fitting (c ∷ commands)

pub commands_output_lem :
    (h : Header) (R : List ℕ) (at : ℕ) (commands : List Command) → Fitting commands →
    commands_output h R at (commands_text commands) ≡ answers_text h R commands ++ register_text h (ran h R commands)
unfolding commands_text answers_text ran
commands_output_lem h R at [] none = output_ended h R at [] refl
commands_output_lem h R at (c ∷ commands) (more d fits others) =
    let text = command_text c ++ commands_text commands in
    let read = command_written_read c (commands_text commands) fits in
    let long : 1 ≤ length text = omega (arith, command_long c, length-append (command_text c) (commands_text commands)) in
    let good : (command_read text).answer ≡ 0 = ap (λ (r : CommandRead). r.answer) read in
    output-answered h R at text long good
    ∙ rw read (rw (commands_output_lem h (outcome h R c).cells (at + length (command_text c)) commands others) (sym (append_assoc (answer_lines (outcome h R c)) _ _)))

-- 'standard input is a register text, then command texts .. For each command .. its own tally .. At the end the register text'
pub program_output :
    (h : Header) (R : List ℕ) (commands : List Command) → Ready h R → h.layer.0 ≤ 65535 → Fitting commands →
    length (register_text h R ++ commands_text commands) ≤ 65536 →
    output (register_text h R ++ commands_text commands) ≡ answers_text h R commands ++ register_text h (ran h R commands)
unfolding behind_register
program_output h R commands ready layer fits short =
    let small = headed_high h ready.headed in
    let buffer : List ℕ = replicate 16384 0 in
    let room : h.n * h.n ≤ length buffer = mul-le-mul small small in
    let read = register_written_read h R buffer (commands_text commands) ready.headed ready.whole ready.sound layer room in
    sym (output_read (register_text h R ++ commands_text commands) short)
    ∙ rw read (rw (take_at R _ _ (whole_length h R ready.whole)) (commands_output_lem h R (length (register_text h R)) commands fits))
