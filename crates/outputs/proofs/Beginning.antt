-- The register at the start of an input, as code reads it: what is written where it is refused, and what the commands behind it
-- begin with.
use Prim.Native.Nat.{ℕ, ◌+◌, ◌*◌, ◌≤◌}
use native.Mathlib.Nat.{mul-le-mul}
use native.Mathlib.Omega.{arith}
use mathlib.Core.Path.{◌≡◌}
use mathlib.Core.List.{List}
use lib.ListN.{length, take, drop, length-drop}
use borrow.Author.Tests.{ne_eqb}
use Rattle.rights.specs.Sound.{register_refusal}
use Rattle.wording.specs.RegisterReader.{register_read}
use Rattle.wording.proofs.RegisterText.{register_read-sound, register_within, register-rest}
use Rattle.theory.proofs.Ready.{headed_high, ready_register}
use Rattle.answers.specs.Answers.{refused_text}
use Rattle.register_reader.specs.Told.{register_answer, RegisterTold}
use Rattle.register_reader.specs.declared.RegisterRead.{RegisterRead}
use Rattle.outputs.specs.Output.{commands_output, behind_register}

module _ (input buffer : List ℕ) (r : RegisterRead) (cells : List ℕ) (told : RegisterTold (register_read input buffer) r cells) where
  pub bad_within : r.at ≤ length input
  unfolding register_answer
  bad_within = rw told.answer (register_within input buffer).1

  pub begun_refused : (r.answer ≡ 0 → ⊥) → refused_text r.answer r.at ≡ behind_register (register_read input buffer)
  unfolding register_answer behind_register
  begun_refused bad = rw told.answer (rw (ne_eqb (register_read input buffer).answer 0 (rw told.answer at bad)))

  module _ (good : r.answer ≡ 0) where
    read_well : (register_read input buffer).answer ≡ 0
    unfolding register_answer
    read_well = rw told.answer at good

    pub begun_accepted : (m : ℕ) → m ≡ r.header.n * r.header.n → register_refusal r.header (take m cells) ≡ 0
    unfolding register_answer
    begun_accepted m all =
        let read = register_read-sound input buffer read_well in
        rw (all, told.answer, told.buffer)
        (ready_register (register_read input buffer).header _
        (record { headed = read.headed_read; whole = read.whole_read; sound = read.sound_read }))

    pub few-cells : r.header.n * r.header.n ≤ 16384
    unfolding register_answer
    few-cells =
        let small = headed_high (register_read input buffer).header (register_read-sound input buffer read_well).headed_read in
        rw told.answer (mul-le-mul small small)

    module _ (rest : List ℕ) (left : rest ≡ drop r.next input) where
      pub commands_within : r.next + length rest ≡ length input
      unfolding register_answer
      commands_within = rw (left, told.answer, length-drop) (omega (arith, (register_within input buffer).0))

      pub begun :
          (m : ℕ) → m ≡ r.header.n * r.header.n →
          commands_output r.header (take m cells) r.next rest ≡ behind_register (register_read input buffer)
      unfolding register_answer behind_register
      begun m all = rw (all, left, told.answer, told.buffer, read_well, ← register-rest input buffer)
