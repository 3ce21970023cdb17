-- An output that a reader can foretell.
use Prim.Native.Nat.{ℕ, ◌≤◌}
use mathlib.Core.Path.{◌≡◌, ap, sym, ◌∙◌}
use mathlib.Core.List.{List, [], append-nil}
use lib.ListN.{length, replicate}
use Rattle.wording.specs.RegisterReader.{register_read}
use Rattle.wording.proofs.RegisterText.{register_read-written}
use Rattle.outputs.specs.Output.{behind_register, output}
use Rattle.outputs.proofs.Commands.{output_ended}
use Rattle.outputs.proofs.Whole.{output_read}

-- a register text with no command behind it is written again as it is
pub written_again :
    (input : List ℕ) → length input ≤ 65536 → (register_read input (replicate 16384 0)).answer ≡ 0 → (register_read input (replicate 16384 0)).rest ≡ [] →
    output input ≡ input
unfolding behind_register
written_again input short good none =
    let read = register_read input (replicate 16384 0) in
    let text = register_read-written input (replicate 16384 0) good in
    sym (output_read input short)
    ∙ rw good (output_ended read.header _ read.next read.rest (ap length none) ∙ sym (append-nil _) ∙ rw none at text)
