-- No second outcome: at most one answer, one length and one room satisfy the contract, whatever the input.
use mathlib.Core.Path.{◌≡◌}
use Rattle.printing.specs.declared.Written.{Written}
use Rattle.printing.proofs.Unique.{told_once}
use Rattle.outputs.proofs.write_output.Reads as write-output

pub write_output_once :
    (κs : _) (a : _) (r s : Written) (exit other : _) → write-output.Post κs a r exit → write-output.Post κs a s other →
    (r ≡ s) × (exit.1.0.now ≡ other.1.0.now)
write_output_once κs a r s exit other p q = told_once p.0 q.0
