-- No second outcome: at most one answer, one length and one room satisfy each contract, whatever the arguments.
-- `Post` is the contract as the check reads it: of the lifetimes, the arguments, the result and the arguments at exit, of which
-- the room is the last.
use mathlib.Core.Path.{◌≡◌}
use Rattle.printing.specs.declared.Written.{Written}
use Rattle.printing.proofs.Unique.{told_once}
use Rattle.row_writer.proofs.write_row.Reads as write-row

pub write_row_once :
    (κs : _) (a : _) (r s : Written) (exit other : _) → write-row.Post κs a r exit → write-row.Post κs a s other →
    (r ≡ s) × (exit.1.1.1.0.now ≡ other.1.1.1.0.now)
write_row_once κs a r s exit other p q = told_once p q
