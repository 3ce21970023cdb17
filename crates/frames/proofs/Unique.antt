-- No second outcome: at most one answer, one length and one room satisfy each contract, whatever the arguments.
-- `Post` is the contract as the check reads it: of the lifetimes, the arguments, the result and the arguments at exit, of which
-- the room is the last.
use mathlib.Core.Path.{◌≡◌}
use Rattle.printing.specs.declared.Written.{Written}
use Rattle.printing.proofs.Unique.{told_once}
use Rattle.frames.proofs.write_header.Reads as write-header
use Rattle.frames.proofs.write_end.Reads as write-end

pub write_header_once :
    (κs : _) (a : _) (r s : Written) (exit other : _) → write-header.Post κs a r exit → write-header.Post κs a s other →
    (r ≡ s) × (exit.1.0.now ≡ other.1.0.now)
write_header_once κs a r s exit other p q = told_once p q

pub write_end_once :
    (κs : _) (a : _) (r s : Written) (exit other : _) → write-end.Post κs a r exit → write-end.Post κs a s other →
    (r ≡ s) × (exit.0.now ≡ other.0.now)
write_end_once κs a r s exit other p q = told_once p q
