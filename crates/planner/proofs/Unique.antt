-- No second outcome: at most one result and one content of each lent buffer satisfy each contract, whatever the arguments. Each
-- contract is the callee's, so its statement is cited; `rights_run`'s is `RanAs`, of which `no_second_outcome` in the crate `runs`
-- says it. Assumes nothing.
-- `Post` is the contract as the check reads it: of the lifetimes, the arguments, the result and the arguments at exit.
use mathlib.Core.Path.{◌≡◌}
use Rattle.commands.specs.declared.Outcome.{Outcome}
use Rattle.commands.proofs.Unique.{command_once}
use Rattle.questions.specs.declared.Held.{Held}
use Rattle.questions.proofs.Unique.{holding_once}
use Rattle.register_reader.specs.declared.RegisterRead.{RegisterRead}
use Rattle.command_reader.specs.declared.CommandRead.{CommandRead}
use Rattle.command_reader.proofs.Unique.{read_command_once}
use Rattle.register_reader.proofs.Unique.{read_register_once}
use Rattle.printing.specs.declared.Written.{Written}
use Rattle.frames.proofs.Unique.{write_header_once, write_end_once}
use Rattle.row_writer.proofs.Unique.{write_row_once}
use Rattle.planner.proofs.rights_command.Reads as command
use Rattle.planner.proofs.rights_holding.Reads as holding
use Rattle.planner.proofs.rights_read_register.Reads as read-register
use Rattle.planner.proofs.rights_read_command.Reads as read-command
use Rattle.planner.proofs.rights_write_header.Reads as write-header
use Rattle.planner.proofs.rights_write_row.Reads as write-row
use Rattle.planner.proofs.rights_write_end.Reads as write-end

pub rights_command_once :
    (κs : _) (a : _) (r s : Outcome) (exit other : _) → command.Post κs a r exit → command.Post κs a s other →
    (r ≡ s) × (exit.0.now ≡ other.0.now)
rights_command_once κs a r s exit other = command_once _ r s _ _

pub rights_holding_once :
    (κs : _) (a : _) (r s : Held) (exit other : _) → holding.Post κs a r exit → holding.Post κs a s other →
    (r ≡ s) × (exit.1.1.1.1.0.now ≡ other.1.1.1.1.0.now)
rights_holding_once = holding_once

pub rights_read_register_once :
    (κs : _) (a : _) (r s : RegisterRead) (exit other : _) → read-register.Post κs a r exit → read-register.Post κs a s other →
    (r ≡ s) × (exit.1.0.now ≡ other.1.0.now)
rights_read_register_once = read_register_once

pub rights_read_command_once :
    (κs : _) (a : _) (r s : CommandRead) (exit other : _) → read-command.Post κs a r exit → read-command.Post κs a s other → r ≡ s
rights_read_command_once = read_command_once

pub rights_write_header_once :
    (κs : _) (a : _) (r s : Written) (exit other : _) → write-header.Post κs a r exit → write-header.Post κs a s other →
    (r ≡ s) × (exit.1.0.now ≡ other.1.0.now)
rights_write_header_once = write_header_once

pub rights_write_row_once :
    (κs : _) (a : _) (r s : Written) (exit other : _) → write-row.Post κs a r exit → write-row.Post κs a s other →
    (r ≡ s) × (exit.1.1.1.0.now ≡ other.1.1.1.0.now)
rights_write_row_once = write_row_once

pub rights_write_end_once :
    (κs : _) (a : _) (r s : Written) (exit other : _) → write-end.Post κs a r exit → write-end.Post κs a s other →
    (r ≡ s) × (exit.0.now ≡ other.0.now)
rights_write_end_once = write_end_once
