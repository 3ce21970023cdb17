-- `command_reader::read_command` meets its contract: the five lines, or zeros and where the bad line starts.
use Rattle.command_reader.proofs.Command.{told_got, told_bad}
use Rattle.command_reader.proofs.read_command.Goals as goal

pub returns-in-Ok : goal.returns-in-Ok
returns-in-Ok c = told_got _ c.in-Ok.ensures

pub returns-in-Err : goal.returns-in-Err
returns-in-Err c = told_bad _ c.in-Err.ensures c.number.ensures c.default.ensures
