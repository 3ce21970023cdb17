-- `rests::after_command` meets its contract: the rest starts where the command ends.
use Rattle.rests.proofs.Rest.{command_rest_told}
use Rattle.rests.proofs.after_command.Goals as goal

pub returns : goal.returns
returns c = command_rest_told _ c.read_command.ensures c.command_rest.ensures
