-- `rests::after_register` meets its contract: the rest starts where the register ends.
use Rattle.rests.proofs.Rest.{register_rest_told}
use Rattle.rests.proofs.after_register.Goals as goal

pub returns : goal.returns
returns c = register_rest_told _ _ c.read_register.ensures c.register_rest.ensures
