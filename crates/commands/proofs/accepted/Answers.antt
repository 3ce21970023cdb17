-- `commands::accepted` meets its contract: the register before is kept whole.
use mathlib.Core.Path.{◌∙◌}
use Rattle.commands.proofs.Done.{done_as}
use Rattle.commands.proofs.accepted.Goals as goal

pub returns : goal.returns
returns c =
    let done = c.tallied.ensures in
    done_as _ _ _ c.requires.passed _ _ _ c.carry_out.ensures (c.cells.ensures ∙ c.keep.ensures) done.0 done.1 done.2
