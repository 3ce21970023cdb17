-- `buffers::copied` meets its contract: the bytes that there is room for, and the zeros that the array had behind them.
use mathlib.Core.Path.{◌∙◌}
use Rattle.buffers.proofs.Copy.{copy_start_of}
use Rattle.buffers.proofs.copied.Goals as goal

pub returns : goal.returns
returns c = c.copy_start.ensures.start ∙ copy_start_of c.args.cells.now _ c.copy_start.ensures.few
