-- `cells::size` meets its contract: the four bits are counted. Assumes nothing.
use native.Mathlib.Omega.{arith}
use Rattle.cells.proofs.Byte.{size_bits}
use Rattle.cells.proofs.size.Goals as goal

pub returns : goal.returns
returns c = size_bits c.args.c (omega arith)
