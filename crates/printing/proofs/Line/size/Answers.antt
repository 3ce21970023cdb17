-- `printing::Line::size` meets its contract.
use native.Mathlib.Omega.{arith}
use lib.ListN.{length-append}
use Rattle.printing.specs.NumberLine.{number_line}
use Rattle.printing.proofs.Line.size.Goals as goal

pub returns : goal.returns
unfolding number_line
returns c = simp length-append (omega arith)
