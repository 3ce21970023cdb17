-- `printing::try_lines` meets its contract: the lines so far stand on the page.
use lib.ListN.{take}
use Rattle.std.specs.List.{flat_map}
use Rattle.printing.specs.NumberLine.{line_bytes}
use Rattle.printing.specs.Page.{Adds}
use Rattle.printing.proofs.try_lines.Given as goal

abbrev pub invariant-loop-line : goal.invariant-loop-line
invariant-loop-line l = Adds (flat_map line_bytes (take l.line-index l.lines)) l.initial.page l.page
