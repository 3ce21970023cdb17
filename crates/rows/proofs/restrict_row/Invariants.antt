-- `rows::restrict_row` meets its contract: before each turn the cells before the turn's own are restricted.
use Rattle.std.proofs.Common.{◌≡◌, map, ◌++◌, take, drop}
use Rattle.rows.specs.Row.{at_level}
use Rattle.rows.proofs.restrict_row.Given as goal

abbrev pub invariant-loop-cell : goal.invariant-loop-cell
invariant-loop-cell l = l.row ≡ map (at_level l.level) (take l.cell-index l.initial.row) ++ drop l.cell-index l.initial.row
