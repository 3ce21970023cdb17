-- `rows::restrict_each_row` meets its contract: before each turn the rows before i are restricted.
use Rattle.std.proofs.Common.{◌≡◌}
use Rattle.rights.specs.Restriction.{restricted}
use Rattle.rows.proofs.Rows.{rows_before}
use Rattle.rows.proofs.restrict_each_row.Given as goal

abbrev pub invariant-loop-i : goal.invariant-loop-i
invariant-loop-i g l = l.cells ≡ restricted l.header l.initial.cells (rows_before l.i (g.L.Levels.level l.levels))
