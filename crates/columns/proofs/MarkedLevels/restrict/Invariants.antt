-- `restrict` of `Marked` meets its contract: before each turn the marked cells before y are restricted.
use Rattle.rights.specs.Restriction.{columns_to}
use Rattle.columns.specs.Marked.{is_marked}
use Rattle.columns.proofs.Turns.{Turned}
use Rattle.columns.proofs.MarkedLevels.restrict.Given as goal

abbrev pub invariant-loop-y : goal.invariant-loop-y
invariant-loop-y l = Turned (columns_to (is_marked l.self.columns) l.self.levels l.i) l.initial.row l.row l.y
