-- `holdings::Change::losers` meets its contract. The loop's invariant: the marks of the offices passed, and 0 after them.
use mathlib.Core.Path.{◌≡◌}
use Rattle.rights.specs.Below.{table}
use Rattle.levels.specs.Padded.{padded}
use Rattle.holdings.specs.Loser.{mark_by}
use Rattle.holdings.proofs.Change.losers.Given as goal

abbrev pub invariant-loop-y : goal.invariant-loop-y
invariant-loop-y l =
    let r = l.self.before in
    let s = l.self.after in
    l.marks ≡ padded 0 (table l.y (mark_by r.register.header r.register.cells.now r.levels s.register.cells.now s.levels))
