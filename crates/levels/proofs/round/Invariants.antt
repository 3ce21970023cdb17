-- `levels::round` meets its contract. The loop's invariant: the marks are those of the offices passed, and none after them.
use mathlib.Core.Path.{◌≡◌}
use mathlib.Core.Bool.{false}
use Rattle.rights.specs.Level.{marked_next, other_than}
use Rattle.rights.specs.Below.{table}
use Rattle.levels.specs.Padded.{padded}
use Rattle.levels.proofs.round.Given as goal

abbrev pub invariant-loop-y : goal.invariant-loop-y
invariant-loop-y l =
    let r = l.register in
    l.next ≡ padded false (table l.y (marked_next r.header r.cells.now (other_than l.out) l.perm l.marks))
