-- `levels::levels_by` meets its contract. The loop's invariant: the levels are those of the offices passed, and 0 after them.
use mathlib.Core.Path.{◌≡◌}
use Rattle.rights.specs.Below.{table}
use Rattle.rights.specs.Level.{level_by}
use Rattle.levels.specs.Padded.{padded}
use Rattle.levels.proofs.levels_by.Given as goal

abbrev pub invariant-loop-k : goal.invariant-loop-k
invariant-loop-k l = l.levels ≡ padded 0 (table l.k (level_by l.whole l.part))
