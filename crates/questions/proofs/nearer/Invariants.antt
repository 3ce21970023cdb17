-- `questions::nearer` meets its contract. The loop's invariant: the marks before x are those of the offices with a link into the
-- set, and there are no others.
use mathlib.Core.Path.{◌≡◌}
use mathlib.Core.Bool.{false}
use Rattle.rights.specs.Below.{table}
use Rattle.levels.specs.Padded.{padded}
use Rattle.questions.proofs.Sets.{leads}
use Rattle.questions.proofs.nearer.Given as goal

abbrev pub invariant-loop-x : goal.invariant-loop-x
invariant-loop-x l = l.near ≡ padded false (table l.x (leads l.register.header l.register.cells.now l.perm l.set))
