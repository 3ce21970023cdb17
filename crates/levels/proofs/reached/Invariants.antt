-- `levels::reached` meets its contract. The loop's invariant: the marks are those after so many rounds.
use mathlib.Core.Path.{◌≡◌}
use Rattle.levels.proofs.Rounds.{marks_after}
use Rattle.levels.proofs.reached.Given as goal

abbrev pub invariant-loop-round : goal.invariant-loop-round
invariant-loop-round l = l.marks ≡ marks_after l.register.header l.register.cells.now l.out l.perm l._round
