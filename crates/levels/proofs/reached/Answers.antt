-- `levels::reached` meets its contract. The loop's invariant: the marks are those after so many rounds.
use native.Mathlib.Omega.{arith}
use mathlib.Core.Path.{◌∙◌}
use Rattle.std.specs.Cmp.{booleans_Decides}
use Rattle.std.proofs.lemmas.Slice.Eq.{slice_eq-Decides}
use Rattle.levels.proofs.Rounds.{marks_after, marks_rest}
use Rattle.levels.proofs.reached.Goals as goal

pub returns-then-eq : goal.returns-then-eq
unfolding marks_after
returns-then-eq c =
    let i = c.loop-round.invariant in
    let same = (slice_eq-Decides booleans_Decides c.round-next.result c.loop-round.marks _ c.eq.ensures).0 c.if-eq.true in
    i ∙ marks_rest _ _ _ _ _ (omega arith) (rw (c.round-next.ensures, i) at same)
