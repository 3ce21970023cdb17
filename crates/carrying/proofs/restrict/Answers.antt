-- `carrying::restrict` meets its contract, level by level.
use native.Mathlib.Omega.{arith}
use mathlib.Core.Path.{sym}
use Rattle.rights.specs.Cell.{restrict}
use Rattle.carrying.proofs.Carried.{restrict_high, lowered_bits}
use Rattle.carrying.proofs.restrict.Goals as goal

pub returns-in-0 : goal.returns-in-0
unfolding restrict
returns-in-0 c = rw c.in-0.is

pub returns-in-1 : goal.returns-in-1
returns-in-1 c = rw (c.in-1.is, c.min.ensures, c.min-in-1.ensures) (lowered_bits c.args.c (omega arith))

pub returns-in_default : goal.returns-in_default
returns-in_default c = sym (restrict_high _ _ (omega arith))
