-- `carrying::carries_as` meets its contract: the bits that are tested are what the cell carries.
use native.Mathlib.Omega.{arith}
use mathlib.Core.Path.{sym}
use Rattle.rights.specs.declared.Permission.TheVariants.{TT, TF, FT, FF}
use Rattle.carrying.proofs.Carried.{bits, carries_bits}
use Rattle.carrying.proofs.carries_as.Goals as goal

pub returns-in-TT : goal.returns-in-TT
unfolding bits
returns-in-TT c = rw c.in-TT.is (sym (carries_bits c.args.c TT (omega arith)))

pub returns-in-TF : goal.returns-in-TF
unfolding bits
returns-in-TF c = rw c.in-TF.is (sym (carries_bits c.args.c TF (omega arith)))

pub returns-in-FT : goal.returns-in-FT
unfolding bits
returns-in-FT c = rw c.in-FT.is (sym (carries_bits c.args.c FT (omega arith)))

pub returns-in-FF : goal.returns-in-FF
unfolding bits
returns-in-FF c = rw c.in-FF.is (sym (carries_bits c.args.c FF (omega arith)))
