-- `registers::whole` meets its contract. Assumes nothing.
use native.Mathlib.Omega.{arith}
use mathlib.Core.Path.{refl}
use Rattle.rights.specs.Sound.{whole}
use Rattle.registers.proofs.Place.{product}
use Rattle.registers.proofs.whole.Goals as goal

pub overflow_mul-result : goal.overflow_mul-result
overflow_mul-result c = let n = c.args.header.n in omega (arith, product n n (omega arith) (omega arith))

pub returns : goal.returns
unfolding whole
returns c = refl
