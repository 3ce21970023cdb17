-- `registers::cell` meets its contract: a byte that is not there counts as an empty cell. Assumes nothing.
use native.Mathlib.Omega.{arith}
use mathlib.Core.Path.{refl, sym}
use lib.ListN.{get_or-eq_default}
use Rattle.rights.specs.Register.{cell}
use Rattle.registers.proofs.Place.{product}
use Rattle.registers.proofs.cell.Goals as goal

pub overflow_mul-at : goal.overflow_mul-at
overflow_mul-at c =
    let a = c.args in omega (arith, product a.by.0 a.header.n (omega arith) (omega arith))

pub overflow_add-at : goal.overflow_add-at
overflow_add-at c =
    let a = c.args in
    omega (arith, product a.by.0 a.header.n (omega arith) (omega arith))
