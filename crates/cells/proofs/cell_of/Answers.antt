-- `cells::cell_of` meets its contract: the test is asked of each permission once, and the four numbers are a sum of bits.
use Prim.Native.Nat.{◌+◌}
use mathlib.Core.Bool.{Bool}
use mathlib.Core.Path.{ap₂}
use native.Mathlib.Omega.{arith}
use Rattle.rights.specs.declared.Permission.{Permission}
use Rattle.rights.specs.declared.Permission.TheVariants.{TT, TF, FT, FF}
use Rattle.rights.specs.Permission.{code}
use Rattle.rights.specs.Cell.{cell_of}
use Rattle.cells.proofs.cell_of.Goals as goal

pub overflow_add-result : goal.overflow_add-result
unfolding code
overflow_add-result g c = omega (arith, c.code_if.ensures.small, c.code_if-2.ensures.small)

pub overflow_add-result-2 : goal.overflow_add-result-2
unfolding code
overflow_add-result-2 g c = omega (arith, c.code_if.ensures.small, c.code_if-2.ensures.small, c.code_if-3.ensures.small)

pub overflow_add-result-3 : goal.overflow_add-result-3
unfolding code
overflow_add-result-3 g c =
    omega (arith, c.code_if.ensures.small, c.code_if-2.ensures.small, c.code_if-3.ensures.small, c.code_if-4.ensures.small)

-- what a test gave at each of the four
unfoldable given : Bool → Bool → Bool → Bool → Permission → Bool
given tt tf ft ff TT = tt
given tt tf ft ff TF = tf
given tt tf ft ff FT = ft
given tt tf ft ff FF = ff

pub returns : goal.returns
unfolding given cell_of code
returns g c = (
  given c.test.result c.test-2.result c.test-3.result c.test-4.result,
  elim [ TT ↦ c.test.ensures | TF ↦ c.test-2.ensures | FT ↦ c.test-3.ensures | FF ↦ c.test-4.ensures ],
  ap₂ ◌+◌ (ap₂ ◌+◌ (ap₂ ◌+◌ c.code_if.ensures.value c.code_if-2.ensures.value) c.code_if-3.ensures.value) c.code_if-4.ensures.value,
)
