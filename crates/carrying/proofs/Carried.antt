-- What a cell carries and what a level leaves of it, as the code reads them: by the byte's lower bits. Assumes nothing.
use Prim.Native.Nat.{min, ℕ, zero, suc, ◌+◌, ◌*◌, ◌/◌, ◌%◌, ◌<◌, ◌≤◌}
use native.Mathlib.Omega.{arith}
use mathlib.Core.Path.{◌≡◌, refl}
use mathlib.Core.Logic.{◌⊎◌, inl, inr, ⊎_elim}
use mathlib.Core.Bool.{Bool, true, false, not, cond}
use lib.Dec.{eqb}
use borrow.Author.Tests.{ne_eqb}
use Rattle.rights.specs.Below.{all_below}
use Rattle.rights.specs.declared.Permission.{Permission}
use Rattle.rights.specs.declared.Permission.TheVariants.{TT, TF, FT, FF}
use Rattle.rights.specs.Permission.{code, any_permission, decoded, serves, stronger, need}
use Rattle.rights.specs.Cell.{has, cell_of, carries, lowered, restrict}
use Rattle.theory.proofs.Below.{same_below}
use Rattle.theory.proofs.Cell.{each_permission, by-cells}
use Rattle.cells.proofs.Byte.{as_code}

-- what the code tests of a byte for each permission
unfoldable pub bits : ℕ → Permission → Bool
bits c TT = eqb (c / 8 % 2) 1
bits c TF = not (eqb (c / 4 % 4) 0)
bits c FT = not (eqb (c / 8 % 2 + c / 2 % 2) 0)
bits c FF = not (eqb (c % 16) 0)

-- those bits are what the cell carries: computed at the 256 bytes
pub carries_bits : (c : ℕ) (p : Permission) → c < 256 → carries c p ≡ bits c p
unfolding carries bits any_permission has code serves stronger all_below each_permission
carries_bits c p h =
    by-cells 256 carries bits refl c p h

-- a lowered cell by its bits
pub lowered_bits : (c : ℕ) → c < 256 → min (c / 4 % 4) 1 * 4 + min (c % 4) 1 ≡ restrict c 1
unfolding restrict lowered cell_of has code all_below
lowered_bits c h =
    same_below 256 (λ c. min (c / 4 % 4) 1 * 4 + min (c % 4) 1) (λ c. restrict c 1) refl c h

-- from level 2 on a cell is kept
pub restrict_high : (c level : ℕ) → 2 ≤ level → restrict c level ≡ c
unfolding restrict
restrict_high c zero h = absurd (omega arith)
restrict_high c (suc zero) h = absurd (omega arith)
restrict_high c (suc (suc v)) h = refl
