-- A cell and a permission as the code reads them: a permission by its code, a byte by its lower bits. Assumes nothing.
use Prim.Native.Nat.{ℕ, ◌+◌, ◌/◌, ◌%◌, ◌<◌}
use mathlib.Core.Path.{◌≡◌, refl}
use borrow.Author.Tests.{ne_eqb}
use Rattle.rights.specs.Below.{all_below}
use Rattle.rights.specs.declared.Permission.{Permission}
use Rattle.rights.specs.declared.Permission.TheVariants.{FF}
use Rattle.rights.specs.Permission.{code, decoded}
use Rattle.rights.specs.Cell.{has, size}
use Rattle.theory.proofs.Below.{same_below}
use Rattle.theory.proofs.Cell.{decoded-code}

-- a code is read as its permission
pub as_code : (p : Permission) {k : ℕ} → k ≡ code p → decoded k ≡ p
as_code p e = rw e (decoded-code p)

-- and every other number as FF
pub as_FF : {k : ℕ} → (k ≡ 8 → ⊥) → (k ≡ 4 → ⊥) → (k ≡ 2 → ⊥) → decoded k ≡ FF
unfolding decoded
as_FF {k} a b c = rw (ne_eqb k 8 a, ne_eqb k 4 b, ne_eqb k 2 c)

-- the number of records by the bits
pub size_bits : (c : ℕ) → c < 256 → c / 8 % 2 + c / 4 % 2 + c / 2 % 2 + c % 2 ≡ size c
unfolding size has code all_below
size_bits c h =
    same_below 256 (λ c. c / 8 % 2 + c / 4 % 2 + c / 2 % 2 + c % 2) size refl c h
