-- How many digits a number has in decimal. Assumes nothing.
use Prim.Native.Nat.{ℕ, zero, suc, ◌+◌, ◌/◌, ◌^◌, ◌≤◌, ◌<◌}
use native.Mathlib.Nat.{pow-suc}
use native.Mathlib.Omega.{arith}
use mathlib.Core.Path.{◌≡◌, refl}
use mathlib.Core.Bool.{Bool, true, false}
use lib.Dec.{ltb}
use lib.ListN.{length, length-append}
use borrow.Author.Tests.{ltb-true, ltb-false}
use Rattle.wording.specs.Line.{numeral}
use Rattle.wording.proofs.Number.{numeral_digit, numeral-more}

pub one_digit : (v : ℕ) → v < 10 → length (numeral v) ≡ 1
one_digit v h = rw (numeral_digit v h)

pub more-digits : (v : ℕ) → 10 ≤ v → length (numeral v) ≡ length (numeral (v / 10)) + 1
more-digits v h = rw (numeral-more v h, length-append)

-- a number below ten times the bound has one digit more at most
pub few-digits : (k v : ℕ) → v < 10 ^ suc k → length (numeral v) ≤ suc k
few-digits zero v h = omega (arith, one_digit v h)
few-digits (suc k) v h = go (few-digits k (v / 10) (omega (arith, pow-suc 10 (suc k)))) (ltb v 10) refl
  where
    go : length (numeral (v / 10)) ≤ suc k → (t : Bool) → ltb v 10 ≡ t → length (numeral v) ≤ suc (suc k)
    go fewer true e = omega (arith, one_digit v (ltb-true v 10 e))
    go fewer false e = omega (arith, more-digits v (ltb-false v 10 e))
