-- What cannot be.
use Prim.Native.Nat.{ℕ}
use mathlib.Core.Path.{◌≡◌}
use native.Mathlib.Omega.{arith}

-- anything follows where 0 is 1
pub never : {A : Type 0} → ◌≡◌ {A = ℕ} 0 1 → A
never e = let z : ⊥ = omega arith in absurd z
