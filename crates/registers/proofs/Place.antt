-- The place of a cell among the bytes of a register: numbers of 16 bits, whose product is one of 32. Assumes nothing.
use Prim.Native.Nat.{ℕ, ◌*◌, ◌≤◌, ◌<◌}
use native.Mathlib.Nat.{mul-le-mul}
use native.Mathlib.Omega.{arith}

pub product : (a b : ℕ) → a < 65536 → b < 65536 → a * b ≤ 65535 * 65535
product a b ha hb = mul-le-mul {n₁ = a} {m₁ = b} {n₂ = 65535} {m₂ = 65535} (omega arith) (omega arith)
