-- `numbers::digits` meets its contract: from each power of ten up to the next, the numbers have one digit more than before.
use Rattle.std.proofs.Common.{ℕ, zero, suc, ◌+◌, ◌*◌, ◌/◌, ◌^◌, ◌≤◌, ◌<◌, max, ◌≡◌, length, arith}
use Rattle.std.proofs.Math.Nat.{pow-suc}
use Rattle.wording.specs.Line.{numeral}
use Rattle.wording.proofs.Digits.{one_digit, more-digits}
use Rattle.numbers.proofs.digits.Goals as goal

-- 0 counts as 1
digits_from_power : (k v w : ℕ) → w ≡ max v 1 → 10 ^ k ≤ w → w < 10 * 10 ^ k → k + 1 ≡ length (numeral v)
digits_from_power zero v w is low high = omega (arith, one_digit v (omega arith))
digits_from_power (suc k) v w is low high =
    let p = pow-suc 10 k in
    let fewer = digits_from_power k (v / 10) (v / 10) (omega arith) (omega arith) (omega arith) in
    omega (arith, more-digits v (omega arith))

pub returns-clause-value : goal.returns-clause-value
returns-clause-value c = digits_from_power _ _ _ c.max.ensures c.ilog10.ensures.power_le c.ilog10.ensures.next_power_gt
