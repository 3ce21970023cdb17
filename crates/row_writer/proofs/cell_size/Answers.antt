-- `row_writer::cell_size` meets its contract: as many records as the cell has, each as long as the other.
use Prim.Native.Nat.{ℕ, ◌+◌, ◌*◌, ◌≤◌}
use native.Mathlib.Nat.{mul-le-mul}
use native.Mathlib.Omega.{arith}
use mathlib.Core.Path.{sym}
use Rattle.row_writer.proofs.Row.{cell-size, few-records}
use Rattle.row_writer.proofs.cell_size.Goals as goal

-- a cell has four records at most, and a record 36 bytes
few : (records one two : ℕ) → records ≤ 4 → one ≤ 10 → two ≤ 10 → records * (16 + one + two) ≤ 144
few records one two r o t =
    let bytes : 16 + one + two ≤ 36 = omega arith in
    mul-le-mul r bytes

pub overflow_mul-result : goal.overflow_mul-result
overflow_mul-result c =
    let records : c.size.result ≤ 4 = rw c.size.ensures (few-records _) in
    omega (arith, few c.size.result c.digits.result c.digits-2.result records (omega arith) (omega arith))

pub returns : goal.returns
returns c =
    let a = c.args in
    let records : c.size.result ≤ 4 = rw c.size.ensures (few-records _) in
    record {
      value = rw (c.size.ensures, c.digits.ensures.value, c.digits-2.ensures.value) (sym (cell-size a.by.0 a.to.0 a.c));
      few = few c.size.result c.digits.result c.digits-2.result records (omega arith) (omega arith);
    }
