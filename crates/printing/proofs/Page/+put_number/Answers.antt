-- `printing::Page::put_number` meets its contract: it calls itself with the digits before the last one, which are a number of their own.
use Prim.Native.Nat.{◌%◌}
use native.Mathlib.Omega.{arith}
use mathlib.Core.Path.{◌≡◌}
use Rattle.wording.proofs.Number.{numeral_digit, numeral-more}
use Rattle.wording.proofs.Digits.{one_digit, more-digits}
use Rattle.printing.proofs.Adds.{adds_both, adds_length}
use Rattle.printing.proofs.Page.+put_number.Goals as goal
use Rattle.printing.proofs.Page.+put_number.Goals.{then-v-ge10, else-v-ge10}

pub put_number-requires : goal.put_number-requires
put_number-requires t c = (omega arith, record { enough = omega (arith, c.requires.enough, more-digits c.args.v c.if-v-ge10.true) })

pub put_byte-requires : goal.put_byte-requires
put_byte-requires t c =
    elim c.if-v-ge10.branch [
      | then-v-ge10 w ↦ record { enough = rw w.self-is (omega (arith, c.requires.enough, more-digits c.args.v (omega arith), w.put_number.ensures.ends, adds_length w.put_number.ensures)) }
      | else-v-ge10 w ↦ record { enough = rw w.self-is (omega (arith, c.requires.enough, one_digit c.args.v (omega arith))) }
    ]

pub returns : goal.returns
returns t c =
    elim c.if-v-ge10.branch [
      | then-v-ge10 w ↦ rw (numeral-more c.args.v (omega arith)) (adds_both w.put_number.ensures (rw w.self-is at c.put_byte.ensures))
      | else-v-ge10 w ↦
          let digit : c.args.v % 10 ≡ c.args.v = omega arith in
          rw (numeral_digit c.args.v (omega arith)) (rw (digit, w.self-is) at c.put_byte.ensures)
    ]
