-- `printing::try_lines` meets its contract.
use native.Mathlib.Omega.{arith}
use mathlib.Core.Path.{◌≡◌, refl}
use borrow.Author.Rules.{rules}
use Rattle.std.proofs.lemmas.Result.{err_from_is_err_and}
use Rattle.rights.specs.declared.Refusal.TheVariants.{LittleRoom}
use Rattle.printing.specs.NumberLine.{line_bytes}
use Rattle.printing.proofs.Adds.{adds_more, adds_all, fits_more}
use Rattle.printing.proofs.Told.{told_short, told_done}
use Rattle.printing.proofs.try_lines.Goals as goal

pub returns-in_err-ok_or : goal.returns-in_err-ok_or
returns-in_err-ok_or c =
    let p = err_from_is_err_and c.from_residual.result c.from_residual.ensures.1 in
    let none = c.in_err-ok_or.ensures.ok_part in
    let little : c.in_err-ok_or.field-0.0 ≡ LittleRoom = cc (rw none at c.in_err-ok_or.ensures.value) in
    rw (p.1, p.2, little) (told_short _ _ (rw none at c.left_behind.ensures))

pub put_line-requires : goal.put_line-requires
put_line-requires c =
    let some = rw c.in_ok-ok_or.ensures.ok_part at c.left_behind.ensures in
    fits_more line_bytes c.args.lines.now c.loop-line.line-index c.loop-line.invariant _ c.loop-line-test.true (record { enough = omega (arith, some) })

pub loop-line-preserved : goal.loop-line-preserved
loop-line-preserved c =
    adds_more line_bytes c.args.lines.now c.loop-line.line-index c.loop-line.invariant _ c.loop-line-test.true c.put_line.ensures

pub returns : goal.returns
returns c =
    let some = rw c.in_ok-ok_or.ensures.ok_part at c.left_behind.ensures in
    told_done refl (record { enough = omega (arith, some) })
    (adds_all line_bytes c.args.lines.now c.loop-line.line-index c.loop-line.invariant c.loop-line-test.false)
    (search rules)
