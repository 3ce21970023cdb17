-- `row_writer::put_row` meets its contract.
use native.Mathlib.Omega.{arith}
use mathlib.Core.Path.{◌≡◌}
use Rattle.printing.proofs.Adds.{adds_none, adds_both}
use Rattle.row_writer.proofs.Row.{row_none, row_more, row_all, row_fits}
use Rattle.row_writer.proofs.put_row.Goals as goal

pub loop-to-init : goal.loop-to-init
loop-to-init c = rw row_none adds_none

pub put_cell-requires : goal.put_cell-requires
put_cell-requires c = rw c.cell.ensures (row_fits _ _ _ _ c.loop-to-test.true c.loop-to.invariant c.requires)

pub loop-to-preserved : goal.loop-to-preserved
loop-to-preserved c = rw (row_more, ← c.cell.ensures) (adds_both c.loop-to.invariant c.put_cell.ensures)

pub returns : goal.returns
returns c =
    let register = c.args.register.now in
    let end : c.loop-to.to ≡ register.header.n = omega arith in
    rw (row_all register.header register.cells.now c.args.row.0 c.loop-to.to end) at c.loop-to.invariant
