-- `row_writer::row_size` meets its contract: the cells passed are measured.
use native.Mathlib.Omega.{arith}
use mathlib.Core.Path.{◌≡◌, ap, ◌∙◌}
use lib.ListN.{length, length-append}
use Rattle.row_writer.specs.Row.{cell_text, row_up_to}
use Rattle.row_writer.proofs.Row.{row_none, row_more, row_all}
use borrow.Author.Rules.{rules}
use Rattle.row_writer.proofs.row_size.Goals as goal

pub loop-to-init : goal.loop-to-init
loop-to-init c = (rw row_none, search rules)

pub loop-to-preserved : goal.loop-to-preserved
loop-to-preserved c =
    let register = c.args.register.now in
    let more = length-append (row_up_to register.header register.cells.now c.args.row.0 c.loop-to.to) (cell_text c.args.row.0 c.loop-to.to c.cell.result) in
    (rw (row_more, ← c.cell.ensures) (omega arith), search rules)

pub returns : goal.returns
returns c =
    let end : c.loop-to.to ≡ c.args.register.now.header.n = omega arith in
    c.loop-to.invariant.0 ∙ ap length (row_all _ _ _ _ end)
