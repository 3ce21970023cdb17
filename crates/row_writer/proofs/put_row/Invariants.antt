-- `row_writer::put_row` meets its contract: the cells passed stand on the page.
use Rattle.printing.specs.Page.{Adds}
use Rattle.row_writer.specs.Row.{row_up_to}
use Rattle.row_writer.proofs.put_row.Given as goal

abbrev pub invariant-loop-to : goal.invariant-loop-to
invariant-loop-to l = Adds (row_up_to l.register.header l.register.cells.now l.row.0 l.to) l.initial.page l.page
