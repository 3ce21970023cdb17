-- `row_writer::put_perm` meets its contract: what is written into the rest of the page stands on it.
use native.Mathlib.Omega.{arith}
use Rattle.printing.proofs.Told.{told_part}
use Rattle.row_writer.proofs.put_perm.Goals as goal

pub overflow_add-page : goal.overflow_add-page
overflow_add-page c =
    let told = told_part c.args.page.now c.requires (rw c.perm_line.ensures at c.write_bytes.ensures) in
    omega (arith, c.requires.enough, told.ends)

pub returns : goal.returns
returns c = told_part c.args.page.now c.requires (rw c.perm_line.ensures at c.write_bytes.ensures)
