-- `row_writer::put_pair` meets its contract: what is written into the rest of the page stands on it.
use native.Mathlib.Omega.{arith}
use Rattle.wording.specs.Word.{key}
use Rattle.printing.proofs.Told.{told_part}
use Rattle.row_writer.specs.Row.{pair_text}
use Rattle.row_writer.proofs.put_pair.Goals as goal

pub overflow_add-page : goal.overflow_add-page
unfolding pair_text key
overflow_add-page c =
    let told = told_part c.args.page.now c.requires c.write_two.ensures in
    omega (arith, c.requires.enough, told.ends)

pub returns : goal.returns
unfolding pair_text key
returns c = told_part c.args.page.now c.requires c.write_two.ensures
