-- `outputs::put_row` meets its contract.
use native.Mathlib.Omega.{arith}
use Rattle.wording.specs.Writer.{row_written}
use Rattle.wording.proofs.Length.{row_short}
use Rattle.theory.proofs.Refusals.{register_ready}
use Rattle.outputs.proofs.Accepted.{row_accepted}
use Rattle.outputs.proofs.Part.{put_part}
use Rattle.outputs.proofs.put_row.Goals as goal

pub overflow_add-page : goal.overflow_add-page
unfolding row_written
overflow_add-page c =
    let there =
    put_part c.args.page.now _ 11264 _ (row_accepted _ _ c.requires.0 _ c.requires.1) c.requires.2
    (row_short _ _ _ (register_ready _ _ c.requires.0).headed c.requires.1)
    c.write_row.ensures in
    omega (arith, c.requires.2.enough, there.few)

pub returns : goal.returns
unfolding row_written
returns c =
    put_part c.args.page.now _ 11264 _ (row_accepted _ _ c.requires.0 _ c.requires.1) c.requires.2
    (row_short _ _ _ (register_ready _ _ c.requires.0).headed c.requires.1)
    c.write_row.ensures
