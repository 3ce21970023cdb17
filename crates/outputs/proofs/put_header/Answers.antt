-- `outputs::put_header` meets its contract.
use native.Mathlib.Omega.{arith}
use Rattle.wording.specs.Writer.{header_written}
use Rattle.wording.proofs.Length.{header_short}
use Rattle.outputs.proofs.Accepted.{header_accepted}
use Rattle.outputs.proofs.Part.{put_part}
use Rattle.outputs.proofs.put_header.Goals as goal

pub overflow_add-page : goal.overflow_add-page
unfolding header_written
overflow_add-page c =
    let there = put_part c.args.page.now _ 26 _ (header_accepted _ c.requires.0) c.requires.1 (header_short _ c.requires.0 (omega arith)) c.write_header.ensures in
    omega (arith, c.requires.1.enough, there.few)

pub returns : goal.returns
unfolding header_written
returns c = put_part c.args.page.now _ 26 _ (header_accepted _ c.requires.0) c.requires.1 (header_short _ c.requires.0 (omega arith)) c.write_header.ensures
