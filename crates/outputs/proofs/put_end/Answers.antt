-- `outputs::put_end` meets its contract.
use native.Mathlib.Omega.{arith}
use mathlib.Core.Path.{refl}
use Rattle.wording.specs.Word.{end_text}
use Rattle.wording.specs.Writer.{end_written}
use Rattle.outputs.proofs.Part.{put_part}
use Rattle.outputs.proofs.put_end.Goals as goal

pub overflow_add-page : goal.overflow_add-page
unfolding end_written end_text
overflow_add-page c =
    let there = put_part c.args.page.now 0 13 end_text refl c.requires (omega arith) c.write_end.ensures in
    omega (arith, c.requires.enough, there.few)

pub returns : goal.returns
unfolding end_written end_text
returns c = put_part c.args.page.now 0 13 end_text refl c.requires (omega arith) c.write_end.ensures
