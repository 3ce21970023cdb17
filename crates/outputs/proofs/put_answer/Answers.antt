-- `outputs::put_answer` meets its contract.
use native.Mathlib.Omega.{arith}
use mathlib.Core.Path.{refl}
use Rattle.answers.specs.Answers.{answer_written}
use Rattle.outputs.proofs.Short.{answer_short}
use Rattle.outputs.proofs.Part.{put_part}
use Rattle.outputs.proofs.put_answer.Goals as goal

pub overflow_add-page : goal.overflow_add-page
unfolding answer_written
overflow_add-page c =
    let there = put_part c.args.page.now 0 54 _ refl c.requires (answer_short _ _ _ (omega arith) (omega arith) (omega arith)) c.write_answer.ensures in
    omega (arith, c.requires.enough, there.few)

pub returns : goal.returns
unfolding answer_written
returns c = put_part c.args.page.now 0 54 _ refl c.requires (answer_short _ _ _ (omega arith) (omega arith) (omega arith)) c.write_answer.ensures
