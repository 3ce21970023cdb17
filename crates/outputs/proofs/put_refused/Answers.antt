-- `outputs::put_refused` meets its contract.
use native.Mathlib.Omega.{arith}
use mathlib.Core.Path.{refl}
use Rattle.answers.specs.Answers.{refused_written}
use Rattle.outputs.proofs.Short.{refused_short}
use Rattle.outputs.proofs.Part.{put_part}
use Rattle.outputs.proofs.put_refused.Goals as goal

pub overflow_add-page : goal.overflow_add-page
unfolding refused_written
overflow_add-page c =
    let there = put_part c.args.page.now 0 33 _ refl c.requires.0 (refused_short _ _ (omega arith) (omega (arith, c.requires.1))) c.write_refused.ensures in
    omega (arith, c.requires.0.enough, there.few)

pub returns : goal.returns
unfolding refused_written
returns c = put_part c.args.page.now 0 33 _ refl c.requires.0 (refused_short _ _ (omega arith) (omega (arith, c.requires.1))) c.write_refused.ensures
