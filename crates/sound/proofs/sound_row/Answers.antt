-- `sound::sound_row` meets its contract: each cell of the row is asked.
use Rattle.std.proofs.Common.{rules, tests, refl, arith}
use Rattle.std.proofs.lemmas.Iterator.{YieldsList-from_range}
use Rattle.rights.specs.Sound.{sound_cell}
use Rattle.theory.proofs.Range.{all_over}
use Rattle.sound.proofs.sound_row.Goals as goal

pub returns : goal.returns
returns c =
    let r = c.args.register.now in
    all_over r.header.n (sound_cell r.header r.cells.now c.args.levels.now c.args.i) _ _ _ c.all.ensures.ran
    (YieldsList-from_range 0 r.header.n r.header.n refl (omega arith))
    (λ x b q k. search (rules, tests))
