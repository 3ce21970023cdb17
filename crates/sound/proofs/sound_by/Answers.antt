-- `sound::sound_by` meets its contract: each row is asked.
use Rattle.std.proofs.Common.{rules, tests, refl, arith}
use Rattle.std.proofs.lemmas.Iterator.{YieldsList-from_range, serves_from_Range}
use Rattle.rights.specs.Sound.{sound_by}
use Rattle.theory.proofs.Range.{all_over}
use Rattle.registers.proofs.Bounds.{readable_high}
use Rattle.sound.proofs.Standing.{sound_row}
use Rattle.sound.proofs.sound_by.Goals as goal

pub all-requires-clause-callable : goal.all-requires-clause-callable
all-requires-clause-callable c =
    let r = c.args.register.now in
    let high = readable_high r.header r.cells.now r.is_readable in
    serves_from_Range (λ x q k. search (rules, tests)) (λ x low below. omega (arith, high))

pub returns : goal.returns
unfolding sound_by sound_row
returns c =
    let r = c.args.register.now in
    all_over r.header.n (sound_row r.header r.cells.now c.args.levels.now) _ _ _ c.all.ensures.ran
    (YieldsList-from_range 0 r.header.n r.header.n refl (omega arith))
    (λ x b q k. search (rules, tests))
