-- `levels::linked` meets its contract: each grantor is asked.
use Rattle.std.proofs.Common.{rules, tests, refl, arith}
use Rattle.std.proofs.lemmas.Iterator.{YieldsList-from_range, serves_from_Range}
use Rattle.rights.specs.Level.{linked, linked_by}
use Rattle.theory.proofs.Range.{any_over}
use Rattle.registers.proofs.Bounds.{readable_high}
use Rattle.levels.proofs.linked.Goals as goal

pub any-requires-clause-callable : goal.any-requires-clause-callable
any-requires-clause-callable c =
    let r = c.args.register.now in
    let high = readable_high r.header r.cells.now r.is_readable in
    serves_from_Range (λ x q k. search (rules, tests)) (λ x low below. omega (arith, high))

pub returns : goal.returns
unfolding linked
returns c =
    let r = c.args.register.now in
    any_over r.header.n (linked_by r.header r.cells.now c.args.perm c.args.marks.now c.args.y) _ _ _ c.any.ensures.ran
    (YieldsList-from_range 0 r.header.n r.header.n refl (omega arith))
    (λ x b q k. search (rules, tests))
