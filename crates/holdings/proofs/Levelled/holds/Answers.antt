-- `holdings::Levelled::holds` meets its contract: SOA is known at once, and for another each grantor is asked.
use Rattle.std.proofs.Common.{rules, tests, refl, arith}
use Rattle.std.proofs.lemmas.Iterator.{YieldsList-from_range, serves_from_Range}
use borrow.Author.Tests.{ne_eqb}
use Rattle.rights.specs.Level.{holds_by, passes_on}
use Rattle.theory.proofs.Range.{any_over}
use Rattle.registers.proofs.Bounds.{readable_high}
use Rattle.holdings.proofs.Levelled.holds.Goals as goal

pub any-requires-clause-callable : goal.any-requires-clause-callable
any-requires-clause-callable c =
    let r = c.args.self.now.register in
    let high = readable_high r.header r.cells.now r.is_readable in
    serves_from_Range (λ x q k. search (rules, tests)) (λ x low below. omega (arith, high))

pub returns-else-y-self : goal.returns-else-y-self
unfolding holds_by
returns-else-y-self c =
    let a = c.args in
    let r = a.self.now.register in
    rw (ne_eqb _ _ c.if-y-self.false)
    (any_over r.header.n (passes_on r.header r.cells.now a.self.now.levels a.perm a.y) _ _ _ c.any.ensures.ran
    (YieldsList-from_range 0 r.header.n r.header.n refl (omega arith))
    (λ x b q k. search (rules, tests)))
