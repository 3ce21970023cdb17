-- `questions::first_into` meets its contract: each office is asked.
use Rattle.std.proofs.Common.{rules, tests, refl, arith}
use mathlib.Core.Path.{◌∙◌}
use Rattle.std.proofs.lemmas.Iterator.{YieldsList-from_range, serves_from_Range}
use Rattle.rights.specs.Question.{link_into}
use Rattle.theory.proofs.Range.{first_over}
use Rattle.questions.proofs.Reading.{few}
use Rattle.questions.proofs.first_into.Goals as goal

pub find-requires-clause-callable : goal.find-requires-clause-callable
find-requires-clause-callable c = serves_from_Range (λ x q k. search (rules, tests)) (λ x low below. omega (arith, few c.args.register.now))

pub returns : goal.returns
returns c =
    let r = c.args.register.now in
    c.unwrap_or.ensures
    ∙ first_over r.header.n (link_into r.header r.cells.now c.args.perm c.args.set.now c.args.x) _ _ _ c.find.ensures.ran
    (YieldsList-from_range 0 r.header.n r.header.n refl (omega arith))
    (λ x b q k. search (rules, tests))
