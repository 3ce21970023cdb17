-- `lines::choice` meets its contract. The loop's invariant: the words left give what the whole table gives.
use Rattle.std.proofs.Common.{refl}
use Rattle.lines.proofs.Words.{choice_more, choice-found, choice-none}
use Rattle.lines.proofs.choice.Goals as goal

pub loop-bytes-init : goal.loop-bytes-init
loop-bytes-init c = record { left = refl }

pub returns-in-Some : goal.returns-in-Some
returns-in-Some c = choice-found c.loop-bytes.invariant _ _ c.loop-bytes-test.true c.in-Some.ensures

pub loop-bytes-preserved : goal.loop-bytes-preserved
loop-bytes-preserved c = choice_more c.loop-bytes.invariant _ c.loop-bytes-test.true c.in_default.ensures

pub returns : goal.returns
returns c = choice-none c.loop-bytes.invariant c.loop-bytes-test.false
