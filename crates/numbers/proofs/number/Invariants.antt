-- `numbers::number` meets its contract. The loop's invariant: the digits left give what the whole number gives.
use Rattle.numbers.proofs.Reading.{NumberSoFar}
use Rattle.numbers.proofs.number.Given as goal

abbrev pub invariant-loop-i : goal.invariant-loop-i
invariant-loop-i l = NumberSoFar l.text l.at l.v l.i
