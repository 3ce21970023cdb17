-- `lines::choice` meets its contract. The loop's invariant: the words left give what the whole table gives.
use lib.ListN.{drop}
use Rattle.lines.proofs.Words.{ChoiceSoFar}
use Rattle.lines.proofs.choice.Given as goal

abbrev pub invariant-loop-bytes : goal.invariant-loop-bytes
invariant-loop-bytes l = ChoiceSoFar l.text l.words (drop l.at l.text) l.bytes-index
