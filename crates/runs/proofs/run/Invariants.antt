-- `runs::run` meets its contract: what is left to do gives what the whole run gives.
use Rattle.runs.proofs.Turn.{Turn, standing}
use Rattle.runs.proofs.run.Given as goal

abbrev pub invariant-loop-e : goal.invariant-loop-e
invariant-loop-e l = Turn l.header l.initial.cells l.initial.entries (standing l.e-index l.cells l.entries l.tally)
