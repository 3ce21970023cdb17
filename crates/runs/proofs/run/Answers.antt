-- `runs::run` meets its contract. What is true at each turn stands in `Turn.antt`.
use native.Mathlib.Omega.{arith}
use Rattle.rights.specs.Run.{answered_with}
use Rattle.runs.proofs.Turn.{standing, start, next, over, refused}
use Rattle.runs.proofs.run.Goals as goal

pub returns-then-entries-gt256 : goal.returns-then-entries-gt256
returns-then-entries-gt256 c =
    refused c.args.header c.args.cells.now c.args.entries.now _ c.default-tally.ensures c.if-entries-gt256.true c.number.ensures

pub loop-e-init : goal.loop-e-init
loop-e-init c = start c.args.header c.args.cells.now c.args.entries.now _ c.default-tally.ensures c.if-entries-gt256.false

pub loop-e-preserved : goal.loop-e-preserved
unfolding answered_with
loop-e-preserved c =
    next c.args.header c.args.cells.now c.args.entries.now (standing c.loop-e.e-index c.loop-e.cells c.loop-e.entries c.loop-e.tally)
    c.loop-e.invariant (omega arith) c.take_in-taken.result c.take_in-taken.new.cells c.take_in-taken.ensures c.take_in-taken.auto.cells

pub returns : goal.returns
returns c =
    over c.args.header c.args.cells.now c.args.entries.now (standing c.loop-e.e-index c.loop-e.cells c.loop-e.entries c.loop-e.tally)
    c.loop-e.invariant (omega arith)
