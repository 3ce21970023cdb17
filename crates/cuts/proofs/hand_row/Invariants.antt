-- `cuts::hand_row` meets its contract: before each turn the columns before k are handed over.
use Rattle.std.proofs.Common.{◌≡◌}
use Rattle.rights.specs.Register.{register}
use Rattle.cuts.proofs.Handed.{handed_before}
use Rattle.cuts.proofs.hand_row.Given as goal

abbrev pub invariant-loop-k : goal.invariant-loop-k
invariant-loop-k l = l.cells ≡ register l.header (handed_before l.header l.before l.initial.cells l.i.0 l.j.0 l.k)
