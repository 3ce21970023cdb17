-- `strong::rounds` meets its contract: the rounds that are left come to what all of them come to.
use Prim.Native.Nat.{◌-◌}
use mathlib.Core.Path.{◌≡◌}
use mathlib.Core.Bool.{true}
use Rattle.rights.specs.Sound.{readable}
use Rattle.rights.specs.Deletion.{until_rest}
use Rattle.strong.proofs.rounds.Given as goal

abbrev pub invariant-loop-round : goal.invariant-loop-round
invariant-loop-round l = record {
  readable : readable l.header l.cells ≡ true;
  left : until_rest l.header l.before l.own (l.header.n - l._round) l.cells ≡ until_rest l.header l.before l.own l.header.n l.initial.cells;
}
