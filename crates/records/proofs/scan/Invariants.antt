-- `records::scan` meets its contract. The loop's invariant: what is left to read gives what the whole text gives.
use Prim.Native.Nat.{◌-◌}
use lib.ListN.{length}
use Rattle.records.specs.Read.{text_record}
use Rattle.records.proofs.SoFar.{ScanSoFar}
use Rattle.records.proofs.scan.Given as goal

abbrev pub invariant-loop-next : goal.invariant-loop-next
invariant-loop-next l =
    ScanSoFar l.text l.start l.header l.initial.cells l.cells l.at (text_record l.last) l.outside l.forbidden

abbrev pub decreases-loop-next : goal.decreases-loop-next
decreases-loop-next l = length l.text - l.at
