-- `printing::left_behind` meets its contract: what is left behind the lines so far.
use Prim.Native.Nat.{◌+◌}
use mathlib.Core.Path.{◌≡◌}
use lib.ListN.{length, take}
use Rattle.std.specs.List.{flat_map}
use Rattle.printing.specs.NumberLine.{line_bytes}
use Rattle.printing.proofs.left_behind.Given as goal

abbrev pub invariant-loop-line : goal.invariant-loop-line
invariant-loop-line l = l.left + length (flat_map line_bytes (take l.line-index l.lines)) ≡ l.room
