-- `row_writer::row_size` meets its contract: the cells passed are measured.
use Prim.Native.Nat.{◌*◌, ◌≤◌}
use mathlib.Core.Path.{◌≡◌}
use lib.ListN.{length}
use Rattle.row_writer.specs.Row.{row_up_to}
use Rattle.row_writer.proofs.row_size.Given as goal

abbrev pub invariant-loop-to : goal.invariant-loop-to
invariant-loop-to l = (l.size ≡ length (row_up_to l.register.header l.register.cells.now l.row.0 l.to)) × (l.size ≤ 144 * l.to)
