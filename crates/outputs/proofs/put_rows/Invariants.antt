-- `outputs::put_rows` meets its contract: the rows passed stand on the page.
use Prim.Native.Nat.{◌*◌}
use Rattle.wording.specs.Records.{joined, row_text}
use Rattle.outputs.specs.Within.{AddsWithin}
use Rattle.outputs.proofs.put_rows.Given as goal

abbrev pub invariant-loop-row : goal.invariant-loop-row
invariant-loop-row l = AddsWithin (11264 * l.row) (joined l.row (row_text l.register.header l.register.cells.now)) l.initial.page l.page
