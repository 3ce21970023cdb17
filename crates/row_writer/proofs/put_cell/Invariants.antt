-- `row_writer::put_cell` meets its contract: the records passed stand on the page.
use lib.ListN.{take}
use Rattle.std.specs.List.{flat_map}
use Rattle.printing.specs.Page.{Adds}
use Rattle.row_writer.specs.Row.{member_text}
use Rattle.row_writer.proofs.put_cell.Given as goal

abbrev pub invariant-loop-perm : goal.invariant-loop-perm
invariant-loop-perm l = Adds (flat_map (member_text l.by.0 l.to.0 l.c) (take l.perm-index l.perm-items)) l.initial.page l.page
