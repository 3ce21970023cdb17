-- `row_writer::put_cell` meets its contract.
use Rattle.printing.proofs.Adds.{adds_more, adds_all, fits_more}
use Rattle.row_writer.specs.Row.{member_text}
use Rattle.row_writer.proofs.Row.{all, cell_members}
use Rattle.row_writer.proofs.put_cell.Goals as goal

pub put_member-requires : goal.put_member-requires
put_member-requires c =
    fits_more (member_text c.args.by.0 c.args.to.0 c.args.c) all c.loop-perm.perm-index c.loop-perm.invariant _ c.loop-perm-test.true (rw cell_members at c.requires)

pub loop-perm-preserved : goal.loop-perm-preserved
loop-perm-preserved c =
    adds_more (member_text c.args.by.0 c.args.to.0 c.args.c) all c.loop-perm.perm-index c.loop-perm.invariant _ c.loop-perm-test.true c.put_member.ensures

pub returns : goal.returns
returns c =
    rw cell_members (adds_all (member_text c.args.by.0 c.args.to.0 c.args.c) all c.loop-perm.perm-index c.loop-perm.invariant c.loop-perm-test.false)
