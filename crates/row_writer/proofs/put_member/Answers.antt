-- `row_writer::put_member` meets its contract.
use mathlib.Core.Path.{sym, ◌∙◌}
use Rattle.printing.proofs.Adds.{adds_none, adds_both, fits_first, fits_second}
use Rattle.row_writer.proofs.Row.{member_stands, member_lacks}
use Rattle.row_writer.proofs.put_member.Goals as goal

pub put_pair-requires : goal.put_pair-requires
put_pair-requires c = fits_first _ (rw (member_stands _ _ _ _ (sym c.stands.ensures ∙ c.if-stands.true)) at c.requires)

pub put_perm-requires : goal.put_perm-requires
put_perm-requires c = fits_second _ c.put_pair.ensures (rw (member_stands _ _ _ _ (sym c.stands.ensures ∙ c.if-stands.true)) at c.requires)

pub returns-then-stands : goal.returns-then-stands
returns-then-stands c =
    rw (member_stands _ _ _ _ (sym c.stands.ensures ∙ c.if-stands.true)) (adds_both c.put_pair.ensures c.put_perm.ensures)

pub returns-else-stands : goal.returns-else-stands
returns-else-stands c = rw (member_lacks _ _ _ _ (sym c.stands.ensures ∙ c.if-stands.false)) adds_none
