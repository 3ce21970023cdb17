-- `rows::restrict_row_of` meets its contract: the row lies within the register, and comes back restricted.
use Prim.Native.Nat.{◌+◌, ◌-◌, ◌*◌}
use mathlib.Core.Path.{refl, ap, ◌∙◌}
use borrow.Rule.Slice.PartMut.{put_mid}
use Rattle.rows.proofs.Rows.{put_to_levels}
use Rattle.rows.proofs.restrict_row_of.Goals as goal

pub returns : goal.returns
returns g c =
    let h = c.args.header in
    let i = c.args.i in
    let R = c.args.cells.now in
    ap (put_mid (i * h.n) (i * h.n + h.n - i * h.n) R) c.restrict.ensures
    ∙ put_to_levels h R c.requires.0 i c.requires.1 (i * h.n + h.n) refl (g.L.Levels.level c.args.levels.now i)
