-- `rows::restrict_row` meets its contract: before each turn the cells before the turn's own are restricted.
use Rattle.std.proofs.Common.{set, ◌∙◌, ap, sym, arith}
use Rattle.std.proofs.lemmas.List.{get_or_default}
use Rattle.std.proofs.lemmas.List.Edits.{map_over_more}
use Rattle.rows.specs.Row.{at_level}
use Rattle.rows.proofs.restrict_row.Goals as goal

pub loop-cell-preserved : goal.loop-cell-preserved
unfolding at_level
loop-cell-preserved c =
    let at = c.loop-cell in
    let row = c.args.row.now in
    ap (set at.row at.cell-index) c.restrict.ensures
    ∙ map_over_more (at_level c.args.level) row at.row at.cell-index _ (omega arith) at.invariant (sym (get_or_default at.row at.cell-index _ 0 (omega arith)))
