-- `rows::restrict_one_row` meets its contract: an office that there is none of has no row to restrict.
use mathlib.Core.Path.{sym}
use Rattle.rows.proofs.Rows.{rows_nowhere}
use Rattle.rows.proofs.Guard.{whole_if, changed_if, kept_if}
use Rattle.rows.proofs.restrict_one_row.Goals as goal
use Rattle.rows.proofs.restrict_one_row.Goals.{else-readable-via-then-readable+else-row-header, else-readable-via-else-readable}

pub returns-else-readable : goal.returns-else-readable
returns-else-readable c =
    let h = c.args.header in
    let R = c.args.cells.now in
    let says = c.readable.ensures in
    elim c.else-readable.branch [
      | else-readable-via-then-readable+else-row-header w ↦
          changed_if h R says w.if-readable.true
          (sym (rows_nowhere h R (whole_if h R says w.if-readable.true) c.args.row.0 c.args.level w.if-row-header.false))
      | else-readable-via-else-readable w ↦ kept_if h R says w.if-readable.false _
    ]
