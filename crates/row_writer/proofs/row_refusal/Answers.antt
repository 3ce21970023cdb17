-- `row_writer::row_refusal` meets its contract.
use borrow.Author.Tests.{lt-ltb, le-ltb}
use Rattle.std.proofs.lemmas.Result.{err_from_is_err_and}
use Rattle.rights.specs.Sound.{unless}
use Rattle.theory.proofs.Refusal.{refused_first, passed_first}
use Rattle.wording.specs.Writer.{row_refusal}
use Rattle.row_writer.proofs.row_refusal.Goals as goal

pub returns-in_err-register_refusal : goal.returns-in_err-register_refusal
unfolding row_refusal
returns-in_err-register_refusal c =
    let p = err_from_is_err_and c.from_residual.result c.from_residual.ensures.1 in
    rw (p.1, p.2) (refused_first _ _ c.in_err-register_refusal.ensures)

pub returns-then-header-row : goal.returns-then-header-row
unfolding row_refusal unless
returns-then-header-row c = rw (le-ltb _ _ c.if-header-row.true) (passed_first 6 c.in_ok-register_refusal.ensures)

pub returns : goal.returns
unfolding row_refusal unless
returns c = rw (lt-ltb _ _ c.if-header-row.false) (passed_first 0 c.in_ok-register_refusal.ensures)
