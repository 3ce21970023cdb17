-- `row_writer::try_row` meets its contract.
use native.Mathlib.Omega.{arith}
use mathlib.Core.Path.{refl, sym}
use borrow.Author.Rules.{rules}
use Rattle.std.proofs.lemmas.Result.{err_from_is_err_and}
use Rattle.theory.proofs.Refusal.{number-nonzero}
use Rattle.theory.proofs.Refusals.{none_of, register_ready}
use Rattle.wording.specs.Writer.{row_refusal, row_written}
use Rattle.printing.proofs.Told.{told_refused, told_short, told_done}
use Rattle.row_writer.proofs.try_row.Goals as goal

pub returns-in_err-row_refusal : goal.returns-in_err-row_refusal
unfolding row_written
returns-in_err-row_refusal c =
    let p = err_from_is_err_and c.from_residual.result c.from_residual.ensures.1 in
    rw (p.1, p.2, ← c.in_err-row_refusal.ensures) (told_refused _ _ _ (number-nonzero _))

pub invariant_of-register : goal.invariant_of-register
unfolding row_refusal
invariant_of-register c =
    let ready = register_ready c.args.header c.args.cells.now (none_of _ _ (sym c.in_ok-row_refusal.ensures)).0 in
    record { is_readable = rw (ready.headed, ready.whole) }

pub returns-then-room-row_size : goal.returns-then-room-row_size
unfolding row_written
returns-then-room-row_size c = rw (← c.in_ok-row_refusal.ensures) (told_short _ _ (omega arith))

pub returns : goal.returns
unfolding row_written
returns c = rw (← c.in_ok-row_refusal.ensures) (told_done refl (record { enough = omega arith }) c.put_row.ensures (search rules))
