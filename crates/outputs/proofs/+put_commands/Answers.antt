-- `outputs::put_commands` meets its contract: it calls itself with the rest of the text.
use native.Mathlib.Omega.{arith}
use mathlib.Core.Path.{◌≡◌, sym, ◌∙◌}
use lib.ListN.{length}
use borrow.Author.Tests.{eqb-true, eqb-false}
use Rattle.theory.proofs.Ready.{ready_register}
use Rattle.theory.proofs.Outcome.{outcome_ready}
use Rattle.theory.proofs.Refusals.{register_ready}
use Rattle.outputs.proofs.Accepted.{register_readable}
use Rattle.outputs.proofs.Commands.{output_ended}
use Rattle.outputs.proofs.Part.{within_both, within_wider, room_behind, room_smaller}
use Rattle.outputs.proofs.Turn.{bad_within, rest_within, rest_shorter, turn_answered, turn_refused}
use Rattle.outputs.proofs.+put_commands.Goals as goal

pub invariant_of-put_register : goal.invariant_of-put_register
invariant_of-put_register t c = record { is_readable = register_readable c.args.header c.args.cells.now c.requires.0 }

pub put_register-requires : goal.put_register-requires
put_register-requires t c = (c.requires.0, room_smaller _ (omega arith) c.requires.2)

pub returns-then-is_empty : goal.returns-then-is_empty
returns-then-is_empty t c =
    let none = eqb-true _ _ (sym c.is_empty.ensures ∙ c.if-is_empty.true) in
    rw (output_ended c.args.header c.args.cells.now c.args.at c.args.text.now none) (within_wider _ (omega arith) c.put_register.ensures)

pub overflow_add-at : goal.overflow_add-at
overflow_add-at t c =
    let read = c.read_command-read in
    omega (arith, c.requires.1, bad_within c.args.text.now read.result read.ensures)

pub put_refused-requires : goal.put_refused-requires
put_refused-requires t c =
    let read = c.read_command-read in
    (room_smaller 33 (omega arith) c.requires.2, omega (arith, c.requires.1, bad_within c.args.text.now read.result read.ensures))

pub returns-then-read-ne0 : goal.returns-then-read-ne0
returns-then-read-ne0 t c =
    let read = c.read_command-read in
    let some : length c.args.text.now ≡ 0 → ⊥ = eqb-false _ _ (sym c.is_empty.ensures ∙ c.if-is_empty.false) in
    let same = turn_refused c.args.text.now read.result read.ensures c.args.header c.args.cells.now c.args.at (omega arith) c.if-read-ne0.true in
    within_wider _ (omega arith) (rw same at c.put_refused.ensures)

pub put_answer-requires : goal.put_answer-requires
put_answer-requires t c = room_smaller 54 (omega arith) c.requires.2

pub overflow_add-at-2 : goal.overflow_add-at-2
overflow_add-at-2 t c =
    let read = c.read_command-read in
    omega (arith, c.requires.1, rest_within c.args.text.now read.result read.ensures _ c.command_rest-rest.ensures.bytes)

pub put_commands-requires : goal.put_commands-requires
put_commands-requires t c =
    let read = c.read_command-read in
    let rest = c.command_rest-rest in
    let good = c.if-read-ne0.false in
    let shorter = rest_shorter c.args.text.now read.result read.ensures rest.result.now rest.ensures.bytes good in
    let within = rest_within c.args.text.now read.result read.ensures rest.result.now rest.ensures.bytes in
    let ready = register_ready c.args.header c.args.cells.now c.requires.0 in (
      omega (arith, shorter),
      (
        rw c.command-done.ensures.cells
            (ready_register c.args.header _ (outcome_ready c.args.header c.args.cells.now ready read.result.command)),
        omega (arith, c.requires.1, within),
        room_behind _ _ c.put_answer.ensures (omega (arith, shorter)) c.requires.2,
      ),
    )

pub returns : goal.returns
returns t c =
    let read = c.read_command-read in
    let rest = c.command_rest-rest in
    let good = c.if-read-ne0.false in
    let shorter = rest_shorter c.args.text.now read.result read.ensures rest.result.now rest.ensures.bytes good in
    let same =
    turn_answered c.args.text.now read.result read.ensures rest.result.now rest.ensures.bytes c.args.header c.args.cells.now c.args.at
    c.command-done.result _ (omega arith) good c.command-done.ensures
    in
    within_wider _ (omega (arith, shorter)) (rw same at (within_both c.put_answer.ensures c.put_commands.ensures))
