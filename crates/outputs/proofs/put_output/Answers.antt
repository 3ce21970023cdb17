-- `outputs::put_output` meets its contract.
use Prim.Native.Nat.{◌<◌}
use native.Mathlib.Omega.{arith}
use mathlib.Core.Path.{refl, sym, ◌∙◌}
use lib.ListN.{length, replicate}
use lib.Seq.{length-take-le}
use Rattle.outputs.proofs.Beginning.{bad_within, begun_refused, begun_accepted, few-cells, commands_within, begun}
use Rattle.outputs.proofs.Part.{within_wider, room_smaller}
use Rattle.outputs.proofs.Whole.{output_long, output_read}
use Rattle.outputs.proofs.put_output.Goals as goal

pub put_refused-requires : goal.put_refused-requires
put_refused-requires c = (room_smaller 33 (omega arith) c.requires, omega arith)

pub returns-then-input-gt65536 : goal.returns-then-input-gt65536
returns-then-input-gt65536 c =
    let long : 65536 < length c.args.input.now = omega arith in
    within_wider 1700000 (omega arith) (rw (c.number.ensures, output_long c.args.input.now long) at c.put_refused.ensures)

pub put_refused-requires-then-read-ne0 : goal.put_refused-requires-then-read-ne0
put_refused-requires-then-read-ne0 c =
    let read = c.read_register-read in (
      room_smaller 33 (omega arith) c.requires,
      omega (arith, bad_within c.args.input.now (replicate 16384 0) read.result read.new.cells read.ensures),
    )

pub returns-then-read-ne0 : goal.returns-then-read-ne0
returns-then-read-ne0 c =
    let read = c.read_register-read in
    let same =
    begun_refused c.args.input.now (replicate 16384 0) read.result read.new.cells read.ensures c.if-read-ne0.true
    ∙ output_read c.args.input.now (omega arith)
    in
    within_wider 1700000 (omega arith) (rw same at c.put_refused-then-read-ne0.ensures)

pub overflow_mul-size : goal.overflow_mul-size
overflow_mul-size c =
    let read = c.read_register-read in
    omega (arith, few-cells c.args.input.now (replicate 16384 0) read.result read.new.cells read.ensures c.if-read-ne0.false)

pub slice_bounds-buffer-end : goal.slice_bounds-buffer-end
slice_bounds-buffer-end c =
    let read = c.read_register-read in
    omega (arith, few-cells c.args.input.now (replicate 16384 0) read.result read.new.cells read.ensures c.if-read-ne0.false)

pub slice_bounds-put_commands-end : goal.slice_bounds-put_commands-end
slice_bounds-put_commands-end c =
    let read = c.read_register-read in
    sym (length-take-le _ read.new.cells (omega (arith, few-cells c.args.input.now (replicate 16384 0) read.result read.new.cells read.ensures c.if-read-ne0.false)))

pub put_commands-requires : goal.put_commands-requires
put_commands-requires c =
    let read = c.read_register-read in
    let good = c.if-read-ne0.false in
    let rest = c.register_rest-rest in
    let within = commands_within c.args.input.now (replicate 16384 0) read.result read.new.cells read.ensures good rest.result.now rest.ensures.bytes in (
      begun_accepted c.args.input.now (replicate 16384 0) read.result read.new.cells read.ensures good _ refl,
      omega (arith, within),
      room_smaller _ (omega (arith, within)) c.requires,
    )

pub returns : goal.returns
returns c =
    let read = c.read_register-read in
    let good = c.if-read-ne0.false in
    let rest = c.register_rest-rest in
    let within = commands_within c.args.input.now (replicate 16384 0) read.result read.new.cells read.ensures good rest.result.now rest.ensures.bytes in
    let same =
    begun c.args.input.now (replicate 16384 0) read.result read.new.cells read.ensures good rest.result.now rest.ensures.bytes _ refl
    ∙ output_read c.args.input.now (omega arith)
    in
    within_wider 1700000 (omega (arith, within)) (rw same at c.put_commands.ensures)
