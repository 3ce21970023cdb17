-- `outputs::put_rows` meets its contract.
use native.Mathlib.Omega.{arith}
use native.Mathlib.Numerals.{add-one}
use mathlib.Core.Path.{◌≡◌}
use Rattle.wording.specs.Records.{joined}
use Rattle.outputs.proofs.Part.{within_none, within_both, within_wider, room_behind}
use Rattle.outputs.proofs.put_rows.Goals as goal

pub loop-row-init : goal.loop-row-init
unfolding joined
loop-row-init c = within_none

pub put_row-requires : goal.put_row-requires
put_row-requires c = (c.requires.0, omega arith, room_behind _ 11264 c.loop-row.invariant (omega arith) c.requires.1)

pub loop-row-preserved : goal.loop-row-preserved
unfolding joined
loop-row-preserved c = rw add-one (within_wider _ (omega arith) (within_both c.loop-row.invariant c.put_row.ensures))

pub returns : goal.returns
returns c =
    let last : c.loop-row.row ≡ c.args.register.now.header.n = omega arith in
    rw last at c.loop-row.invariant
