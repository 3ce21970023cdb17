-- `outputs::write_output` meets its contract.
use native.Mathlib.Omega.{arith}
use mathlib.Core.Path.{refl}
use borrow.Author.Rules.{rules}
use Rattle.outputs.proofs.Whole.{room_short, output_told}
use Rattle.outputs.proofs.write_output.Goals as goal

pub returns-then-room-lt1700000 : goal.returns-then-room-lt1700000
returns-then-room-lt1700000 c = rw c.from.ensures (record { told = room_short c.args.input.now c.args.room.now (omega arith); few = omega arith })

pub returns-clause-told : goal.returns-clause-told
returns-clause-told c = rw c.from-2.ensures (output_told c.args.input.now _ (omega arith) refl c.put_output.ensures (search rules))
