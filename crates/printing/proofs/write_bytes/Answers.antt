-- `printing::write_bytes` meets its contract.
use mathlib.Core.Path.{refl}
use borrow.Author.Rules.{rules}
use Rattle.printing.proofs.Told.{told_short, told_done}
use Rattle.printing.proofs.write_bytes.Goals as goal

pub returns-then-room-text : goal.returns-then-room-text
returns-then-room-text c = rw c.from.ensures (told_short _ _ c.if-room-text.true)

pub returns : goal.returns
returns c = rw c.from-2.ensures (told_done refl (record { enough = search rules }) c.put_bytes.ensures (search rules))
