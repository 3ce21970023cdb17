-- `printing::Page::put_bytes` meets its contract: the bytes are copied into a part of the room.
use native.Mathlib.Omega.{arith}
use mathlib.Core.Path.{refl}
use Rattle.printing.proofs.Adds.{part_put}
use Rattle.printing.proofs.Page.put_bytes.Goals as goal

pub returns : goal.returns
returns c =
    record { same = refl; ends = refl; holds = rw c.copy_from_slice.ensures.after (part_put _ _ _ _ c.requires.enough (omega arith)) }
