-- `local::single` meets its contract: an office that there is no mark for is not marked.
use mathlib.Core.Path.{sym}
use lib.ListN.{replicate}
use lib.Seq.{set_out}
use Rattle.local.specs.Mark.{only_mark}
use Rattle.local.proofs.single.Goals as goal

pub returns-else-office-lt128 : goal.returns-else-office-lt128
unfolding only_mark
returns-else-office-lt128 c = sym (set_out (replicate 128 0) _ 1 c.if-office-lt128.false)
