-- `records::read_records` meets its contract: a bad line leaves the buffer zero.
use Rattle.std.proofs.Common.{arith}
use Rattle.records.proofs.Told.{told_past, told_end, told_bad}
use Rattle.records.proofs.read_records.Goals as goal

pub returns-then-text-start : goal.returns-then-text-start
returns-then-text-start c = told_past _ _ _ _ c.if-text-start.true c.clear.ensures

pub returns-then-is_err : goal.returns-then-is_err
returns-then-is_err c = told_bad _ _ _ _ _ _ _ c.clear.ensures c.scan-read.ensures c.if-is_err.ensures.value c.clear-then-is_err.ensures (omega arith)

pub returns-else-is_err : goal.returns-else-is_err
returns-else-is_err c = told_end _ _ _ _ _ _ _ c.clear.ensures c.scan-read.ensures c.if-is_err.ensures.value
