-- No second outcome: at most one answer and one buffer satisfy each contract, whatever the arguments.
-- `Post` is the contract as the check reads it: of the lifetimes, the arguments, the result and the arguments at exit, of which
-- the buffer is the last.
use mathlib.Core.Path.{◌≡◌, sym, ◌∙◌}
use Rattle.std.specs.declared.result.Result.{Result}
use Rattle.records.specs.declared.RecordsEnd.{RecordsEnd}
use Prim.Native.Nat.{ℕ}
use Rattle.records.proofs.read_records.Reads as read-records

pub read_records_once :
    (κs : _) (a : _) (r s : Result RecordsEnd ℕ) (exit other : _) → read-records.Post κs a r exit → read-records.Post κs a s other →
    (r ≡ s) × (exit.1.1.1.0.now ≡ other.1.1.1.0.now)
read_records_once κs a r s exit other p q = (p.answer ∙ sym q.answer, p.buffer ∙ sym q.buffer)
