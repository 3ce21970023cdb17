-- No second outcome: at most one answer and one buffer satisfy the contract, whatever the arguments.
-- `Post` is the contract as the check reads it: of the lifetimes, the arguments, the result and the arguments at exit, of which
-- the buffer is the second.
use mathlib.Core.Path.{◌≡◌, sym, ◌∙◌}
use Rattle.register_reader.specs.declared.RegisterRead.{RegisterRead}
use Rattle.register_reader.proofs.read_register.Reads as read-register

pub read_register_once :
    (κs : _) (a : _) (r s : RegisterRead) (exit other : _) → read-register.Post κs a r exit → read-register.Post κs a s other →
    (r ≡ s) × (exit.1.0.now ≡ other.1.0.now)
read_register_once κs a r s exit other p q = (p.answer ∙ sym q.answer, p.buffer ∙ sym q.buffer)
