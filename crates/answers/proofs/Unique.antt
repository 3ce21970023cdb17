-- No second outcome: at most one answer, one length and one room satisfy each contract, whatever the arguments.
-- `Post` is the contract as the check reads it: of the lifetimes, the arguments, the result and the arguments at exit, of which
-- the room is the last.
use mathlib.Core.Path.{◌≡◌}
use Rattle.printing.specs.declared.Written.{Written}
use Rattle.printing.proofs.Unique.{told_once}
use Rattle.answers.proofs.write_answer.Reads as write-answer
use Rattle.answers.proofs.write_refused.Reads as write-refused

pub write_answer_once :
    (κs : _) (a : _) (r s : Written) (exit other : _) → write-answer.Post κs a r exit → write-answer.Post κs a s other →
    (r ≡ s) × (exit.1.1.1.0.now ≡ other.1.1.1.0.now)
write_answer_once κs a r s exit other p q = told_once p q

pub write_refused_once :
    (κs : _) (a : _) (r s : Written) (exit other : _) → write-refused.Post κs a r exit → write-refused.Post κs a s other →
    (r ≡ s) × (exit.1.1.0.now ≡ other.1.1.0.now)
write_refused_once κs a r s exit other p q = told_once p q
