-- No second outcome: at most one answer satisfies the contract, whatever the arguments.
-- `Post` is the contract as the check reads it: of the lifetimes, the arguments, the result and the arguments at exit.
use Rattle.std.specs.declared.result.Result.{Result}
use Rattle.rights.specs.declared.Act.{Act}
use Rattle.rights.specs.declared.Refusal.{Refusal}
use Rattle.theory.proofs.Once.{Once}
use Rattle.theory.proofs.Refusal.{numbered_once, judged_once}
use Rattle.refusals.proofs.refusal.Reads as refusal

pub refusal_once : (κs : _) (a : _) (exit : _) → Once (λ (r : Result Act Refusal). refusal.Post κs a r exit)
refusal_once κs a exit r s p q = judged_once _ (numbered_once _) r s (p.0, p.1) (q.0, q.1)
