-- No second outcome: at most one result satisfies the contract, whatever the arguments.
-- `Post` is the contract as the check reads it: of the lifetimes, the arguments, the result and the arguments at exit.
use Rattle.std.specs.declared.result.Result.{Result}
use Rattle.rights.specs.declared.Refusal.{Refusal}
use Rattle.theory.proofs.Once.{Once}
use Rattle.theory.proofs.Refusal.{answer_once}
use Rattle.sound.proofs.register_refusal.Reads as register_refusal

pub register_refusal_once : (κs : _) (a : _) (exit : _) → Once (λ (r : Result (Unit {0}) Refusal). register_refusal.Post κs a r exit)
register_refusal_once κs a exit = answer_once _
