-- No second outcome: at most one count satisfies the contract.
-- `Post` is the contract as the check reads it: of the lifetimes, the arguments, the result and the arguments at exit.
use Prim.Native.Nat.{ℕ}
use Rattle.theory.proofs.Once.{Once, no_second}
use Rattle.tally.proofs.missing.Reads as missing

pub missing_once : (κs : _) (a : _) (exit : _) → Once (λ (r : ℕ). missing.Post κs a r exit)
missing_once κs a exit = no_second _
