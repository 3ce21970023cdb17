-- No second outcome: at most one result satisfies each contract, whatever the arguments. Assumes nothing.
-- `Post` is the contract as the check reads it: of the lifetimes, the arguments, the result and the arguments at exit.
use Prim.Native.Nat.{ℕ}
use mathlib.Core.Bool.{Bool}
use Rattle.theory.proofs.Once.{Once, no_second}
use Rattle.carrying.proofs.carries.Reads as carries
use Rattle.carrying.proofs.carries_as.Reads as carries_as
use Rattle.carrying.proofs.suffices.Reads as suffices
use Rattle.carrying.proofs.enough.Reads as enough
use Rattle.carrying.proofs.restrict.Reads as restrict

pub carries_once : (κs : _) (a : _) (exit : _) → Once (λ (r : Bool). carries.Post κs a r exit)
carries_once κs a exit = no_second _

pub enough_once : (κs : _) (a : _) (exit : _) → Once (λ (r : Bool). enough.Post κs a r exit)
enough_once κs a exit = no_second _

pub restrict_once : (κs : _) (a : _) (exit : _) → Once (λ (r : ℕ). restrict.Post κs a r exit)
restrict_once κs a exit = no_second _

pub carries_as_once : (κs : _) (a : _) (exit : _) → Once (λ (r : Bool). carries_as.Post κs a r exit)
carries_as_once κs a exit = no_second _

pub suffices_once : (κs : _) (a : _) (exit : _) → Once (λ (r : Bool). suffices.Post κs a r exit)
suffices_once κs a exit = no_second _
