-- No second outcome: at most one result satisfies each contract, whatever the arguments. Assumes nothing.
-- `Post` is the contract as the check reads it: of the lifetimes, the arguments, the result and the arguments at exit.
use Prim.Native.Nat.{ℕ}
use mathlib.Core.Bool.{Bool}
use Rattle.theory.proofs.Once.{Once, no_second}
use Rattle.cells.proofs.is_code.Reads as is_code
use Rattle.cells.proofs.has.Reads as has
use Rattle.cells.proofs.stands.Reads as stands
use Rattle.cells.proofs.union.Reads as union
use Rattle.cells.proofs.without.Reads as without
use Rattle.cells.proofs.size.Reads as size

pub is_code_once : (κs : _) (a : _) (exit : _) → Once (λ (r : Bool). is_code.Post κs a r exit)
is_code_once κs a exit = no_second _

pub has_once : (κs : _) (a : _) (exit : _) → Once (λ (r : Bool). has.Post κs a r exit)
has_once κs a exit = no_second _

pub union_once : (κs : _) (a : _) (exit : _) → Once (λ (r : ℕ). union.Post κs a r exit)
union_once κs a exit = no_second _

pub without_once : (κs : _) (a : _) (exit : _) → Once (λ (r : ℕ). without.Post κs a r exit)
without_once κs a exit = no_second _

pub size_once : (κs : _) (a : _) (exit : _) → Once (λ (r : ℕ). size.Post κs a r exit)
size_once κs a exit = no_second _

pub stands_once : (κs : _) (a : _) (exit : _) → Once (λ (r : Bool). stands.Post κs a r exit)
stands_once κs a exit = no_second _
