-- No second outcome: at most one array satisfies each contract, whatever the arguments.
-- `Post` is the contract as the check reads it: of the lifetimes, the arguments, the result and the arguments at exit.
use Prim.Native.Nat.{ℕ}
use mathlib.Core.List.{List}
use Rattle.theory.proofs.Once.{Once, no_second}
use Rattle.levels.proofs.levels.Reads as levels
use Rattle.levels.proofs.independent_levels.Reads as independent

pub levels_once : (κs : _) (a : _) (exit : _) → Once (λ (r : List ℕ). levels.Post κs a r exit)
levels_once κs a exit = no_second _

pub independent_levels_once : (κs : _) (a : _) (exit : _) → Once (λ (r : List ℕ). independent.Post κs a r exit)
independent_levels_once κs a exit = no_second _
