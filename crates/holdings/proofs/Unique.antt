-- No second outcome: at most one array satisfies the contract, whatever the arguments.
use Prim.Native.Nat.{ℕ}
use mathlib.Core.List.{List}
use Rattle.theory.proofs.Once.{Once, no_second}
use Rattle.holdings.proofs.losers.Reads as losers

pub losers_once : (κs : _) (a : _) (exit : _) → Once (λ (r : List ℕ). losers.Post κs a r exit)
losers_once κs a exit = no_second _
