-- No second outcome: at most one copy, and one list of bytes left behind, satisfy the contracts.
-- `Post` is the contract as the check reads it: of the lifetimes, the arguments, the result and the arguments at exit.
use Prim.Native.Nat.{ℕ}
use mathlib.Core.Path.{◌≡◌, sym, ◌∙◌}
use mathlib.Core.List.{List}
use denote.Bor.{Bor}
use Rattle.theory.proofs.Once.{Once, no_second}
use Rattle.buffers.proofs.copied.Reads as copied
use Rattle.buffers.proofs.clear.Reads as clear
use Rattle.buffers.proofs.Kept.new.Reads as kept-new
use Rattle.buffers.proofs.Kept.keep.Reads as kept-keep
use Rattle.buffers.proofs.Kept.cells.Reads as kept-cells

pub copied_once : (κs : _) (a : _) (exit : _) → Once (λ (r : List ℕ). copied.Post κs a r exit)
copied_once κs a exit = no_second _

pub clear_once : (κs : _) (a : _) (exit other : _) → clear.Post κs a tt exit → clear.Post κs a tt other → exit.0.now ≡ other.0.now
clear_once κs a exit other p q = p ∙ sym q

pub kept_new_once : (κs : _) (a : _) (exit : _) → Once (λ (r : List ℕ). kept-new.Post κs a r exit)
kept_new_once κs a exit = no_second _

pub kept_keep_once : (κs : _) (a : _) (exit other : _) → kept-keep.Post κs a tt exit → kept-keep.Post κs a tt other → exit.0.now ≡ other.0.now
kept_keep_once κs a exit other p q = p ∙ sym q

pub kept_cells_once : (κs : _) (a : _) (exit : _) (r s : Bor (List ℕ)) → kept-cells.Post κs a r exit → kept-cells.Post κs a s exit → r.now ≡ s.now
kept_cells_once κs a exit r s p q = p ∙ sym q
