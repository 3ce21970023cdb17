-- No second outcome: at most one answer satisfies each contract, whatever the arguments.
-- `Post` is the contract as the check reads it: of the lifetimes, the arguments, the result and the arguments at exit.
use mathlib.Core.Path.{◌≡◌, sym, ◌∙◌}
use Prim.Native.Nat.{ℕ}
use Rattle.std.specs.declared.option.Option.{Option}
use Rattle.lines.proofs.line.Reads as line
use Rattle.lines.proofs.end_line.Reads as end_line

pub line_once : (κs : _) (a : _) (r s : Option (ℕ × ℕ)) (exit other : _) → line.Post κs a r exit → line.Post κs a s other → r ≡ s
line_once κs a r s exit other p q = p ∙ sym q

pub end_line_once : (κs : _) (a : _) (r s : Option ℕ) (exit other : _) → end_line.Post κs a r exit → end_line.Post κs a s other → r ≡ s
end_line_once κs a r s exit other p q = p ∙ sym q
