-- No second outcome: at most one answer satisfies each contract, whatever the arguments.
-- `Post` is the contract as the check reads it: of the lifetimes, the arguments, the result and the arguments at exit.
use Prim.Native.Nat.{ℕ}
use mathlib.Core.Path.{◌≡◌, sym, ◌∙◌}
use Rattle.std.specs.declared.option.Option.{Option}
use Rattle.numbers.proofs.number.Reads as number
use Rattle.numbers.proofs.digits.Reads as digits

pub number_once : (κs : _) (a : _) (r s : Option (ℕ × ℕ)) (exit other : _) → number.Post κs a r exit → number.Post κs a s other → r ≡ s
number_once κs a r s exit other p q = p ∙ sym q

pub digits_once : (κs : _) (a : _) (r s : ℕ) (exit other : _) → digits.Post κs a r exit → digits.Post κs a s other → r ≡ s
digits_once κs a r s exit other p q = p.0 ∙ sym q.0
