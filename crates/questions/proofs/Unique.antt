-- No second outcome: at most one answer, one number of offices and one buffer satisfy the contract, whatever the arguments.
-- Assumes nothing.
-- `Post` is the contract as the check reads it: of the lifetimes, the arguments, the result and the arguments at exit, of which
-- the chain buffer is the fifth.
use Prim.Native.Nat.{ℕ}
use mathlib.Core.Path.{◌≡◌, ap₂, sym, ◌∙◌}
use Rattle.questions.specs.declared.Held.{Held}
use Rattle.questions.proofs.holding.Reads as holding

pub holding_once :
    (κs : _) (a : _) (r s : Held) (exit other : _) →
    holding.Post κs a r exit →
    holding.Post κs a s other →
    (r ≡ s) × (exit.1.1.1.1.0.now ≡ other.1.1.1.1.0.now)
holding_once κs a r s exit other p q = (
  ap₂ (λ (answer offices : ℕ). record { answer = answer; offices = offices }) (p.0 ∙ sym q.0) (p.1.0 ∙ sym q.1.0),
  p.1.1 ∙ sym q.1.1,
)
