-- No second outcome: at most one answer, one length and one room satisfy each contract, whatever the arguments.
-- `Post` is the contract as the check reads it: of the lifetimes, the arguments, the result and the arguments at exit, of which
-- the room is the last.
use Prim.Native.Nat.{ℕ}
use mathlib.Core.Path.{◌≡◌, ap₂, sym, ◌∙◌}
use mathlib.Core.List.{List}
use Rattle.wording.specs.Writer.{Written as Outcome}
use Rattle.printing.specs.declared.Written.{Written}
use Rattle.printing.specs.Told.{Told}
use Rattle.printing.proofs.WrittenFromResultUsizeRefusal.from.Reads as written-from
use Rattle.printing.proofs.write_bytes.Reads as write_bytes
use Rattle.printing.proofs.write_lines.Reads as write_lines
use Rattle.printing.proofs.write_two.Reads as write_two
use Rattle.printing.proofs.write_three.Reads as write-three

-- an outcome is told in one way
pub told_once :
    {outcome : Outcome} {r s : Written} {room other : List ℕ} → Told outcome r room → Told outcome s other → (r ≡ s) × (room ≡ other)
told_once p q = (
  ap₂ (λ (answer size : ℕ). record { answer = answer; size = size }) (p.answered ∙ sym q.answered) (p.sized ∙ sym q.sized),
  p.left ∙ sym q.left,
)

-- a result is answered in one way
pub written_from_once :
    (κs : _) (a : _) (r s : Written) (exit other : _) → written-from.Post κs a r exit → written-from.Post κs a s other → r ≡ s
written_from_once κs a r s exit other p q = p ∙ sym q

pub write_bytes_once :
    (κs : _) (a : _) (r s : Written) (exit other : _) → write_bytes.Post κs a r exit → write_bytes.Post κs a s other →
    (r ≡ s) × (exit.1.0.now ≡ other.1.0.now)
write_bytes_once κs a r s exit other p q = told_once p q

pub write_lines_once :
    (κs : _) (a : _) (r s : Written) (exit other : _) → write_lines.Post κs a r exit → write_lines.Post κs a s other →
    (r ≡ s) × (exit.1.0.now ≡ other.1.0.now)
write_lines_once κs a r s exit other p q = told_once p q

pub write_two_once :
    (κs : _) (a : _) (r s : Written) (exit other : _) → write_two.Post κs a r exit → write_two.Post κs a s other →
    (r ≡ s) × (exit.1.1.1.1.0.now ≡ other.1.1.1.1.0.now)
write_two_once κs a r s exit other p q = told_once p q

pub write_three_once :
    (κs : _) (a : _) (r s : Written) (exit other : _) → write-three.Post κs a r exit → write-three.Post κs a s other →
    (r ≡ s) × (exit.1.1.1.1.1.1.0.now ≡ other.1.1.1.1.1.1.0.now)
write_three_once κs a r s exit other p q = told_once p q
