-- No second outcome: at most one part of the caller's text and one buffer satisfy each contract, whatever the arguments.
-- `Post` is the contract as the check reads it: of the lifetimes, the arguments, the result and the arguments at exit, of which
-- the buffer is the second.
use Prim.Native.Nat.{ℕ}
use mathlib.Core.Path.{◌≡◌, sym, ap₂, ◌∙◌}
use mathlib.Core.List.{List}
use denote.Ref.{Bor}
use Rattle.rests.proofs.rest_from.Reads as rest-from
use Rattle.rests.proofs.register_rest.Reads as register-rest
use Rattle.rests.proofs.command_rest.Reads as command-rest
use Rattle.rests.proofs.after_register.Reads as after-register
use Rattle.rests.proofs.after_command.Reads as after-command

-- the same part of a text: where it stands, and its bytes
abbrev SamePart : Bor (List ℕ) → Bor (List ℕ) → Type 0
SamePart r s = (r.ref_ptr ≡ s.ref_ptr) × (r.now ≡ s.now)

-- a place in memory by its block and its offset
place : {p q : ℕ × ℕ} → p.0 ≡ q.0 → p.1 ≡ q.1 → p ≡ q
place e f = ap₂ (λ (block offset : ℕ). (block, offset)) e f

pub rest_from_once :
    (κs : _) (a : _) (r s : Bor (List ℕ)) (exit other : _) → rest-from.Post κs a r exit → rest-from.Post κs a s other → SamePart r s
rest_from_once κs a r s exit other p q = (place (p.same_text ∙ sym q.same_text) (p.place ∙ sym q.place), p.bytes ∙ sym q.bytes)

pub register_rest_once :
    (κs : _) (a : _) (r s : Bor (List ℕ)) (exit other : _) → register-rest.Post κs a r exit → register-rest.Post κs a s other → SamePart r s
register_rest_once κs a r s exit other p q = (place (p.same_text ∙ sym q.same_text) (p.place ∙ sym q.place), p.bytes ∙ sym q.bytes)

pub command_rest_once :
    (κs : _) (a : _) (r s : Bor (List ℕ)) (exit other : _) → command-rest.Post κs a r exit → command-rest.Post κs a s other → SamePart r s
command_rest_once κs a r s exit other p q = (place (p.same_text ∙ sym q.same_text) (p.place ∙ sym q.place), p.bytes ∙ sym q.bytes)

pub after_register_once :
    (κs : _) (a : _) (r s : Bor (List ℕ)) (exit other : _) → after-register.Post κs a r exit → after-register.Post κs a s other →
    SamePart r s × (exit.1.0.now ≡ other.1.0.now)
after_register_once κs a r s exit other p q =
    ((place (p.same_text ∙ sym q.same_text) (p.place ∙ sym q.place), p.bytes ∙ sym q.bytes), p.buffer ∙ sym q.buffer)

pub after_command_once :
    (κs : _) (a : _) (r s : Bor (List ℕ)) (exit other : _) → after-command.Post κs a r exit → after-command.Post κs a s other → SamePart r s
after_command_once κs a r s exit other p q = (place (p.same_text ∙ sym q.same_text) (p.place ∙ sym q.place), p.bytes ∙ sym q.bytes)
