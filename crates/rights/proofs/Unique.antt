-- No second outcome: at most one result satisfies each contract, whatever the arguments.
-- `Post` is the contract as the check reads it: of the lifetimes, the arguments, the result and the arguments at exit.
use Prim.Native.Nat.{ℕ, ◌<◌}
use native.Mathlib.Omega.{arith}
use mathlib.Core.Path.{◌≡◌, refl, sym, ap, ◌∙◌}
use mathlib.Core.List.{List, [], ◌∷◌}
use lib.ListN.{get_or}
use Rattle.std.specs.declared.result.Result.{Result}
use Rattle.std.specs.declared.result.Result.TheVariants.{Ok, Err}
use Rattle.rights.specs.declared.Permission.{Permission}
use Rattle.rights.specs.declared.Act.{Act}
use Rattle.rights.specs.declared.Act.TheVariants.{Grant, WLD, WGD, SLD, SGD}
use Rattle.rights.specs.declared.Refusal.{Refusal}
use Rattle.rights.specs.Act.{act_number, ActGiven}
use Rattle.rights.proofs.Permission.code.Reads as code
use Rattle.rights.proofs.Permission.decoded.Reads as decoded
use Rattle.rights.proofs.Refusal.number.Reads as number

pub code_once : (κs : _) (a : _) (exit : _) (r s : ℕ) → code.Post κs a r exit → code.Post κs a s exit → r ≡ s
code_once κs a exit r s p q = p ∙ sym q

pub decoded_once : (κs : _) (a : _) (exit : _) (r s : Permission) → decoded.Post κs a r exit → decoded.Post κs a s exit → r ≡ s
decoded_once κs a exit r s p q = p ∙ sym q

pub number_once : (κs : _) (a : _) (exit : _) (r s : ℕ) → number.Post κs a r exit → number.Post κs a s exit → r ≡ s
number_once κs a exit r s p q = p ∙ sym q

-- the act of a number
unfoldable act_at : ℕ → Act
act_at k = get_or (Grant ∷ WLD ∷ WGD ∷ SLD ∷ SGD ∷ []) k Grant

act_at-number : (a : Act) → act_at (act_number a) ≡ a
unfolding act_at
act_at-number Grant = refl
act_at-number WLD = refl
act_at-number WGD = refl
act_at-number SLD = refl
act_at-number SGD = refl

-- no two acts have one number
pub act_number-injective : (a b : Act) → act_number a ≡ act_number b → a ≡ b
act_number-injective a b e = sym (act_at-number a) ∙ (ap act_at e ∙ act_at-number b)

act_number-small : (a : Act) → act_number a < 5
act_number-small Grant = omega arith
act_number-small WLD = omega arith
act_number-small WGD = omega arith
act_number-small SLD = omega arith
act_number-small SGD = omega arith

-- a number is read as one act, or refused
pub act_once : (k : ℕ) (r s : Result Act Refusal) → ActGiven k r → ActGiven k s → r ≡ s
act_once k (Ok a) (Ok b) p q = ap Ok (act_number-injective a b (p ∙ sym q))
act_once k (Ok a) (Err f) p q = absurd (omega (arith, p, q.0, act_number-small a))
act_once k (Err e) (Ok b) p q = absurd (omega (arith, p.0, q, act_number-small b))
act_once k (Err e) (Err f) p q = ap Err (p.1 ∙ sym q.1)
