-- Codes of permissions, and the records of a cell that one is added to.
use Prim.Native.Nat.{ℕ, ◌≤◌}
use mathlib.Core.Path.{◌≡◌, refl, sym, ap}
use mathlib.Core.Bool.{Bool, true, false, ◌||◌}
use native.Mathlib.Omega.{arith}
use lib.Dec.{eqb}
use borrow.Author.Tests.{eqb-true, eq-eqb}
use Rattle.rights.specs.declared.Permission.{Permission}
use Rattle.rights.specs.declared.Permission.TheVariants.{TT, TF, FT, FF}
use Rattle.rights.specs.Permission.{code, any_permission, is_code, decoded}
use Rattle.rights.specs.Cell.{has, union}
use Rattle.theory.proofs.Tests.{same_test}
use Rattle.theory.proofs.Cell.{has-cell_of, one_record}
use Rattle.wording.proofs.Truth.{never}

pub has-union : (a b : ℕ) (p : Permission) → has (union a b) p ≡ (has a p || has b p)
unfolding union
has-union a b p = has-cell_of (λ q. has a q || has b q) p

has_itself : (p : Permission) → has (code p) p ≡ true
unfolding has code
has_itself TT = refl
has_itself TF = refl
has_itself FT = refl
has_itself FF = refl

-- a code is the cell of its permission alone
pub has_code : (p q : Permission) → has (code p) q ≡ eqb (code q) (code p)
has_code p q =
    same_test (has (code p) q) (eqb (code q) (code p)) (λ e. eq-eqb (code q) (code p) (ap code (one_record p q e)))
    (λ e. rw (← (eqb-true (code q) (code p) e)) (has_itself q))

-- a code stands for a permission
pub code-decoded : (k : ℕ) → is_code k ≡ true → code (decoded k) ≡ k
unfolding is_code any_permission code decoded
code-decoded k e = go (eqb k 8) refl (eqb k 4) refl (eqb k 2) refl (eqb k 1) refl
  where
    go : (a : Bool) → eqb k 8 ≡ a → (b : Bool) → eqb k 4 ≡ b → (c : Bool) → eqb k 2 ≡ c → (d : Bool) → eqb k 1 ≡ d → code (decoded k) ≡ k
    go true q b r c s d t = rw q (sym (eqb-true k 8 q))
    go false q true r c s d t = rw (q, r) (sym (eqb-true k 4 r))
    go false q false r true s d t = rw (q, r, s) (sym (eqb-true k 2 s))
    go false q false r false s true t = rw (q, r, s) (sym (eqb-true k 1 t))
    go false q false r false s false t = never (cc)

pub code-is_code : (p : Permission) → is_code (code p) ≡ true
unfolding is_code any_permission code
code-is_code TT = refl
code-is_code TF = refl
code-is_code FT = refl
code-is_code FF = refl

pub record Small (k : ℕ) : Type 0 where
  pub low : 1 ≤ k
  pub high : k ≤ 8

code-small : (p : Permission) → Small (code p)
unfolding code
code-small TT = omega arith
code-small TF = omega arith
code-small FT = omega arith
code-small FF = omega arith

pub is_code-small : (k : ℕ) → is_code k ≡ true → Small k
is_code-small k e = rw (code-decoded k e) at (code-small (decoded k))
