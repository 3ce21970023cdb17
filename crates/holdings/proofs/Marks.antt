-- Levels made up to 128 entries serve as the levels themselves.
use Prim.Native.Nat.{ℕ}
use mathlib.Core.Path.{◌≡◌, refl, ap, fun_ext}
use mathlib.Core.Bool.{Bool, true, false, ◌&&◌, ◌||◌, cond}
use mathlib.Core.List.{List, []}
use mir.Val.{bool_byte}
use lib.Dec.{eqb, leb}
use Rattle.rights.specs.declared.Header.{Header}
use Rattle.rights.specs.Below.{table}
use Rattle.rights.specs.declared.Permission.{Permission}
use Rattle.rights.specs.Permission.{need, any_permission}
use Rattle.rights.specs.Cell.{carries}
use Rattle.rights.specs.Register.{cell, soa_of}
use Rattle.rights.specs.Level.{level_in, levels, holds_by}
use Rattle.rights.specs.Sound.{readable}
use Rattle.theory.proofs.Below.{any_ext, table_ext}
use Rattle.levels.specs.Padded.{padded, padded_levels}
use Rattle.levels.proofs.Padded.{get_or-padded}
use Rattle.levels.proofs.Given.{levels_read}
use Rattle.holdings.specs.Loser.{mark_by, padded_losers}

-- the byte of a test is its mark
pub byte_of : (b : Bool) → bool_byte b ≡ cond b 1 0
byte_of true = refl
byte_of false = refl

holds-padded : (h : Header) (R ls : List ℕ) (p : Permission) (y : ℕ) → holds_by h R (padded 0 ls) p y ≡ holds_by h R ls p y
unfolding holds_by level_in
holds-padded h R ls p y =
    ap (λ (t : Bool). eqb y (soa_of h) || t)
    (any_ext h.n (λ x. leb (need p) (level_in (padded 0 ls) x) && carries (cell h R x y) p) (λ x. leb (need p) (level_in ls x) && carries (cell h R x y) p)
    (λ x hx. ap (λ (v : ℕ). leb (need p) v && carries (cell h R x y) p) (get_or-padded 0 ls x)))

mark_padded : (h : Header) (R before S after : List ℕ) (y : ℕ) → mark_by h R (padded 0 before) S (padded 0 after) y ≡ mark_by h R before S after y
unfolding mark_by
mark_padded h R before S after y =
    ap (λ (f : Permission → Bool). cond (any_permission f) 1 0)
    (fun_ext (λ p. rw (holds-padded h R before p y, holds-padded h S after p y)))

module _ (h : Header) (R S : List ℕ) where
  pub losers_marked :
      readable h R ≡ true → readable h S ≡ true →
      padded 0 (table h.n (mark_by h R (padded_levels h R) S (padded_levels h S))) ≡ padded_losers h R S
  unfolding padded_losers
  losers_marked r s =
      rw (levels_read h R r, levels_read h S s)
      (rw (r, s)
      (ap (padded 0)
      (table_ext h.n (mark_by h R (padded 0 (levels h R)) S (padded 0 (levels h S))) (mark_by h R (levels h R) S (levels h S))
      (λ y hy. mark_padded h R (levels h R) S (levels h S) y))))

  -- nobody is marked where either register cannot be read
  pub none_before : readable h R ≡ false → padded_losers h R S ≡ padded 0 []
  unfolding padded_losers
  none_before e = rw e

  pub none_after : readable h R ≡ true → readable h S ≡ false → padded_losers h R S ≡ padded 0 []
  unfolding padded_losers
  none_after r e = rw (r, e)
