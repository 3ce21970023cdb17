-- Levels from marks made up to 128, and with nobody left out.
use Prim.Native.Nat.{ℕ, zero, suc, ◌≤◌, ◌<◌}
use native.Mathlib.Omega.{arith}
use mathlib.Core.Path.{◌≡◌, ap, ap₂}
use mathlib.Core.Bool.{Bool, true, ◌&&◌, ◌||◌, not, cond}
use mathlib.Core.List.{List}
use lib.Dec.{eqb}
use borrow.Author.Tests.{ne_eqb}
use Rattle.rights.specs.declared.Header.{Header}
use Rattle.rights.specs.Below.{table}
use Rattle.rights.specs.declared.Permission.{Permission}
use Rattle.rights.specs.declared.Permission.TheVariants.{TT, TF}
use Rattle.rights.specs.Register.{soa_of}
use Rattle.rights.specs.Level.{is_in, linked, reached, levels_among, every_office, other_than, levels, independent_levels, level_in, level_by}
use Rattle.rights.specs.Sound.{readable}
use Rattle.theory.proofs.Below.{table_ext}
use Rattle.registers.proofs.Bounds.{readable_high, readable_inside}
use Rattle.levels.specs.Padded.{padded, padded_levels, padded_independent}
use Rattle.levels.proofs.Padded.{get_or-padded}
use Rattle.levels.proofs.Rounds.{in_padded, marks_after}

-- the levels that the marks after n rounds give
pub levels_by_marks :
    (h : Header) (R : List ℕ) (out : ℕ) →
    table h.n (level_by (marks_after h R out TT h.n) (marks_after h R out TF h.n)) ≡ independent_levels h R out
unfolding marks_after independent_levels levels_among
levels_by_marks h R out =
    table_ext h.n _ _
    (λ j l. ap₂ (λ (a b : Bool). cond a 2 (cond b 1 0)) (in_padded (reached h R (other_than out) TT h.n) j)
    (in_padded (reached h R (other_than out) TF h.n) j))

module _ (h : Header) (R : List ℕ) (f g : ℕ → Bool) (agree : (y : ℕ) → y < h.n → f y ≡ g y) where
  -- only offices are asked whether they are allowed
  reached_ext : (p : Permission) (d : ℕ) → reached h R f p d ≡ reached h R g p d
  unfolding reached
  reached_ext p zero = table_ext h.n _ _ (λ y l. ap (λ (a : Bool). eqb y (soa_of h) && a) (agree y l))
  reached_ext p (suc d) =
      table_ext h.n _ _
      (λ y l. ap₂ (λ (set : List Bool) (a : Bool). is_in set y || a && linked h R p set y) (reached_ext p d) (agree y l))

  levels_ext : levels_among h R f ≡ levels_among h R g
  unfolding levels_among
  levels_ext =
      ap₂ (λ (whole part : List Bool). table h.n (λ j. cond (is_in whole j) 2 (cond (is_in part j) 1 0))) (reached_ext TT h.n)
      (reached_ext TF h.n)

-- a number of no office leaves nobody out
pub nobody_out : (h : Header) (R : List ℕ) (out : ℕ) → h.n ≤ out → independent_levels h R out ≡ levels h R
unfolding levels independent_levels other_than every_office
nobody_out h R out l =
    levels_ext h R (other_than out) every_office
    (λ y m. ap not (ne_eqb y out (λ e. let k : y < out = omega arith in omega arith)))

-- what the header of a register that can be read says
pub readable-header : (h : Header) (R : List ℕ) → readable h R ≡ true → (h.n ≤ 128) × (soa_of h < h.n)
readable-header h R e = (readable_high h R e, readable_inside h R e)

-- the array has each office's level where the list has it, and 0 wherever else
pub level_padded : (ls : List ℕ) (k : ℕ) → level_in (padded 0 ls) k ≡ level_in ls k
unfolding level_in
level_padded ls k = get_or-padded 0 ls k

-- of a register that can be read, the array has the levels
pub levels_read : (h : Header) (R : List ℕ) → readable h R ≡ true → padded_levels h R ≡ padded 0 (levels h R)
unfolding padded_levels
levels_read h R e = rw e

pub independent_read :
    (h : Header) (R : List ℕ) (i : ℕ) → readable h R ≡ true → padded_independent h R i ≡ padded 0 (independent_levels h R i)
unfolding padded_independent
independent_read h R i e = rw e
