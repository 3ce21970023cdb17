-- Which reading serves for which, one link earlier. Assumes nothing.
use mathlib.Core.Path.{◌≡◌, refl}
use mathlib.Core.Bool.{Bool, true, ◌||◌, not}
use Rattle.rights.specs.declared.Permission.{Permission}
use Rattle.rights.specs.declared.Permission.TheVariants.{TT, TF, FT, FF}
use Rattle.rights.specs.Permission.{code, stronger, serves, passing}
use Rattle.theory.proofs.Cell.{each_permission, each_permission_lem}

-- where q serves for p, what passes q on serves for what passes p on
pub serves-passing : (q p : Permission) → serves q p ≡ true → serves (passing q) (passing p) ≡ true
unfolding each_permission serves stronger code passing
serves-passing q p e = rw e at (each_permission_lem (test q) (each_permission_lem (λ q. each_permission (test q)) refl q) p)
  where
    test : Permission → Permission → Bool
    test q p = not (serves q p) || serves (passing q) (passing p)

-- what passes p on serves for p
pub passing-serves : (p : Permission) → serves (passing p) p ≡ true
unfolding serves stronger code passing
passing-serves TT = refl
passing-serves TF = refl
passing-serves FT = refl
passing-serves FF = refl

-- what passes p on passes itself on
pub passing-passing : (p : Permission) → passing (passing p) ≡ passing p
unfolding passing
passing-passing TT = refl
passing-passing TF = refl
passing-passing FT = refl
passing-passing FF = refl
