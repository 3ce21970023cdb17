-- A cell: 'a set of permissions .. Each member is one record' (01, 'Numbers'). A set of four is a number below 16.
use Rattle.std.specs.Prelude.{ℕ, zero, suc, ◌+◌, ◌/◌, ◌%◌, Bool, false, ◌&&◌, ◌||◌, not, cond, eqb}
use Rattle.rights.specs.declared.Permission.{Permission}
use Rattle.rights.specs.declared.Permission.TheVariants.{TT, TF, FT, FF}
use Rattle.rights.specs.Permission.{code, any_permission, serves}

-- the record p stands in the cell
unfoldable pub has : ℕ → Permission → Bool
has c p = eqb (c / code p % 2) 1

-- the cell of the permissions that pass the test
unfoldable pub cell_of : (Permission → Bool) → ℕ
cell_of f = cond (f TT) 8 0 + cond (f TF) 4 0 + cond (f FT) 2 0 + cond (f FF) 1 0

-- how many records stand in the cell
unfoldable pub size : ℕ → ℕ
size c = cond (has c TT) 1 0 + cond (has c TF) 1 0 + cond (has c FT) 1 0 + cond (has c FF) 1 0

-- 01: 'A link from i to j carries p if the cell holds p or something stronger'
unfoldable pub carries : ℕ → Permission → Bool
carries c p = any_permission (λ q. has c q && serves q p)

-- the records of either cell
unfoldable pub union : ℕ → ℕ → ℕ
union a b = cell_of (λ p. has a p || has b p)

-- the records of the first cell that the second lacks
unfoldable pub without : ℕ → ℕ → ℕ
without a b = cell_of (λ p. has a p && not (has b p))

-- what is left of a cell at level 1: TT has become TF, and FT has become FF, 'merging equals'
unfoldable pub lowered : ℕ → Permission → Bool
lowered c TT = false
lowered c TF = has c TT || has c TF
lowered c FT = false
lowered c FF = has c FT || has c FF

-- 01: 'Restricting a cell to a level: 2 keeps it; 1 turns TT into TF and FT into FF, merging equals; 0 empties it.'
unfoldable pub restrict : ℕ → ℕ → ℕ
restrict c zero = 0
restrict c (suc zero) = cell_of (lowered c)
restrict c (suc (suc v)) = c
