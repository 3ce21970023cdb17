-- The four permissions and what 01, 'Permissions and chains', says of each alone.
use Rattle.std.specs.Prelude.{ℕ, Bool, true, false, ◌||◌, cond, eqb}
use Rattle.rights.specs.declared.Permission.{Permission}
use Rattle.rights.specs.declared.Permission.TheVariants.{TT, TF, FT, FF}

-- 01, 'Numbers': '8 = TT, 4 = TF, 2 = FT, 1 = FF'
unfoldable pub code : Permission → ℕ
code TT = 8
code TF = 4
code FT = 2
code FF = 1

-- some permission passes the test
unfoldable pub any_permission : (Permission → Bool) → Bool
any_permission f = f TT || f TF || f FT || f FF

-- the number is the code of a permission
unfoldable pub is_code : ℕ → Bool
is_code k = any_permission (λ p. eqb k (code p))

-- the permission that a code stands for
unfoldable pub decoded : ℕ → Permission
decoded k = cond (eqb k 8) TT (cond (eqb k 4) TF (cond (eqb k 2) FT FF))

-- 01: 'TT entitles TT, TF, FT, FF. TF entitles TF, FF. FT and FF entitle nothing here.'
unfoldable pub entitles : Permission → Permission → Bool
entitles TT p = true
entitles TF TT = false
entitles TF TF = true
entitles TF FT = false
entitles TF FF = true
entitles FT p = false
entitles FF p = false

-- 01: 'TT over the other three; TF and FT over FF; TF and FT are not comparable.'
unfoldable pub stronger : Permission → Permission → Bool
stronger TT TT = false
stronger TT TF = true
stronger TT FT = true
stronger TT FF = true
stronger TF TT = false
stronger TF TF = false
stronger TF FT = false
stronger TF FF = true
stronger FT TT = false
stronger FT TF = false
stronger FT FT = false
stronger FT FF = true
stronger FF p = false

-- 01, 'A link .. carries p if the cell holds p or something stronger': q serves where p is read
unfoldable pub serves : Permission → Permission → Bool
serves q p = eqb (code q) (code p) || stronger q p

-- The level that a grantor of p has: 2 where only TT entitles p, 1 where TF does too. It follows from 'entitles' (law).
unfoldable pub need : Permission → ℕ
need TT = 2
need TF = 1
need FT = 2
need FF = 1

-- The weakest reading that entitles p: what is read at every link of a chain for p but the last.
unfoldable pub passing : Permission → Permission
passing TT = TT
passing TF = TF
passing FT = TT
passing FF = TF
