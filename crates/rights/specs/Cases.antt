-- The starred cases of 01, 'Cuts on a small map', each under its line of 01, and more that 01's list leaves open.
-- Where 01 gives no tally, it is the one that 01's words give.
use Rattle.std.specs.Prelude.{ℕ, List, [], ◌∷◌}
use Rattle.rights.specs.declared.Command.{Command}
use Rattle.rights.specs.declared.Permission.{Permission}
use Rattle.rights.specs.declared.Permission.TheVariants.{TT, TF, FT, FF}
use Rattle.rights.specs.Permission.{code}
use Rattle.rights.specs.Maps.{Map, map_of, map_a, map_b, map_c, map_d, map_e, map_f, map_g, map_h}

-- one case of the list: the commands or the question on a map, and what is said to come of it
pub data Case : Type 0 where
  -- commands in turn, with the tally of all of them
  cut : (on : Map) (commands : List Command) (answers : List ℕ) (removed added : ℕ) (leaves : Map) → Case
  -- a holding question
  ask : (on : Map) (office : ℕ) (perm : Permission) (answer : ℕ) (chain : List ℕ) → Case

-- act, by, to and perm, to the maps' layer
unfoldable pub command : ℕ → ℕ → ℕ → ℕ → Command
command act i j perm =
    record { act = act; layer = record { 0 = 7 }; by = record { 0 = i }; to = record { 0 = j }; perm = perm }

-- '0 grant', with the code of the permission: 'Perm is 1, 2, 4 or 8 for a grant'
unfoldable pub GRANT : ℕ → ℕ → Permission → Command
GRANT i j p = command 0 i j (code p)

-- '1 WLD', with perm 0: 'Perm is .. 0 for a deletion'
unfoldable pub WLD : ℕ → ℕ → Command
WLD i j = command 1 i j 0

-- '2 WGD', with perm 0
unfoldable pub WGD : ℕ → ℕ → Command
WGD i j = command 2 i j 0

-- '3 SLD', with perm 0
unfoldable pub SLD : ℕ → ℕ → Command
SLD i j = command 3 i j 0

-- '4 SGD', with perm 0
unfoldable pub SGD : ℕ → ℕ → Command
SGD i j = command 4 i j 0

-- what case 1 leaves: '0→3 TF, 2→4 TF, 3→2 TF'
unfoldable pub left_by_one : Map
left_by_one = map_of 5 ((0, 3, TF) ∷ (2, 4, TF) ∷ (3, 2, TF) ∷ [])

-- what case 4 leaves: '0→1 TT, 0→3 TF, 1→4 TT, 2→4 TF, 3→2 TF'
unfoldable pub left_by_four : Map
left_by_four = map_of 5 ((0, 1, TT) ∷ (0, 3, TF) ∷ (1, 4, TT) ∷ (2, 4, TF) ∷ (3, 2, TF) ∷ [])

-- what the WLD of case 7 leaves: '0→2 TT, 2→1 TT'
unfoldable pub left_by_seven : Map
left_by_seven = map_of 3 ((0, 2, TT) ∷ (2, 1, TT) ∷ [])

-- 01: 'The starred cases go in a list'
unfoldable pub cases : List Case
cases =
    -- 1. 'A, WGD 0,1: 0→3 TF, 2→4 TF, 3→2 TF; removed 3, added 1.'
    cut map_a (WGD 0 1 ∷ []) (0 ∷ []) 3 1 left_by_one ∷
    -- 2. 'A, WLD 0,1: 0→2 TT, 0→3 TF, 2→4 TT, 3→2 TF; 2, 1.'
    cut map_a (WLD 0 1 ∷ []) (0 ∷ []) 2 1 (map_of 5 ((0, 2, TT) ∷ (0, 3, TF) ∷ (2, 4, TT) ∷ (3, 2, TF) ∷ [])) ∷
    -- 3. 'A, WGD 1,2: 0→1 TT, 0→3 TF, 2→4 TF, 3→2 TF; 2, 1.'
    cut map_a (WGD 1 2 ∷ []) (0 ∷ []) 2 1 (map_of 5 ((0, 1, TT) ∷ (0, 3, TF) ∷ (2, 4, TF) ∷ (3, 2, TF) ∷ [])) ∷
    -- 4. 'A, WLD or SLD 1,2: 0→1 TT, 0→3 TF, 1→4 TT, 2→4 TF, 3→2 TF; 2, 2.'
    cut map_a (WLD 1 2 ∷ []) (0 ∷ []) 2 2 left_by_four ∷
    cut map_a (SLD 1 2 ∷ []) (0 ∷ []) 2 2 left_by_four ∷
    -- 5. 'A, WGD 0,1 with WGD 3,2, either order: 0→3 TF.'
    cut map_a (WGD 0 1 ∷ WGD 3 2 ∷ []) (0 ∷ 0 ∷ []) 5 1 (map_of 5 ((0, 3, TF) ∷ [])) ∷
    cut map_a (WGD 3 2 ∷ WGD 0 1 ∷ []) (0 ∷ 0 ∷ []) 4 0 (map_of 5 ((0, 3, TF) ∷ [])) ∷
    -- 6. 'B, WGD 1,2: 0→1 TT, 1→3 TT, 3→2 TF. SGD 1,2: 0→1 TT, 1→3 TT.'
    cut map_b (WGD 1 2 ∷ []) (0 ∷ []) 1 0 (map_of 4 ((0, 1, TT) ∷ (1, 3, TT) ∷ (3, 2, TF) ∷ [])) ∷
    cut map_b (SGD 1 2 ∷ []) (0 ∷ []) 2 0 (map_of 4 ((0, 1, TT) ∷ (1, 3, TT) ∷ [])) ∷
    -- 7. 'C, WGD 0,1: empty. WLD 0,1: 0→2 TT, 2→1 TT, so 1 still holds TT.'
    cut map_c (WGD 0 1 ∷ []) (0 ∷ []) 3 0 (map_of 3 []) ∷
    cut map_c (WLD 0 1 ∷ []) (0 ∷ []) 2 1 left_by_seven ∷
    ask left_by_seven 1 TT 0 (0 ∷ 2 ∷ 1 ∷ []) ∷
    -- 8. 'A, 4 for TF: chain 0,1,2,4. 0 for TT: chain 0. 3 for FT: 12. After case 1, 4 for TF: 0,3,2,4.'
    ask map_a 4 TF 0 (0 ∷ 1 ∷ 2 ∷ 4 ∷ []) ∷
    ask map_a 0 TT 0 (0 ∷ []) ∷
    ask map_a 3 FT 12 [] ∷
    ask left_by_one 4 TF 0 (0 ∷ 3 ∷ 2 ∷ 4 ∷ []) ∷
    -- Beyond 01's list: an SGD of two rounds. The first takes 0→2 TF and so 2→3 TF, the second 0→3 FF.
    cut map_d (SGD 0 1 ∷ []) (0 ∷ []) 5 0 (map_of 4 []) ∷
    -- Beyond 01's list: an FT holder passes nothing on. FT comes to 3 over TT links. Without 2→1 TT office 1 holds FT and no level,
    -- so 1→3 FT goes, and 1 cannot grant it again.
    ask map_e 3 FT 0 (0 ∷ 2 ∷ 1 ∷ 3 ∷ []) ∷
    cut map_e (WGD 2 1 ∷ GRANT 1 3 FT ∷ []) (0 ∷ 8 ∷ []) 2 0 (map_of 4 ((0, 1, FT) ∷ (0, 2, TT) ∷ [])) ∷
    -- Beyond 01's list: 'the smallest list compared from SOA on' is not found from its end, where 3 is smaller than 4.
    ask map_f 5 TT 0 (0 ∷ 1 ∷ 4 ∷ 5 ∷ []) ∷
    -- Beyond 01's list: FF at the end of a TF chain. The link 0→2 carries FF alone, which passes nothing on, so 0,2,3 is no chain.
    ask map_g 3 FF 0 (0 ∷ 1 ∷ 2 ∷ 3 ∷ []) ∷
    -- Beyond 01's list: 'SOA alone is a chain for every p at SOA', also where the register is empty.
    ask map_a 0 TF 0 (0 ∷ []) ∷
    ask map_a 0 FT 0 (0 ∷ []) ∷
    ask map_a 0 FF 0 (0 ∷ []) ∷
    ask map_h 0 TT 0 (0 ∷ []) ∷
    ask map_h 0 TF 0 (0 ∷ []) ∷
    ask map_h 0 FT 0 (0 ∷ []) ∷
    ask map_h 0 FF 0 (0 ∷ []) ∷
    []
