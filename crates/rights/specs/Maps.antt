-- The small maps of 01, 'Cuts on a small map', written as 01 writes them: a list of records.
use Rattle.std.specs.Prelude.{ℕ, ◌+◌, ◌*◌, List, [], ◌∷◌, get_or, set, replicate}
use Rattle.rights.specs.declared.Header.{Header}
use Rattle.rights.specs.declared.Permission.{Permission}
use Rattle.rights.specs.declared.Permission.TheVariants.{TT, TF, FT, FF}
use Rattle.rights.specs.Permission.{code}

-- a record: grantor, subject, permission; 01's '0→1 TT' is (0, 1, TT)
abbrev pub Grant : Type 0
Grant = ℕ × ℕ × Permission

-- how many offices there are, and the records that stand
pub record Map : Type 0 where
  pub n : ℕ
  pub grants : List Grant

-- not of 01: a map in one line, the number of offices and then its records, as 01 has it
unfoldable pub map_of : ℕ → List Grant → Map
map_of n grants = record { n = n; grants = grants }

-- 'SOA is 0', and the layer is that of the program's example
unfoldable pub map_header : Map → Header
map_header m = record { n = m.n; soa = record { 0 = 0 }; layer = record { 0 = 7 } }

-- n·n zeros, and each record's code added to 'byte i·n + j'
unfoldable pub drawn : ℕ → List Grant → List ℕ
drawn n [] = replicate (n * n) 0
drawn n (g ∷ grants) =
    let rest = drawn n grants in
    let place : ℕ = g.0 * n + g.1 in
    set rest place (get_or rest place 0 + code g.2)

-- the register that the map shows
unfoldable pub bytes_of : Map → List ℕ
bytes_of m = drawn m.n m.grants

-- 01: 'Map A, n=5: 0→1 TT, 0→3 TF, 1→2 TT, 2→4 TT, 3→2 TF.'
unfoldable pub map_a : Map
map_a = map_of 5 ((0, 1, TT) ∷ (0, 3, TF) ∷ (1, 2, TT) ∷ (2, 4, TT) ∷ (3, 2, TF) ∷ [])

-- 01: 'Map B, n=4: 0→1 TT, 1→2 TT, 1→3 TT, 3→2 TF.'
unfoldable pub map_b : Map
map_b = map_of 4 ((0, 1, TT) ∷ (1, 2, TT) ∷ (1, 3, TT) ∷ (3, 2, TF) ∷ [])

-- 01: 'Map C: the input above.' That is 'n=3, soa=0, layer=7, records 0→1, 1→2, 2→1 all TT'
unfoldable pub map_c : Map
map_c = map_of 3 ((0, 1, TT) ∷ (1, 2, TT) ∷ (2, 1, TT) ∷ [])

-- Beyond 01's list: office 2 holds TT by 1 and TF by SOA, office 3 holds TF by 2 and FF by SOA.
unfoldable pub map_d : Map
map_d = map_of 4 ((0, 1, TT) ∷ (0, 2, TF) ∷ (0, 3, FF) ∷ (1, 2, TT) ∷ (2, 3, TF) ∷ [])

-- Beyond 01's list: office 1 holds TT by 2 and FT by SOA.
unfoldable pub map_e : Map
map_e = map_of 4 ((0, 1, FT) ∷ (0, 2, TT) ∷ (1, 3, FT) ∷ (2, 1, TT) ∷ [])

-- Beyond 01's list: the smaller office next to 5 is on the larger chain.
unfoldable pub map_f : Map
map_f = map_of 6 ((0, 1, TT) ∷ (0, 2, TT) ∷ (1, 4, TT) ∷ (2, 3, TT) ∷ (4, 5, TT) ∷ (3, 5, TT) ∷ [])

-- Beyond 01's list: office 2 holds FF by SOA, and TF by 1 alone.
unfoldable pub map_g : Map
map_g = map_of 4 ((0, 1, TF) ∷ (1, 2, TF) ∷ (0, 2, FF) ∷ (2, 3, FF) ∷ [])

-- Beyond 01's list: nobody grants anything.
unfoldable pub map_h : Map
map_h = map_of 3 []
