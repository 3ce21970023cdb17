-- Levels as they are computed: offices are marked by rounds from SOA on. That a mark is a rooted chain is a law.
use Rattle.std.specs.Prelude.{ℕ, zero, suc, Bool, true, false, ◌&&◌, ◌||◌, not, cond, List, get_or, eqb, leb}
use Rattle.rights.specs.declared.Header.{Header}
use Rattle.rights.specs.Below.{any_below, table}
use Rattle.rights.specs.declared.Permission.{Permission}
use Rattle.rights.specs.declared.Permission.TheVariants.{TT, TF}
use Rattle.rights.specs.Permission.{need}
use Rattle.rights.specs.Cell.{carries}
use Rattle.rights.specs.Register.{cell, soa_of}

-- the office is in the set
unfoldable pub is_in : List Bool → ℕ → Bool
is_in set x = get_or set x false

-- office x is in the set, and its link to y carries p
abbrev pub linked_by : Header → List ℕ → Permission → List Bool → ℕ → ℕ → Bool
linked_by h R p set y x = is_in set x && carries (cell h R x y) p

-- some office of the set has a link to y that carries p
unfoldable pub linked : Header → List ℕ → Permission → List Bool → ℕ → Bool
linked h R p set y = any_below h.n (linked_by h R p set y)

-- y is marked at first: it is SOA, if that is allowed
abbrev pub marked_first : Header → (ℕ → Bool) → ℕ → Bool
marked_first h allowed y = eqb y (soa_of h) && allowed y

-- y is marked after a round: it was marked, or it is allowed and a marked office has a link to it
abbrev pub marked_next : Header → List ℕ → (ℕ → Bool) → Permission → List Bool → ℕ → Bool
marked_next h R allowed p set y = is_in set y || allowed y && linked h R p set y

-- the set after a round
abbrev pub marking : Header → List ℕ → (ℕ → Bool) → Permission → List Bool → List Bool
marking h R allowed p set = table h.n (marked_next h R allowed p set)

-- the offices that chains of so many links at most reach, with p read at each link, among the offices allowed
unfoldable pub reached : Header → List ℕ → (ℕ → Bool) → Permission → ℕ → List Bool
reached h R allowed p zero = table h.n (marked_first h allowed)
reached h R allowed p (suc d) = let before = reached h R allowed p d in marking h R allowed p before

-- the level of office j, where the first set has the offices that hold TT and the second those that hold TF
abbrev pub level_by : List Bool → List Bool → ℕ → ℕ
level_by whole part j = cond (is_in whole j) 2 (cond (is_in part j) 1 0)

-- 01: 'Level of j: 2 if it holds TT, else 1 if it holds TF, else 0', each by chains among the offices allowed
unfoldable pub levels_among : Header → List ℕ → (ℕ → Bool) → List ℕ
levels_among h R allowed =
    let whole = reached h R allowed TT h.n in
    let part = reached h R allowed TF h.n in
    table h.n (level_by whole part)

-- the offices that a chain may name where 01 says 'Level of j': all of them
unfoldable pub every_office : ℕ → Bool
every_office x = true

-- the offices that a chain may name where 01 says 'chains before that do not name i'
unfoldable pub other_than : ℕ → ℕ → Bool
other_than i x = not (eqb x i)

-- the level of each office
unfoldable pub levels : Header → List ℕ → List ℕ
levels h R = levels_among h R every_office

-- 01: 'Independent level of k from i: the level by chains before that do not name i; 0 for i itself, and 0 for all when i is SOA.'
unfoldable pub independent_levels : Header → List ℕ → ℕ → List ℕ
independent_levels h R i = levels_among h R (other_than i)

-- the level of office k in a list of levels
unfoldable pub level_in : List ℕ → ℕ → ℕ
level_in ls k = get_or ls k 0

-- office i has the level that p needs and a link to j that carries p
abbrev pub passes_on : Header → List ℕ → List ℕ → Permission → ℕ → ℕ → Bool
passes_on h R ls p j i = leb (need p) (level_in ls i) && carries (cell h R i j) p

-- SOA holds everything; another office holds p where a grantor passes it on
unfoldable pub holds_by : Header → List ℕ → List ℕ → Permission → ℕ → Bool
holds_by h R ls p j = eqb j (soa_of h) || any_below h.n (passes_on h R ls p j)

-- 01: 'j holds p if such a chain exists', computed from the levels
unfoldable pub holds : Header → List ℕ → Permission → ℕ → Bool
holds h R p j = holds_by h R (levels h R) p j
