-- Rooted chains, as 01, 'Permissions and chains', has them: the definition that every other account of holding is proved against.
use Rattle.std.specs.Prelude.{ℕ, ◌<◌, ◌≡◌, Bool, true, false, ◌||◌, List, [], ◌∷◌, ◌++◌, eqb}
use Rattle.rights.specs.declared.Header.{Header}
use Rattle.rights.specs.declared.Permission.{Permission}
use Rattle.rights.specs.Permission.{entitles}
use Rattle.rights.specs.Cell.{carries}
use Rattle.rights.specs.Register.{cell, soa_of}

-- 01: 'A rooted chain for p at j is a list of offices from SOA to j with a permission read at each link, such that each link
-- carries its reading, each reading entitles the next, and the last is p. SOA alone is a chain for every p at SOA.'
-- The first link is read as anything: it comes after SOA alone, a chain for TT too, which entitles every permission.
pub data RootedChain (h : Header) (R : List ℕ) : List ℕ → ℕ → Permission → Type 0 where
  alone : (p : Permission) → RootedChain h R (soa_of h ∷ []) (soa_of h) p
  link :
      {offices : List ℕ} {i : ℕ} {reading : Permission} (j : ℕ) (p : Permission) →
      RootedChain h R offices i reading →
      j < h.n →
      carries (cell h R i j) p ≡ true →
      entitles reading p ≡ true →
      RootedChain h R (offices ++ (j ∷ [])) j p

-- 01: 'j holds p if such a chain exists.'
pub record Holds (h : Header) (R : List ℕ) (p : Permission) (j : ℕ) : Type 0 where
  pub offices : List ℕ
  pub chain : RootedChain h R offices j p

-- the chain names the office
unfoldable pub names : ℕ → List ℕ → Bool
names i [] = false
names i (x ∷ offices) = eqb i x || names i offices

-- 01, 'Independent level': 'chains before that do not name i'
pub record HoldsWithout (h : Header) (R : List ℕ) (i : ℕ) (p : Permission) (j : ℕ) : Type 0 where
  pub offices : List ℕ
  pub chain : RootedChain h R offices j p
  pub unnamed : names i offices ≡ false

-- the chain goes over a link of which the test holds
unfoldable pub uses : (ℕ → ℕ → Bool) → List ℕ → Bool
uses named [] = false
uses named (x ∷ []) = false
uses named (x ∷ y ∷ offices) = named x y || uses named (y ∷ offices)

-- the office holds p by a chain that goes over no link of which the test holds: by none of the grants of a named pair
pub record HoldsUnused (h : Header) (R : List ℕ) (named : ℕ → ℕ → Bool) (p : Permission) (j : ℕ) : Type 0 where
  pub offices : List ℕ
  pub chain : RootedChain h R offices j p
  pub unused : uses named offices ≡ false
