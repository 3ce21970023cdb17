-- Which of the rooted chains 01 picks, in its words. That 'pickedChain' of Question is that chain is a law.
use Rattle.std.specs.Prelude.{ℕ, ◌≤◌, ◌≡◌, Bool, true, false, ◌&&◌, ◌||◌, List, [], ◌∷◌, length, eqb, ltb}
use Rattle.rights.specs.declared.Header.{Header}
use Rattle.rights.specs.declared.Permission.{Permission}
use Rattle.rights.specs.Chain.{RootedChain}

-- Lists of offices 'compared from SOA on': the first place where they differ decides.
unfoldable pub smaller_or_same : List ℕ → List ℕ → Bool
smaller_or_same [] ys = true
smaller_or_same (x ∷ xs) [] = false
smaller_or_same (x ∷ xs) (y ∷ ys) = ltb x y || eqb x y && smaller_or_same xs ys

-- 01: 'the chain with fewest links, among those the smallest list compared from SOA on'
pub record Picked (h : Header) (R : List ℕ) (p : Permission) (j : ℕ) (offices : List ℕ) : Type 0 where
  pub rooted : RootedChain h R offices j p
  pub fewest : (others : List ℕ) → RootedChain h R others j p → length offices ≤ length others
  pub smallest : (others : List ℕ) → RootedChain h R others j p → length others ≡ length offices → smaller_or_same offices others ≡ true
