-- A walk of fewest links has fewer links than there are offices: each link of it reaches one office more. Assumes nothing.
use Prim.Native.Nat.{ℕ, suc, ◌≤◌, ◌<◌}
use native.Mathlib.Omega.{arith}
use mathlib.Core.Path.{◌≡◌, refl, ◌∙◌}
use mathlib.Core.Logic.{⊎_elim}
use mathlib.Core.Bool.{Bool, true, false}
use mathlib.Core.List.{List, [], ◌∷◌, ◌++◌}
use lib.Dec.{leb}
use borrow.Author.Tests.{leb-true, leb-false}
use Rattle.rights.specs.declared.Header.{Header}
use Rattle.rights.specs.Below.{any_below}
use Rattle.rights.specs.declared.Permission.{Permission}
use Rattle.rights.specs.Permission.{passing}
use Rattle.rights.specs.Register.{soa_of}
use Rattle.rights.specs.Question.{single, smallest, soa_away}
use Rattle.theory.proofs.Tests.{decided, clash, fails}
use Rattle.theory.proofs.Below.{any_from, any_found}
use Rattle.theory.proofs.Growth.{marked, marked_same, marked_most}
use Rattle.theory.proofs.Reading.{passing-serves}
use Rattle.theory.proofs.Walk.{Walk, here, further, walk_weaker}
use Rattle.theory.proofs.Smallest.{walk_counts, counts_walk}

-- one mark more counts one more
more_marked :
    (n : ℕ) (f g : ℕ → Bool) (y : ℕ) →
    ((x : ℕ) → x < n → f x ≡ true → g x ≡ true) →
    y < n → f y ≡ false → g y ≡ true → marked n f < marked n g
more_marked n f g y l m e q =
    ⊎_elim
    (λ t. clash q (marked_same n f g l (leb-true (marked n g) (marked n f) t) y m ∙ e))
    (leb-false (marked n g) (marked n f))
    (decided (leb (marked n g) (marked n f)))

-- no walk for p to j has fewer links
abbrev pub NoShorter : Header → List ℕ → Permission → ℕ → ℕ → Type 0
NoShorter h R p d j = (k : ℕ) (others : List ℕ) → Walk h R p k others j → d ≤ k

-- a walk of so many links at most
record Within (h : Header) (R : List ℕ) (p : Permission) (d j : ℕ) : Type 0 where
  links : ℕ
  few : links ≤ d
  offices : List ℕ
  walk : Walk h R p links offices j

-- there is one
abbrev within : Header → List ℕ → Permission → ℕ → ℕ → Bool
within h R p d y = any_below (suc d) (soa_away h R p (single h y))

module _ (h : Header) (R : List ℕ) (inside : soa_of h < h.n) where
  walk_within : {p : Permission} {k y : ℕ} {offices : List ℕ} (d : ℕ) → k ≤ d → Walk h R p k offices y → within h R p d y ≡ true
  walk_within {p} {k} {y} d l w = any_from (suc d) (soa_away h R p (single h y)) k (omega arith) (walk_counts h R inside w)

  -- a walk for what passes p on is one for p
  within_walk : (p : Permission) (d y : ℕ) → within h R (passing p) d y ≡ true → Within h R p d y
  within_walk p d y e =
      let found = any_found (suc d) (soa_away h R (passing p) (single h y)) e in
      record {
        links = found.at;
        few = omega arith;
        offices = smallest h R (passing p) found.at (single h y);
        walk = walk_weaker p (passing-serves p) (counts_walk h R inside found.at (passing p) y found.passes);
      }

  -- at least as many offices are within d links as a walk of d links names, if there is none of fewer
  shortest_marked : {p : Permission} {d j : ℕ} {offices : List ℕ} → Walk h R p d offices j → NoShorter h R p d j → d < marked h.n (within h R p d)
  shortest_marked (here p) short =
      let m = more_marked h.n (λ y. false) (within h R p 0) (soa_of h) (λ x l e. cc) inside refl (walk_within 0 (omega arith) (here p)) in
      omega arith
  shortest_marked (further {d = d} j p w l c) short =
      let earlier = shortest_marked w (λ k others v. let m = short (suc k) (others ++ (j ∷ [])) (further j p v l c) in omega arith) in
      let m = more_marked h.n (within h R (passing p) d) (within h R p (suc d)) j still l new (walk_within (suc d) (omega arith) (further j p w l c)) in
      omega arith
    where
      still : (x : ℕ) → x < h.n → within h R (passing p) d x ≡ true → within h R p (suc d) x ≡ true
      still x k e = let r = within_walk p d x e in walk_within (suc d) (omega arith) r.walk

      new : within h R (passing p) d j ≡ false
      new = fails (within h R (passing p) d j) (λ e. let r = within_walk p d j e in let m = short r.links r.offices r.walk in omega arith)

  pub shortest_few : {p : Permission} {d j : ℕ} {offices : List ℕ} → Walk h R p d offices j → NoShorter h R p d j → d < h.n
  shortest_few {p} {d} w short = omega (arith, shortest_marked w short, marked_most h.n (within h R p d))
