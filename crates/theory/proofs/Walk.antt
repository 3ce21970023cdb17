-- Rooted chains with each reading the weakest that will do. Assumes nothing.
use Prim.Native.Nat.{ℕ, zero, suc, ◌<◌}
use native.Mathlib.Omega.{arith}
use mathlib.Core.Path.{◌≡◌, refl, sym}
use mathlib.Core.Logic.{⊎_elim}
use mathlib.Core.Bool.{true}
use mathlib.Core.List.{List, [], ◌∷◌, ◌++◌}
use lib.ListN.{length, get_or, length-append, get_or-append}
use lib.Seq.{get_or_at}
use Rattle.rights.specs.declared.Header.{Header}
use Rattle.rights.specs.declared.Permission.{Permission}
use Rattle.rights.specs.Permission.{serves, passing}
use Rattle.rights.specs.Cell.{carries}
use Rattle.rights.specs.Register.{cell, soa_of}
use Rattle.rights.specs.Chain.{RootedChain, alone, link}
use Rattle.rights.specs.Question.{last_of}
use Rattle.theory.proofs.Below.{last_or_below}
use Rattle.theory.proofs.Cell.{passing-entitles, carries-serves, entitled-serves}
use Rattle.theory.proofs.Reading.{serves-passing}

-- a chain of so many links, the last read as p and each earlier one as what passes p on
pub data Walk (h : Header) (R : List ℕ) : Permission → ℕ → List ℕ → ℕ → Type 0 where
  here : (p : Permission) → Walk h R p zero (soa_of h ∷ []) (soa_of h)
  further :
      {offices : List ℕ} {i d : ℕ} (j : ℕ) (p : Permission) →
      Walk h R (passing p) d offices i →
      j < h.n →
      carries (cell h R i j) p ≡ true →
      Walk h R p (suc d) (offices ++ (j ∷ [])) j

-- a walk of some number of links
pub record Walked (h : Header) (R : List ℕ) (p : Permission) (offices : List ℕ) (j : ℕ) : Type 0 where
  pub links : ℕ
  pub walk : Walk h R p links offices j

-- the last office of a list is the one that was added
pub last_append : (offices : List ℕ) (j : ℕ) → last_of (offices ++ (j ∷ [])) ≡ j
unfolding last_of
last_append [] j = refl
last_append (x ∷ []) j = refl
last_append (x ∷ y ∷ offices) j = last_append (y ∷ offices) j

module _ {h : Header} {R : List ℕ} where
  -- one office more than links
  pub walk_length : {p : Permission} {d j : ℕ} {offices : List ℕ} → Walk h R p d offices j → length offices ≡ suc d
  walk_length (here p) = refl
  walk_length (further {offices = offices} j p w l e) = simp length-append (let n = walk_length w in omega arith)

  -- a walk for q is one for every p that q serves for
  pub walk_weaker : {q : Permission} {d j : ℕ} {offices : List ℕ} (p : Permission) → serves q p ≡ true → Walk h R q d offices j → Walk h R p d offices j
  walk_weaker p s (here q) = here p
  walk_weaker p s (further {i = i} j q w l e) =
      further j p (walk_weaker (passing p) (serves-passing q p s) w) l (carries-serves (cell h R i j) q p e s)

  -- a walk is a rooted chain
  pub walk_chain : {p : Permission} {d j : ℕ} {offices : List ℕ} → Walk h R p d offices j → RootedChain h R offices j p
  walk_chain (here p) = alone p
  walk_chain (further j p w l e) = link j p (walk_chain w) l e (passing-entitles p)

  -- and every rooted chain is a walk
  pub chain_walk : {p : Permission} {j : ℕ} {offices : List ℕ} → RootedChain h R offices j p → Walked h R p offices j
  chain_walk (alone p) = record { links = zero; walk = here p }
  chain_walk (link {reading = q} j p c l e t) =
      let r = chain_walk c in
      record { links = suc r.links; walk = further j p (walk_weaker (passing p) (entitled-serves q p t) r.walk) l e }

  -- a walk goes over offices alone
  pub walk_inside : {p : Permission} {d j : ℕ} {offices : List ℕ} → soa_of h < h.n → Walk h R p d offices j → j < h.n
  walk_inside inside (here p) = inside
  walk_inside inside (further j p w l e) = l

  pub walk_offices :
      {p : Permission} {d j : ℕ} {offices : List ℕ} →
      soa_of h < h.n →
      Walk h R p d offices j →
      (k : ℕ) → k < length offices → get_or offices k 0 < h.n
  walk_offices inside (here p) zero m = inside
  walk_offices inside (here p) (suc k) m = omega arith
  walk_offices inside (further {offices} j p w l e) k m =
      ⊎_elim
      (λ (q : k ≡ length offices). rw (get_or_at offices j [] 0 k (sym q)) l)
      (λ (q : k < length offices). rw (get_or-append offices (j ∷ []) 0 k q) (walk_offices inside w k q))
      (last_or_below k (length offices) (omega (arith, m, length-append offices (j ∷ []))))

  -- it ends at its last office
  pub walk_last : {p : Permission} {d j : ℕ} {offices : List ℕ} → Walk h R p d offices j → last_of offices ≡ j
  unfolding last_of
  walk_last (here p) = refl
  walk_last (further {offices} j p w l e) = last_append offices j
