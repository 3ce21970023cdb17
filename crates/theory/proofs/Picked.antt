-- The chain that 01 picks: it exists exactly where the office holds p, it is a rooted chain, no rooted chain is shorter, or as
-- short and smaller as a list, and there is no second such chain. Assumes nothing.
use Prim.Native.Nat.{ℕ, suc, ◌≤◌, ◌<◌}
use native.Mathlib.Omega.{arith}
use mathlib.Core.Path.{◌≡◌}
use mathlib.Core.Logic.{⊎_elim, ◌↔◌}
use mathlib.Core.Bool.{true}
use mathlib.Core.List.{List}
use lib.ListN.{length, get_or}
use lib.Dec.{ltb}
use borrow.Author.Tests.{ltb-true, ltb-false, lt-ltb}
use Rattle.rights.specs.declared.Header.{Header}
use Rattle.rights.specs.Below.{any_below, first_below}
use Rattle.rights.specs.declared.Permission.{Permission}
use Rattle.rights.specs.Register.{soa_of}
use Rattle.rights.specs.Chain.{RootedChain, Holds}
use Rattle.rights.specs.Order.{smaller_or_same, Picked}
use Rattle.rights.specs.Level.{holds}
use Rattle.rights.specs.Question.{single, fewest_links, picked_chain, soa_away}
use Rattle.theory.proofs.Tests.{decided, same_test}
use Rattle.theory.proofs.Below.{any_from, first-at, first_below_lem, first_least, first-none}
use Rattle.theory.proofs.Chain.{holds-chain}
use Rattle.theory.proofs.Order.{order_antisymmetric}
use Rattle.theory.proofs.Walk.{Walk, walk_length, walk_chain, chain_walk, walk_offices}
use Rattle.theory.proofs.Smallest.{smallest-length, walk_counts, counts_walk, counts_least}
use Rattle.theory.proofs.Shortest.{NoShorter, shortest_few}

-- no other chain is picked
pub picked_unique :
    {h : Header} {R : List ℕ} {p : Permission} {j : ℕ} {offices others : List ℕ} →
    Picked h R p j offices →
    Picked h R p j others →
    offices ≡ others
picked_unique {offices} {others} a b =
    let least = a.fewest others b.rooted in
    let same = b.fewest offices a.rooted in
    order_antisymmetric offices others
    (a.smallest others b.rooted (omega arith))
    (b.smallest offices a.rooted (omega arith))

-- the picked list has one office more than the fewest links, and begins with SOA
pub picked_length : (h : Header) (R : List ℕ) (p : Permission) (j : ℕ) → length (picked_chain h R p j) ≡ suc (fewest_links h R p j)
unfolding picked_chain
picked_length h R p j = smallest-length h R (fewest_links h R p j) p (single h j)

module _ (h : Header) (R : List ℕ) (inside : soa_of h < h.n) where
  -- the first number of links that counts is the fewest
  first_shortest :
      (p : Permission) (j m : ℕ) →
      any_below (suc m) (soa_away h R p (single h j)) ≡ true →
      NoShorter h R p (first_below (suc m) (soa_away h R p (single h j))) j
  first_shortest p j m e k others w =
      ⊎_elim
      (λ t. first_least (suc m) (soa_away h R p (single h j)) k (ltb-true k (suc m) t) (walk_counts h R inside w))
      (λ t. omega (arith, first_below_lem (suc m) (soa_away h R p (single h j)) e, ltb-false k (suc m) t))
      (decided (ltb k (suc m)))

  -- where there is a walk, the fewest links are fewer than the offices, and no more than the walk's
  walk_fewest : {p : Permission} {m j : ℕ} {offices : List ℕ} → Walk h R p m offices j → fewest_links h R p j < h.n
  unfolding fewest_links
  walk_fewest {p} {m} {j} w =
      let counts = any_from (suc m) (soa_away h R p (single h j)) m (omega arith) (walk_counts h R inside w) in
      let d = first_below (suc m) (soa_away h R p (single h j)) in
      let at = first-at (suc m) (soa_away h R p (single h j)) counts in
      let few = shortest_few h R inside (counts_walk h R inside d p j at) (first_shortest p j m counts) in
      let least = first_least (suc h.n) (soa_away h R p (single h j)) d (omega arith) at in
      omega arith

  fewest_least : {p : Permission} {m j : ℕ} {offices : List ℕ} → Walk h R p m offices j → fewest_links h R p j ≤ m
  unfolding fewest_links
  fewest_least {p} {m} {j} w =
      ⊎_elim
      (λ t. first_least (suc h.n) (soa_away h R p (single h j)) m (ltb-true m (suc h.n) t) (walk_counts h R inside w))
      (λ t. omega (arith, walk_fewest w, ltb-false m (suc h.n) t))
      (decided (ltb m (suc h.n)))

  -- where it is n at most, the picked list is a walk
  fewest_walk : (p : Permission) (j : ℕ) → fewest_links h R p j ≤ h.n → Walk h R p (fewest_links h R p j) (picked_chain h R p j) j
  unfolding fewest_links picked_chain
  fewest_walk p j l =
      counts_walk h R inside (fewest_links h R p j) p j
      (⊎_elim (first-at (suc h.n) (soa_away h R p (single h j)))
      (λ none. absurd (let m = first-none (suc h.n) (soa_away h R p (single h j)) none in omega arith))
      (decided (any_below (suc h.n) (soa_away h R p (single h j)))))

  -- the search finds fewer links than there are offices where j holds p, and more than n where it does not
  pub holds-fewest : (p : Permission) (j : ℕ) → Holds h R p j → fewest_links h R p j < h.n
  holds-fewest p j held = walk_fewest (chain_walk held.chain).walk

  pub fewest-holds : (p : Permission) (j : ℕ) → fewest_links h R p j ≤ h.n → Holds h R p j
  fewest-holds p j l = record { offices = picked_chain h R p j; chain = walk_chain (fewest_walk p j l) }

  pub fewest-found : (p : Permission) (j : ℕ) → (fewest_links h R p j ≤ h.n) ↔ Holds h R p j
  fewest-found p j = (fewest-holds p j, λ held. let l = holds-fewest p j held in omega arith)

  -- the test for refusal 12, by the search
  pub fewest_test : (p : Permission) (j : ℕ) → j < h.n → ltb (fewest_links h R p j) h.n ≡ holds h R p j
  fewest_test p j l =
      same_test (ltb (fewest_links h R p j) h.n) (holds h R p j)
      (λ e. (holds-chain h R inside p j l).1 (fewest-holds p j (let m = ltb-true (fewest_links h R p j) h.n e in omega arith)))
      (λ e. lt-ltb (fewest_links h R p j) h.n (holds-fewest p j ((holds-chain h R inside p j l).0 e)))

  picked_walk : (p : Permission) (j : ℕ) → Holds h R p j → Walk h R p (fewest_links h R p j) (picked_chain h R p j) j
  picked_walk p j held = fewest_walk p j (let l = holds-fewest p j held in omega arith)

  -- the picked list is a rooted chain
  pub picked_rooted : (p : Permission) (j : ℕ) → Holds h R p j → RootedChain h R (picked_chain h R p j) j p
  picked_rooted p j held = walk_chain (picked_walk p j held)

  -- no rooted chain is shorter
  pub picked_fewest : (p : Permission) (j : ℕ) (offices : List ℕ) → RootedChain h R offices j p → length (picked_chain h R p j) ≤ length offices
  picked_fewest p j offices c =
      let r = chain_walk c in omega (arith, picked_length h R p j, walk_length r.walk, fewest_least r.walk)

  -- none that is as short is smaller as a list
  pub picked_smallest :
      (p : Permission) (j : ℕ) (offices : List ℕ) →
      RootedChain h R offices j p →
      length offices ≡ length (picked_chain h R p j) →
      smaller_or_same (picked_chain h R p j) offices ≡ true
  unfolding picked_chain
  picked_smallest p j offices c e =
      let r = chain_walk c in
      let links : r.links ≡ fewest_links h R p j = omega (arith, e, picked_length h R p j, walk_length r.walk) in
      rw links at (counts_least h R inside r.walk)

  -- the picked list is the chain that 01 picks, exactly where j holds p
  pub picked_chain_lem : (p : Permission) (j : ℕ) → Holds h R p j ↔ Picked h R p j (picked_chain h R p j)
  picked_chain_lem p j = (
    λ held. record { rooted = picked_rooted p j held; fewest = picked_fewest p j; smallest = picked_smallest p j },
    λ picked. record { offices = picked_chain h R p j; chain = picked.rooted },
  )

  -- whatever chain 01 picks is the picked list
  pub picked_only : (p : Permission) (j : ℕ) (offices : List ℕ) → Picked h R p j offices → offices ≡ picked_chain h R p j
  picked_only p j offices picked =
      picked_unique picked ((picked_chain_lem p j).0 (record { offices = offices; chain = picked.rooted }))

  -- it fits a buffer of n, and its offices are below n
  pub picked_room : (p : Permission) (j : ℕ) → Holds h R p j → length (picked_chain h R p j) ≤ h.n
  picked_room p j held = omega (arith, picked_length h R p j, holds-fewest p j held)

  pub picked_offices : (p : Permission) (j : ℕ) → Holds h R p j → (k : ℕ) → k < length (picked_chain h R p j) → get_or (picked_chain h R p j) k 0 < h.n
  picked_offices p j held = walk_offices inside (picked_walk p j held)
