-- Sets of offices made up to 128 marks are the sets of the definitions: a set counts by what is in it alone.
use Prim.Native.Nat.{ℕ, zero, suc}
use mathlib.Core.Path.{◌≡◌, refl, ap, ◌∙◌}
use mathlib.Core.Bool.{Bool, false}
use mathlib.Core.List.{List, [], ◌∷◌, ◌++◌}
use lib.Dec.{ltb}
use Rattle.rights.specs.declared.Header.{Header}
use Rattle.rights.specs.Below.{any_below, first_below, table}
use Rattle.rights.specs.declared.Permission.{Permission}
use Rattle.rights.specs.Permission.{passing}
use Rattle.rights.specs.Register.{soa_of}
use Rattle.rights.specs.Level.{is_in}
use Rattle.rights.specs.Question.{single, nearer, links_away, fewest_links, last_of, smallest, link_into, soa_away, fewest_into}
use Rattle.theory.proofs.Below.{any_ext, table_ext}
use Rattle.theory.proofs.Smallest.{away_one, away_more}
use Rattle.levels.specs.Padded.{padded}
use Rattle.levels.proofs.Rounds.{in_padded}
use Rattle.questions.proofs.First.{first_any, first_ext}

-- x has a link into the set that carries p: it is one link nearer SOA than the set
unfoldable pub leads : Header → List ℕ → Permission → List Bool → ℕ → Bool
leads h R p set x = any_below h.n (link_into h R p set x)

-- what a link is read as, with so many links between it and the office asked for: p for the last, and what passes p on for an
-- earlier one
unfoldable pub reading_at : Permission → ℕ → Permission
reading_at p zero = p
reading_at p (suc d) = passing p

module _ (h : Header) (R : List ℕ) where
  -- the offices one link nearer SOA are those that have a link into the set
  pub nearer_leads : (p : Permission) (set : List Bool) → nearer h R p set ≡ table h.n (leads h R p set)
  unfolding nearer leads
  nearer_leads p set = refl

  -- which is whether there is a first office that they have a link to
  pub leads_first : (p : Permission) (set : List Bool) (x : ℕ) → ltb (first_below h.n (link_into h R p set x)) h.n ≡ leads h R p set x
  unfolding leads
  leads_first p set x = first_any h.n (link_into h R p set x)

  -- one link more
  pub away_next : (d : ℕ) (p : Permission) (set : List Bool) → links_away h R p (suc d) set ≡ nearer h R (reading_at p d) (links_away h R p d set)
  unfolding reading_at links_away
  away_next zero p set = away_one h R p set
  away_next (suc d) p set = away_more h R d p set

  link_ext : (p : Permission) (A B : List Bool) → ((y : ℕ) → is_in A y ≡ is_in B y) → (x y : ℕ) → link_into h R p A x y ≡ link_into h R p B x y
  link_ext p A B e x y = rw (e y)

  -- sets of the same offices are one link nearer SOA by the same offices
  nearer_ext : (p : Permission) (A B : List Bool) → ((y : ℕ) → is_in A y ≡ is_in B y) → nearer h R p A ≡ nearer h R p B
  unfolding leads
  nearer_ext p A B e =
      rw (nearer_leads p A, nearer_leads p B)
      (table_ext h.n (leads h R p A) (leads h R p B)
      (λ x l. any_ext h.n (link_into h R p A x) (link_into h R p B x) (λ y m. link_ext p A B e x y)))

  -- and the smallest list into them is the same
  smallest_ext : (d : ℕ) (p : Permission) (A B : List Bool) → ((y : ℕ) → is_in A y ≡ is_in B y) → smallest h R p d A ≡ smallest h R p d B
  unfolding smallest
  smallest_ext zero p A B e = refl
  smallest_ext (suc d) p A B e =
      rw (nearer_ext p A B e)
      (let x = last_of (smallest h R (passing p) d (nearer h R p B)) in
      ap (λ (y : ℕ). smallest h R (passing p) d (nearer h R p B) ++ (y ∷ []))
      (first_ext h.n (link_into h R p A x) (link_into h R p B x) (λ y m. link_ext p A B e x y)))

  -- the set after one link more, from marks of the set before it
  pub away_step :
      (d : ℕ) (p : Permission) (set near : List Bool) →
      ((y : ℕ) → is_in near y ≡ is_in (links_away h R p d set) y) →
      (y : ℕ) → is_in (padded false (nearer h R (reading_at p d) near)) y ≡ is_in (links_away h R p (suc d) set) y
  away_step d p set near e y =
      in_padded (nearer h R (reading_at p d) near) y
      ∙ rw (nearer_ext (reading_at p d) near (links_away h R p d set) e, away_next d p set)

  -- so a set made up to 128 does as well
  nearer-padded : (p : Permission) (set : List Bool) → nearer h R p (padded false set) ≡ nearer h R p set
  nearer-padded p set = nearer_ext p (padded false set) set (in_padded set)

  pub smallest-padded : (d : ℕ) (p : Permission) (set : List Bool) → smallest h R p d (padded false set) ≡ smallest h R p d set
  smallest-padded d p set = smallest_ext d p (padded false set) set (in_padded set)

  away_padded : (d : ℕ) (p : Permission) (set : List Bool) (y : ℕ) → is_in (links_away h R p d (padded false set)) y ≡ is_in (links_away h R p d set) y
  unfolding links_away
  away_padded zero p set y = in_padded set y
  away_padded (suc d) p set y = rw (nearer-padded p set)

  -- the fewest links into a set made up to 128
  pub fewest-padded : (p : Permission) (j : ℕ) → fewest_into h R p (padded false (single h j)) ≡ fewest_links h R p j
  unfolding fewest_links
  fewest-padded p j =
      first_ext (suc h.n) (soa_away h R p (padded false (single h j))) (soa_away h R p (single h j))
      (λ d l. away_padded d p (single h j) (soa_of h))
