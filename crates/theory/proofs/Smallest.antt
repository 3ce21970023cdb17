-- The smallest list of offices, so many links long, from SOA into a set: the search back to SOA finds whether there is one, and
-- the choice on the way forth makes it the smallest. Assumes nothing.
use Prim.Native.Nat.{ℕ, zero, suc, ◌<◌}
use native.Mathlib.Omega.{arith}
use mathlib.Core.Path.{◌≡◌, refl, ap, sym, ◌∙◌}
use mathlib.Core.Bool.{Bool, true, ◌&&◌}
use mathlib.Core.List.{List, [], ◌∷◌}
use lib.ListN.{length, length-append}
use lib.Dec.{eqb}
use borrow.Author.Tests.{eqb-true, eq-eqb}
use Rattle.rights.specs.declared.Header.{Header}
use Rattle.rights.specs.Below.{any_below, first_below}
use Rattle.rights.specs.declared.Permission.{Permission}
use Rattle.rights.specs.Permission.{passing}
use Rattle.rights.specs.Cell.{carries}
use Rattle.rights.specs.Register.{cell, soa_of}
use Rattle.rights.specs.Order.{smaller_or_same}
use Rattle.rights.specs.Level.{is_in}
use Rattle.rights.specs.Question.{single, nearer, links_away, last_of, smallest, link_into, soa_away}
use Rattle.theory.proofs.Tests.{both, left_of, right_of}
use Rattle.theory.proofs.Below.{any_from, first-at, first_below_lem, first_least}
use Rattle.theory.proofs.Level.{in_table, in_table_below}
use Rattle.theory.proofs.Reading.{passing-passing}
use Rattle.theory.proofs.Order.{order_same, order_append}
use Rattle.theory.proofs.Walk.{Walk, here, further, walk_length, walk_inside, walk_last, last_append}

-- a walk over the offices of the smallest list, into the set
pub record Leads (h : Header) (R : List ℕ) (p : Permission) (d : ℕ) (set : List Bool) : Type 0 where
  pub walk : Walk h R p d (smallest h R p d set) (last_of (smallest h R p d set))
  pub into : is_in set (last_of (smallest h R p d set)) ≡ true

module _ (h : Header) (R : List ℕ) where
  -- one office more than links
  pub smallest-length : (d : ℕ) (p : Permission) (set : List Bool) → length (smallest h R p d set) ≡ suc d
  unfolding smallest
  smallest-length zero p set = refl
  smallest-length (suc d) p set = simp length-append (let n = smallest-length d (passing p) (nearer h R p set) in omega arith)

  -- the last is the smallest office of the set to which the one before has a link
  pub smallest_last :
      (d : ℕ) (p : Permission) (set : List Bool) →
      last_of (smallest h R p (suc d) set)
      ≡ first_below h.n (λ y. is_in set y && carries (cell h R (last_of (smallest h R (passing p) d (nearer h R p set))) y) p)
  unfolding smallest
  smallest_last d p set = last_append (smallest h R (passing p) d (nearer h R p set)) _

  -- one link more, after the first, is read as what passes p on
  pub away_one : (p : Permission) (set : List Bool) → links_away h R p 1 set ≡ nearer h R p set
  unfolding links_away
  away_one p set = refl

  pub away_more : (d : ℕ) (p : Permission) (set : List Bool) → links_away h R p (suc (suc d)) set ≡ nearer h R (passing p) (links_away h R p (suc d) set)
  unfolding links_away
  away_more zero p set = refl
  away_more (suc d) p set = away_more d (passing p) (nearer h R p set) ∙ rw passing-passing

module _ (h : Header) (R : List ℕ) (inside : soa_of h < h.n) where
  -- an office is nearer SOA than the set exactly where it has a link into the set
  nearer_step : (p : Permission) (set : List Bool) (x : ℕ) → is_in (nearer h R p set) x ≡ true → any_below h.n (link_into h R p set x) ≡ true
  unfolding nearer
  nearer_step p set x e = sym (in_table h.n linking x (in_table_below h.n linking x e)) ∙ e
    where
      linking : ℕ → Bool
      linking x = any_below h.n (link_into h R p set x)

  step_nearer :
      (p : Permission) (set : List Bool) (x y : ℕ) →
      x < h.n → y < h.n → is_in set y ≡ true → carries (cell h R x y) p ≡ true → is_in (nearer h R p set) x ≡ true
  unfolding nearer
  step_nearer p set x y k l e c =
      in_table h.n (λ x. any_below h.n (link_into h R p set x)) x k ∙ any_from h.n (link_into h R p set x) y l (both e c)

  -- a walk into the set comes from SOA, so many links away
  pub walk_away :
      {p : Permission} {d j : ℕ} {offices : List ℕ} (set : List Bool) →
      Walk h R p d offices j →
      is_in set j ≡ true →
      is_in (links_away h R p d set) (soa_of h) ≡ true
  unfolding links_away
  walk_away set (here p) e = e
  walk_away set (further {i = i} j p w l c) e = walk_away (nearer h R p set) w (step_nearer p set i j (walk_inside inside w) l e c)

  -- and where SOA is so many links away, there is such a walk
  pub smallest_walk :
      (d : ℕ) (p : Permission) (set : List Bool) →
      is_in (links_away h R p d set) (soa_of h) ≡ true →
      Leads h R p d set
  unfolding links_away smallest last_of
  smallest_walk zero p set e = record { walk = here p; into = e }
  smallest_walk (suc d) p set e =
      let earlier = smallest_walk d (passing p) (nearer h R p set) e in
      let x = last_of (smallest h R (passing p) d (nearer h R p set)) in
      let step = link_into h R p set x in
      let found = nearer_step p set x earlier.into in
      let y = first_below h.n step in
      let passes = first-at h.n step found in
      record {
        walk = rw last_append (further y p earlier.walk (first_below_lem h.n step found) (right_of (is_in set y) _ passes));
        into = rw last_append (left_of (is_in set y) _ passes);
      }

  -- no walk of so many links into the set is smaller
  pub smallest_least :
      {p : Permission} {d j : ℕ} {offices : List ℕ} (set : List Bool) →
      Walk h R p d offices j →
      is_in set j ≡ true →
      smaller_or_same (smallest h R p d set) offices ≡ true
  unfolding smallest links_away
  smallest_least set (here p) e = order_same (soa_of h ∷ [])
  smallest_least set (further {offices} {i} {d} j p w l c) e =
      let earlier = smallest h R (passing p) d (nearer h R p set) in
      let step = link_into h R p set (last_of earlier) in
      order_append earlier offices (first_below h.n step) j
      (smallest-length h R d (passing p) (nearer h R p set) ∙ sym (walk_length w))
      (smallest_least (nearer h R p set) w (step_nearer p set i j (walk_inside inside w) l e c))
      (λ same. first_least h.n step j l (ap (λ (x : ℕ). link_into h R p set x j) (ap last_of same ∙ walk_last w) ∙ both e c))

  -- the set of one office
  in_single : (j y : ℕ) → is_in (single h j) y ≡ true → y ≡ j
  unfolding single
  in_single j y e = sym (eqb-true j y (sym (in_table h.n (eqb j) y (in_table_below h.n (eqb j) y e)) ∙ e))

  single_in : (j : ℕ) → j < h.n → is_in (single h j) j ≡ true
  unfolding single
  single_in j l = in_table h.n (eqb j) j l ∙ eq-eqb j j refl

  -- SOA is so many links away from j exactly where there is a walk of so many links to j
  pub walk_counts : {p : Permission} {d j : ℕ} {offices : List ℕ} → Walk h R p d offices j → soa_away h R p (single h j) d ≡ true
  walk_counts {j = j} w = walk_away (single h j) w (single_in j (walk_inside inside w))

  pub counts_walk : (d : ℕ) (p : Permission) (j : ℕ) → soa_away h R p (single h j) d ≡ true → Walk h R p d (smallest h R p d (single h j)) j
  counts_walk d p j e =
      let leads = smallest_walk d p (single h j) e in
      let at = in_single j (last_of (smallest h R p d (single h j))) leads.into in
      rw at at leads.walk

  -- and no such walk is smaller than the smallest list
  pub counts_least : {p : Permission} {d j : ℕ} {offices : List ℕ} → Walk h R p d offices j → smaller_or_same (smallest h R p d (single h j)) offices ≡ true
  counts_least {j = j} w = smallest_least (single h j) w (single_in j (walk_inside inside w))
