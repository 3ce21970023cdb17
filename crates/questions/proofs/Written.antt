-- The chain as the recursion writes it: SOA, and then one office more at each return.
use Prim.Native.Nat.{ℕ, zero, suc, ◌+◌, ◌-◌, ◌<◌}
use native.Mathlib.Nat.{not-suc-le-zero}
use native.Mathlib.Numerals.{add-one, sub-one}
use mathlib.Core.Path.{◌≡◌, refl, sym, ◌∙◌}
use mathlib.Core.Bool.{Bool, false}
use mathlib.Core.List.{List, [], ◌∷◌, ◌++◌}
use lib.ListN.{length, get_or, set, drop}
use lib.Seq.{drop-cons, set_at, append_snoc}
use Rattle.rights.specs.declared.Header.{Header}
use Rattle.rights.specs.Below.{first_below}
use Rattle.rights.specs.declared.Permission.{Permission}
use Rattle.rights.specs.Permission.{passing}
use Rattle.rights.specs.Register.{soa_of}
use Rattle.rights.specs.Question.{nearer, last_of, smallest, link_into}
use Rattle.theory.proofs.Smallest.{smallest-length, smallest_last}
use Rattle.levels.specs.Padded.{padded}
use Rattle.questions.proofs.Sets.{smallest-padded}

-- a store after the first offices adds one to them
store_next : (offices buffer : List ℕ) (d x : ℕ) → length offices ≡ d → d < length buffer → set (offices ++ drop d buffer) d x ≡ (offices ++ (x ∷ [])) ++ drop (suc d) buffer
store_next offices buffer d x e l =
    rw (drop-cons buffer d 0)
    (set_at offices (get_or buffer d 0) (drop (suc d) buffer) x d e ∙ sym (append_snoc offices x (drop (suc d) buffer)))

module _ (h : Header) (R : List ℕ) (p : Permission) (offices : List Bool) where
  -- no link: SOA alone
  pub written-first :
      (links : ℕ) (buffer written : List ℕ) →
      links ≡ 0 →
      0 < length buffer →
      written ≡ set buffer links (soa_of h) →
      (soa_of h ≡ last_of (smallest h R p links offices)) × (written ≡ smallest h R p links offices ++ drop (links + 1) buffer)
  unfolding smallest last_of
  written-first links buffer written e l w = rw (add-one, w, e) (refl, store_next [] buffer 0 (soa_of h) refl l)

  -- one link more: the chain to the set one link nearer SOA is there, before is its last office, and x is picked by it
  pub written_next :
      (links : ℕ) (reading : Permission) (near : List Bool) (before x : ℕ) (buffer earlier written : List ℕ) →
      0 < links →
      links < length buffer →
      reading ≡ passing p →
      near ≡ padded false (nearer h R p offices) →
      before ≡ last_of (smallest h R reading (links - 1) near) →
      earlier ≡ smallest h R reading (links - 1) near ++ drop (links - 1 + 1) buffer →
      x ≡ first_below h.n (link_into h R p offices before) →
      written ≡ set earlier links x →
      (x ≡ last_of (smallest h R p links offices)) × (written ≡ smallest h R p links offices ++ drop (links + 1) buffer)
  unfolding smallest
  written_next zero reading near before x buffer earlier written some l r n b e f w = absurd (not-suc-le-zero some)
  written_next (suc d) reading near before x buffer earlier written some l r n b e f w =
      let chain = smallest h R (passing p) d (nearer h R p offices) in
      let same : smallest h R reading (suc d - 1) near ≡ chain = rw (sub-one, r, n) (smallest-padded h R d (passing p) (nearer h R p offices)) in
      let picked : x ≡ first_below h.n (link_into h R p offices (last_of chain)) = f ∙ rw (b, same) in
      let there : earlier ≡ chain ++ drop (suc d) buffer = e ∙ rw (same, sub-one, add-one) in (
        picked ∙ sym (smallest_last h R d p offices),
        rw (add-one, w, there) (store_next chain buffer (suc d) x (smallest-length h R d (passing p) (nearer h R p offices)) l ∙ rw picked),
      )
