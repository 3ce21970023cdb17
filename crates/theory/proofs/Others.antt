-- A local deletion costs nobody but j a permission, since what somebody held by j alone it holds by i afterwards; and nobody holds
-- more by it. Assumes nothing.
use Prim.Native.Nat.{ℕ, ◌≤◌, ◌<◌}
use native.Mathlib.Omega.{arith}
use mathlib.Core.Path.{◌≡◌, sym, ◌∙◌}
use mathlib.Core.Logic.{◌⊎◌, inl, inr, ⊎_elim}
use mathlib.Core.Bool.{true, false, ◌&&◌, ◌||◌, not}
use mathlib.Core.List.{List, [], ◌∷◌, ◌++◌}
use lib.Dec.{eqb, leb}
use borrow.Author.Tests.{eqb-true, eqb-false, le-leb, not-true}
use Rattle.rights.specs.declared.Header.{Header}
use Rattle.rights.specs.declared.Permission.{Permission}
use Rattle.rights.specs.Permission.{need, passing, serves}
use Rattle.rights.specs.Cell.{has, carries, union, without}
use Rattle.rights.specs.Register.{cell, soa_of}
use Rattle.rights.specs.Level.{levels, level_in}
use Rattle.rights.specs.Chain.{RootedChain, alone, link, Holds}
use Rattle.theory.proofs.Tests.{both, left_of, right_of, either, decided}
use Rattle.theory.proofs.Below.{same_or_not, below_or_not}
use Rattle.theory.proofs.Cell.{has-cell_of, carries-restrict, carries_from, carried, fixed_need, entitles-serves, serves_least, passing-serves, passing-entitles}
use Rattle.theory.proofs.Way.{link_of}
use Rattle.theory.proofs.Restriction.{restricted-cell}
use Rattle.theory.proofs.Chain.{chain_below, entitled_level, level_holds, holds-serves}
use Rattle.theory.proofs.Local.{Cutting, M, v, L, N, cell_L, row_L, cell_N, row_N, carries_N, handed, link_N, level_kept, level_j, level_i}

module _ (h : Header) (R : List ℕ) (i j : ℕ) (to : ℕ → ℕ → ℕ) (cutting : Cutting h R i j to) where
  open cutting use {inside, clean, fixed, revoked}

  -- who has the level that p needs passes it on over a link that carries it
  passed :
      (p : Permission) (x y : ℕ) → y < h.n → need p ≤ level_in (levels h (N h R i j to cutting)) x →
      carries (cell h (N h R i j to cutting) x y) p ≡ true → Holds h (N h R i j to cutting) p y
  passed p x y hy enough e =
      let held = (level_holds h (N h R i j to cutting) inside p x).0 enough in
      record { offices = held.offices ++ (y ∷ []); chain = link y p held.chain hy e (passing-entitles p) }

  -- what j passed on stays where it is within j's level then; otherwise i has passed it on, or is the one who held it
  passed_by_j :
      (p : Permission) (y : ℕ) → y < h.n → need p ≤ level_in (levels h R) j → carries (cell h R j y) p ≡ true → Holds h (N h R i j to cutting) p y
  passed_by_j p y hy enough e =
      ⊎_elim
      (λ (l : v h R i j to cutting < need p).
      let above = level_i h R i j to cutting p enough l in
      let c = carried (cell h R j y) p e in
      ⊎_elim
      (λ (same : y ≡ i).
      rw same (holds-serves h (N h R i j to cutting) (passing p) p i (passing-serves p) ((level_holds h (N h R i j to cutting) inside p i).0 above)))
      (λ (ne : y ≡ i → ⊥).
      passed p i y hy above
      (carries_from (cell h (N h R i j to cutting) i y) c.by p
      (handed h R i j to cutting y hy ne c.by c.stands (omega (arith, serves_least c.by p c.enough))) c.enough))
      (same_or_not y i))
      (λ (l : need p ≤ v h R i j to cutting).
      let within : leb (need p) (v h R i j to cutting) ≡ true = le-leb (need p) (v h R i j to cutting) l in
      passed p j y hy (omega (arith, level_j h R i j to cutting))
      (carries_N h R i j to cutting j y revoked hy p
      (rw (row_L h R i j to cutting y hy) (carries-restrict (cell h R j y) (v h R i j to cutting) p (clean.small j y revoked hy) ∙ both e within))))
      (below_or_not (v h R i j to cutting) (need p))

  chain_kept :
      {offices : List ℕ} {y : ℕ} {p : Permission} → (y ≡ j → ⊥) → RootedChain h R offices y p → Holds h (N h R i j to cutting) p y
  unfolding link_of
  chain_kept ny (alone p) = record { offices = soa_of h ∷ []; chain = alone p }
  chain_kept ny (link {i = x} y p chain hy c e) =
      let enough = entitled_level h R inside p chain e in
      ⊎_elim
      (λ (same : x ≡ j). passed_by_j p y hy (rw same at enough) (rw same at c))
      (λ nx.
      passed p x y hy (omega (arith, enough, level_kept h R i j to cutting x nx))
      (link_N h R i j to cutting p x y (chain_below h R inside chain) hy nx ny c))
      (same_or_not x j)

  pub others_kept : (p : Permission) (y : ℕ) → (y ≡ j → ⊥) → Holds h R p y → Holds h (N h R i j to cutting) p y
  others_kept p y ny held = chain_kept ny held.chain

  -- a link of the register after row j was restricted was one before
  carries_L : (p : Permission) (x y : ℕ) → x < h.n → y < h.n → carries (cell h (L h R i j to cutting) x y) p ≡ true → carries (cell h R x y) p ≡ true
  unfolding M
  carries_L p x y hx hy e =
      ⊎_elim
      (λ (same : x ≡ j).
      rw same
      (left_of (carries (cell h R j y) p) (leb (need p) (v h R i j to cutting))
      (sym (carries-restrict (cell h R j y) (v h R i j to cutting) p (clean.small j y revoked hy)) ∙ (rw (same, row_L h R i j to cutting y hy) at e))))
      (λ (nx : x ≡ j → ⊥).
      left_of (carries (cell h R x y) p) (leb (need p) (to x y))
      (sym (carries-restrict (cell h R x y) (to x y) p (clean.small x y hx hy))
      ∙ (rw (cell_L h R i j to cutting x y hx hy nx, restricted-cell h R to x y hx hy) at e)))
      (same_or_not x j)

  -- and what was handed over was held by j's grant
  handed_before_lem :
      (p q : Permission) (y : ℕ) → y < h.n → serves q p ≡ true → has (without (cell h R j y) (cell h (L h R i j to cutting) j y)) q ≡ true → Holds h R p y
  unfolding without
  handed_before_lem p q y hy s e =
      let stood =
      left_of (has (cell h R j y) q) (not (has (cell h (L h R i j to cutting) j y) q))
      (sym (has-cell_of (λ q. has (cell h R j y) q && not (has (cell h (L h R i j to cutting) j y) q)) q) ∙ e)
      in
      let enough = fixed_need (cell h R j y) (level_in (levels h R) j) q (clean.small j y revoked hy) (fixed j y revoked hy) stood in
      let held = (level_holds h R inside q j).0 enough in
      record {
        offices = held.offices ++ (y ∷ []);
        chain = link y p held.chain hy (carries_from (cell h R j y) q p stood s) (entitles-serves (passing q) q p (passing-entitles q) s);
      }

  -- so a link out of i was one before, or was held by j's grant
  from_i :
      (p : Permission) (y : ℕ) → y < h.n → (y ≡ i → ⊥) → carries (cell h (N h R i j to cutting) i y) p ≡ true →
      (carries (cell h (L h R i j to cutting) i y) p ≡ true) ⊎ Holds h R p y
  unfolding union
  from_i p y hy ne c =
      let both-rows = union (cell h (L h R i j to cutting) i y) (without (cell h R j y) (cell h (L h R i j to cutting) j y)) in
      let there = carried both-rows p (rw (row_N h R i j to cutting y hy ne) at c) in
      ⊎_elim
      (λ q. inl (carries_from (cell h (L h R i j to cutting) i y) there.by p q there.enough))
      (λ q. inr (handed_before_lem p there.by y hy there.enough q))
      (either (has (cell h (L h R i j to cutting) i y) there.by) (has (without (cell h R j y) (cell h (L h R i j to cutting) j y)) there.by)
      (sym (has-cell_of (λ q. has (cell h (L h R i j to cutting) i y) q || has (without (cell h R j y) (cell h (L h R i j to cutting) j y)) q) there.by) ∙ there.stands))

  chain_before : {offices : List ℕ} {y : ℕ} {p : Permission} → RootedChain h (N h R i j to cutting) offices y p → Holds h R p y
  chain_before (alone p) = record { offices = soa_of h ∷ []; chain = alone p }
  chain_before (link {i = x} y p chain hy c e) =
      let held = chain_before chain in
      let hx = chain_below h (N h R i j to cutting) inside chain in
      let still : carries (cell h (L h R i j to cutting) x y) p ≡ true → Holds h R p y =
      λ l. record { offices = held.offices ++ (y ∷ []); chain = link y p held.chain hy (carries_L p x y hx hy l) e }
      in
      ⊎_elim
      (λ (t : eqb x i && not (eqb y i) ≡ true).
      let same = eqb-true x i (left_of (eqb x i) (not (eqb y i)) t) in
      let ne = eqb-false y i (not-true (eqb y i) (right_of (eqb x i) (not (eqb y i)) t)) in
      ⊎_elim (λ l. still (rw same l)) (λ r. r) (from_i p y hy ne (rw same at c)))
      (λ (t : eqb x i && not (eqb y i) ≡ false). still (rw (cell_N h R i j to cutting x y hx hy t) at c))
      (decided (eqb x i && not (eqb y i)))

  pub nobody_gains : (p : Permission) (y : ℕ) → Holds h (N h R i j to cutting) p y → Holds h R p y
  nobody_gains p y held = chain_before held.chain
