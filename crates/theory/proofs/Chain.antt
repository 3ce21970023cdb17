-- Law 1: a level says what an office holds by rooted chains, and what is computed from levels is holding. Assumes nothing.
use Prim.Native.Nat.{ℕ, ◌≤◌, ◌<◌}
use native.Mathlib.Omega.{arith}
use mathlib.Core.Path.{◌≡◌, refl, ap, sym, ◌∙◌}
use mathlib.Core.Logic.{◌↔◌, ⊎_elim}
use mathlib.Core.Bool.{Bool, true, false, ◌&&◌, ◌||◌, not, cond, or_assoc, or-false}
use mathlib.Core.List.{List, [], ◌∷◌, ◌++◌}
use lib.Dec.{eqb, leb}
use borrow.Author.Tests.{eqb-true, eqb-false, eq-eqb, ne_eqb, not-true, leb-true, leb-false, le-leb, lt-leb}
use Rattle.rights.specs.declared.Header.{Header}
use Rattle.rights.specs.Below.{any_below}
use Rattle.rights.specs.declared.Permission.{Permission}
use Rattle.rights.specs.declared.Permission.TheVariants.{TT, TF}
use Rattle.rights.specs.Permission.{need, passing, entitles, serves}
use Rattle.rights.specs.Cell.{carries, restrict}
use Rattle.rights.specs.Register.{cell, soa_of}
use Rattle.rights.specs.Chain.{RootedChain, alone, link, Holds, HoldsWithout, HoldsUnused, names, uses}
use Rattle.rights.specs.Level.{levels, independent_levels, levels_among, level_in, every_office, other_than, holds, holds_by}
use Rattle.rights.specs.Restriction.{restricted, empty_where}
use Rattle.theory.proofs.Tests.{both, left_of, right_of, or_left, or_right, either, decided, clash, neither, not_left, not_right}
use Rattle.theory.proofs.Below.{any_from, any_found}
use Rattle.theory.proofs.Cell.{entitles_trans, entitles-serves, entitled-serves, carries-serves, passing-entitles, passing_itself, need_low, need_high, carries-restrict}
use Rattle.theory.proofs.Register.{cell-register}
use Rattle.theory.proofs.Way.{Way, start, onward, Reach, link_of, way_root, way_allowed}
use Rattle.theory.proofs.Level.{enough_way, way_enough, level_most}

-- A rooted chain whose reading entitles p is a way over links that carry what passes p on: every reading of it does.
pub chain_way :
    {h : Header} {R : List ℕ} {offices : List ℕ} {y : ℕ} {q : Permission} (p : Permission) →
    RootedChain h R offices y q →
    entitles q p ≡ true →
    Way h every_office (link_of h R (passing p)) offices y
unfolding every_office link_of
chain_way p (alone q) e = start refl
chain_way {R} p (link {i} {reading} j q chain l c r) e =
    onward j (chain_way p chain (entitles_trans reading q p r e)) l refl
    (carries-serves (cell _ R i j) q (passing p) c (entitled-serves q p e))

-- and such a way is a chain for what passes p on
pub way_chain :
    {h : Header} {R : List ℕ} {allowed : ℕ → Bool} (p : Permission) {offices : List ℕ} {y : ℕ} →
    Way h allowed (link_of h R (passing p)) offices y →
    RootedChain h R offices y (passing p)
unfolding link_of
way_chain p (start a) = alone (passing p)
way_chain p (onward y w l a q) = link y (passing p) (way_chain p w) l q (passing_itself p)

-- a list names i where its earlier part does or its last office is i
names_last : (i : ℕ) (offices : List ℕ) (y : ℕ) → names i (offices ++ (y ∷ [])) ≡ names i offices || eqb i y
unfolding names
names_last i [] y = or-false (eqb i y)
names_last i (x ∷ offices) y = rw (names_last i offices y) (sym (or_assoc (eqb i x) (names i offices) (eqb i y)))

other_differs : (i y : ℕ) → other_than i y ≡ true → eqb i y ≡ false
unfolding other_than
other_differs i y a = ne_eqb i y (λ e. eqb-false y i (not-true (eqb y i) a) (sym e))

differs_other : (i y : ℕ) → eqb i y ≡ false → other_than i y ≡ true
unfolding other_than
differs_other i y e = rw (ne_eqb y i (λ q. eqb-false i y e (sym q)))

-- a way among offices other than i is a way that does not name i
pub way_unnamed :
    {h : Header} {passes : ℕ → ℕ → Bool} (i : ℕ) {offices : List ℕ} {y : ℕ} →
    Way h (other_than i) passes offices y →
    names i offices ≡ false
unfolding names
way_unnamed {h} i (start a) = names_last i [] (soa_of h) ∙ other_differs i (soa_of h) a
way_unnamed i (onward {offices} y w l a q) = names_last i offices y ∙ neither (way_unnamed i w) (other_differs i y a)

pub unnamed_way :
    {h : Header} {allowed : ℕ → Bool} {passes : ℕ → ℕ → Bool} {offices : List ℕ} {y : ℕ} (i : ℕ) →
    Way h allowed passes offices y →
    names i offices ≡ false →
    Way h (other_than i) passes offices y
unfolding names
unnamed_way {h} i (start a) e = start (differs_other i (soa_of h) (sym (names_last i [] (soa_of h)) ∙ e))
unnamed_way i (onward {offices} y w l a q) e =
    let n : names i offices || eqb i y ≡ false = sym (names_last i offices y) ∙ e in
    onward y (unnamed_way i w (not_left (names i offices) (eqb i y) n)) l (differs_other i y (not_right (names i offices) (eqb i y) n)) q

module _ (h : Header) (R : List ℕ) (inside : soa_of h < h.n) where
  -- a chain ends at an office
  pub chain_below : {offices : List ℕ} {y : ℕ} {p : Permission} → RootedChain h R offices y p → y < h.n
  chain_below (alone p) = inside
  chain_below (link j p chain l c e) = l

  -- the level of who holds what entitles p is enough for p
  pub entitled_level :
      {offices : List ℕ} {y : ℕ} {q : Permission} (p : Permission) →
      RootedChain h R offices y q →
      entitles q p ≡ true →
      need p ≤ level_in (levels h R) y
  unfolding levels
  entitled_level {offices} {y} p c e = way_enough h R every_office inside p y (record { offices = offices; way = chain_way p c e })

  -- an office's level is enough for p exactly where it holds what passes p on
  pub level_holds : (p : Permission) (y : ℕ) → (need p ≤ level_in (levels h R) y) ↔ Holds h R (passing p) y
  unfolding levels
  level_holds p y = (there, back)
    where
      there : need p ≤ level_in (levels_among h R every_office) y → Holds h R (passing p) y
      there e = let w = enough_way h R every_office inside p y e in record { offices = w.offices; chain = way_chain p w.way }

      back : Holds h R (passing p) y → need p ≤ level_in (levels h R) y
      back r = entitled_level p r.chain (passing-entitles p)

  -- 01, 'Independent level': the same by chains that do not name i
  pub independent_holds : (i : ℕ) (p : Permission) (y : ℕ) → (need p ≤ level_in (independent_levels h R i) y) ↔ HoldsWithout h R i (passing p) y
  unfolding independent_levels
  independent_holds i p y = (there, back)
    where
      there : need p ≤ level_in (levels_among h R (other_than i)) y → HoldsWithout h R i (passing p) y
      there e =
          let w = enough_way h R (other_than i) inside p y e in
          record { offices = w.offices; chain = way_chain p w.way; unnamed = way_unnamed i w.way }

      back : HoldsWithout h R i (passing p) y → need p ≤ level_in (levels_among h R (other_than i)) y
      back r =
          way_enough h R (other_than i) inside p y
          (record { offices = r.offices; way = unnamed_way i (chain_way p r.chain (passing-entitles p)) r.unnamed })

  -- '0 for i itself, and 0 for all when i is SOA'
  independent_none : (i y : ℕ) → (Reach h (other_than i) (link_of h R TF) y → other_than i i ≡ true) → level_in (independent_levels h R i) y ≡ 0
  unfolding independent_levels other_than need passing
  independent_none i y f =
      ⊎_elim
      (λ e. clash (f (enough_way h R (other_than i) inside TF y (leb-true 1 (level_in (independent_levels h R i) y) e))) (rw (eq-eqb i i refl)))
      (λ e. let l = leb-false 1 (level_in (independent_levels h R i) y) e in omega arith)
      (decided (leb 1 (level_in (independent_levels h R i) y)))

  pub independent_itself : (i : ℕ) → level_in (independent_levels h R i) i ≡ 0
  independent_itself i = independent_none i i (λ r. way_allowed r.way)

  pub independent_soa : (y : ℕ) → level_in (independent_levels h R (soa_of h)) y ≡ 0
  independent_soa y = independent_none (soa_of h) y (λ r. way_root r.way)

  -- what is computed from the levels is holding
  computed_holds : (p : Permission) (y : ℕ) → y < h.n → holds h R p y ≡ true → Holds h R p y
  unfolding holds holds_by
  computed_holds p y l e =
      ⊎_elim
      (λ q. rw (eqb-true y (soa_of h) q) (record { offices = soa_of h ∷ []; chain = alone p }))
      (λ q. let r = any_found h.n (λ i. leb (need p) (level_in (levels h R) i) && carries (cell h R i y) p) q in
      let i = r.at in
      let enough = leb (need p) (level_in (levels h R) i) in
      let held = (level_holds p i).0 (leb-true (need p) (level_in (levels h R) i) (left_of enough (carries (cell h R i y) p) r.passes)) in
      record {
        offices = held.offices ++ (y ∷ []);
        chain = link y p held.chain l (right_of enough (carries (cell h R i y) p) r.passes) (passing-entitles p);
      })
      (either (eqb y (soa_of h)) (any_below h.n (λ i. leb (need p) (level_in (levels h R) i) && carries (cell h R i y) p)) e)

  chain_computed : {offices : List ℕ} {y : ℕ} {p : Permission} → RootedChain h R offices y p → holds h R p y ≡ true
  unfolding holds holds_by
  chain_computed (alone p) =
      or_left (any_below h.n (λ i. leb (need p) (level_in (levels h R) i) && carries (cell h R i (soa_of h)) p))
      (eq-eqb (soa_of h) (soa_of h) refl)
  chain_computed (link {i} j p chain l c e) =
      let enough = entitled_level p chain e in
      or_right (eqb j (soa_of h))
      (any_from h.n (λ i. leb (need p) (level_in (levels h R) i) && carries (cell h R i j) p) i (chain_below chain)
      (both (le-leb (need p) (level_in (levels h R) i) enough) c))

  pub holds-chain : (p : Permission) (y : ℕ) → y < h.n → (holds h R p y ≡ true) ↔ Holds h R p y
  holds-chain p y l = (computed_holds p y l, λ r. chain_computed r.chain)

  -- 01: 'Level of j: 2 if it holds TT, else 1 if it holds TF, else 0.'
  pub level_2 : (y : ℕ) → (level_in (levels h R) y ≡ 2) ↔ Holds h R TT y
  unfolding need passing levels
  level_2 y = ((λ e. (level_holds TT y).0 (omega arith)), (λ r. omega (arith, (level_holds TT y).1 r, level_most h R every_office y)))

  pub level_1 : (y : ℕ) → (1 ≤ level_in (levels h R) y) ↔ Holds h R TF y
  unfolding need passing
  level_1 y = level_holds TF y

-- who holds a permission holds whatever it serves for
chain-serves :
    {h : Header} {R : List ℕ} {offices : List ℕ} {y : ℕ} {q : Permission} (p : Permission) →
    serves q p ≡ true → RootedChain h R offices y q → RootedChain h R offices y p
chain-serves p s (alone q) = alone p
chain-serves p s (link {reading = r} y q chain l c e) = link y p chain l (carries-serves _ q p c s) (entitles-serves r q p e s)

pub holds-serves : (h : Header) (R : List ℕ) (q p : Permission) (y : ℕ) → serves q p ≡ true → Holds h R q y → Holds h R p y
holds-serves h R q p y s held = record { offices = held.offices; chain = chain-serves p s held.chain }

-- The last office of a chain is the one that it is for.
record EndsAt (offices : List ℕ) (y : ℕ) : Type 0 where
  front : List ℕ
  ends : offices ≡ front ++ (y ∷ [])

chain-ends : {h : Header} {R : List ℕ} {offices : List ℕ} {y : ℕ} {p : Permission} → RootedChain h R offices y p → EndsAt offices y
chain-ends (alone p) = record { front = []; ends = refl }
chain-ends (link {offices} j p chain l c e) = record { front = offices; ends = refl }

-- a longer list goes over the links of its earlier part and its last one
uses_front :
    (named : ℕ → ℕ → Bool) (front : List ℕ) (x y : ℕ) →
    uses named ((front ++ (x ∷ [])) ++ (y ∷ [])) ≡ uses named (front ++ (x ∷ [])) || named x y
unfolding uses
uses_front named [] x y = or-false (named x y)
uses_front named (a ∷ []) x y = rw (or-false (named a x), or-false (named x y))
uses_front named (a ∷ b ∷ front) x y =
    ap (λ (t : Bool). named a b || t) (uses_front named (b ∷ front) x y)
    ∙ sym (or_assoc (named a b) (uses named (b ∷ (front ++ (x ∷ [])))) (named x y))

uses_last :
    {h : Header} {R : List ℕ} {offices : List ℕ} {x : ℕ} {p : Permission} (named : ℕ → ℕ → Bool) (y : ℕ) →
    RootedChain h R offices x p →
    uses named (offices ++ (y ∷ [])) ≡ uses named offices || named x y
uses_last {x} named y chain = let e = chain-ends chain in rw e.ends (uses_front named e.front x y)

enough_kept : (p : Permission) (b : Bool) → leb (need p) (cond b 0 2) ≡ not b
enough_kept p true = lt-leb (need p) 0 (need_low p)
enough_kept p false = le-leb (need p) 2 (need_high p)

-- Chains that go over no named link are the chains of the register whose named cells are emptied.
module _
    (h : Header)
    (R : List ℕ)
    (inside : soa_of h < h.n)
    (small : (i j : ℕ) → i < h.n → j < h.n → cell h R i j ≤ 15)
    (named : ℕ → ℕ → Bool)
  where
    -- what an emptied cell carries
    carries-unnamed :
        (i j : ℕ) (p : Permission) →
        i < h.n →
        j < h.n →
        carries (cell h (restricted h R (empty_where named)) i j) p ≡ carries (cell h R i j) p && not (named i j)
    unfolding restricted empty_where
    carries-unnamed i j p hi hj =
        ap (λ (c : ℕ). carries c p) (cell-register h (λ i j. restrict (cell h R i j) (cond (named i j) 0 2)) i j hi hj)
        ∙ carries-restrict (cell h R i j) (cond (named i j) 0 2) p (small i j hi hj)
        ∙ ap (λ (b : Bool). carries (cell h R i j) p && b) (enough_kept p (named i j))

    chain-unused :
        {offices : List ℕ} {y : ℕ} {p : Permission} →
        RootedChain h (restricted h R (empty_where named)) offices y p →
        RootedChain h R offices y p × (uses named offices ≡ false)
    unfolding uses
    chain-unused (alone p) = (alone p, refl)
    chain-unused (link {offices} {i} j p chain l c e) =
        let earlier = chain-unused chain in
        let kept = sym (carries-unnamed i j p (chain_below h R inside earlier.0) l) ∙ c in (
          link j p earlier.0 l (left_of (carries (cell h R i j) p) (not (named i j)) kept) e,
          uses_last named j earlier.0
              ∙ neither earlier.1 (not-true (named i j) (right_of (carries (cell h R i j) p) (not (named i j)) kept)),
        )

    unused-chain :
        {offices : List ℕ} {y : ℕ} {p : Permission} →
        RootedChain h R offices y p →
        uses named offices ≡ false →
        RootedChain h (restricted h R (empty_where named)) offices y p
    unused-chain (alone p) u = alone p
    unused-chain (link {offices} {i} j p chain l c e) u =
        let n : uses named offices || named i j ≡ false = sym (uses_last named j chain) ∙ u in
        link j p (unused-chain chain (not_left (uses named offices) (named i j) n)) l
        (carries-unnamed i j p (chain_below h R inside chain) l
        ∙ both c (ap not (not_right (uses named offices) (named i j) n))) e

    pub holds-unused : (p : Permission) (y : ℕ) → Holds h (restricted h R (empty_where named)) p y ↔ HoldsUnused h R named p y
    holds-unused p y = (
      (λ r. let c = chain-unused r.chain in record { offices = r.offices; chain = c.0; unused = c.1 }),
      (λ r. record { offices = r.offices; chain = unused-chain r.chain r.unused }),
    )
