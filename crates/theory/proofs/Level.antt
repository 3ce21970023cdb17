-- What a level says: which ways there are. Assumes nothing.
use Prim.Native.Nat.{ℕ, zero, suc, ◌≤◌, ◌<◌}
use native.Mathlib.Omega.{arith}
use mathlib.Core.Path.{◌≡◌, refl, ap, ap₂, sym, ◌∙◌}
use mathlib.Core.Logic.{◌⊎◌, inl, inr, ⊎_elim}
use mathlib.Core.Bool.{Bool, true, false, ◌&&◌, ◌||◌, cond}
use mathlib.Core.List.{List, [], ◌∷◌, ◌++◌}
use lib.ListN.{length, get_or-eq_default}
use lib.Dec.{eqb, ltb}
use borrow.Author.Tests.{eqb-true, eq-eqb, ltb-true, ltb-false}
use Rattle.rights.specs.declared.Header.{Header}
use Rattle.rights.specs.Below.{table}
use Rattle.rights.specs.declared.Permission.{Permission}
use Rattle.rights.specs.declared.Permission.TheVariants.{TT, TF}
use Rattle.rights.specs.Permission.{need, passing}
use Rattle.rights.specs.Cell.{carries}
use Rattle.rights.specs.Register.{cell, soa_of}
use Rattle.rights.specs.Level.{is_in, linked, reached, levels_among, level_in, linked_by, marked_first, marked_next, marking}
use Rattle.theory.proofs.Tests.{both, left_of, right_of, or_left, or_right, either, decided, clash}
use Rattle.theory.proofs.Below.{any_from, any_found, any_ext, table_at, length-table, table_ext}
use Rattle.theory.proofs.Growth.{marked_most, settled, stays}
use Rattle.theory.proofs.Cell.{need_low, carries-serves, TT-serves, passing-cases}
use Rattle.theory.proofs.Way.{Way, start, onward, Reach, link_of, way_more}

-- the set of a table: the numbers below n that pass the test
pub in_table : (n : ℕ) (f : ℕ → Bool) (y : ℕ) → y < n → is_in (table n f) y ≡ f y
unfolding is_in
in_table n f y l = table_at n f y false l

pub in_table_below : (n : ℕ) (f : ℕ → Bool) (y : ℕ) → is_in (table n f) y ≡ true → y < n
unfolding is_in
in_table_below n f y e =
    ⊎_elim (ltb-true y n)
    (λ q. clash e (get_or-eq_default (table n f) false (rw (length-table n f) (ltb-false y n q))))
    (decided (ltb y n))

-- the office of the set that has the link
pub record LinkedFrom (h : Header) (R : List ℕ) (p : Permission) (set : List Bool) (y : ℕ) : Type 0 where
  pub at : ℕ
  pub is_marked : is_in set at ≡ true
  pub carried : link_of h R p at y ≡ true

pub linked_from : (h : Header) (R : List ℕ) (p : Permission) (set : List Bool) (y : ℕ) → linked h R p set y ≡ true → LinkedFrom h R p set y
unfolding linked link_of
linked_from h R p set y e =
    let r = any_found h.n (linked_by h R p set y) e in
    let x = r.at in
    record {
      at = x;
      is_marked = left_of (is_in set x) (carries (cell h R x y) p) r.passes;
      carried = right_of (is_in set x) (carries (cell h R x y) p) r.passes;
    }

module _ (h : Header) (R : List ℕ) (allowed : ℕ → Bool) (p : Permission) where
  pub reached_below : (d y : ℕ) → is_in (reached h R allowed p d) y ≡ true → y < h.n
  unfolding reached
  reached_below zero y e = in_table_below h.n (marked_first h allowed) y e
  reached_below (suc d) y e =
      in_table_below h.n (marked_next h R allowed p (reached h R allowed p d)) y e

  -- what is marked at first
  reached-first : (y : ℕ) → y < h.n → is_in (reached h R allowed p 0) y ≡ eqb y (soa_of h) && allowed y
  unfolding reached
  reached-first y l = in_table h.n (marked_first h allowed) y l

  -- what a round marks
  pub reached-next :
      (d y : ℕ) →
      y < h.n →
      is_in (reached h R allowed p (suc d)) y ≡ is_in (reached h R allowed p d) y || allowed y && linked h R p (reached h R allowed p d) y
  unfolding reached
  reached-next d y l =
      in_table h.n (marked_next h R allowed p (reached h R allowed p d)) y l

  -- a round only adds
  pub reached_adds : (d y : ℕ) → y < h.n → is_in (reached h R allowed p d) y ≡ true → is_in (reached h R allowed p (suc d)) y ≡ true
  reached_adds d y l e = rw reached-next (or_left (allowed y && linked h R p (reached h R allowed p d) y) e)

  -- a round marks by what is marked below n alone
  pub marking_ext : (A B : List Bool) → ((y : ℕ) → y < h.n → is_in A y ≡ is_in B y) → marking h R allowed p A ≡ marking h R allowed p B
  unfolding linked
  marking_ext A B e =
      table_ext h.n (marked_next h R allowed p A) (marked_next h R allowed p B)
      (λ y l. ap₂ (λ (a b : Bool). a || allowed y && b) (e y l)
      (any_ext h.n (linked_by h R p A y) (linked_by h R p B y)
      (λ x m. ap (λ (a : Bool). a && carries (cell h R x y) p) (e x m))))

  reached-marking : (d : ℕ) → reached h R allowed p (suc d) ≡ marking h R allowed p (reached h R allowed p d)
  unfolding reached
  reached-marking d = refl

  -- where a round adds nothing, no later round does
  pub reached_rests :
      (d e : ℕ) →
      d ≤ e →
      reached h R allowed p (suc d) ≡ reached h R allowed p d →
      reached h R allowed p e ≡ reached h R allowed p d
  reached_rests = stays (marking h R allowed p) (reached h R allowed p) reached-marking

  -- n rounds are enough
  pub reached_settled : (y : ℕ) → y < h.n → is_in (reached h R allowed p (suc h.n)) y ≡ is_in (reached h R allowed p h.n) y
  reached_settled =
      settled h.n (λ d. is_in (reached h R allowed p d)) reached_adds
      (λ d e y l. ap (λ (A : List Bool). is_in A y) (reached-marking (suc d) ∙ marking_ext _ _ e ∙ sym (reached-marking d)))
      h.n h.n (λ d. marked_most h.n (is_in (reached h R allowed p d))) (omega arith)

  -- a mark is a way
  marked_way : (d y : ℕ) → is_in (reached h R allowed p d) y ≡ true → Reach h allowed (link_of h R p) y
  marked_way zero y e =
      let f : eqb y (soa_of h) && allowed y ≡ true = sym (reached-first y (reached_below zero y e)) ∙ e in
      let at : y ≡ soa_of h = eqb-true y (soa_of h) (left_of (eqb y (soa_of h)) (allowed y) f) in
      rw at (record { offices = soa_of h ∷ []; way = start (rw at at (right_of (eqb y (soa_of h)) (allowed y) f)) })
  marked_way (suc d) y e =
      let l : y < h.n = reached_below (suc d) y e in
      let linked_to = linked h R p (reached h R allowed p d) y in
      ⊎_elim (marked_way d y)
      (λ q. let from = linked_from h R p (reached h R allowed p d) y (right_of (allowed y) linked_to q) in
      let earlier = marked_way d from.at from.is_marked in
      record { offices = earlier.offices ++ (y ∷ []); way = onward y earlier.way l (left_of (allowed y) linked_to q) from.carried })
      (either (is_in (reached h R allowed p d) y) (allowed y && linked_to) (sym (reached-next d y l) ∙ e))

  soa_marked : soa_of h < h.n → allowed (soa_of h) ≡ true → (d : ℕ) → is_in (reached h R allowed p d) (soa_of h) ≡ true
  soa_marked inside a zero = rw reached-first (both (eq-eqb (soa_of h) (soa_of h) refl) a)
  soa_marked inside a (suc d) = reached_adds d (soa_of h) inside (soa_marked inside a d)

  -- a way is marked
  way_marked :
      {offices : List ℕ} {y : ℕ} →
      soa_of h < h.n →
      Way h allowed (link_of h R p) offices y →
      is_in (reached h R allowed p h.n) y ≡ true
  unfolding linked link_of
  way_marked inside (start a) = soa_marked inside a h.n
  way_marked inside (onward {x} y w l a q) =
      let e = way_marked inside w in
      sym (reached_settled y l) ∙ reached-next h.n y l
      ∙ or_right (is_in (reached h R allowed p h.n) y)
      (both a (any_from h.n (λ x. is_in (reached h R allowed p h.n) x && carries (cell h R x y) p) x (reached_below h.n x e) (both e q)))

-- a link that carries TT carries everything
TT-link : (h : Header) (R : List ℕ) (p : Permission) (x y : ℕ) → link_of h R TT x y ≡ true → link_of h R p x y ≡ true
unfolding link_of
TT-link h R p x y e = carries-serves (cell h R x y) TT p e (TT-serves p)

at_least_1 : (a : Bool) → 1 ≤ cond a 2 1
at_least_1 true = omega arith
at_least_1 false = omega arith

at_most_2 : (a b : Bool) → cond a 2 (cond b 1 0) ≤ 2
at_most_2 true b = omega arith
at_most_2 false true = omega arith
at_most_2 false false = omega arith

-- where a level is enough for p: 2 is, and 1 is where TF passes p on
enough_marks :
    (p : Permission) (whole part : Bool) →
    need p ≤ cond whole 2 (cond part 1 0) →
    (whole ≡ true) ⊎ ((part ≡ true) × (passing p ≡ TF))
enough_marks p true part l = inl refl
enough_marks p false false l = absurd (let n = need_low p in omega arith)
enough_marks p false true l = inr (refl, ⊎_elim (λ c. absurd (let n = c.1 in omega arith)) (λ c. c.0) (passing-cases p))

module _ (h : Header) (R : List ℕ) (allowed : ℕ → Bool) where
  -- the level of an office, by its marks
  pub level_at :
      (y : ℕ) →
      y < h.n →
      level_in (levels_among h R allowed) y
      ≡ cond (is_in (reached h R allowed TT h.n) y) 2 (cond (is_in (reached h R allowed TF h.n) y) 1 0)
  unfolding level_in levels_among
  level_at y l =
      table_at h.n
      (λ y. cond (is_in (reached h R allowed TT h.n) y) 2 (cond (is_in (reached h R allowed TF h.n) y) 1 0)) y 0 l

  pub length-levels : length (levels_among h R allowed) ≡ h.n
  unfolding levels_among
  length-levels =
      length-table h.n
      (λ y. cond (is_in (reached h R allowed TT h.n) y) 2 (cond (is_in (reached h R allowed TF h.n) y) 1 0))

  level_past : (y : ℕ) → h.n ≤ y → level_in (levels_among h R allowed) y ≡ 0
  unfolding level_in
  level_past y l = get_or-eq_default (levels_among h R allowed) 0 (rw length-levels l)

  -- levels are 0, 1 and 2
  pub level_most : (y : ℕ) → level_in (levels_among h R allowed) y ≤ 2
  level_most y =
      ⊎_elim
      (λ l. rw (level_at y (ltb-true y h.n l)) (at_most_2 (is_in (reached h R allowed TT h.n) y) (is_in (reached h R allowed TF h.n) y)))
      (λ l. rw (level_past y (ltb-false y h.n l)) (omega arith))
      (decided (ltb y h.n))

  -- only offices have a level
  pub level_below : (y : ℕ) → 1 ≤ level_in (levels_among h R allowed) y → y < h.n
  level_below y l =
      ⊎_elim (ltb-true y h.n) (λ q. absurd (let e = level_past y (ltb-false y h.n q) in omega arith)) (decided (ltb y h.n))

module _ (h : Header) (R : List ℕ) (allowed : ℕ → Bool) (inside : soa_of h < h.n) where
  -- a mark after n rounds is a way, and every way is marked by then
  pub reached_way : (p : Permission) (y : ℕ) → is_in (reached h R allowed p h.n) y ≡ true → Reach h allowed (link_of h R p) y
  reached_way p y e = marked_way h R allowed p h.n y e

  pub way_reached : (p : Permission) (y : ℕ) → Reach h allowed (link_of h R p) y → is_in (reached h R allowed p h.n) y ≡ true
  way_reached p y w = way_marked h R allowed p inside w.way

  -- a level is enough for p exactly where there is a way over links that carry what passes p on
  pub enough_way : (p : Permission) (y : ℕ) → need p ≤ level_in (levels_among h R allowed) y → Reach h allowed (link_of h R (passing p)) y
  enough_way p y e =
      let l : y < h.n = level_below h R allowed y (omega (arith, need_low p)) in
      let whole = is_in (reached h R allowed TT h.n) y in
      let part = is_in (reached h R allowed TF h.n) y in
      ⊎_elim
      (λ t. let w = reached_way TT y t in
      record { offices = w.offices; way = way_more inside (link_of h R (passing p)) (λ x y hx hy. TT-link h R (passing p) x y) w.way })
      (λ t. rw t.1 (reached_way TF y t.0))
      (enough_marks p whole part (rw (level_at h R allowed y l) at e))

  pub way_enough : (p : Permission) (y : ℕ) → Reach h allowed (link_of h R (passing p)) y → need p ≤ level_in (levels_among h R allowed) y
  way_enough p y w =
      let m = way_reached (passing p) y w in
      let l : y < h.n = reached_below h R allowed (passing p) h.n y m in
      rw (level_at h R allowed y l)
      (⊎_elim
      (λ c. let t : is_in (reached h R allowed TT h.n) y ≡ true = rw c.0 at m in rw (t, c.1) (omega arith))
      (λ c. let t : is_in (reached h R allowed TF h.n) y ≡ true = rw c.0 at m in
      rw (t, c.1) (at_least_1 (is_in (reached h R allowed TT h.n) y)))
      (passing-cases p))
