-- Restricting many cells: to v then w is to the smaller; what a restricted register carries; which levels stay.
-- Assumes nothing.
use Prim.Native.Nat.{ℕ, zero, suc, ◌*◌, ◌≤◌, ◌<◌, min}
use native.Mathlib.Nat.{le_antisymm}
use native.Mathlib.Omega.{arith}
use mathlib.Core.Path.{◌≡◌, refl, ap, sym, ◌∙◌}
use mathlib.Core.Bool.{Bool, true, false, ◌&&◌, ◌||◌}
use mathlib.Core.List.{List}
use lib.ListN.{length}
use lib.Seq.{ext_get_or}
use lib.Dec.{leb, eqb, lit≤}
use borrow.Author.Tests.{le-leb, leb-true}
use Rattle.rights.specs.declared.Header.{Header}
use Rattle.rights.specs.declared.Permission.{Permission}
use Rattle.rights.specs.declared.Permission.TheVariants.{TT, TF}
use Rattle.rights.specs.Permission.{need, passing}
use Rattle.rights.specs.Cell.{carries, restrict}
use Rattle.rights.specs.Register.{cell, soa_of}
use Rattle.rights.specs.Level.{levels_among, level_in, levels, every_office, holds, holds_by}
use Rattle.rights.specs.Restriction.{restricted}
use Rattle.theory.proofs.Tests.{both, left_of}
use Rattle.theory.proofs.Below.{any_ext}
use Rattle.theory.proofs.Cell.{carries-restrict, restrict-small, restrict-restrict, passing-need}
use Rattle.theory.proofs.Register.{cell-register, register_ext, length-register}
use Rattle.theory.proofs.Way.{Way, start, onward, link_of, way_inside, way_more}
use Rattle.theory.proofs.Level.{enough_way, way_enough, level_most, length-levels}

-- each cell is a set of four permissions
abbrev pub Small : Header → List ℕ → Type 0
Small h R = (i j : ℕ) → i < h.n → j < h.n → cell h R i j ≤ 15

module _ (h : Header) (R : List ℕ) where
  pub restricted-cell : (to : ℕ → ℕ → ℕ) (i j : ℕ) → i < h.n → j < h.n → cell h (restricted h R to) i j ≡ restrict (cell h R i j) (to i j)
  unfolding restricted
  restricted-cell to i j hi hj = cell-register h (λ i j. restrict (cell h R i j) (to i j)) i j hi hj

  pub length-restricted : (to : ℕ → ℕ → ℕ) → length (restricted h R to) ≡ h.n * h.n
  unfolding restricted
  length-restricted to = length-register h (λ i j. restrict (cell h R i j) (to i j))

  pub restricted-small : (to : ℕ → ℕ → ℕ) → Small h R → Small h (restricted h R to)
  restricted-small to small i j hi hj = rw (restricted-cell to i j hi hj) (restrict-small (cell h R i j) (to i j) (small i j hi hj))

  -- levels that agree on the offices restrict alike
  pub restricted_ext : (to on : ℕ → ℕ → ℕ) → ((i j : ℕ) → i < h.n → j < h.n → to i j ≡ on i j) → restricted h R to ≡ restricted h R on
  unfolding restricted
  restricted_ext to on e =
      register_ext h (λ i j. restrict (cell h R i j) (to i j)) (λ i j. restrict (cell h R i j) (on i j))
      (λ i j hi hj. ap (restrict (cell h R i j)) (e i j hi hj))

  -- to v then w is to the smaller
  pub restricted_twice :
      (to on : ℕ → ℕ → ℕ) → restricted h (restricted h R to) on ≡ restricted h R (λ i j. min (to i j) (on i j))
  unfolding restricted
  restricted_twice to on =
      register_ext h (λ i j. restrict (cell h (restricted h R to) i j) (on i j)) (λ i j. restrict (cell h R i j) (min (to i j) (on i j)))
      (λ i j hi hj.
      ap (λ (c : ℕ). restrict c (on i j)) (restricted-cell to i j hi hj) ∙ restrict-restrict (cell h R i j) (to i j) (on i j))

  -- a restricted link carries p where it did and the level is enough
  pub link-restricted :
      (to : ℕ → ℕ → ℕ) → Small h R →
      (p : Permission) (i j : ℕ) → i < h.n → j < h.n → link_of h (restricted h R to) p i j ≡ link_of h R p i j && leb (need p) (to i j)
  unfolding link_of
  link-restricted to small p i j hi hj =
      ap (λ (c : ℕ). carries c p) (restricted-cell to i j hi hj) ∙ carries-restrict (cell h R i j) (to i j) p (small i j hi hj)

-- a level that is enough for less is lower
pub lower_level : (a b : ℕ) → a ≤ 2 → ((p : Permission) → need p ≤ a → need p ≤ b) → a ≤ b
unfolding need
lower_level zero b ha f = omega arith
lower_level (suc zero) b ha f = f TF (lit≤ tt)
lower_level (suc (suc zero)) b ha f = f TT (lit≤ tt)
lower_level (suc (suc (suc a))) b ha f = omega arith

-- two lists of levels that are each the lower are one
same-levels :
    (h : Header) (allowed : ℕ → Bool) (R S : List ℕ) →
    ((y : ℕ) → level_in (levels_among h R allowed) y ≤ level_in (levels_among h S allowed) y) →
    ((y : ℕ) → level_in (levels_among h S allowed) y ≤ level_in (levels_among h R allowed) y) →
    levels_among h R allowed ≡ levels_among h S allowed
unfolding level_in
same-levels h allowed R S f g =
    ext_get_or 0 (levels_among h R allowed) (levels_among h S allowed) (length-levels h R allowed ∙ sym (length-levels h S allowed))
    (λ y l. le_antisymm (f y) (g y))

narrow : (a b c : Bool) → (a ≡ true → c ≡ true) → a && (b && c) ≡ a && b
narrow true true c f = f refl
narrow true false c f = refl
narrow false b c f = refl

module _ (h : Header) (inside : soa_of h < h.n) where
  -- less carried, lower levels
  pub levels_lower :
      (allowed : ℕ → Bool) (R S : List ℕ) →
      ((p : Permission) (x y : ℕ) → x < h.n → y < h.n → link_of h R p x y ≡ true → link_of h S p x y ≡ true) →
      (y : ℕ) → level_in (levels_among h R allowed) y ≤ level_in (levels_among h S allowed) y
  levels_lower allowed R S less y =
      lower_level (level_in (levels_among h R allowed) y) (level_in (levels_among h S allowed) y) (level_most h R allowed y)
      (λ p e.
      let r = enough_way h R allowed inside p y e in
      way_enough h S allowed inside p y (record { offices = r.offices; way = way_more inside (link_of h S (passing p)) (less (passing p)) r.way }))

  -- a restricted register has lower levels
  pub levels_restricted_lower :
      (allowed : ℕ → Bool) (R : List ℕ) (to : ℕ → ℕ → ℕ) → Small h R →
      (y : ℕ) → level_in (levels_among h (restricted h R to) allowed) y ≤ level_in (levels_among h R allowed) y
  levels_restricted_lower allowed R to small =
      levels_lower allowed (restricted h R to) R
      (λ p x y hx hy e. left_of (link_of h R p x y) (leb (need p) (to x y)) (sym (link-restricted h R to small p x y hx hy) ∙ e))

  module _ (allowed : ℕ → Bool) (R : List ℕ) (to : ℕ → ℕ → ℕ) (small : Small h R)
      (keeps : (x y : ℕ) → x < h.n → y < h.n → level_in (levels_among h R allowed) x ≤ to x y) where
    -- a way stays where no link is restricted below its grantor's level
    way_kept :
        (p : Permission) {offices : List ℕ} {y : ℕ} →
        Way h allowed (link_of h R (passing p)) offices y → Way h allowed (link_of h (restricted h R to) (passing p)) offices y
    way_kept p (start a) = start a
    way_kept p (onward {offices = before} {x = x} y w l a e) =
        let enough : need p ≤ level_in (levels_among h R allowed) x = way_enough h R allowed inside p x (record { offices = before; way = w }) in
        let below = keeps x y (way_inside inside w) l in
        let stays : leb (need (passing p)) (to x y) ≡ true = le-leb (need (passing p)) (to x y) (omega (arith, passing-need p)) in
        onward y (way_kept p w) l a (link-restricted h R to small (passing p) x y (way_inside inside w) l ∙ both e stays)

    -- so nobody's level changes
    pub levels_kept : levels_among h (restricted h R to) allowed ≡ levels_among h R allowed
    levels_kept =
        same-levels h allowed (restricted h R to) R (levels_restricted_lower allowed R to small)
        (λ y.
        lower_level (level_in (levels_among h R allowed) y) (level_in (levels_among h (restricted h R to) allowed) y) (level_most h R allowed y)
        (λ p e.
        let r = enough_way h R allowed inside p y e in
        way_enough h (restricted h R to) allowed inside p y (record { offices = r.offices; way = way_kept p r.way })))

  -- where no link is restricted below its grantor's level, nobody's holdings change
  pub holds_kept :
      (R : List ℕ) (to : ℕ → ℕ → ℕ) → Small h R →
      ((x y : ℕ) → x < h.n → y < h.n → level_in (levels h R) x ≤ to x y) →
      (p : Permission) (y : ℕ) → y < h.n → holds h (restricted h R to) p y ≡ holds h R p y
  unfolding holds holds_by levels link_of
  holds_kept R to small keeps p y hy =
      rw (levels_kept every_office R to small keeps)
      (ap (λ (t : Bool). eqb y (soa_of h) || t)
      (any_ext h.n
      (λ x. leb (need p) (level_in (levels_among h R every_office) x) && carries (cell h (restricted h R to) x y) p)
      (λ x. leb (need p) (level_in (levels_among h R every_office) x) && carries (cell h R x y) p)
      (λ x hx.
      rw (link-restricted h R to small p x y hx hy)
      (narrow (leb (need p) (level_in (levels_among h R every_office) x)) (carries (cell h R x y) p) (leb (need p) (to x y))
      (λ e. let above = keeps x y hx hy in le-leb (need p) (to x y) (omega (arith, leb-true (need p) (level_in (levels_among h R every_office) x) e)))))))
