-- WLD and SLD leave a sound register sound, and every office but j what it held: the local lemma at their column steps.
-- Assumes nothing.
use Prim.Native.Nat.{ℕ, ◌≤◌, ◌<◌}
use native.Mathlib.Omega.{arith}
use mathlib.Core.Path.{◌≡◌, refl, ap, sym, ◌∙◌}
use mathlib.Core.Logic.{◌↔◌, ⊎_elim}
use mathlib.Core.Bool.{Bool, true, false, cond, and-false}
use mathlib.Core.List.{List, [], ◌∷◌, ◌++◌}
use lib.Dec.{eqb, leb}
use borrow.Author.Tests.{eqb-true, eqb-false, eq-eqb, ne_eqb, le-leb}
use Rattle.rights.specs.declared.Header.{Header}
use Rattle.rights.specs.declared.Permission.{Permission}
use Rattle.rights.specs.Permission.{need, passing}
use Rattle.rights.specs.Register.{soa_of}
use Rattle.rights.specs.Level.{every_office, other_than, levels, level_in, independent_levels}
use Rattle.rights.specs.Sound.{barred, sound}
use Rattle.rights.specs.Restriction.{restricted, empty_where, is_cell, columns_to, emptied}
use Rattle.rights.specs.Deletion.{wld, sld, column_step, row_settled}
use Rattle.rights.specs.Chain.{Holds}
use Rattle.theory.proofs.Tests.{both, left_of, right_of, not_left, not_right, decided}
use Rattle.theory.proofs.Below.{below_or_not}
use Rattle.theory.proofs.Cell.{passing-need, need_high}
use Rattle.theory.proofs.Way.{Way, start, onward, Reach, link_of, way_inside, way_among, way_allowed}
use Rattle.theory.proofs.Level.{enough_way, way_enough}
use Rattle.theory.proofs.Restriction.{link-restricted}
use Rattle.theory.proofs.Standing.{sound_clean, sound_fixed}
use Rattle.theory.proofs.Cut.{except, cut, Arrival, shut_out, let_in, not_shut}
use Rattle.theory.proofs.Local.{Cutting, M, v, L, N, settled_sound}
use Rattle.theory.proofs.Others.{others_kept, nobody_gains}

-- offices in range between which a grant may stand, in a sound register
pub record Pair (h : Header) (R : List ℕ) (i j : ℕ) : Type 0 where
  pub inside : soa_of h < h.n
  pub sound : sound h R ≡ true
  pub by : i < h.n
  pub to : j < h.n
  pub free : barred h i j ≡ false

module _ (h : Header) (R : List ℕ) (i j : ℕ) (pair : Pair h R i j) where
  apart : i ≡ j → ⊥
  unfolding barred
  apart = eqb-false i j (not_left (eqb i j) (eqb j (soa_of h)) pair.free)

  not_soa : soa_of h ≡ j → ⊥
  unfolding barred
  not_soa e = eqb-false j (soa_of h) (not_right (eqb i j) (eqb j (soa_of h)) pair.free) (sym e)

  -- after a column step on j, a way that does not come to j stays
  way_past :
      (to : ℕ → ℕ → ℕ) → ((x y : ℕ) → (y ≡ j → ⊥) → to x y ≡ 2) →
      (p : Permission) {offices : List ℕ} {y : ℕ} →
      Way h (except every_office j) (link_of h R p) offices y → Way h every_office (link_of h (restricted h R to) p) offices y
  unfolding every_office
  way_past to column p (start a) = start refl
  way_past to column p (onward {x = x} y w l a e) =
      let enough : leb (need p) (to x y) ≡ true = le-leb (need p) (to x y) (omega (arith, column x y (not_shut j y a), need_high p)) in
      onward y (way_past to column p w) l refl
      (link-restricted h R to (sound_clean h R pair.sound).small p x y (way_inside pair.inside w) l ∙ both e enough)

  -- so where j loses the level that p needs, the step has taken the link by which j had it
  taken :
      (to : ℕ → ℕ → ℕ) → ((x y : ℕ) → (y ≡ j → ⊥) → to x y ≡ 2) →
      (p : Permission) → level_in (levels h (restricted h R to)) j < need p →
      (a : Arrival h every_office (link_of h R (passing p)) j) → to a.from j < need p
  unfolding levels every_office
  taken to column p lower a =
      ⊎_elim (λ l. l)
      (λ (l : need p ≤ to a.from j).
      let enough : leb (need (passing p)) (to a.from j) ≡ true = le-leb (need (passing p)) (to a.from j) (omega (arith, passing-need p)) in
      let hx = way_inside pair.inside a.reach.way in
      let comes = link-restricted h R to (sound_clean h R pair.sound).small (passing p) a.from j hx pair.to ∙ both a.enters enough in
      let kept =
      way_enough h (restricted h R to) every_office pair.inside p j
      (record { offices = a.reach.offices ++ (j ∷ []); way = onward j (way_past to column (passing p) a.reach.way) pair.to refl comes })
      in
      omega arith)
      (below_or_not (to a.from j) (need p))

  -- a way to j first comes to it somewhere
  arrival : (p : Permission) → need p ≤ level_in (levels h R) j → Arrival h every_office (link_of h R (passing p)) j
  unfolding levels
  arrival p e =
      ⊎_elim
      (λ (w : Reach h (except every_office j) (link_of h R (passing p)) j). absurd (not_shut j j (right_of (every_office j) (other_than j j) (way_allowed w.way)) refl))
      (λ a. a)
      (cut h every_office (link_of h R (passing p)) j (let_in j (soa_of h) not_soa) (enough_way h R every_office pair.inside p j e).way)

  cutting :
      (to : ℕ → ℕ → ℕ) → ((x y : ℕ) → (y ≡ j → ⊥) → to x y ≡ 2) →
      ((p : Permission) (a : Arrival h every_office (link_of h R (passing p)) j) → to a.from j < need p → Reach h (except every_office j) (link_of h R (passing p)) i) →
      Cutting h R i j to
  cutting to column stands =
      record {
        inside = pair.inside;
        clean = sound_clean h R pair.sound;
        fixed = sound_fixed h R pair.sound;
        revoker = pair.by;
        revoked = pair.to;
        apart = apart;
        not_soa = not_soa;
        column = column;
        stands = λ p e l. stands p (arrival p e) (taken to column p l (arrival p e));
      }

  -- WLD takes the link from i alone
  wld_column : (x y : ℕ) → (y ≡ j → ⊥) → empty_where (is_cell i j) x y ≡ 2
  unfolding empty_where is_cell
  wld_column x y ne = rw (ne_eqb y j ne) (ap (λ (t : Bool). cond t 0 2) (and-false (eqb x i)))

  wld_stands :
      (p : Permission) (a : Arrival h every_office (link_of h R (passing p)) j) → empty_where (is_cell i j) a.from j < need p →
      Reach h (except every_office j) (link_of h R (passing p)) i
  unfolding empty_where is_cell
  wld_stands p a l =
      ⊎_elim
      (λ (t : eqb a.from i ≡ true). rw (eqb-true a.from i t) at a.reach)
      (λ (t : eqb a.from i ≡ false). absurd (let m : 2 < need p = rw t at l in omega (arith, need_high p)))
      (decided (eqb a.from i))

  pub wld-sound : sound h (wld h R i j) ≡ true
  unfolding wld emptied
  wld-sound = settled_sound h R i j (empty_where (is_cell i j)) (cutting (empty_where (is_cell i j)) wld_column wld_stands)

  -- SLD takes the links of those who have no level without i: i has it, on the way to them
  sld_column : (x y : ℕ) → (y ≡ j → ⊥) → columns_to (eqb j) (independent_levels h R i) x y ≡ 2
  unfolding columns_to
  sld_column x y ne = rw (ne_eqb j y (λ e. ne (sym e)))

  through_i :
      (p : Permission) {offices : List ℕ} {x : ℕ} →
      Way h (except every_office j) (link_of h R (passing p)) offices x → level_in (independent_levels h R i) x < need p →
      other_than i (soa_of h) ≡ true → Reach h (except every_office j) (link_of h R (passing p)) i
  unfolding independent_levels every_office
  through_i p {x = x} w l o =
      ⊎_elim
      (λ (r : Reach h (except (except every_office j) i) (link_of h R (passing p)) x).
      let enough =
      way_enough h R (other_than i) pair.inside p x
      (record { offices = r.offices; way = way_among (other_than i) (λ x a. right_of (except every_office j x) (other_than i x) a) r.way })
      in
      absurd (omega arith))
      (λ (b : Arrival h (except every_office j) (link_of h R (passing p)) i).
      record {
        offices = b.reach.offices ++ (i ∷ []);
        way = onward i (way_among (except every_office j) (λ x a. left_of (except every_office j x) (other_than i x) a) b.reach.way) pair.by (let_in j i apart) b.enters;
      })
      (cut h (except every_office j) (link_of h R (passing p)) i o w)

  sld_stands :
      (p : Permission) (a : Arrival h every_office (link_of h R (passing p)) j) → columns_to (eqb j) (independent_levels h R i) a.from j < need p →
      Reach h (except every_office j) (link_of h R (passing p)) i
  unfolding columns_to every_office
  sld_stands p a l =
      ⊎_elim
      (through_i p a.reach.way (rw (eq-eqb j j refl) at l))
      (λ (o : other_than i (soa_of h) ≡ false). rw (← shut_out i (soa_of h) o) (record { offices = soa_of h ∷ []; way = start (let_in j (soa_of h) not_soa) }))
      (decided (other_than i (soa_of h)))

  pub sld-sound : sound h (sld h R i j) ≡ true
  unfolding sld column_step
  sld-sound =
      settled_sound h R i j (columns_to (eqb j) (independent_levels h R i))
      (cutting (columns_to (eqb j) (independent_levels h R i)) sld_column sld_stands)

  -- nobody holds after either what it did not hold, and every office but j holds exactly what it held
  pub wld_gains : (p : Permission) (y : ℕ) → Holds h (wld h R i j) p y → Holds h R p y
  unfolding wld emptied row_settled N L M v
  wld_gains = nobody_gains h R i j (empty_where (is_cell i j)) (cutting (empty_where (is_cell i j)) wld_column wld_stands)

  pub wld_others : (p : Permission) (y : ℕ) → (y ≡ j → ⊥) → Holds h (wld h R i j) p y ↔ Holds h R p y
  unfolding wld emptied row_settled N L M v
  wld_others p y ny =
      (wld_gains p y, others_kept h R i j (empty_where (is_cell i j)) (cutting (empty_where (is_cell i j)) wld_column wld_stands) p y ny)

  pub sld_gains : (p : Permission) (y : ℕ) → Holds h (sld h R i j) p y → Holds h R p y
  unfolding sld column_step row_settled N L M v
  sld_gains =
      nobody_gains h R i j (columns_to (eqb j) (independent_levels h R i))
      (cutting (columns_to (eqb j) (independent_levels h R i)) sld_column sld_stands)

  pub sld_others : (p : Permission) (y : ℕ) → (y ≡ j → ⊥) → Holds h (sld h R i j) p y ↔ Holds h R p y
  unfolding sld column_step row_settled N L M v
  sld_others p y ny =
      let own = columns_to (eqb j) (independent_levels h R i) in
      (sld_gains p y, others_kept h R i j own (cutting own sld_column sld_stands) p y ny)
