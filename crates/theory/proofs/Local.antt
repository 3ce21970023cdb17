-- The local lemma: after a column step on column j, settling row j costs nobody but j anything, and leaves a sound register.
-- Assumes nothing.
use Prim.Native.Nat.{ℕ, ◌≤◌, ◌<◌}
use native.Mathlib.Omega.{arith}
use mathlib.Core.Path.{◌≡◌, refl, sym, ◌∙◌}
use mathlib.Core.Logic.{⊎_elim}
use mathlib.Core.Bool.{true, false, ◌&&◌, ◌||◌, not}
use mathlib.Core.List.{List, [], ◌∷◌, ◌++◌}
use lib.Dec.{eqb, leb}
use borrow.Author.Tests.{eqb-true, eq-eqb, ne_eqb, le-leb, not-true}
use Rattle.rights.specs.declared.Header.{Header}
use Rattle.rights.specs.declared.Permission.{Permission}
use Rattle.rights.specs.Permission.{code, need, passing}
use Rattle.rights.specs.Cell.{has, carries, restrict, union, without, cell_of}
use Rattle.rights.specs.Register.{cell, soa_of}
use Rattle.rights.specs.Level.{every_office, levels, level_in}
use Rattle.rights.specs.Sound.{barred, sound}
use Rattle.rights.specs.Restriction.{restricted, row_to}
use Rattle.rights.specs.Deletion.{handed_cell, handed_over, row_settled}
use Rattle.theory.proofs.Tests.{both, left_of, right_of, or_left, or_right, either, decided, clash}
use Rattle.theory.proofs.Below.{same_or_not, below_or_not}
use Rattle.theory.proofs.Cell.{has-cell_of, cell_of-small, restrict_empty, restrict_fixed, fixed_need, restricted-need, fixed_restrict, gone_above, above_gone, carries-restrict, carries-more, carries_from, carried, serves-need, passing-need, restrict-small}
use Rattle.theory.proofs.Register.{cell-register}
use Rattle.theory.proofs.Way.{Way, start, onward, Reach, link_of, way_inside, way_more, way_allowed}
use Rattle.theory.proofs.Level.{enough_way, way_enough, level_most}
use Rattle.theory.proofs.Restriction.{Small, restricted-cell, link-restricted, lower_level}
use Rattle.theory.proofs.Standing.{Clean, Fixed, restricted_clean, clean_fixed_sound}
use Rattle.theory.proofs.Cut.{except, cut, Arrival, let_in, not_shut}

-- A cut at j by i in a sound register R: only column j has been restricted, and where that cost j something, i has its level by
-- ways that do not come to j.
pub record Cutting (h : Header) (R : List ℕ) (i j : ℕ) (to : ℕ → ℕ → ℕ) : Type 0 where
  pub inside : soa_of h < h.n
  pub clean : Clean h R
  pub fixed : Fixed h R
  pub revoker : i < h.n
  pub revoked : j < h.n
  pub apart : i ≡ j → ⊥
  pub not_soa : soa_of h ≡ j → ⊥
  pub column : (x y : ℕ) → (y ≡ j → ⊥) → to x y ≡ 2
  pub stands :
      (p : Permission) →
      need p ≤ level_in (levels h R) j →
      level_in (levels h (restricted h R to)) j < need p →
      Reach h (except every_office j) (link_of h R (passing p)) i

kept : (c v : ℕ) → v ≡ 2 → restrict c v ≡ c
unfolding restrict
kept c v e = rw e

module _ (h : Header) (R : List ℕ) (i j : ℕ) (to : ℕ → ℕ → ℕ) (cutting : Cutting h R i j to) where
  open cutting use {inside, clean, fixed, revoker, revoked, apart, not_soa, column, stands}

  -- the register after the column step, j's level then, and the register with row j restricted
  unfoldable pub M : List ℕ
  M = restricted h R to

  unfoldable pub v : ℕ
  v = level_in (levels h M) j

  unfoldable pub L : List ℕ
  L = restricted h M (row_to j v)

  unfoldable pub N : List ℕ
  N = handed_over h R L i j

  -- only column j was restricted
  cell_M : (x y : ℕ) → x < h.n → y < h.n → (y ≡ j → ⊥) → cell h M x y ≡ cell h R x y
  unfolding M
  cell_M x y hx hy ne = restricted-cell h R to x y hx hy ∙ kept (cell h R x y) (to x y) (column x y ne)

  -- row j is what it was
  row_M : (y : ℕ) → y < h.n → cell h M j y ≡ cell h R j y
  unfolding M barred
  row_M y hy = ⊎_elim
      (λ (e : y ≡ j).
      let empty : cell h R j y ≡ 0 = clean.unbarred j y revoked hy (or_left (eqb y (soa_of h)) (eq-eqb j y (sym e))) in
      restricted-cell h R to j y revoked hy ∙ rw empty (restrict_empty (to j y)))
      (λ ne. cell_M j y revoked hy ne)
      (same_or_not y j)

  pub cell_L : (x y : ℕ) → x < h.n → y < h.n → (x ≡ j → ⊥) → cell h L x y ≡ cell h M x y
  unfolding L row_to
  cell_L x y hx hy ne = restricted-cell h M (row_to j v) x y hx hy ∙ kept (cell h M x y) (row_to j v x y) (rw (ne_eqb x j ne))

  pub row_L : (y : ℕ) → y < h.n → cell h L j y ≡ restrict (cell h R j y) v
  unfolding L row_to
  row_L y hy = restricted-cell h M (row_to j v) j y revoked hy ∙ rw (eq-eqb j j refl, row_M y hy)

  -- only row i is handed anything, and nothing to i itself
  pub cell_N : (x y : ℕ) → x < h.n → y < h.n → eqb x i && not (eqb y i) ≡ false → cell h N x y ≡ cell h L x y
  unfolding N handed_over handed_cell
  cell_N x y hx hy e = cell-register h (handed_cell h R L i j) x y hx hy ∙ rw e

  pub row_N : (y : ℕ) → y < h.n → (y ≡ i → ⊥) → cell h N i y ≡ union (cell h L i y) (without (cell h R j y) (cell h L j y))
  unfolding N handed_over handed_cell
  row_N y hy ne = cell-register h (handed_cell h R L i j) i y revoker hy ∙ rw (eq-eqb i i refl, ne_eqb y i ne)

  -- nothing of L is lost
  has_N : (x y : ℕ) → x < h.n → y < h.n → (p : Permission) → has (cell h L x y) p ≡ true → has (cell h N x y) p ≡ true
  unfolding union N handed_over handed_cell
  has_N x y hx hy p e =
      ⊎_elim
      (λ (t : eqb x i && not (eqb y i) ≡ true).
      let same = eqb-true x i (left_of (eqb x i) (not (eqb y i)) t) in
      rw (cell-register h (handed_cell h R L i j) x y hx hy, t)
      (has-cell_of (λ p. has (cell h L i y) p || has (without (cell h R j y) (cell h L j y)) p) p
      ∙ or_left (has (without (cell h R j y) (cell h L j y)) p) (rw same at e)))
      (λ (t : eqb x i && not (eqb y i) ≡ false). rw (cell_N x y hx hy t) e)
      (decided (eqb x i && not (eqb y i)))

  pub carries_N : (x y : ℕ) → x < h.n → y < h.n → (p : Permission) → carries (cell h L x y) p ≡ true → carries (cell h N x y) p ≡ true
  carries_N x y hx hy p = carries-more (cell h L x y) (cell h N x y) p (has_N x y hx hy)

  -- what j loses to k is handed to i
  pub handed : (y : ℕ) → y < h.n → (y ≡ i → ⊥) → (p : Permission) → has (cell h R j y) p ≡ true → v < need p → has (cell h N i y) p ≡ true
  unfolding union without
  handed y hy ne p e l =
      rw (row_N y hy ne, row_L y hy)
      (has-cell_of (λ p. has (cell h L i y) p || has (without (cell h R j y) (restrict (cell h R j y) v)) p) p
      ∙ or_right (has (cell h L i y) p)
      (has-cell_of (λ p. has (cell h R j y) p && not (has (restrict (cell h R j y) v) p)) p
      ∙ gone_above (cell h R j y) v p (clean.small j y revoked hy) e l))

  -- a link between offices other than j stays
  pub link_N : (p : Permission) (x y : ℕ) → x < h.n → y < h.n → (x ≡ j → ⊥) → (y ≡ j → ⊥) → link_of h R p x y ≡ true → link_of h N p x y ≡ true
  unfolding link_of
  link_N p x y hx hy nx ny e = carries_N x y hx hy p (rw (cell_L x y hx hy nx, cell_M x y hx hy ny) e)

  -- so a way that does not come to j stays
  way_N :
      (p : Permission) {offices : List ℕ} {y : ℕ} →
      Way h (except every_office j) (link_of h R p) offices y → (y ≡ j → ⊥) × Way h every_office (link_of h N p) offices y
  unfolding every_office
  way_N p (start a) = (not_soa, start refl)
  way_N p (onward {x = x} y w l a e) =
      let before = way_N p w in
      let ny = not_shut j y a in
      (ny, onward y before.1 l refl (link_N p x y (way_inside inside w) l before.0 ny e))

  reach_N : (p : Permission) (y : ℕ) → Reach h (except every_office j) (link_of h R p) y → Reach h every_office (link_of h N p) y
  reach_N p y r = record { offices = r.offices; way = (way_N p r.way).1 }

  -- j keeps what its column still gives it
  arrive :
      (p : Permission) → Arrival h every_office (link_of h M p) j → Reach h every_office (link_of h N p) j
  unfolding link_of every_office M
  arrive p a =
      let r = way_more inside (link_of h R p) (λ x y hx hy e. left_of (link_of h R p x y) (leb (need p) (to x y)) (sym (link-restricted h R to clean.small p x y hx hy) ∙ e)) a.reach.way in
      let before = way_N p r in
      let hx = way_inside inside r in
      record {
        offices = a.reach.offices ++ (j ∷ []);
        way = onward j before.1 revoked refl (carries_N a.from j hx revoked p (rw (cell_L a.from j hx revoked before.0) a.enters));
      }

  reach_j : (p : Permission) → need p ≤ v → Reach h every_office (link_of h N (passing p)) j
  unfolding v levels every_office
  reach_j p e =
      let r = enough_way h M every_office inside p j e in
      ⊎_elim
      (λ (w : Reach h (except every_office j) (link_of h M (passing p)) j). absurd (not_shut j j (way_allowed w.way) refl))
      (arrive (passing p))
      (cut h every_office (link_of h M (passing p)) j (let_in j (soa_of h) not_soa) r.way)

  -- where the cut cost j the level that p needs, i has it
  reach_i : (p : Permission) → need p ≤ level_in (levels h R) j → v < need p → Reach h every_office (link_of h N (passing p)) i
  unfolding v M
  reach_i p e l = reach_N (passing p) i (stands p e l)

  -- a link out of j: it stays where its reading is within v, and otherwise i has it and its grantor's level
  from_j :
      (p : Permission) (y : ℕ) → y < h.n → link_of h R (passing p) j y ≡ true → need p ≤ level_in (levels h R) j →
      Reach h every_office (link_of h N (passing p)) y
  unfolding link_of every_office
  from_j p y hy e enough =
      ⊎_elim
      (λ (l : v < need p).
      let r = reach_i p enough l in
      let c = carried (cell h R j y) (passing p) e in
      ⊎_elim
      (λ (same : y ≡ i). rw same r)
      (λ (ne : y ≡ i → ⊥).
      record {
        offices = r.offices ++ (y ∷ []);
        way = onward y r.way hy refl
            (carries_from (cell h N i y) c.by (passing p)
            (handed y hy ne c.by c.stands (omega (arith, serves-need c.by p c.enough))) c.enough);
      })
      (same_or_not y i))
      (λ (l : need p ≤ v).
      let r = reach_j p l in
      let within : leb (need (passing p)) v ≡ true = le-leb (need (passing p)) v (omega (arith, passing-need p)) in
      record {
        offices = r.offices ++ (y ∷ []);
        way = onward y r.way hy refl
            (carries_N j y revoked hy (passing p)
            (rw (row_L y hy) (carries-restrict (cell h R j y) v (passing p) (clean.small j y revoked hy) ∙ both e within)));
      })
      (below_or_not v (need p))

  -- every office but j keeps its level
  way_kept :
      (p : Permission) {offices : List ℕ} {y : ℕ} →
      Way h every_office (link_of h R (passing p)) offices y → (y ≡ j → ⊥) → Reach h every_office (link_of h N (passing p)) y
  unfolding levels
  way_kept p (start a) ny = record { offices = soa_of h ∷ []; way = start a }
  way_kept p (onward {offices = before} {x = x} y w l a e) ny =
      ⊎_elim
      (λ (same : x ≡ j).
      from_j p y l (rw same at e)
      (rw same at (way_enough h R every_office inside p x (record { offices = before; way = w }))))
      (λ nx.
      let r = way_kept p w nx in
      record { offices = r.offices ++ (y ∷ []); way = onward y r.way l a (link_N (passing p) x y (way_inside inside w) l nx ny e) })
      (same_or_not x j)

  pub level_kept : (x : ℕ) → (x ≡ j → ⊥) → level_in (levels h R) x ≤ level_in (levels h N) x
  unfolding levels
  level_kept x nx =
      lower_level (level_in (levels h R) x) (level_in (levels h N) x) (level_most h R every_office x)
      (λ p e. way_enough h N every_office inside p x (way_kept p (enough_way h R every_office inside p x e).way nx))

  pub level_j : v ≤ level_in (levels h N) j
  unfolding levels v
  level_j =
      lower_level v (level_in (levels h N) j) (level_most h M every_office j)
      (λ p e. way_enough h N every_office inside p j (reach_j p e))

  pub level_i : (p : Permission) → need p ≤ level_in (levels h R) j → v < need p → need p ≤ level_in (levels h N) i
  unfolding levels
  level_i p e l = way_enough h N every_office inside p i (reach_i p e l)

  -- no record of the settled register is above its grantor's level
  enough_L : (x y : ℕ) → x < h.n → y < h.n → (p : Permission) → has (cell h L x y) p ≡ true → need p ≤ level_in (levels h N) x
  unfolding M
  enough_L x y hx hy p e =
      ⊎_elim
      (λ (same : x ≡ j).
      let within = restricted-need (cell h R j y) v p (clean.small j y revoked hy) (rw (same, row_L y hy) at e) in
      rw same (omega (arith, within, level_j)))
      (λ (nx : x ≡ j → ⊥).
      let here : has (restrict (cell h R x y) (to x y)) p ≡ true = rw (cell_L x y hx hy nx, restricted-cell h R to x y hx hy) at e in
      let within =
      fixed_need (restrict (cell h R x y) (to x y)) (level_in (levels h R) x) p (restrict-small (cell h R x y) (to x y) (clean.small x y hx hy))
      (fixed_restrict (cell h R x y) (to x y) (level_in (levels h R) x) (fixed x y hx hy)) here
      in
      omega (arith, within, level_kept x nx))
      (same_or_not x j)

  enough_handed :
      (y : ℕ) → y < h.n → (p : Permission) → has (without (cell h R j y) (cell h L j y)) p ≡ true → need p ≤ level_in (levels h N) i
  unfolding without
  enough_handed y hy p e =
      let small = clean.small j y revoked hy in
      let gone : has (cell h R j y) p && not (has (restrict (cell h R j y) v) p) ≡ true =
      sym (has-cell_of (λ p. has (cell h R j y) p && not (has (restrict (cell h R j y) v) p)) p) ∙ (rw (row_L y hy) at e)
      in
      level_i p
      (fixed_need (cell h R j y) (level_in (levels h R) j) p small (fixed j y revoked hy)
      (left_of (has (cell h R j y) p) (not (has (restrict (cell h R j y) v) p)) gone))
      (above_gone (cell h R j y) v p small gone)

  enough_N : (x y : ℕ) → x < h.n → y < h.n → (p : Permission) → has (cell h N x y) p ≡ true → need p ≤ level_in (levels h N) x
  unfolding N handed_over handed_cell union
  enough_N x y hx hy p e =
      ⊎_elim
      (λ (t : eqb x i && not (eqb y i) ≡ true).
      let same = eqb-true x i (left_of (eqb x i) (not (eqb y i)) t) in
      let here = rw (cell-register h (handed_cell h R L i j) x y hx hy, t) at e in
      ⊎_elim
      (λ q. rw same (enough_L i y revoker hy p q))
      (λ q. rw same (enough_handed y hy p q))
      (either (has (cell h L i y) p) (has (without (cell h R j y) (cell h L j y)) p)
      (sym (has-cell_of (λ p. has (cell h L i y) p || has (without (cell h R j y) (cell h L j y)) p) p) ∙ here)))
      (λ (t : eqb x i && not (eqb y i) ≡ false). enough_L x y hx hy p (rw (cell_N x y hx hy t) at e))
      (decided (eqb x i && not (eqb y i)))

  clean_L : Clean h L
  unfolding L M
  clean_L = restricted_clean h M (row_to j v) (restricted_clean h R to clean)

  small_N : Small h N
  unfolding N handed_over handed_cell union
  small_N x y hx hy =
      ⊎_elim
      (λ (t : eqb x i && not (eqb y i) ≡ true).
      rw (cell-register h (handed_cell h R L i j) x y hx hy, t)
      (cell_of-small (λ p. has (cell h L i y) p || has (without (cell h R j y) (cell h L j y)) p)))
      (λ (t : eqb x i && not (eqb y i) ≡ false). rw (cell_N x y hx hy t) (clean_L.small x y hx hy))
      (decided (eqb x i && not (eqb y i)))

  -- SOA is handed nothing
  handed_soa : (x y : ℕ) → x < h.n → y < h.n → eqb y (soa_of h) ≡ true → eqb x i && not (eqb y i) ≡ true → cell h N x y ≡ 0
  unfolding N handed_over handed_cell union without cell_of has code barred
  handed_soa x y hx hy s t =
      let bar : (k : ℕ) → barred h k y ≡ true = λ k. or_right (eqb k y) s in
      rw (
        cell-register h (handed_cell h R L i j) x y hx hy,
        t,
        clean_L.unbarred i y revoker hy (bar i),
        clean.unbarred j y revoked hy (bar j),
      )

  unbarred_N : (x y : ℕ) → x < h.n → y < h.n → barred h x y ≡ true → cell h N x y ≡ 0
  unfolding barred
  unbarred_N x y hx hy b =
      ⊎_elim
      (λ (t : eqb x i && not (eqb y i) ≡ true).
      ⊎_elim
      (λ (same : eqb x y ≡ true).
      clash (eq-eqb y i (sym (eqb-true x y same) ∙ eqb-true x i (left_of (eqb x i) (not (eqb y i)) t)))
      (not-true (eqb y i) (right_of (eqb x i) (not (eqb y i)) t)))
      (λ s. handed_soa x y hx hy s t)
      (either (eqb x y) (eqb y (soa_of h)) b))
      (λ (t : eqb x i && not (eqb y i) ≡ false). cell_N x y hx hy t ∙ clean_L.unbarred x y hx hy b)
      (decided (eqb x i && not (eqb y i)))

  clean_N : Clean h N
  clean_N = record { small = small_N; unbarred = unbarred_N }

  -- the settled register is sound
  pub settled_sound : sound h (row_settled h R (restricted h R to) i j) ≡ true
  unfolding row_settled N L M v
  settled_sound =
      clean_fixed_sound h N clean_N
      (λ x y hx hy. restrict_fixed (cell h N x y) (level_in (levels h N) x) (small_N x y hx hy) (enough_N x y hx hy))
