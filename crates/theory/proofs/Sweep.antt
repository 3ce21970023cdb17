-- One sweep is final and changes nobody's holdings; a sweep absorbs an earlier one. Assumes nothing.
use Prim.Native.Nat.{ℕ, ◌*◌, ◌≤◌, ◌<◌, min}
use native.Mathlib.Nat.{le_refl}
use native.Mathlib.Omega.{arith}
use mathlib.Core.Path.{◌≡◌, ap, sym, ◌∙◌}
use mathlib.Core.List.{List}
use lib.ListN.{length}
use Rattle.rights.specs.declared.Header.{Header}
use Rattle.rights.specs.declared.Permission.{Permission}
use Rattle.rights.specs.Register.{soa_of}
use Rattle.rights.specs.Level.{level_in, levels, every_office, holds}
use Rattle.rights.specs.Restriction.{restricted, rows_to, sweep}
use Rattle.theory.proofs.Restriction.{Small, length-restricted, restricted-small, restricted_ext, restricted_twice, levels_kept, levels_restricted_lower, holds_kept}

pub length-sweep : (h : Header) (R : List ℕ) → length (sweep h R) ≡ h.n * h.n
unfolding sweep
length-sweep h R = length-restricted h R (rows_to (levels h R))

module _ (h : Header) (inside : soa_of h < h.n) (R : List ℕ) (small : Small h R) where
  -- a sweep changes nobody's level
  pub levels-sweep : levels h (sweep h R) ≡ levels h R
  unfolding sweep levels rows_to
  levels-sweep = levels_kept h inside every_office R (rows_to (levels h R)) small (λ x y hx hy. le_refl (level_in (levels h R) x))

  -- nor what anybody holds
  pub holds-sweep : (p : Permission) (y : ℕ) → y < h.n → holds h (sweep h R) p y ≡ holds h R p y
  unfolding sweep rows_to
  holds-sweep = holds_kept h inside R (rows_to (levels h R)) small (λ x y hx hy. le_refl (level_in (levels h R) x))

  -- two restrictions may be made in either order
  pub restricted_swap : (to on : ℕ → ℕ → ℕ) → restricted h (restricted h R to) on ≡ restricted h (restricted h R on) to
  restricted_swap to on =
      restricted_twice h R to on
      ∙ restricted_ext h R (λ i j. min (to i j) (on i j)) (λ i j. min (on i j) (to i j)) (λ i j hi hj. omega arith)
      ∙ sym (restricted_twice h R on to)

  -- to sweep after restricting rows to levels no lower is to sweep
  sweep_over :
      (f : ℕ → ℕ → ℕ) → ((x y : ℕ) → x < h.n → y < h.n → level_in (levels h R) x ≤ f x y) → sweep h (restricted h R f) ≡ sweep h R
  unfolding sweep levels rows_to
  sweep_over f above =
      ap (λ (ls : List ℕ). restricted h (restricted h R f) (rows_to ls)) (levels_kept h inside every_office R f small above)
      ∙ restricted_twice h R f (rows_to (levels h R))
      ∙ restricted_ext h R (λ x y. min (f x y) (level_in (levels h R) x)) (rows_to (levels h R))
      (λ x y hx hy. let e = above x y hx hy in omega arith)

-- Absorb: to sweep, restrict and sweep again is to restrict and sweep
pub absorb :
    (h : Header) (inside : soa_of h < h.n) (R : List ℕ) (small : Small h R) (to : ℕ → ℕ → ℕ) →
    sweep h (restricted h (sweep h R) to) ≡ sweep h (restricted h R to)
unfolding sweep levels rows_to
absorb h inside R small to =
    ap (sweep h) (restricted_swap h inside R small (rows_to (levels h R)) to)
    ∙ sweep_over h inside (restricted h R to) (restricted-small h R to small) (rows_to (levels h R))
    (λ x y hx hy. levels_restricted_lower h inside every_office R to small x)

-- one sweep is final
pub sweep_final :
    (h : Header) (inside : soa_of h < h.n) (R : List ℕ) (small : Small h R) → sweep h (sweep h R) ≡ sweep h R
unfolding sweep rows_to
sweep_final h inside R small = sweep_over h inside R small (rows_to (levels h R)) (λ x y hx hy. le_refl (level_in (levels h R) x))
