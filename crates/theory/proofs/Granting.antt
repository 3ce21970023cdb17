-- A grant leaves a sound register sound. Assumes nothing.
use Prim.Native.Nat.{ℕ, ◌≤◌, ◌<◌}
use native.Mathlib.Omega.{arith}
use mathlib.Core.Path.{◌≡◌, sym, ◌∙◌}
use mathlib.Core.Logic.{⊎_elim}
use mathlib.Core.Bool.{true, false, ◌&&◌, ◌||◌, cond, or-false}
use mathlib.Core.List.{List}
use lib.Dec.{eqb}
use borrow.Author.Tests.{eqb-true}
use Rattle.rights.specs.declared.Header.{Header}
use Rattle.rights.specs.declared.Permission.{Permission}
use Rattle.rights.specs.Permission.{code, need}
use Rattle.rights.specs.Cell.{has, union}
use Rattle.rights.specs.Register.{cell}
use Rattle.rights.specs.Level.{every_office, levels, level_in}
use Rattle.rights.specs.Sound.{barred, sound}
use Rattle.rights.specs.Restriction.{is_cell}
use Rattle.rights.specs.Deletion.{granted_cell, granted}
use Rattle.theory.proofs.Tests.{left_of, right_of, or_left, either, decided, clash}
use Rattle.theory.proofs.Cell.{has-cell_of, cell_of-small, one_record, restrict_fixed, fixed_need, carries-more}
use Rattle.theory.proofs.Register.{cell-register}
use Rattle.theory.proofs.Way.{link_of}
use Rattle.theory.proofs.Restriction.{levels_lower}
use Rattle.theory.proofs.Standing.{Clean, sound_clean, sound_fixed, clean_fixed_sound}
use Rattle.theory.proofs.LocalDeletion.{Pair}

-- Grant: more links, so higher levels, and the new record is within its grantor's.
module _ (h : Header) (R : List ℕ) (i j : ℕ) (pair : Pair h R i j) (p : Permission) (may : need p ≤ level_in (levels h R) i) where
  G : List ℕ
  G = granted h R i j p

  cell_G : (x y : ℕ) → x < h.n → y < h.n → cell h G x y ≡ cond (is_cell i j x y) (union (cell h R x y) (code p)) (cell h R x y)
  unfolding G granted granted_cell
  cell_G x y hx hy = cell-register h (granted_cell h R i j p) x y hx hy

  -- the records of the grown cell: those that stood, and p in the cell i, j
  has_G :
      (x y : ℕ) → x < h.n → y < h.n → (q : Permission) →
      has (cell h G x y) q ≡ has (cell h R x y) q || is_cell i j x y && has (code p) q
  unfolding union
  has_G x y hx hy q =
      ⊎_elim
      (λ (t : is_cell i j x y ≡ true). rw (cell_G x y hx hy, t) (has-cell_of (λ q. has (cell h R x y) q || has (code p) q) q))
      (λ (t : is_cell i j x y ≡ false). rw (cell_G x y hx hy, t) (sym (or-false (has (cell h R x y) q))))
      (decided (is_cell i j x y))

  levels_G : (x : ℕ) → level_in (levels h R) x ≤ level_in (levels h G) x
  unfolding levels link_of
  levels_G =
      levels_lower h pair.inside every_office R G
      (λ q x y hx hy.
      carries-more (cell h R x y) (cell h G x y) q (λ r e. has_G x y hx hy r ∙ or_left (is_cell i j x y && has (code p) r) e))

  enough_G : (x y : ℕ) → x < h.n → y < h.n → (q : Permission) → has (cell h G x y) q ≡ true → need q ≤ level_in (levels h G) x
  unfolding is_cell
  enough_G x y hx hy q e =
      ⊎_elim
      (λ (old : has (cell h R x y) q ≡ true).
      let stood = fixed_need (cell h R x y) (level_in (levels h R) x) q ((sound_clean h R pair.sound).small x y hx hy) (sound_fixed h R pair.sound x y hx hy) old in
      omega (arith, levels_G x))
      (λ (new : is_cell i j x y && has (code p) q ≡ true).
      let here = left_of (is_cell i j x y) (has (code p) q) new in
      let row = eqb-true x i (left_of (eqb x i) (eqb y j) here) in
      let same = one_record p q (right_of (is_cell i j x y) (has (code p) q) new) in
      rw (same, row) (omega (arith, levels_G i)))
      (either (has (cell h R x y) q) (is_cell i j x y && has (code p) q) (sym (has_G x y hx hy q) ∙ e))

  small_G : (x y : ℕ) → x < h.n → y < h.n → cell h G x y ≤ 15
  unfolding union
  small_G x y hx hy =
      ⊎_elim
      (λ (t : is_cell i j x y ≡ true). rw (cell_G x y hx hy, t) (cell_of-small (λ q. has (cell h R x y) q || has (code p) q)))
      (λ (t : is_cell i j x y ≡ false). rw (cell_G x y hx hy, t) ((sound_clean h R pair.sound).small x y hx hy))
      (decided (is_cell i j x y))

  unbarred_G : (x y : ℕ) → x < h.n → y < h.n → barred h x y ≡ true → cell h G x y ≡ 0
  unfolding is_cell
  unbarred_G x y hx hy b =
      ⊎_elim
      (λ (t : is_cell i j x y ≡ true).
      let row = eqb-true x i (left_of (eqb x i) (eqb y j) t) in
      let column = eqb-true y j (right_of (eqb x i) (eqb y j) t) in
      clash (rw (row, column) at b) pair.free)
      (λ (t : is_cell i j x y ≡ false). rw (cell_G x y hx hy, t) ((sound_clean h R pair.sound).unbarred x y hx hy b))
      (decided (is_cell i j x y))

  clean_G : Clean h G
  clean_G = record { small = small_G; unbarred = unbarred_G }

  pub grant_sound : sound h (granted h R i j p) ≡ true
  unfolding G
  grant_sound =
      clean_fixed_sound h G clean_G
      (λ x y hx hy. restrict_fixed (cell h G x y) (level_in (levels h G) x) (clean_G.small x y hx hy) (enough_G x y hx hy))
