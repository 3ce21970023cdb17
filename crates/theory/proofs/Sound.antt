-- Law 2: the test for refusal 3 says what 01 calls a sound register; and whom a level allows to grant. Assumes nothing.
use Prim.Native.Nat.{ℕ, ◌≤◌, ◌<◌}
use mathlib.Core.Path.{◌≡◌, refl, ap, sym, ◌∙◌}
use mathlib.Core.Logic.{◌↔◌, ⊎_elim}
use mathlib.Core.Bool.{Bool, true, ◌&&◌, ◌||◌, not}
use mathlib.Core.List.{List}
use lib.Dec.{eqb, leb}
use borrow.Author.Tests.{eqb-true, eq-eqb, leb-true, le-leb}
use Rattle.rights.specs.declared.Header.{Header}
use Rattle.rights.specs.Below.{all_below}
use Rattle.rights.specs.declared.Permission.{Permission}
use Rattle.rights.specs.Permission.{need, passing, entitles}
use Rattle.rights.specs.Cell.{restrict}
use Rattle.rights.specs.Register.{cell, soa_of}
use Rattle.rights.specs.Level.{levels, level_in, holds}
use Rattle.rights.specs.Sound.{Entitled, Sound, barred, sound_cell, sound_by, sound}
use Rattle.rights.specs.Command.{may_grant}
use Rattle.theory.proofs.Tests.{both, left_of, right_of, or_left, or_right, either, implied, implies, same_test}
use Rattle.theory.proofs.Below.{all_at, all_from}
use Rattle.theory.proofs.Cell.{restrict_fixed, fixed_need, passing-entitles, any_permission_from, any_permission-found}
use Rattle.theory.proofs.Chain.{entitled_level, level_holds, holds-chain}

-- what the test asks of one cell
pub record CellSound (h : Header) (R : List ℕ) (i j : ℕ) : Type 0 where
  pub small : cell h R i j ≤ 15
  pub empty : barred h i j ≡ true → cell h R i j ≡ 0
  pub kept : restrict (cell h R i j) (level_in (levels h R) i) ≡ cell h R i j

module _ (h : Header) (R : List ℕ) where
  cell-sound : (i j : ℕ) → sound_cell h R (levels h R) i j ≡ true → CellSound h R i j
  unfolding sound_cell
  cell-sound i j e =
      let c = cell h R i j in
      let first = left_of (leb c 15 && (not (barred h i j) || eqb c 0)) (eqb (restrict c (level_in (levels h R) i)) c) e in
      record {
        small = leb-true c 15 (left_of (leb c 15) (not (barred h i j) || eqb c 0) first);
        empty = λ b. eqb-true c 0 (implied (barred h i j) (eqb c 0) (right_of (leb c 15) (not (barred h i j) || eqb c 0) first) b);
        kept =
            eqb-true (restrict c (level_in (levels h R) i)) c
            (right_of (leb c 15 && (not (barred h i j) || eqb c 0)) (eqb (restrict c (level_in (levels h R) i)) c) e);
      }

  sound-cell : (i j : ℕ) → CellSound h R i j → sound_cell h R (levels h R) i j ≡ true
  unfolding sound_cell
  sound-cell i j s =
      let c = cell h R i j in
      both
      (both (le-leb c 15 s.small) (implies (barred h i j) (eqb c 0) (λ b. eq-eqb c 0 (s.empty b))))
      (eq-eqb (restrict c (level_in (levels h R) i)) c s.kept)

  -- the test passes where it passes at each cell
  pub sound-cells : (sound h R ≡ true) ↔ ((i j : ℕ) → i < h.n → j < h.n → CellSound h R i j)
  unfolding sound sound_by
  sound-cells = (
    (λ e i j hi hj. cell-sound i j (all_at h.n (sound_cell h R (levels h R) i) (all_at h.n row e i hi) j hj)),
    (λ s. all_from h.n row (λ i hi. all_from h.n (sound_cell h R (levels h R) i) (λ j hj. sound-cell i j (s i j hi hj)))),
  )
    where
      row : ℕ → Bool
      row i = all_below h.n (sound_cell h R (levels h R) i)

module _ (h : Header) (R : List ℕ) (inside : soa_of h < h.n) where
  -- a permission that i holds entitles p exactly where i's level is enough for p
  pub entitled-need : (i : ℕ) (p : Permission) → Entitled h R i p ↔ (need p ≤ level_in (levels h R) i)
  entitled-need i p = (
    (λ e. entitled_level h R inside p e.held.chain e.enough),
    (λ l. record { by = passing p; held = (level_holds h R inside p i).0 l; enough = passing-entitles p }),
  )

  -- the test for refusal 3 is 01's definition
  pub sound-register : (sound h R ≡ true) ↔ Sound h R
  unfolding barred
  sound-register = (there, back)
    where
      there : sound h R ≡ true → Sound h R
      there e =
          let cells = (sound-cells h R).0 e in
          record {
            small = λ i j hi hj. (cells i j hi hj).small;
            diagonal = λ i hi. (cells i i hi hi).empty (or_left (eqb i (soa_of h)) (eq-eqb i i refl));
            soa_column = λ i hi. (cells i (soa_of h) hi inside).empty (or_right (eqb i (soa_of h)) (eq-eqb (soa_of h) (soa_of h) refl));
            entitled = λ i j p hi hj q.
                let s = cells i j hi hj in
                (entitled-need i p).1 (fixed_need (cell h R i j) (level_in (levels h R) i) p s.small s.kept q);
          }

      back : Sound h R → sound h R ≡ true
      back s =
          (sound-cells h R).1
          (λ i j hi hj. record {
            small = s.small i j hi hj;
            empty = λ b.
                ⊎_elim
                (λ q. ap (cell h R i) (sym (eqb-true i j q)) ∙ s.diagonal i hi)
                (λ q. ap (cell h R i) (eqb-true j (soa_of h) q) ∙ s.soa_column i hi)
                (either (eqb i j) (eqb j (soa_of h)) b);
            kept =
                restrict_fixed (cell h R i j) (level_in (levels h R) i) (s.small i j hi hj)
                (λ p q. (entitled-need i p).0 (s.entitled i j p hi hj q));
          })

  -- refusal 8 is a matter of levels
  pub may_grant_lem : (i : ℕ) (p : Permission) → i < h.n → may_grant h R i p ≡ leb (need p) (level_in (levels h R) i)
  unfolding may_grant
  may_grant_lem i p l = same_test _ _ there back
    where
      there : may_grant h R i p ≡ true → leb (need p) (level_in (levels h R) i) ≡ true
      there e =
          let r = any_permission-found (λ q. holds h R q i && entitles q p) e in
          let q = r.at in
          let held = (holds-chain h R inside q i l).0 (left_of (holds h R q i) (entitles q p) r.passes) in
          le-leb (need p) (level_in (levels h R) i)
          (entitled_level h R inside p held.chain (right_of (holds h R q i) (entitles q p) r.passes))

      back : leb (need p) (level_in (levels h R) i) ≡ true → may_grant h R i p ≡ true
      back e =
          let held = (level_holds h R inside p i).0 (leb-true (need p) (level_in (levels h R) i) e) in
          any_permission_from (λ q. holds h R q i && entitles q p) (passing p)
          (both ((holds-chain h R inside (passing p) i l).1 held) (passing-entitles p))
