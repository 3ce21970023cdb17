-- A register is sound exactly where it is clean and a sweep leaves it as it is. Assumes nothing.
use Prim.Native.Nat.{ℕ, ◌*◌, ◌<◌, min}
use native.Mathlib.Omega.{arith}
use mathlib.Core.Path.{◌≡◌, ap, ◌∙◌}
use mathlib.Core.Bool.{true}
use mathlib.Core.List.{List}
use lib.ListN.{length}
use Rattle.rights.specs.declared.Header.{Header}
use Rattle.rights.specs.Cell.{restrict}
use Rattle.rights.specs.Register.{cell, soa_of}
use Rattle.rights.specs.Level.{level_in, levels}
use Rattle.rights.specs.Sound.{barred, sound}
use Rattle.rights.specs.Restriction.{restricted, rows_to, sweep}
use Rattle.theory.proofs.Cell.{restrict_empty, restrict-restrict}
use Rattle.theory.proofs.Register.{same-cells}
use Rattle.theory.proofs.Sound.{sound-cells}
use Rattle.theory.proofs.Restriction.{Small, restricted-cell, restricted-small, length-restricted}
use Rattle.theory.proofs.Sweep.{levels-sweep}

-- each cell a set of four, and none where no grant may stand
pub record Clean (h : Header) (R : List ℕ) : Type 0 where
  pub small : Small h R
  pub unbarred : (i j : ℕ) → i < h.n → j < h.n → barred h i j ≡ true → cell h R i j ≡ 0

min_self : (v : ℕ) → min v v ≡ v
min_self v = omega arith

-- no cell has a record above its grantor's level
abbrev pub Fixed : Header → List ℕ → Type 0
Fixed h R = (i j : ℕ) → i < h.n → j < h.n → restrict (cell h R i j) (level_in (levels h R) i) ≡ cell h R i j

module _ (h : Header) (R : List ℕ) where
  pub sound_clean : sound h R ≡ true → Clean h R
  sound_clean e =
      record {
        small = λ i j hi hj. ((sound-cells h R).0 e i j hi hj).small;
        unbarred = λ i j hi hj b. ((sound-cells h R).0 e i j hi hj).empty b;
      }

  pub sound_fixed : sound h R ≡ true → Fixed h R
  sound_fixed e i j hi hj = ((sound-cells h R).0 e i j hi hj).kept

  pub clean_fixed_sound : Clean h R → Fixed h R → sound h R ≡ true
  clean_fixed_sound clean fixed =
      (sound-cells h R).1
      (λ i j hi hj. record { small = clean.small i j hi hj; empty = clean.unbarred i j hi hj; kept = fixed i j hi hj })

  -- a sweep leaves a sound register as it is
  pub sweep_sound : length R ≡ h.n * h.n → sound h R ≡ true → sweep h R ≡ R
  unfolding sweep rows_to
  sweep_sound e s =
      same-cells h (restricted h R (rows_to (levels h R))) R (length-restricted h R (rows_to (levels h R))) e
      (λ i j hi hj. restricted-cell h R (rows_to (levels h R)) i j hi hj ∙ sound_fixed s i j hi hj)

  -- restricting keeps a register clean
  pub restricted_clean : (to : ℕ → ℕ → ℕ) → Clean h R → Clean h (restricted h R to)
  restricted_clean to clean =
      record {
        small = restricted-small h R to clean.small;
        unbarred = λ i j hi hj b. restricted-cell h R to i j hi hj ∙ rw (clean.unbarred i j hi hj b) (restrict_empty (to i j));
      }

-- what was swept is sound
pub swept_sound : (h : Header) (R : List ℕ) → soa_of h < h.n → Clean h R → sound h (sweep h R) ≡ true
unfolding sweep rows_to
swept_sound h R inside clean =
    clean_fixed_sound h (sweep h R) (restricted_clean h R (rows_to (levels h R)) clean)
    (λ i j hi hj.
    let e = restricted-cell h R (rows_to (levels h R)) i j hi hj in
    rw (levels-sweep h inside R clean.small, e)
    (restrict-restrict (cell h R i j) (level_in (levels h R) i) (level_in (levels h R) i)
    ∙ ap (restrict (cell h R i j)) (min_self (level_in (levels h R) i))))
