-- Levels made up to 128 entries restrict as the levels themselves.
use Prim.Native.Nat.{ℕ}
use mathlib.Core.Path.{◌≡◌}
use mathlib.Core.Bool.{true}
use mathlib.Core.List.{List}
use Rattle.rights.specs.declared.Header.{Header}
use Rattle.rights.specs.Level.{levels}
use Rattle.rights.specs.Sound.{readable}
use Rattle.rights.specs.Restriction.{restricted, rows_to, sweep}
use Rattle.theory.proofs.Restriction.{restricted_ext}
use Rattle.levels.specs.Padded.{padded, padded_levels}
use Rattle.levels.proofs.Given.{level_padded, levels_read}

pub rows_padded : (h : Header) (R ls : List ℕ) → restricted h R (rows_to (padded 0 ls)) ≡ restricted h R (rows_to ls)
unfolding rows_to
rows_padded h R ls = restricted_ext h R (rows_to (padded 0 ls)) (rows_to ls) (λ x y hx hy. level_padded ls x)

pub rows_swept : (h : Header) (R : List ℕ) → readable h R ≡ true → restricted h R (rows_to (padded_levels h R)) ≡ sweep h R
unfolding sweep
rows_swept h R t = rw (levels_read h R t) (rows_padded h R (levels h R))
