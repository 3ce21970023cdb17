-- When a cell may stand, and soundness from the array of levels. Assumes nothing.
use Prim.Native.Nat.{ℕ}
use mathlib.Core.Path.{◌≡◌, refl, ap, sym, ◌∙◌}
use mathlib.Core.Bool.{Bool, true, false, not, cond}
use mathlib.Core.List.{List}
use Rattle.rights.specs.declared.Header.{Header}
use Rattle.rights.specs.Below.{all_below}
use Rattle.rights.specs.Register.{cell}
use Rattle.rights.specs.Level.{levels, level_in}
use Rattle.rights.specs.Sound.{headed, whole, barred, sound_cell, sound_by, sound, first_of, unless, register_refusal, readable}
use Rattle.theory.proofs.Tests.{left_of, right_of, or_right}
use Rattle.theory.proofs.Below.{all_ext}
use Rattle.theory.proofs.Cell.{restrict_empty}
use Rattle.levels.specs.Padded.{padded_levels}
use Rattle.levels.proofs.Given.{level_padded, levels_read}

-- an empty cell may stand anywhere
pub empty_stands : (h : Header) (R ls : List ℕ) (i j : ℕ) → cell h R i j ≡ 0 → sound_cell h R ls i j ≡ true
unfolding sound_cell
empty_stands h R ls i j e = rw (e, restrict_empty (level_in ls i), or_right (not (barred h i j)) {b = true} refl)

-- a register that can be read is sound where it is sound by the array of levels
pub sound_read : (h : Header) (R : List ℕ) → readable h R ≡ true → sound_by h R (padded_levels h R) ≡ sound h R
unfolding sound sound_by sound_cell
sound_read h R e =
    all_ext h.n _ _ (λ i l. all_ext h.n _ _ (λ j m. rw (levels_read h R e, level_padded (levels h R) i)))

-- each cell of row i may stand
unfoldable pub sound_row : Header → List ℕ → List ℕ → ℕ → Bool
sound_row h R ls i = all_below h.n (sound_cell h R ls i)

-- the refusals in their order
pub refused_1 : (h : Header) (R : List ℕ) → headed h ≡ false → register_refusal h R ≡ 1
unfolding register_refusal first_of unless
refused_1 h R e = rw e

pub refused_2 : (h : Header) (R : List ℕ) → headed h ≡ true → readable h R ≡ false → register_refusal h R ≡ 2
unfolding register_refusal first_of unless
refused_2 h R e r = let w : whole h R ≡ false = rw e at r in rw (e, w)

pub refused_3 :
    (h : Header) (R ls : List ℕ) (test : Bool) →
    readable h R ≡ true →
    ls ≡ padded_levels h R →
    sound_by h R ls ≡ test →
    register_refusal h R ≡ cond test 0 3
unfolding register_refusal first_of unless
refused_3 h R ls test e l t =
    let s : sound h R ≡ test = sym (sound_read h R e) ∙ ap (sound_by h R) (sym l) ∙ t in
    rw (left_of (headed h) (whole h R) e, right_of (headed h) (whole h R) e, s)
