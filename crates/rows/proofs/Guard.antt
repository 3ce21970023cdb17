-- What the test for a whole register tells each function that makes it.
use Prim.Native.Nat.{ℕ}
use mathlib.Core.Path.{◌≡◌, sym, ◌∙◌}
use mathlib.Core.Bool.{Bool, true, false}
use mathlib.Core.List.{List}
use Rattle.rights.specs.declared.Header.{Header}
use Rattle.rights.specs.Sound.{headed, whole, readable}
use Rattle.rows.specs.Whole.{Whole, if_whole}
use Rattle.theory.proofs.Tests.{left_of, right_of}
use Rattle.theory.proofs.Ready.{headed_high, whole_length}

-- where there is a register, what is done to it is done
pub in_whole : (h : Header) (R S : List ℕ) → readable h R ≡ true → if_whole h R S ≡ S
unfolding if_whole
in_whole h R S t = rw t

-- such a register is whole
pub whole_read : (h : Header) (R : List ℕ) → readable h R ≡ true → Whole h R
whole_read h R t =
    record { cells = whole_length h R (right_of (headed h) (whole h R) t); few = headed_high h (left_of (headed h) (whole h R) t) }

module _ (h : Header) (R : List ℕ) {test : Bool} (says : test ≡ readable h R) where
  pub whole_if : test ≡ true → Whole h R
  whole_if passed = whole_read h R (sym says ∙ passed)

  pub changed_if : test ≡ true → {S T : List ℕ} → T ≡ S → T ≡ if_whole h R S
  changed_if passed {S} e = e ∙ sym (in_whole h R S (sym says ∙ passed))

  pub kept_if : test ≡ false → (S : List ℕ) → R ≡ if_whole h R S
  unfolding if_whole
  kept_if failed S = rw (sym says ∙ failed)
