-- What it tells of two registers that their bytes are the same.
use Rattle.std.proofs.Common.{ℕ, ◌*◌, ◌≡◌, List, length, true, sym, refl, ◌∙◌, eqb, eqb-true, eq-eqb}
use Rattle.std.specs.Cmp.Lexicographic.{same_text, other_text}
use mathlib.Core.Logic.{⊎_elim}
use lib.Pointwise.{pointwise}
use Rattle.rights.specs.declared.Header.{Header}
use Rattle.rights.specs.Below.{all_below}
use Rattle.rights.specs.Register.{cell}
use Rattle.rights.specs.Deletion.{same}
use Rattle.rights.specs.Sound.{headed, whole, readable}
use Rattle.theory.proofs.Below.{all_at, all_from}
use Rattle.theory.proofs.Ready.{whole_length}
use Rattle.theory.proofs.Tests.{right_of, same_test, decided}
use Rattle.theory.proofs.Register.{same-cells}

module _ (h : Header) where
  -- registers with the same cells are one
  pub same_registers : (R S : List ℕ) → length R ≡ h.n * h.n → length S ≡ h.n * h.n → same h R S ≡ true → R ≡ S
  unfolding same
  same_registers R S r s e =
      same-cells h R S r s
      (λ x y hx hy.
      eqb-true (cell h R x y) (cell h S x y)
      (all_at h.n (λ y. eqb (cell h R x y) (cell h S x y)) (all_at h.n (λ x. all_below h.n (λ y. eqb (cell h R x y) (cell h S x y))) e x hx) y hy))

  -- and a register has the same cells as itself
  pub same_itself : (R : List ℕ) → same h R R ≡ true
  unfolding same
  same_itself R = all_from h.n _ (λ x hx. all_from h.n _ (λ y hy. eq-eqb (cell h R x y) (cell h R x y) refl))

  -- two registers have the same bytes where they have the same cells
  pub bytes_alike : (R S : List ℕ) → readable h R ≡ true → length S ≡ length R → pointwise eqb S R ≡ same h S R
  bytes_alike R S t e =
      let long = whole_length h R (right_of (headed h) (whole h R) t) in
      same_test (pointwise eqb S R) (same h S R)
      (λ (q : pointwise eqb S R ≡ true). let one = same_text S R (sym q) in rw one (same_itself R))
      (λ (q : same h S R ≡ true). let one = same_registers S R (e ∙ long) long q in rw one (fails_not R))
    where
      fails_not : (R : List ℕ) → pointwise eqb R R ≡ true
      fails_not R = ⊎_elim (λ q. q) (λ q. absurd (other_text R R (sym q) refl)) (decided (pointwise eqb R R))
