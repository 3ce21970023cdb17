-- Functions that change a register only where it is one, one after the other.
use Prim.Native.Nat.{ℕ, ◌*◌}
use mathlib.Core.Path.{◌≡◌}
use mathlib.Core.Logic.{⊎_elim}
use mathlib.Core.Bool.{true, false}
use mathlib.Core.List.{List}
use lib.ListN.{length}
use borrow.Author.Tests.{eq-eqb}
use Rattle.rights.specs.declared.Header.{Header}
use Rattle.rights.specs.Sound.{headed, whole, readable}
use Rattle.theory.proofs.Tests.{both, left_of, decided}
use Rattle.rows.specs.Whole.{if_whole}

-- what is done only to a register may be told for registers alone
pub if_whole_ext :
    (h : Header) (R S T : List ℕ) → (readable h R ≡ true → S ≡ T) → if_whole h R S ≡ if_whole h R T
unfolding if_whole
if_whole_ext h R S T e =
    ⊎_elim
    (λ (t : readable h R ≡ true). rw t (e t))
    (λ (t : readable h R ≡ false). rw t)
    (decided (readable h R))

-- n·n cells make the same register again
pub still_whole : (h : Header) (R S : List ℕ) → readable h R ≡ true → length S ≡ h.n * h.n → readable h S ≡ true
unfolding whole
still_whole h R S t e = both (left_of (headed h) (whole h R) t) (eq-eqb (length S) (h.n * h.n) e)

-- two steps, each of them only where there is a register
pub if_whole_then :
    (h : Header) (R S : List ℕ) (f : List ℕ → List ℕ) → length S ≡ h.n * h.n →
    if_whole h (if_whole h R S) (f (if_whole h R S)) ≡ if_whole h R (f S)
unfolding if_whole
if_whole_then h R S f e =
    ⊎_elim
    (λ (t : readable h R ≡ true). rw t (rw (still_whole h R S t e)))
    (λ (t : readable h R ≡ false). rw t (rw t))
    (decided (readable h R))
