-- Where a way first comes to an office: what is left of the ways when that office is shut out. Assumes nothing.
use Prim.Native.Nat.{ℕ}
use mathlib.Core.Path.{◌≡◌}
use mathlib.Core.Logic.{◌⊎◌, inl, inr, ⊎_elim}
use mathlib.Core.Bool.{Bool, true, false, ◌&&◌}
use mathlib.Core.List.{List, [], ◌∷◌, ◌++◌}
use lib.Dec.{eqb}
use borrow.Author.Tests.{eqb-true, eqb-false, ne_eqb, not-true, not-false}
use Rattle.rights.specs.declared.Header.{Header}
use Rattle.rights.specs.Register.{soa_of}
use Rattle.rights.specs.Level.{other_than}
use Rattle.theory.proofs.Tests.{both, decided}
use Rattle.theory.proofs.Way.{Way, start, onward, Reach}

-- every office but a is other than a
pub shut_out : (a y : ℕ) → other_than a y ≡ false → y ≡ a
unfolding other_than
shut_out a y o = eqb-true y a (not-false (eqb y a) o)

pub let_in : (a y : ℕ) → (y ≡ a → ⊥) → other_than a y ≡ true
unfolding other_than
let_in a y ne = rw (ne_eqb y a ne)

pub not_shut : (a y : ℕ) → other_than a y ≡ true → y ≡ a → ⊥
unfolding other_than
not_shut a y o = eqb-false y a (not-true (eqb y a) o)

-- the offices allowed, but for one
abbrev pub except : (ℕ → Bool) → ℕ → ℕ → Bool
except allowed a x = allowed x && other_than a x

-- a way to office a that names it only at its end: the last office before it, and the link
pub record Arrival (h : Header) (allowed : ℕ → Bool) (passes : ℕ → ℕ → Bool) (a : ℕ) : Type 0 where
  pub from : ℕ
  pub reach : Reach h (except allowed a) passes from
  pub enters : passes from a ≡ true

-- Cut: a way goes without office a, or has come to it for the first time
pub cut :
    (h : Header) (allowed : ℕ → Bool) (passes : ℕ → ℕ → Bool) (a : ℕ) →
    other_than a (soa_of h) ≡ true →
    {offices : List ℕ} {y : ℕ} → Way h allowed passes offices y →
    Reach h (except allowed a) passes y ⊎ Arrival h allowed passes a
cut h allowed passes a apart (start s) = inl (record { offices = soa_of h ∷ []; way = start (both s apart) })
cut h allowed passes a apart (onward {offices = before} {x = x} y w l s p) =
    ⊎_elim
    (λ r. ⊎_elim
    (λ (o : other_than a y ≡ true). inl (record { offices = r.offices ++ (y ∷ []); way = onward y r.way l (both s o) p }))
    (λ (o : other_than a y ≡ false). inr (record { from = x; reach = r; enters = rw (shut_out a y o) at p }))
    (decided (other_than a y)))
    inr
    (cut h allowed passes a apart w)
