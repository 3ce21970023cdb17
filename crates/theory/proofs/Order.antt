-- Laws of lists of offices compared from the first on. Assumes nothing.
use Prim.Native.Nat.{ℕ, ◌≤◌, ◌<◌}
use native.Mathlib.Omega.{arith}
use mathlib.Core.Path.{◌≡◌, refl, ap₂}
use mathlib.Core.Logic.{◌⊎◌, inl, inr, ⊎_elim}
use mathlib.Core.Bool.{true, ◌&&◌}
use mathlib.Core.List.{List, [], ◌∷◌, ◌++◌}
use lib.ListN.{length}
use lib.Dec.{eqb, ltb}
use borrow.Author.Tests.{eqb-true, ltb-true, lt-ltb, eq-eqb}
use Rattle.rights.specs.Order.{smaller_or_same}
use Rattle.theory.proofs.Tests.{both, left_of, right_of, or_left, or_right, either, clash}
use Rattle.theory.proofs.Below.{last_or_below}

-- what the order says of the first offices
first_places :
    (x y : ℕ) (xs ys : List ℕ) →
    smaller_or_same (x ∷ xs) (y ∷ ys) ≡ true →
    (x < y) ⊎ ((x ≡ y) × (smaller_or_same xs ys ≡ true))
unfolding smaller_or_same
first_places x y xs ys e =
    ⊎_elim (λ l. inl (ltb-true x y l))
    (λ s. inr (eqb-true x y (left_of (eqb x y) (smaller_or_same xs ys) s), right_of (eqb x y) (smaller_or_same xs ys) s))
    (either (ltb x y) (eqb x y && smaller_or_same xs ys) e)

-- a list is not larger than itself
pub order_same : (xs : List ℕ) → smaller_or_same xs xs ≡ true
unfolding smaller_or_same
order_same [] = refl
order_same (x ∷ xs) = or_right (ltb x x) (both (eq-eqb x x refl) (order_same xs))

-- lists of which neither is larger are equal
pub order_antisymmetric : (xs ys : List ℕ) → smaller_or_same xs ys ≡ true → smaller_or_same ys xs ≡ true → xs ≡ ys
unfolding smaller_or_same
order_antisymmetric [] [] e f = refl
order_antisymmetric [] (y ∷ ys) e f = clash f refl
order_antisymmetric (x ∷ xs) [] e f = clash e refl
order_antisymmetric (x ∷ xs) (y ∷ ys) e f =
    ⊎_elim
    (λ (l : x < y). ⊎_elim (λ (m : y < x). absurd (omega arith)) (λ s. absurd (let z : y ≡ x = s.0 in omega arith)) (first_places y x ys xs f))
    (λ s. ⊎_elim
    (λ (m : y < x). absurd (let z : x ≡ y = s.0 in omega arith))
    (λ t. ap₂ (λ (a : ℕ) (l : List ℕ). a ∷ l) s.0 (order_antisymmetric xs ys s.1 t.1))
    (first_places y x ys xs f))
    (first_places x y xs ys e)

-- a further office on either list: it decides where the lists were equal
pub order_append :
    (xs ys : List ℕ) (x y : ℕ) →
    length xs ≡ length ys →
    smaller_or_same xs ys ≡ true →
    (xs ≡ ys → x ≤ y) →
    smaller_or_same (xs ++ (x ∷ [])) (ys ++ (y ∷ [])) ≡ true
unfolding smaller_or_same
order_append [] [] x y n e l = last_places (last_or_below x y (let m : x ≤ y = l refl in omega arith))
  where
    last_places : (x ≡ y) ⊎ (x < y) → smaller_or_same (x ∷ []) (y ∷ []) ≡ true
    last_places (inl s) = or_right (ltb x y) (both (eq-eqb x y s) refl)
    last_places (inr m) = or_left (eqb x y && true) (lt-ltb x y m)
order_append [] (b ∷ ys) x y n e l = absurd (omega arith)
order_append (a ∷ xs) [] x y n e l = absurd (omega arith)
order_append (a ∷ xs) (b ∷ ys) x y n e l =
    ⊎_elim (λ m. or_left (eqb a b && smaller_or_same (xs ++ (x ∷ [])) (ys ++ (y ∷ []))) (lt-ltb a b m))
    (λ s. or_right (ltb a b)
    (both (eq-eqb a b s.0) (order_append xs ys x y (omega arith) s.1 (λ t. l (ap₂ (λ (a : ℕ) (l : List ℕ). a ∷ l) s.0 t)))))
    (first_places a b xs ys e)
