-- A list whose elements are changed, as a table; and what lies before the next number.
use Prim.Native.Nat.{ℕ, zero, suc, ◌+◌, ◌≤◌}
use native.Mathlib.Omega.{arith}
use mathlib.Core.Path.{◌≡◌, refl, ap, sym, ◌∙◌}
use mathlib.Core.Bool.{Bool, true, false}
use mathlib.Core.List.{List, [], ◌∷◌, ◌++◌, map, map-append}
use lib.ListN.{length, get_or}
use lib.Dec.{eqb, ltb}
use borrow.Author.Tests.{eqb-false, lt-ltb, le-ltb, ltb-true, ltb-false}
use Rattle.rights.specs.Below.{table}
use Rattle.theory.proofs.Below.{table_of}

pub map-table : (n : ℕ) (g f : ℕ → ℕ) → map g (table n f) ≡ table n (λ k. g (f k))
unfolding table
map-table zero g f = refl
map-table (suc n) g f =
    map-append g (table n f) (f n ∷ []) ∙ ap (λ (row : List ℕ). row ++ (g (f n) ∷ [])) (map-table n g f)

-- a list whose elements are changed by g is a table of what they are changed to
pub map_each : (g : ℕ → ℕ) (xs : List ℕ) → table (length xs) (λ k. g (get_or xs k 0)) ≡ map g xs
map_each g xs =
    sym (map-table (length xs) g (λ k. get_or xs k 0)) ∙ ap (map g) (table_of (length xs) xs 0 refl)

-- what lies before k + 1 and is not k lies before k
pub before_next : (m k : ℕ) → eqb m k ≡ false → ltb m (k + 1) ≡ ltb m k
before_next m k e = go (ltb m k) refl
  where
    go : (b : Bool) → ltb m k ≡ b → ltb m (k + 1) ≡ ltb m k
    go true q = lt-ltb m (k + 1) (omega (arith, ltb-true m k q)) ∙ sym q
    go false q =
        let other : m ≡ k → ⊥ = eqb-false m k e in
        let after : k ≤ m = ltb-false m k q in
        le-ltb m (k + 1) (omega arith) ∙ sym q
