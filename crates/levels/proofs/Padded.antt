-- Laws of arrays made up to 128 entries, which a loop fills from the front.
use Prim.Native.Nat.{ℕ, zero, suc, ◌+◌, ◌-◌, ◌≤◌, ◌<◌}
use native.Mathlib.Numerals.{add-one}
use native.Mathlib.Omega.{arith}
use mathlib.Core.Path.{◌≡◌, refl, ap, sym, ◌∙◌}
use mathlib.Core.List.{List, [], ◌∷◌, ◌++◌}
use mathlib.Core.Logic.{⊎_elim}
use lib.ListN.{length, get_or, set, replicate, length-append, length-replicate, get_or-eq_default}
use lib.Seq.{set_at, append_snoc, ext_get_or}
use lib.Dec.{ltb}
use borrow.Author.Tests.{ltb-true, ltb-false}
use Rattle.rights.specs.Below.{table}
use Rattle.theory.proofs.Tests.{decided}
use Rattle.theory.proofs.Below.{length-table, table_at}
use Rattle.levels.specs.Padded.{padded}

module _ {A : Type 0} (none : A) where
  pub all_none : (m k : ℕ) → get_or (replicate m none) k none ≡ none
  all_none zero k = refl
  all_none (suc m) zero = refl
  all_none (suc m) (suc k) = all_none m k

  rest-none : (l : List A) (m k : ℕ) → get_or (l ++ replicate m none) k none ≡ get_or l k none
  rest-none [] m k = all_none m k
  rest-none (x ∷ l) m zero = refl
  rest-none (x ∷ l) m (suc k) = rest-none l m k

  -- nothing stands after the list, so what stands at a place is the list's, wherever it is
  pub get_or-padded : (l : List A) (k : ℕ) → get_or (padded none l) k none ≡ get_or l k none
  unfolding padded
  get_or-padded l k = rest-none l (128 - length l) k

  pub length-padded : (l : List A) → length l ≤ 128 → length (padded none l) ≡ 128
  unfolding padded
  length-padded l h = simp (length-append, length-replicate) (omega arith)

  -- a loop that fills the array: nothing stands at first
  pub padded-none : (f : ℕ → A) → replicate 128 none ≡ padded none (table 0 f)
  unfolding padded table
  padded-none f = refl

  -- and each turn adds an entry
  pub padded-more : (f : ℕ → A) (y : ℕ) → y < 128 → set (padded none (table y f)) y (f y) ≡ padded none (table (y + 1) f)
  unfolding padded table
  padded-more f y h =
      let e : 128 - length (table y f) ≡ suc (127 - y) = rw (length-table y f) (omega arith) in
      let e' : 127 - y ≡ 128 - length (table y f ++ (f y ∷ [])) = simp (length-append, length-table y f) (omega arith) in
      rw add-one
      (ap (λ (m : ℕ). set (table y f ++ replicate m none) y (f y)) e
      ∙ set_at (table y f) none (replicate (127 - y) none) (f y) y (length-table y f)
      ∙ sym (append_snoc (table y f) (f y) (replicate (127 - y) none))
      ∙ ap (λ (m : ℕ). table y f ++ (f y ∷ []) ++ replicate m none) e')

  -- the same, of the array and the value by other names
  pub padded_next : (f : ℕ → A) (y : ℕ) (l : List A) (v : A) → l ≡ padded none (table y f) → v ≡ f y → y < 128 → set l y v ≡ padded none (table (y + 1) f)
  padded_next f y l v e d h = rw (e, d) (padded-more f y h)

  -- an array with the values at the first n places and nothing after them
  pub padded_of :
      (f : ℕ → A) (n : ℕ) (l : List A) →
      n ≤ 128 →
      length l ≡ 128 →
      ((k : ℕ) → k < n → get_or l k none ≡ f k) →
      ((k : ℕ) → n ≤ k → get_or l k none ≡ none) →
      l ≡ padded none (table n f)
  padded_of f n l h e inside after =
      ext_get_or none l (padded none (table n f)) (e ∙ sym (length-padded (table n f) (rw length-table h)))
      (λ k m. ⊎_elim
      (λ t. let b : k < n = ltb-true k n t in inside k b ∙ sym (get_or-padded (table n f) k ∙ table_at n f k none b))
      (λ t. let b : n ≤ k = ltb-false k n t in
      after k b ∙ sym (get_or-padded (table n f) k ∙ get_or-eq_default (table n f) none (rw length-table b)))
      (decided (ltb k n)))

-- what a loop that fills an array from the front is proved by
pub ruleset filling = (padded-none, padded_next)
