-- A test of each number of a range from 0 on, as `all`, `any` and `find` make it: it is the test of the numbers below the range's end.
use Rattle.std.specs.Prelude.{ℕ, zero, suc, ◌+◌, ◌≡◌, Bool, true, false, ◌&&◌, ◌||◌, cond, List, [], ◌∷◌, ◌++◌}
use Rattle.std.specs.List.{FoldsTo, list_all, list_any, find, range_with_len}
use Rattle.std.specs.Option.{MatchOption, option_map, option_or, unwrap_or}
use Rattle.std.specs.Bool.{⊤}
use Rattle.std.specs.Fn.{Called, CalledAt}
use Rattle.std.specs.Iterator.{YieldsThen}
use Rattle.std.specs.declared.option.Option.{Option}
use Rattle.std.specs.declared.option.Option.TheVariants.{None, Some}
use Rattle.std.proofs.lemmas.Iterator.{YieldsList}
use Rattle.std.proofs.lemmas.Iterator.Search.{all_from_yields_List, any_from_yields_List, find_from_yields_List}
use Rattle.std.proofs.lemmas.List.Folds.{find-append}
use denote.Ref.{Bor}
use denote.Param.Members.{Mut}
use mathlib.Core.Path.{refl, sym, ap, ◌∙◌}
use native.Mathlib.Omega.{arith}
use Rattle.rights.specs.Below.{all_below, any_below, first_below}
use Rattle.theory.proofs.Below.{first-none}

-- a range's last number stands behind the others
last : (a n j : ℕ) → a + n ≡ j → range_with_len a (suc n) ≡ range_with_len a n ++ (j ∷ [])
last a zero j e = let same : a ≡ j = omega arith in ap (λ k. k ∷ []) same
last a (suc n) j e = ap (λ l. a ∷ l) (last (a + 1) n j (omega arith))

all_behind : (f : ℕ → Bool) (xs : List ℕ) (y : ℕ) → list_all f (xs ++ (y ∷ [])) ≡ list_all f xs && f y
all_behind f [] y = go (f y)
  where
    go : (b : Bool) → b && true ≡ b
    go true = refl
    go false = refl
all_behind f (x ∷ xs) y = go (f x) (all_behind f xs y)
  where
    go : (b : Bool) → list_all f (xs ++ (y ∷ [])) ≡ list_all f xs && f y → b && list_all f (xs ++ (y ∷ [])) ≡ (b && list_all f xs) && f y
    go true e = e
    go false e = refl

any_behind : (f : ℕ → Bool) (xs : List ℕ) (y : ℕ) → list_any f (xs ++ (y ∷ [])) ≡ list_any f xs || f y
any_behind f [] y = go (f y)
  where
    go : (b : Bool) → b || false ≡ b
    go true = refl
    go false = refl
any_behind f (x ∷ xs) y = go (f x) (any_behind f xs y)
  where
    go : (b : Bool) → list_any f (xs ++ (y ∷ [])) ≡ list_any f xs || f y → b || list_any f (xs ++ (y ∷ [])) ≡ (b || list_any f xs) || f y
    go true e = refl
    go false e = e

all_counted : (n : ℕ) (f : ℕ → Bool) → list_all f (range_with_len 0 n) ≡ all_below n f
unfolding all_below
all_counted zero f = refl
all_counted (suc n) f = ap (list_all f) (last 0 n n (omega arith)) ∙ (all_behind f (range_with_len 0 n) n ∙ ap (λ b. b && f n) (all_counted n f))

any_counted : (n : ℕ) (f : ℕ → Bool) → list_any f (range_with_len 0 n) ≡ any_below n f
unfolding any_below
any_counted zero f = refl
any_counted (suc n) f = ap (list_any f) (last 0 n n (omega arith)) ∙ (any_behind f (range_with_len 0 n) n ∙ ap (λ b. b || f n) (any_counted n f))

find_counted : (n : ℕ) (f : ℕ → Bool) → find f (range_with_len 0 n) ≡ cond (any_below n f) (Some (first_below n f)) None
unfolding any_below first_below
find_counted zero f = refl
find_counted (suc n) f =
    ap (find f) (last 0 n n (omega arith))
    ∙ (find-append f (range_with_len 0 n) (n ∷ []) ∙ (ap (λ o. option_or o (find f (n ∷ []))) (find_counted n f) ∙ go (any_below n f) (f n)))
  where
    go :
        (b c : Bool) →
        option_or (cond b (Some (first_below n f)) None) (cond c (Some n) None) ≡ cond (b || c) (Some (cond b (first_below n f) (cond c n (suc n)))) None
    go true c = refl
    go false true = refl
    go false false = refl

-- the number that `find` finds first, n where it finds none
found_first : (n : ℕ) (f : ℕ → Bool) → unwrap_or (find f (range_with_len 0 n)) n ≡ first_below n f
found_first n f = ap (λ o. unwrap_or o n) (find_counted n f) ∙ go (any_below n f) (first-none n f)
  where
    go : (b : Bool) → (b ≡ false → first_below n f ≡ n) → unwrap_or (cond b (Some (first_below n f)) None) n ≡ first_below n f
    go true none = refl
    go false none = sym (none refl)

module _ {S F : Type 0} {steps : S → Option ℕ → S → Type 0} {g : Mut F (Bor ℕ × Unit {0}) Bool} {s : S} (n : ℕ) (test : ℕ → Bool) (u : S) (f : F) (r : Option ℕ) where
  -- what `find` gives over a range that ends at n, and n where it gives none
  pub first_over : (xs : List ℕ) × (j : F) × YieldsThen steps s xs r u × FoldsTo (λ p x q. CalledAt g p x false q) f xs j × MatchOption r ⊤ (λ x. (h : F) × CalledAt g j x true h)
      → YieldsList steps (λ x. x) s (range_with_len 0 n) → ((x : ℕ) (b : Bool) (q : F) → CalledAt g f x b q → (q ≡ f) × (b ≡ test x)) → unwrap_or r n ≡ first_below n test
  first_over ran e k = ap (λ o. unwrap_or o n) (sym (same r) ∙ find_from_yields_List test u f r ran e k) ∙ found_first n test
    where
      same : (o : Option ℕ) → option_map (λ x. x) o ≡ o
      same None = refl
      same (Some x) = refl

module _ {S F : Type 0} {steps : S → Option ℕ → S → Type 0} {v : ℕ → ℕ} {g : Mut F (ℕ × Unit {0}) Bool} {s : S} (n : ℕ) (test : ℕ → Bool) (u : S) (f : F) (r : Bool) where
  -- what `all` gives over a range that ends at n
  pub all_over : (xs : List ℕ) × (o : Option ℕ) × (j : F) × YieldsThen steps s xs o u × FoldsTo (λ p x q. Called g p (x, tt) true q) f xs j × MatchOption o (r ≡ true) (λ x. (r ≡ false) × ((h : F) × Called g j (x, tt) false h))
      → YieldsList steps v s (range_with_len 0 n) → ((x : ℕ) (b : Bool) (q : F) → Called g f (x, tt) b q → (q ≡ f) × (b ≡ test (v x))) → r ≡ all_below n test
  all_over ran e k = all_from_yields_List test u f r ran e k ∙ all_counted n test

  -- what `any` gives
  pub any_over : (xs : List ℕ) × (o : Option ℕ) × (j : F) × YieldsThen steps s xs o u × FoldsTo (λ p x q. Called g p (x, tt) false q) f xs j × MatchOption o (r ≡ false) (λ x. (r ≡ true) × ((h : F) × Called g j (x, tt) true h))
      → YieldsList steps v s (range_with_len 0 n) → ((x : ℕ) (b : Bool) (q : F) → Called g f (x, tt) b q → (q ≡ f) × (b ≡ test (v x))) → r ≡ any_below n test
  any_over ran e k = any_from_yields_List test u f r ran e k ∙ any_counted n test
