-- Sums over rows and over bytes.
use Rattle.std.proofs.Common.{ℕ, zero, suc, ◌+◌, ◌*◌, ◌≡◌, refl, List, [], ◌∷◌, length, sum_by, true, ap, sym, ◌∙◌, arith}
use Rattle.std.specs.List.{zip}
use Rattle.std.proofs.lemmas.List.Sums.{sum_by-cons}
use native.Mathlib.Nat.{add-zero, add-suc, add_assoc}
use Rattle.rights.specs.declared.Header.{Header}
use Rattle.rights.specs.Below.{sum_below}
use Rattle.rights.specs.Cell.{size, without}
use Rattle.rights.specs.Register.{cell}
use Rattle.rights.specs.Sound.{headed, whole, readable}
use Rattle.rights.specs.Tally.{missing}
use Rattle.theory.proofs.Tests.{right_of}
use Rattle.theory.proofs.Ready.{whole_length}
use Rattle.tally.specs.Missing.{missing_at}

sum_split : (a b : ℕ) (f : ℕ → ℕ) → sum_below (a + b) f ≡ sum_below a f + sum_below b (λ k. f (a + k))
unfolding sum_below
sum_split a zero f = rw (add-zero a) (sym (add-zero (sum_below a f)))
sum_split a (suc b) f =
    rw (add-suc a b)
    (ap (λ (s : ℕ). s + f (a + b)) (sum_split a b f) ∙ add_assoc (sum_below a f) (sum_below b (λ k. f (a + k))) (f (a + b)))

-- byte by byte is row by row
sum_rows : (m n : ℕ) (f : ℕ → ℕ) → sum_below (m * n) f ≡ sum_below m (λ i. sum_below n (λ j. f (i * n + j)))
unfolding sum_below
sum_rows zero n f = let none : zero * n ≡ zero = omega arith in rw none
sum_rows (suc m) n f =
    let more : suc m * n ≡ m * n + n = omega arith in
    rw more (sum_split (m * n) n f ∙ ap (λ (s : ℕ). s + sum_below n (λ j. f (m * n + j))) (sum_rows m n f))

-- the first number's value before the others
sum_front : (n : ℕ) (f : ℕ → ℕ) → sum_below (suc n) f ≡ f 0 + sum_below n (λ k. f (suc k))
unfolding sum_below
sum_front zero f = omega arith
sum_front (suc n) f = ap (λ (s : ℕ). s + f (suc n)) (sum_front n f) ∙ add_assoc (f 0) (sum_below n (λ k. f (suc k))) (f (suc n))

-- what is missing from a pair of bytes
abbrev pub missing_of : ℕ × ℕ → ℕ
missing_of both = size (without both.0 both.1)

-- pair by pair is byte by byte
sum_pairs : (R S : List ℕ) → length R ≡ length S → sum_by missing_of (zip R S) ≡ sum_below (length R) (missing_at R S)
unfolding sum_below missing_at
sum_pairs [] S e = refl
sum_pairs (x ∷ R) [] e = absurd (omega (arith, e))
sum_pairs (x ∷ R) (y ∷ S) e =
    sum_by-cons missing_of (x, y) (zip R S)
    ∙ ap (λ (s : ℕ). size (without x y) + s) (sum_pairs R S (omega (arith, e)))
    ∙ sym (sum_front (length R) (missing_at (x ∷ R) (y ∷ S)))

-- the records that one register has and another lacks, pair by pair
pub missing_pairs :
    (h : Header) (R S : List ℕ) → readable h R ≡ true → readable h S ≡ true → sum_by missing_of (zip R S) ≡ missing h R S
unfolding missing missing_at cell
missing_pairs h R S r s =
    let long = whole_length h R (right_of (headed h) (whole h R) r) in
    let same = whole_length h S (right_of (headed h) (whole h S) s) in
    sum_pairs R S (long ∙ sym same) ∙ ap (λ (k : ℕ). sum_below k (missing_at R S)) long ∙ sum_rows h.n h.n (missing_at R S)
