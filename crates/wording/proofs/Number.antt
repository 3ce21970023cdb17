-- Numbers in decimal: what is read is written again, and what is written is read again.
use Prim.Native.Nat.{ℕ, zero, suc, ◌+◌, ◌*◌, ◌-◌, ◌/◌, ◌%◌, ◌≤◌, ◌<◌}
use mathlib.Core.Path.{◌≡◌, refl, sym, ap, ◌∙◌}
use mathlib.Core.Bool.{Bool, true, false, ◌&&◌}
use mathlib.Core.List.{List, [], ◌∷◌, ◌++◌, append_assoc}
use native.Mathlib.Omega.{arith}
use lib.Dec.{eqb, ltb, leb}
use borrow.Author.Tests.{eqb-true, ltb-true, ltb-false, leb-true, ne_eqb, le-leb, lt-ltb, le-ltb}
use Rattle.theory.proofs.Tests.{left_of, right_of}
use Rattle.wording.proofs.Truth.{never}
use Rattle.wording.specs.Word.{lf}
use Rattle.wording.specs.Line.{value, bad, is_digit, extended, goes_on, digits, number, numeral_by, numeral}

numeral_short : (k v : ℕ) → v < 10 → numeral_by k v ≡ (48 + v) ∷ []
unfolding numeral_by
numeral_short zero v h = refl
numeral_short (suc k) v h = rw (lt-ltb v 10 h, numeral_by)

numeral_long : (k v : ℕ) → 10 ≤ v → numeral_by (suc k) v ≡ numeral_by k (v / 10) ++ ((48 + v % 10) ∷ [])
unfolding numeral_by
numeral_long k v h = rw (le-ltb v 10 h, numeral_by)

-- more divisions than the number has digits change nothing
numeral-enough : (k l v : ℕ) → v ≤ k → v ≤ l → numeral_by k v ≡ numeral_by l v
numeral-enough zero l v a b = numeral_short zero v (omega arith) ∙ sym (numeral_short l v (omega arith))
numeral-enough (suc k) zero v a b = numeral_short (suc k) v (omega arith) ∙ sym (numeral_short zero v (omega arith))
numeral-enough (suc k) (suc l) v a b = go (numeral-enough k l (v / 10)) (ltb v 10) refl
  where
    go : (v / 10 ≤ k → v / 10 ≤ l → numeral_by k (v / 10) ≡ numeral_by l (v / 10)) → (t : Bool) → ltb v 10 ≡ t → numeral_by (suc k) v ≡ numeral_by (suc l) v
    go ih true e =
        let h = ltb-true v 10 e in
        numeral_short (suc k) v h ∙ sym (numeral_short (suc l) v h)
    go ih false e =
        let h = ltb-false v 10 e in
        rw (numeral_long k v h, numeral_long l v h, ih (omega arith) (omega arith))

-- a number of one digit
pub numeral_digit : (v : ℕ) → v < 10 → numeral v ≡ (48 + v) ∷ []
unfolding numeral
numeral_digit v h = numeral_short v v h

-- a number of more digits: its last digit behind the others
pub numeral-more : (v : ℕ) → 10 ≤ v → numeral v ≡ numeral (v / 10) ++ ((48 + v % 10) ∷ [])
unfolding numeral
numeral-more zero h = let z : ⊥ = omega arith in absurd z
numeral-more (suc v) h = rw (numeral_long v (suc v) h, numeral-enough v (suc v / 10) (suc v / 10) (omega arith) (omega arith))

-- one more digit behind a number
numeral-extended : (v b : ℕ) → 1 ≤ v → 48 ≤ b → b ≤ 57 → numeral (extended v b) ≡ numeral v ++ (b ∷ [])
unfolding extended
numeral-extended v b hv lo hi =
    let d : (10 * v + (b - 48)) / 10 ≡ v = omega arith in
    let m : 48 + (10 * v + (b - 48)) % 10 ≡ b = omega arith in
    rw (numeral-more (10 * v + (b - 48)) (omega arith), d, m)

-- what goes on, taken apart
pub record GoesOn (v b : ℕ) : Type 0 where
  pub low : 48 ≤ b
  pub high : b ≤ 57
  pub started : 1 ≤ v
  pub small : extended v b ≤ 65535

pub goes_on_lem : (v b : ℕ) → goes_on v b ≡ true → GoesOn v b
unfolding goes_on is_digit
goes_on_lem v b e =
    let digit = left_of _ _ (left_of _ _ e) in
    record {
      low = leb-true 48 b (left_of _ _ digit);
      high = leb-true b 57 (right_of (leb 48 b) _ digit);
      started = leb-true 1 v (right_of (leb 48 b && leb b 57) _ (left_of _ _ e));
      small = leb-true (extended v b) 65535 (right_of (leb 48 b && leb b 57 && leb 1 v) _ e);
    }

-- the reader of digits, byte by byte: a digit that goes on, a byte that does not, and LF
pub digits_more : (v b : ℕ) (text : List ℕ) → eqb b lf ≡ false → goes_on v b ≡ true → digits v (b ∷ text) ≡ digits (extended v b) text
unfolding digits
digits_more v b text e g = rw (e, g, digits)

pub digits_stop : (v b : ℕ) (text : List ℕ) → eqb b lf ≡ false → goes_on v b ≡ false → digits v (b ∷ text) ≡ bad
unfolding digits
digits_stop v b text e g = rw (e, g, digits)

pub digits_end : (v b : ℕ) (text : List ℕ) → eqb b lf ≡ true → digits v (b ∷ text) ≡ value v text
unfolding digits
digits_end v b text e = rw (e, digits)

-- what is read behind the number so far is the rest of a numeral, and its value fits
record DigitsRead (v : ℕ) (text : List ℕ) (w : ℕ) (rest : List ℕ) : Type 0 where
  written : numeral w ++ (lf ∷ rest) ≡ numeral v ++ text
  small : v ≤ 65535 → w ≤ 65535

digits_read : (text : List ℕ) (v w : ℕ) (rest : List ℕ) → digits v text ≡ value w rest → DigitsRead v text w rest
unfolding digits
digits_read [] v w rest e = never (cc)
digits_read (b ∷ text) v w rest e = go (digits_read text (extended v b) w rest) (eqb b lf) refl (goes_on v b) refl
  where
    go : (digits (extended v b) text ≡ value w rest → DigitsRead (extended v b) text w rest) →
        (t : Bool) → eqb b lf ≡ t → (g : Bool) → goes_on v b ≡ g → DigitsRead v (b ∷ text) w rest
    go ih true q g r =
        let s : value v text ≡ value w rest = cc (digits_end v b text q) in
        let sv : v ≡ w = cc in
        record { written = cc (eqb-true b lf q); small = omega arith }
    go ih false q true r =
        let s = ih (sym (digits_more v b text q r) ∙ e) in
        let g = goes_on_lem v b r in
        let whole : numeral (extended v b) ++ text ≡ numeral v ++ (b ∷ text) = rw (numeral-extended v b g.started g.low g.high, append_assoc) in
        record { written = s.written ∙ whole; small = λ _. s.small g.small }
    go ih false q false r = never (cc (digits_stop v b text q r))

-- what is read as a number is its numeral and LF, and it fits
pub record NumberRead (text : List ℕ) (w : ℕ) (rest : List ℕ) : Type 0 where
  pub written : numeral w ++ (lf ∷ rest) ≡ text
  pub small : w ≤ 65535

pub number_read : (text : List ℕ) (w : ℕ) (rest : List ℕ) → number text ≡ value w rest → NumberRead text w rest
unfolding number is_digit
number_read [] w rest e = never (cc)
number_read (b ∷ text) w rest e = go (is_digit b) refl
  where
    go : (t : Bool) → is_digit b ≡ t → NumberRead (b ∷ text) w rest
    go true q =
        let low = leb-true 48 b (left_of _ _ q) in
        let high = leb-true b 57 (right_of (leb 48 b) _ q) in
        let s = digits_read text (b - 48) w rest (cc) in
        let one : 48 + (b - 48) ≡ b = omega arith in
        let whole : numeral (b - 48) ++ text ≡ b ∷ text = rw (numeral_digit (b - 48) (omega arith), one) in
        record { written = s.written ∙ whole; small = s.small (omega arith) }
    go false q = never (cc)

digit_true : (b : ℕ) → 48 ≤ b → b ≤ 57 → is_digit b ≡ true
unfolding is_digit
digit_true b lo hi = rw (le-leb 48 b lo, le-leb b 57 hi)

goes_on_true : (v b : ℕ) → 1 ≤ v → 48 ≤ b → b ≤ 57 → extended v b ≤ 65535 → goes_on v b ≡ true
unfolding goes_on
goes_on_true v b hv lo hi small = rw (digit_true b lo hi, le-leb 1 v hv, le-leb (extended v b) 65535 small)

-- a numeral leads the reader to its number; k bounds the number of digits
numeral_leads : (k v : ℕ) (text : List ℕ) → v ≤ k → v ≤ 65535 → number (numeral v ++ text) ≡ digits v text
unfolding number extended
numeral_leads zero v text hk h =
    let d : (48 + v) - 48 ≡ v = omega arith in
    rw (numeral_digit v (omega arith), digit_true (48 + v) (omega arith) (omega arith), d)
numeral_leads (suc k) v text hk h = go (numeral_leads k (v / 10) ((48 + v % 10) ∷ text)) (ltb v 10) refl
  where
    go : (v / 10 ≤ k → v / 10 ≤ 65535 → number (numeral (v / 10) ++ ((48 + v % 10) ∷ text)) ≡ digits (v / 10) ((48 + v % 10) ∷ text)) →
        (t : Bool) → ltb v 10 ≡ t → number (numeral v ++ text) ≡ digits v text
    go ih true e =
        let short = ltb-true v 10 e in
        let d : (48 + v) - 48 ≡ v = omega arith in
        rw (numeral_digit v short, digit_true (48 + v) (omega arith) (omega arith), d)
    go ih false e =
        let long = ltb-false v 10 e in
        let x : extended (v / 10) (48 + v % 10) ≡ v = omega arith in
        let s : extended (v / 10) (48 + v % 10) ≤ 65535 = omega arith in
        let g = goes_on_true (v / 10) (48 + v % 10) (omega arith) (omega arith) (omega arith) s in
        let q : eqb (48 + v % 10) lf ≡ false = ne_eqb (48 + v % 10) lf (λ z. omega arith) in
        let one : number (numeral v ++ text) ≡ number (numeral (v / 10) ++ ((48 + v % 10) ∷ text)) = rw (numeral-more v long, append_assoc) in
        one ∙ ih (omega arith) (omega arith) ∙ digits_more (v / 10) (48 + v % 10) text q g ∙ ap (λ n. digits n text) x

-- the numeral of a number that fits, and LF, is read as it
pub number-written : (v : ℕ) (rest : List ℕ) → v ≤ 65535 → number (numeral v ++ (lf ∷ rest)) ≡ value v rest
number-written v rest h = numeral_leads v v (lf ∷ rest) (omega arith) h ∙ digits_end v lf rest refl
