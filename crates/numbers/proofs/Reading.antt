-- Reading a number, digit by digit, at a place in the text.
use Prim.Native.Nat.{ℕ, ◌+◌, ◌*◌, ◌-◌, ◌≤◌, ◌<◌}
use Rattle.std.specs.Prelude.{◌≢◌}
use mathlib.Core.Path.{◌≡◌, refl, sym, ap, ◌∙◌}
use mathlib.Core.Bool.{Bool, true, false}
use mathlib.Core.List.{List}
use native.Mathlib.Omega.{arith}
use lib.Dec.{leb}
use Rattle.std.proofs.Math.Bool.{and-false}
use Rattle.std.proofs.lemmas.List.{get_or_read}
use lib.ListN.{length, get_or, drop, drop_of_length-le}
use Rattle.std.specs.declared.option.Option.{Option}
use Rattle.std.specs.declared.option.Option.TheVariants.{Some, None}
use Rattle.std.specs.Bool.{then_some}
use Rattle.std.specs.Option.{SomeIff}
use Rattle.std.specs.Char.{is_ascii_digit}
use borrow.Author.Tests.{leb-true, le-leb, lt-leb, eq-eqb, ne_eqb}
use Rattle.theory.proofs.Tests.{left_of, right_of}
use Rattle.wording.specs.Line.{is_digit, extended, goes_on, digits, number}
use Rattle.wording.proofs.Number.{goes_on_lem, digits_more, digits_stop, digits_end}
use Rattle.numbers.specs.Line.{line_read}
use Rattle.numbers.proofs.Byte.{from_byte, offset-drop}

pub record Digit (b : ℕ) : Type 0 where
  pub low : 48 ≤ b
  pub high : b ≤ 57

pub is_a_digit : (b : ℕ) → is_digit b ≡ true → Digit b
unfolding is_digit
is_a_digit b e = record { low = leb-true 48 b (left_of (leb 48 b) (leb b 57) e); high = leb-true b 57 (right_of (leb 48 b) (leb b 57) e) }

-- the library's test of a digit
pub ascii-digit : (b : ℕ) → is_ascii_digit b ≡ is_digit b
unfolding is_digit
ascii-digit b = refl

-- a number does not go on with another byte, nor behind a 0, nor above 65535
pub not_with : (v b : ℕ) → is_digit b ≡ false → None ≡ then_some (goes_on v b) (extended v b)
unfolding goes_on
not_with v b e = rw e refl

pub not_behind_zero : (v b : ℕ) → v ≡ 0 → None ≡ then_some (goes_on v b) (extended v b)
unfolding goes_on
not_behind_zero v b h = rw (h, and-false (is_digit b)) refl

not_above : (v b : ℕ) → is_digit b ≡ true → 65535 < 10 * v + (b - 48) → None ≡ then_some (goes_on v b) (extended v b)
unfolding goes_on extended
not_above v b e h = rw (e, lt-leb _ _ h, and-false (leb 1 v)) refl

one_more : (v b : ℕ) → is_digit b ≡ true → 1 ≤ v → 10 * v + (b - 48) ≤ 65535 → Some (10 * v + (b - 48)) ≡ then_some (goes_on v b) (extended v b)
unfolding goes_on extended
one_more v b e h small = rw (e, le-leb 1 v h, le-leb _ _ small) refl

-- the steps that the library checks: one fails, or both are done
pub not_times-ten : (v b : ℕ) → is_digit b ≡ true → (v * 10 < 65536 → ⊥) → None ≡ then_some (goes_on v b) (extended v b)
not_times-ten v b e h = not_above v b e (omega arith)

pub times_ten : (v b w : ℕ) (r : Option ℕ) → is_digit b ≡ true → 1 ≤ v → w ≡ v * 10 → SomeIff r (w + (b - 48) < 65536) (w + (b - 48)) → r ≡ then_some (goes_on v b) (extended v b)
times_ten v b w None d h e large = not_above v b d (omega arith)
times_ten v b w (Some x) d h e sum = (let same : x ≡ 10 * v + (b - 48) = omega (arith, sum.1) in ap Some same) ∙ one_more v b d h (omega (arith, sum.0))

-- what the answer says of both
gone_on : (v b w : ℕ) → Some w ≡ then_some (goes_on v b) (extended v b) → (goes_on v b ≡ true) × (w ≡ extended v b)
gone_on v b w e = go (goes_on v b) refl e
  where
    go : (t : Bool) → goes_on v b ≡ t → Some w ≡ then_some t (extended v b) → (goes_on v b ≡ true) × (w ≡ extended v b)
    go true q f = (q, cc)
    go false q f = absurd (cc)

not_gone_on : (v b : ℕ) → None ≡ then_some (goes_on v b) (extended v b) → goes_on v b ≡ false
not_gone_on v b e = go (goes_on v b) refl e
  where
    go : (t : Bool) → goes_on v b ≡ t → None ≡ then_some t (extended v b) → goes_on v b ≡ false
    go true q f = absurd (cc)
    go false q f = q

module _ (text : List ℕ) (at : ℕ) where
  pub number-none : length text ≤ at → None ≡ line_read text (number (drop at text))
  unfolding number line_read
  number-none h = rw (drop_of_length-le text {i = at} h) refl

  -- no number starts with this byte
  pub number_other : {b : ℕ} → at < length text → b ≡ get_or text at b → is_digit b ≡ false → None ≡ line_read text (number (drop at text))
  unfolding number line_read
  number_other {b} h r e = rw (from_byte text at h, ← (get_or_read text at b h r 0), e) refl

-- the number so far is v, and the byte i comes next: what is left gives what the whole number gives
pub record NumberSoFar (text : List ℕ) (at v i : ℕ) : Type 0 where
  pub within : i ≤ length text
  pub small : v ≤ 65535
  pub left : digits v (drop i text) ≡ number (drop at text)

pub number_start : (text : List ℕ) (at b : ℕ) → at < length text → b ≡ get_or text at b → is_digit b ≡ true → NumberSoFar text at (b - 48) (at + 1)
unfolding number
number_start text at b h r e =
    let d = is_a_digit b e in
    record { within = omega arith; small = omega arith; left = rw (from_byte text at h, ← (get_or_read text at b h r 0), e) refl }

module _ {text : List ℕ} {at v i : ℕ} (s : NumberSoFar text at v i) where
  -- one more digit, which makes the number w
  pub number_more :
      {w : ℕ} → i < length text → get_or text i 0 ≢ 10 → Some w ≡ then_some (goes_on v (get_or text i 0)) (extended v (get_or text i 0)) →
      NumberSoFar text at w (i + 1)
  number_more {w} h ne e =
      let g = gone_on v (get_or text i 0) w e in
      record {
        within = omega arith;
        small = rw g.1 (goes_on_lem v (get_or text i 0) g.0).small;
        left = rw g.1 (sym (digits_more v (get_or text i 0) (drop (i + 1) text) (ne_eqb _ _ ne) g.0) ∙ (rw (← (from_byte text i h)) s.left));
      }

  -- a byte with which the number does not go on
  pub number_stop :
      i < length text → get_or text i 0 ≢ 10 → None ≡ then_some (goes_on v (get_or text i 0)) (extended v (get_or text i 0)) →
      None ≡ line_read text (number (drop at text))
  unfolding line_read
  number_stop h ne e =
      rw (← s.left, from_byte text i h, digits_stop v (get_or text i 0) (drop (i + 1) text) (ne_eqb _ _ ne) (not_gone_on v (get_or text i 0) e)) refl

  -- LF
  pub number_end : i < length text → get_or text i 0 ≡ 10 → Some (v, i + 1) ≡ line_read text (number (drop at text))
  unfolding line_read
  number_end h e =
      rw (← s.left, from_byte text i h, digits_end v (get_or text i 0) (drop (i + 1) text) (eq-eqb _ _ e), offset-drop text (i + 1) (omega arith)) refl

  -- no LF
  pub number-missing : length text ≤ i → None ≡ line_read text (number (drop at text))
  unfolding line_read digits
  number-missing h = rw (← s.left, drop_of_length-le text {i = i} h) refl
