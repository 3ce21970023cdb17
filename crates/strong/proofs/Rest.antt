-- The rounds of strong global deletion, one after the other.
use Prim.Native.Nat.{ℕ, zero, suc, ◌+◌, ◌-◌, ◌*◌, ◌<◌, ◌≤◌}
use native.Mathlib.Omega.{arith}
use mathlib.Core.Path.{◌≡◌, refl, ap, sym, ◌∙◌}
use mathlib.Core.Logic.{⊎_elim}
use mathlib.Core.Bool.{Bool, true, false, cond}
use mathlib.Core.List.{List}
use lib.ListN.{length}
use Rattle.rights.specs.declared.Header.{Header}
use Rattle.rights.specs.Sound.{headed, whole, readable}
use Rattle.rights.specs.Level.{is_in}
use Rattle.rights.specs.Restriction.{restricted, columns_to, sweep}
use Rattle.rights.specs.Deletion.{losers, strong_round, same, until_rest}
use Rattle.theory.proofs.Tests.{decided, right_of}
use Rattle.theory.proofs.Ready.{whole_length}
use Rattle.theory.proofs.Restriction.{restricted_ext}
use Rattle.theory.proofs.Sweep.{length-sweep}
use Rattle.theory.proofs.Rest.{until_same, until_next}
use Rattle.levels.specs.Padded.{padded}
use Rattle.levels.proofs.Given.{level_padded}
use Rattle.rows.proofs.Whole.{still_whole}
use Rattle.strong.proofs.Alike.{same_registers}

module _ (h : Header) (R own : List ℕ) where
  pub length_round : (S : List ℕ) → length (strong_round h R own S) ≡ h.n * h.n
  unfolding strong_round
  length_round S = length-sweep h (restricted h S (columns_to (is_in (losers h R S)) own))

  -- levels made up to 128 entries serve in the rounds as the levels themselves
  round_padded : (S : List ℕ) → strong_round h R (padded 0 own) S ≡ strong_round h R own S
  unfolding strong_round columns_to
  round_padded S =
      let test = is_in (losers h R S) in
      ap (sweep h) (restricted_ext h S (columns_to test (padded 0 own)) (columns_to test own) (λ x y hx hy. ap (λ (v : ℕ). cond (test y) v 2) (level_padded own x)))

  pub until_padded : (k : ℕ) (S : List ℕ) → until_rest h R (padded 0 own) k S ≡ until_rest h R own k S
  unfolding until_rest
  until_padded zero S = refl
  until_padded (suc k) S =
      let long = strong_round h R (padded 0 own) S in
      let next = strong_round h R own S in
      let e : same h long S ≡ same h next S = ap (λ (N : List ℕ). same h N S) (round_padded S) in
      ⊎_elim
      (λ (q : same h next S ≡ true). until_same h R (padded 0 own) k S (e ∙ q) ∙ sym (until_same h R own k S q))
      (λ (q : same h next S ≡ false).
      until_next h R (padded 0 own) k S (e ∙ q) ∙ until_padded k long ∙ ap (until_rest h R own k) (round_padded S) ∙ sym (until_next h R own k S q))
      (decided (same h next S))

  -- after the last round none is left
  pub none_left : (n k : ℕ) (S : List ℕ) → n ≤ k → until_rest h R own (n - k) S ≡ S
  unfolding until_rest
  none_left n k S l = let none : n - k ≡ 0 = omega arith in rw none

  module _ (n k : ℕ) (more : k < n) (S first : List ℕ) {N : List ℕ} {rests : Bool} (made : N ≡ strong_round h R own S) (tells : rests ≡ same h N S)
      (left : until_rest h R own (n - k) S ≡ until_rest h R own n first) where
    one_more : n - k ≡ suc (n - (k + 1))
    one_more = omega arith

    -- the round that alters nothing is the last
    pub last_round : readable h S ≡ true → rests ≡ true → N ≡ until_rest h R own n first
    last_round s q =
        let now : same h (strong_round h R own S) S ≡ true = rw made at (sym tells ∙ q) in
        made
        ∙ same_registers h (strong_round h R own S) S (length_round S) (whole_length h S (right_of (headed h) (whole h S) s)) now
        ∙ sym (until_same h R own (n - (k + 1)) S now)
        ∙ ap (λ (m : ℕ). until_rest h R own m S) (sym one_more)
        ∙ left

    -- after another the rounds go on
    pub next_round : rests ≡ false → until_rest h R own (n - (k + 1)) N ≡ until_rest h R own n first
    next_round q =
        let now : same h (strong_round h R own S) S ≡ false = rw made at (sym tells ∙ q) in
        ap (until_rest h R own (n - (k + 1))) made
        ∙ sym (until_next h R own (n - (k + 1)) S now)
        ∙ ap (λ (m : ℕ). until_rest h R own m S) (sym one_more)
        ∙ left

    pub round_readable : readable h S ≡ true → readable h N ≡ true
    round_readable s = still_whole h S N s (ap length made ∙ length_round S)
