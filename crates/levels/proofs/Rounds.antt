-- Rounds over marks made up to 128 are the rounds of the definition.
use Prim.Native.Nat.{ℕ, suc, ◌+◌, ◌≤◌, ◌<◌}
use native.Mathlib.Numerals.{add-one}
use native.Mathlib.Omega.{arith}
use mathlib.Core.Path.{◌≡◌, refl, ap, sym, ◌∙◌}
use mathlib.Core.Logic.{⊎_elim}
use mathlib.Core.Bool.{Bool, false, not}
use mathlib.Core.List.{List}
use lib.ListN.{get_or, set, replicate, length-set, length-replicate}
use lib.Seq.{get_or-set_same, get_or-set_other}
use lib.Dec.{eqb}
use borrow.Author.Tests.{eqb-true, eqb-false}
use Rattle.rights.specs.declared.Header.{Header}
use Rattle.rights.specs.Below.{table}
use Rattle.rights.specs.declared.Permission.{Permission}
use Rattle.rights.specs.Register.{soa_of}
use Rattle.rights.specs.Level.{is_in, reached, other_than, marked_first, marking}
use Rattle.theory.proofs.Tests.{decided}
use Rattle.theory.proofs.Growth.{stays}
use Rattle.theory.proofs.Level.{marking_ext}
use Rattle.levels.specs.Padded.{padded}
use Rattle.levels.proofs.Padded.{all_none, get_or-padded, padded_of}

-- a set made up to 128 is the same set
pub in_padded : (set : List Bool) (y : ℕ) → is_in (padded false set) y ≡ is_in set y
unfolding is_in
in_padded set y = get_or-padded false set y

module _ (h : Header) (R : List ℕ) (out : ℕ) (p : Permission) where
  -- the next round of the definition, from the marks made up to 128
  pub next_round : (d : ℕ) → reached h R (other_than out) p (suc d) ≡ marking h R (other_than out) p (padded false (reached h R (other_than out) p d))
  unfolding reached
  next_round d =
      sym (marking_ext h R (other_than out) p _ _ (λ y l. in_padded (reached h R (other_than out) p d) y))

-- at first SOA alone is marked, or nobody where it is left out
pub first_marks :
    (h : Header) (out : ℕ) →
    h.n ≤ 128 →
    soa_of h < h.n →
    set (replicate 128 false) (soa_of h) (not (eqb (soa_of h) out)) ≡ padded false (table h.n (marked_first h (other_than out)))
unfolding other_than
first_marks h out small inside =
    padded_of false (marked_first h (other_than out)) h.n (set (replicate 128 false) (soa_of h) (not (eqb (soa_of h) out))) small
    (simp (length-set, length-replicate))
    (λ k l. ⊎_elim
    (λ t. let e : k ≡ soa_of h = eqb-true k (soa_of h) t in
    rw (t, e) (get_or-set_same (replicate 128 false) (soa_of h) (not (eqb (soa_of h) out)) false (rw length-replicate (omega arith))))
    (λ t. rw t (other k (eqb-false k (soa_of h) t)))
    (decided (eqb k (soa_of h))))
    (λ k l. other k (λ e. let l' : soa_of h < k = omega arith in omega arith))
  where
    other : (k : ℕ) → (k ≡ soa_of h → ⊥) → get_or (set (replicate 128 false) (soa_of h) (not (eqb (soa_of h) out))) k false ≡ false
    other k ne = get_or-set_other (replicate 128 false) (soa_of h) k (not (eqb (soa_of h) out)) false ne ∙ all_none false 128 k

module _ (h : Header) (R : List ℕ) (out : ℕ) (p : Permission) where
  -- the marks after so many rounds, made up to 128
  unfoldable pub marks_after : ℕ → List Bool
  marks_after d = padded false (reached h R (other_than out) p d)

  pub marks_first : padded false (table h.n (marked_first h (other_than out))) ≡ marks_after 0
  unfolding marks_after reached
  marks_first = refl

  marks_step : (d : ℕ) → marks_after (suc d) ≡ padded false (marking h R (other_than out) p (marks_after d))
  unfolding marks_after
  marks_step d = ap (padded false) (next_round h R out p d)

  pub marks_next : (d : ℕ) → padded false (marking h R (other_than out) p (marks_after d)) ≡ marks_after (d + 1)
  marks_next d = rw add-one (sym (marks_step d))

  -- a round that adds nothing is the last
  pub marks_rest : (d : ℕ) → d ≤ h.n → padded false (marking h R (other_than out) p (marks_after d)) ≡ marks_after d → marks_after d ≡ marks_after h.n
  marks_rest d l e =
      sym (stays (λ marks. padded false (marking h R (other_than out) p marks)) marks_after marks_step d h.n l (marks_step d ∙ e))
