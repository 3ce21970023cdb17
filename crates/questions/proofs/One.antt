-- The set of one office as an array of marks.
use Prim.Native.Nat.{ℕ, ◌≤◌, ◌<◌}
use native.Mathlib.Omega.{arith}
use mathlib.Core.Path.{◌≡◌, refl, sym, ◌∙◌}
use mathlib.Core.Logic.{⊎_elim}
use mathlib.Core.Bool.{true, false}
use lib.ListN.{get_or, set, replicate, length-set, length-replicate}
use lib.Seq.{get_or-set_same, get_or-set_other}
use lib.Dec.{eqb}
use borrow.Author.Tests.{eq-eqb, ne_eqb}
use Rattle.rights.specs.declared.Header.{Header}
use Rattle.rights.specs.Question.{single}
use Rattle.theory.proofs.Below.{same_or_not}
use Rattle.levels.specs.Padded.{padded}
use Rattle.levels.proofs.Padded.{all_none, padded_of}

module _ (h : Header) (j : ℕ) (few : h.n ≤ 128) (inside : j < h.n) where
  -- where the one mark stands
  one_mark : (k : ℕ) → get_or (set (replicate 128 false) j true) k false ≡ eqb j k
  one_mark k =
      ⊎_elim
      (λ (e : k ≡ j). rw (e, eq-eqb j j refl) (get_or-set_same (replicate 128 false) j true false (rw length-replicate (omega arith))))
      (λ (e : k ≡ j → ⊥). get_or-set_other (replicate 128 false) j k true false e ∙ all_none false 128 k ∙ sym (ne_eqb j k (λ q. e (sym q))))
      (same_or_not k j)

  pub single_marks : set (replicate 128 false) j true ≡ padded false (single h j)
  unfolding single
  single_marks =
      padded_of false (eqb j) h.n (set (replicate 128 false) j true) few
      (simp (length-set, length-replicate))
      (λ k l. one_mark k)
      (λ k l. one_mark k ∙ ne_eqb j k (λ e. omega arith))
