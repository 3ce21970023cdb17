-- A row of which the marked cells are restricted one after the other.
use Rattle.std.proofs.Common.{ℕ, ◌≡◌, ◌+◌, ◌<◌, ◌≤◌, List, length, get_or, set, refl, sym, ap, ◌∙◌, arith, get_or-set_other, get_or-set_same}
use mathlib.Core.Logic.{⊎_elim}
use lib.Seq.{ext_get_or}
use Rattle.rights.specs.Below.{table}
use Rattle.rights.specs.Cell.{restrict}
use Rattle.theory.proofs.Below.{last_or_below, length-table, table_at}
use Rattle.rows.specs.Row.{to_levels}

-- Where such a loop stands before cell y: S is what it has made of R.
pub record Turned (level : ℕ → ℕ) (R S : List ℕ) (y : ℕ) : Type 0 where
  pub done : (k : ℕ) → k < y → get_or S k 0 ≡ restrict (get_or R k 0) (level k)
  pub kept : (k : ℕ) → y ≤ k → get_or S k 0 ≡ get_or R k 0

module _ (level : ℕ → ℕ) (R : List ℕ) where
  pub turned_start : Turned level R R 0
  turned_start = record { done = λ k l. absurd (omega arith); kept = λ k l. refl }

  -- a turn
  pub turned_set : (S : List ℕ) (y v : ℕ) → Turned level R S y → y < length S → v ≡ restrict (get_or S y 0) (level y) → Turned level R (set S y v) (y + 1)
  turned_set S y v t l e =
      record {
        done = λ k below.
            ⊎_elim
            (λ (same : k ≡ y). rw (same, get_or-set_same S y v 0 l) (e ∙ ap (λ c. restrict c (level y)) (t.kept y (omega arith))))
            (λ (before : k < y). get_or-set_other S y k v 0 (λ e. omega (arith, before)) ∙ t.done k before)
            (last_or_below k y (omega arith));
        kept = λ k above. get_or-set_other S y k v 0 (λ e. omega (arith, above)) ∙ t.kept k (omega arith);
      }

  pub turned_over : (S : List ℕ) (y : ℕ) → Turned level R S y → length S ≡ length R → length R ≤ y → S ≡ to_levels level R
  unfolding to_levels
  turned_over S y t long over =
      ext_get_or 0 S (table (length R) (λ k. restrict (get_or R k 0) (level k)))
      (long ∙ sym (length-table (length R) (λ k. restrict (get_or R k 0) (level k))))
      (λ k l. t.done k (omega arith) ∙ sym (table_at (length R) (λ k. restrict (get_or R k 0) (level k)) k 0 (omega (arith, long))))
