-- What the steps of a round, and of the whole deletion, come to, taken together.
use Prim.Native.Nat.{ℕ, ◌<◌}
use mathlib.Core.Path.{◌≡◌, refl, ap, sym, ◌∙◌}
use mathlib.Core.Bool.{Bool, true, false, not, cond}
use mathlib.Core.List.{List}
use lib.ListN.{length}
use lib.Dec.{eqb}
use Rattle.rights.specs.declared.Header.{Header}
use Rattle.rights.specs.Below.{table}
use Rattle.rights.specs.Sound.{readable}
use Rattle.rights.specs.Level.{is_in, level_in, levels, independent_levels}
use Rattle.rights.specs.Restriction.{restricted, columns_to, sweep}
use Rattle.rights.specs.Deletion.{losers, strong_round, column_step, until_rest, sgd, loses}
use Rattle.theory.proofs.Tests.{both}
use Rattle.theory.proofs.Below.{table_at}
use Rattle.theory.proofs.Restriction.{length-restricted, restricted_ext}
use Rattle.theory.proofs.Sweep.{length-sweep}
use Rattle.levels.specs.Padded.{padded, padded_independent}
use Rattle.levels.proofs.Padded.{get_or-padded}
use Rattle.levels.proofs.Given.{independent_read}
use Rattle.holdings.specs.Loser.{mark_by, padded_losers}
use Rattle.rows.specs.Whole.{if_whole}
use Rattle.rows.proofs.Guard.{in_whole}
use Rattle.columns.specs.Marked.{is_marked}
use Rattle.rows.proofs.Whole.{still_whole}
use Rattle.local.proofs.Made.{length-column_step}
use Rattle.strong.proofs.Rest.{until_padded}

mark_tells : (t : Bool) → not (eqb (cond t 1 0) 0) ≡ t
mark_tells true = refl
mark_tells false = refl

module _ (h : Header) (R S : List ℕ) (r : readable h R ≡ true) (s : readable h S ≡ true) where
  -- whoever has lost is marked
  lost_marked : (y : ℕ) → y < h.n → is_marked (padded_losers h R S) y ≡ is_in (losers h R S) y
  unfolding is_marked padded_losers mark_by losers is_in
  lost_marked y l =
      let marks = table h.n (mark_by h R (levels h R) S (levels h S)) in
      let kept : padded_losers h R S ≡ padded 0 marks = rw (both r s) in
      ap (λ (l : List ℕ). is_marked l y) kept
      ∙ ap (λ (v : ℕ). not (eqb v 0)) (get_or-padded 0 marks y ∙ table_at h.n (mark_by h R (levels h R) S (levels h S)) y 0 l)
      ∙ mark_tells (loses h R (levels h R) S (levels h S) y)
      ∙ sym (table_at h.n (loses h R (levels h R) S (levels h S)) y false l)

  pub round_made :
      (own : List ℕ) {lost M N : List ℕ} →
      lost ≡ padded_losers h R S → M ≡ if_whole h S (restricted h S (columns_to (is_marked lost) own)) → N ≡ if_whole h M (sweep h M) →
      N ≡ strong_round h R own S
  unfolding strong_round columns_to
  round_made own {lost} e m n =
      let T = restricted h S (columns_to (is_in (losers h R S)) own) in
      let cut =
      m
      ∙ in_whole h S (restricted h S (columns_to (is_marked lost) own)) s
      ∙ ap (λ (l : List ℕ). restricted h S (columns_to (is_marked l) own)) e
      ∙ restricted_ext h S (columns_to (is_marked (padded_losers h R S)) own) (columns_to (is_in (losers h R S)) own)
      (λ x y hx hy. ap (λ (t : Bool). cond t (level_in own x) 2) (lost_marked y hy))
      in
      n
      ∙ ap (λ (M : List ℕ). if_whole h M (sweep h M)) cut
      ∙ in_whole h T (sweep h T) (still_whole h S T s (length-restricted h S (columns_to (is_in (losers h R S)) own)))

module _ (h : Header) (R : List ℕ) (r : readable h R ≡ true) (i j : ℕ) where
  -- before the rounds
  start_made : {M W : List ℕ} → M ≡ if_whole h R (column_step h R i j) → W ≡ if_whole h M (sweep h M) → W ≡ sweep h (column_step h R i j)
  start_made m w =
      let T = column_step h R i j in
      w
      ∙ ap (λ (M : List ℕ). if_whole h M (sweep h M)) (m ∙ in_whole h R T r)
      ∙ in_whole h T (sweep h T) (still_whole h R T r (length-column_step h R i j))

  pub start_readable : {M W : List ℕ} → M ≡ if_whole h R (column_step h R i j) → W ≡ if_whole h M (sweep h M) → readable h W ≡ true
  start_readable {W = W} m w = still_whole h R W r (ap length (start_made m w) ∙ length-sweep h (column_step h R i j))

  pub sgd_made :
      {own M W N : List ℕ} → own ≡ padded_independent h R i → M ≡ if_whole h R (column_step h R i j) → W ≡ if_whole h M (sweep h M) →
      N ≡ until_rest h R own h.n W → N ≡ sgd h R i j
  unfolding sgd
  sgd_made {own} o m w n =
      let T = sweep h (column_step h R i j) in
      n
      ∙ ap (until_rest h R own h.n) (start_made m w)
      ∙ ap (λ (own : List ℕ). until_rest h R own h.n T) (o ∙ independent_read h R i r)
      ∙ until_padded h R (independent_levels h R i) h.n T
