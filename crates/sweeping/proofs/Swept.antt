-- What the steps of a sweep and of weak global deletion come to, taken together.
use Prim.Native.Nat.{ℕ, ◌*◌}
use mathlib.Core.Path.{◌≡◌, ap, ◌∙◌}
use mathlib.Core.List.{List}
use lib.ListN.{length}
use Rattle.rights.specs.declared.Header.{Header}
use Rattle.rights.specs.Restriction.{restricted, rows_to, empty_where, is_cell, sweep, emptied}
use Rattle.rights.specs.Deletion.{wgd}
use Rattle.theory.proofs.Restriction.{length-restricted}
use Rattle.levels.specs.Padded.{padded_levels}
use Rattle.rows.specs.Whole.{if_whole}
use Rattle.rows.proofs.Whole.{if_whole_ext, if_whole_then}
use Rattle.sweeping.proofs.Padded.{rows_swept}

module _ (h : Header) (R : List ℕ) where
  pub sweep_made : {ls S : List ℕ} → ls ≡ padded_levels h R → S ≡ if_whole h R (restricted h R (rows_to ls)) → S ≡ if_whole h R (sweep h R)
  sweep_made e s =
      s
      ∙ ap (λ (ls : List ℕ). if_whole h R (restricted h R (rows_to ls))) e
      ∙ if_whole_ext h R (restricted h R (rows_to (padded_levels h R))) (sweep h R) (rows_swept h R)

  pub length-emptied : (i j : ℕ) → length (emptied h R i j) ≡ h.n * h.n
  unfolding emptied
  length-emptied i j = length-restricted h R (empty_where (is_cell i j))

  pub wgd_made : (i j : ℕ) {M S : List ℕ} → M ≡ if_whole h R (emptied h R i j) → S ≡ if_whole h M (sweep h M) → S ≡ if_whole h R (wgd h R i j)
  unfolding wgd
  wgd_made i j m s =
      s
      ∙ ap (λ (M : List ℕ). if_whole h M (sweep h M)) m
      ∙ if_whole_then h R (emptied h R i j) (sweep h) (length-emptied i j)
