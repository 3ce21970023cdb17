-- A local deletion: the register before is kept, and settling row j looks back at it.
use Rattle.std.proofs.Common.{ℕ, ◌*◌, ◌≡◌, List, length, true, ap, ◌∙◌}
use Rattle.rights.specs.declared.Header.{Header}
use Rattle.rights.specs.Sound.{readable}
use Rattle.rights.specs.Restriction.{emptied}
use Rattle.rights.specs.Deletion.{column_step, row_settled, wld, sld}
use Rattle.rows.specs.Whole.{if_whole}
use Rattle.rows.proofs.Guard.{in_whole}
use Rattle.rows.proofs.Whole.{still_whole}
use Rattle.sweeping.proofs.Swept.{length-emptied}
use Rattle.local.proofs.Made.{length-column_step}

module _ (h : Header) (R : List ℕ) (i j : ℕ) (t : readable h R ≡ true) where
  -- what a first step leaves can be read
  step_readable : (X : List ℕ) {M : List ℕ} → length X ≡ h.n * h.n → M ≡ if_whole h R X → readable h M ≡ true
  step_readable X e m = let is = m ∙ in_whole h R X t in rw is (still_whole h R X t e)

  pub emptied_readable : {M : List ℕ} → M ≡ if_whole h R (emptied h R i j) → readable h M ≡ true
  emptied_readable m = step_readable _ (length-emptied h R i j) m

  pub stepped_readable : {M : List ℕ} → M ≡ if_whole h R (column_step h R i j) → readable h M ≡ true
  stepped_readable m = step_readable _ (length-column_step h R i j) m

  -- the two local deletions, by what their first step leaves
  pub wld_made : {M S : List ℕ} → M ≡ if_whole h R (emptied h R i j) → S ≡ row_settled h R M i j → S ≡ wld h R i j
  unfolding wld
  wld_made m s = s ∙ ap (λ (M : List ℕ). row_settled h R M i j) (m ∙ in_whole h R (emptied h R i j) t)

  pub sld_made : {M S : List ℕ} → M ≡ if_whole h R (column_step h R i j) → S ≡ row_settled h R M i j → S ≡ sld h R i j
  unfolding sld
  sld_made m s = s ∙ ap (λ (M : List ℕ). row_settled h R M i j) (m ∙ in_whole h R (column_step h R i j) t)
