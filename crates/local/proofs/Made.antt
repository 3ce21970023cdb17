-- What the column step and the settling of a row come to, taken together.
use Prim.Native.Nat.{ℕ, ◌*◌, ◌<◌}
use native.Mathlib.Omega.{arith}
use mathlib.Core.Path.{◌≡◌, refl, ap, ap₂, sym, ◌∙◌}
use mathlib.Core.Logic.{⊎_elim}
use mathlib.Core.Bool.{true}
use mathlib.Core.List.{List}
use lib.ListN.{length, replicate, get_or-replicate}
use lib.Seq.{get_or-set_same, get_or-set_other}
use lib.Dec.{eqb}
use borrow.Author.Tests.{eq-eqb, ne_eqb}
use Rattle.rights.specs.declared.Header.{Header}
use Rattle.rights.specs.Sound.{headed, whole, readable}
use Rattle.rights.specs.Restriction.{restricted, row_to, columns_to}
use Rattle.rights.specs.Level.{level_in, levels, independent_levels}
use Rattle.rights.specs.Deletion.{column_step, handed_over, row_settled}
use Rattle.theory.proofs.Tests.{both, left_of}
use Rattle.theory.proofs.Below.{same_or_not}
use Rattle.theory.proofs.Ready.{headed_high}
use Rattle.theory.proofs.Restriction.{length-restricted, restricted_ext}
use Rattle.levels.specs.Padded.{padded, padded_levels, padded_independent}
use Rattle.columns.specs.Marked.{is_marked}
use Rattle.local.specs.Mark.{only_mark}
use Rattle.rows.specs.Whole.{if_whole}
use Rattle.cuts.specs.Stored.{if_both_whole}
use Rattle.levels.proofs.Given.{level_padded, levels_read}
use Rattle.rows.proofs.Whole.{if_whole_ext, still_whole}

-- the column step: one column is marked, and the levels are i's independent ones
none : ℕ
none = 0

unmarked : List ℕ
unmarked = replicate 128 0

only_marked : (j y : ℕ) → y < 128 → is_marked (only_mark j) y ≡ eqb j y
unfolding is_marked only_mark unmarked none
only_marked j y l =
    ⊎_elim
    (λ (e : y ≡ j). rw (e, get_or-set_same unmarked j 1 0 (rw e at l), eq-eqb j j refl))
    (λ (ne : y ≡ j → ⊥). rw (get_or-set_other unmarked j y 1 0 ne, get_or-replicate 128 y none none l, ne_eqb j y (λ e. ne (sym e))))
    (same_or_not y j)

module _ (h : Header) (R : List ℕ) (i j : ℕ) where
  columns_stepped : readable h R ≡ true → restricted h R (columns_to (is_marked (only_mark j)) (padded_independent h R i)) ≡ column_step h R i j
  unfolding column_step columns_to padded_independent
  columns_stepped t =
      let few = headed_high h (left_of (headed h) (whole h R) t) in
      rw t
      (restricted_ext h R (columns_to (is_marked (only_mark j)) (padded 0 (independent_levels h R i))) (columns_to (eqb j) (independent_levels h R i))
      (λ x y hx hy. rw (only_marked j y (omega arith), level_padded (independent_levels h R i) x)))

  pub column_step_made :
      {own marks S : List ℕ} → own ≡ padded_independent h R i → marks ≡ only_mark j →
      S ≡ if_whole h R (restricted h R (columns_to (is_marked marks) own)) → S ≡ if_whole h R (column_step h R i j)
  column_step_made o m s =
      s
      ∙ ap₂ (λ (o m : List ℕ). if_whole h R (restricted h R (columns_to (is_marked m) o))) o m
      ∙ if_whole_ext h R (restricted h R (columns_to (is_marked (only_mark j)) (padded_independent h R i))) (column_step h R i j) columns_stepped

  pub length-column_step : length (column_step h R i j) ≡ h.n * h.n
  unfolding column_step
  length-column_step = length-restricted h R (columns_to (eqb j) (independent_levels h R i))

-- row j settled: j's level is taken after the column step, and what row j lost is handed over
pub settle_made :
    (h : Header) (B M : List ℕ) (i j : ℕ) {ls L S : List ℕ} {v : ℕ} →
    readable h M ≡ true → readable h B ≡ true →
    ls ≡ padded_levels h M → v ≡ level_in ls j → L ≡ if_whole h M (restricted h M (row_to j v)) →
    S ≡ if_both_whole h B L (handed_over h B L i j) → S ≡ row_settled h B M i j
unfolding if_both_whole if_whole row_settled
settle_made h B M i j {v = v} m b e level l s =
    let settled : restricted h M (row_to j v) ≡ restricted h M (row_to j (level_in (levels h M) j)) =
    ap (λ (v : ℕ). restricted h M (row_to j v)) (level ∙ ap (λ (ls : List ℕ). level_in ls j) (e ∙ levels_read h M m) ∙ level_padded (levels h M) j)
    in
    let N = restricted h M (row_to j (level_in (levels h M) j)) in
    let kept : if_whole h M (restricted h M (row_to j v)) ≡ N = rw m settled in
    let still = still_whole h M N m (length-restricted h M (row_to j (level_in (levels h M) j))) in
    s ∙ ap (λ (L : List ℕ). if_both_whole h B L (handed_over h B L i j)) (l ∙ kept) ∙ rw (both b still)
