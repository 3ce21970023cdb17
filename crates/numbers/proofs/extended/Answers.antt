-- `numbers::extended` meets its contract: the library's checked steps fail where the number does not go on.
use Rattle.std.proofs.Common.{arith, sym, ◌∙◌}
use Rattle.numbers.proofs.Reading.{ascii-digit, not_with, not_behind_zero, not_times-ten, times_ten}
use Rattle.numbers.proofs.extended.Goals as goal
use Rattle.numbers.proofs.extended.Goals.{then-v-eq0-via-then-v-eq0, then-v-eq0-via-else-v-eq0+then-not-is_ascii_digit}

pub returns-then-v-eq0 : goal.returns-then-v-eq0
returns-then-v-eq0 c =
    elim c.then-v-eq0.branch [
      | then-v-eq0-via-then-v-eq0 w ↦ not_behind_zero _ _ w.if-v-eq0.true
      | then-v-eq0-via-else-v-eq0+then-not-is_ascii_digit w ↦ not_with _ _ (sym (ascii-digit _) ∙ (sym w.is_ascii_digit.ensures.value ∙ w.if-not-is_ascii_digit.true))
    ]

pub returns-in_err-checked_mul : goal.returns-in_err-checked_mul
returns-in_err-checked_mul c =
    c.from_residual.ensures ∙ not_times-ten _ _ (sym (ascii-digit _) ∙ (sym c.is_ascii_digit.ensures.value ∙ c.if-not-is_ascii_digit.false)) c.in_err-checked_mul.ensures

pub returns : goal.returns
returns c =
    times_ten _ _ _ _ (sym (ascii-digit _) ∙ (sym c.is_ascii_digit.ensures.value ∙ c.if-not-is_ascii_digit.false)) (omega arith) c.in_ok-checked_mul.ensures.1
    c.checked_add.ensures
