-- `numbers::number` meets its contract. The loop's invariant: the digits left give what the whole number gives.
use Rattle.std.proofs.Common.{arith, sym, ◌∙◌}
use Rattle.std.proofs.lemmas.Bool.{ltb-true, ltb-false}
use Rattle.numbers.proofs.Reading.{ascii-digit, number-none, number_other, number_start, number_more, number_stop, number_end, number-missing}
use Rattle.numbers.proofs.number.Goals as goal

pub returns-in_err-first : goal.returns-in_err-first
returns-in_err-first c = c.from_residual.ensures ∙ number-none _ _ (omega (arith, ltb-false _ _ (sym c.in_err-first.ensures.lookup.0)))

pub returns-then-not-is_ascii_digit : goal.returns-then-not-is_ascii_digit
returns-then-not-is_ascii_digit c =
    number_other _ _ (ltb-true _ _ (sym c.in_ok-first.ensures.lookup.0)) c.in_ok-first.ensures.lookup.1
    (sym (ascii-digit _) ∙ (sym c.is_ascii_digit.ensures.value ∙ c.if-not-is_ascii_digit.true))

pub loop-i-init : goal.loop-i-init
loop-i-init c =
    number_start _ _ _ (ltb-true _ _ (sym c.in_ok-first.ensures.lookup.0)) c.in_ok-first.ensures.lookup.1
    (sym (ascii-digit _) ∙ (sym c.is_ascii_digit.ensures.value ∙ c.if-not-is_ascii_digit.false))

pub returns-then-b-eq10 : goal.returns-then-b-eq10
returns-then-b-eq10 c = number_end c.loop-i.invariant c.loop-i-test.true c.if-b-eq10.true

pub returns-in_err-v : goal.returns-in_err-v
returns-in_err-v c =
    c.from_residual-in_err-v.ensures ∙ number_stop c.loop-i.invariant c.loop-i-test.true c.if-b-eq10.false (sym c.in_err-v.was ∙ c.extended.ensures)

pub loop-i-preserved : goal.loop-i-preserved
loop-i-preserved c = number_more c.loop-i.invariant c.loop-i-test.true c.if-b-eq10.false (sym c.in_ok-v.was ∙ c.extended.ensures)

pub returns : goal.returns
returns c = number-missing c.loop-i.invariant c.loop-i-test.false
