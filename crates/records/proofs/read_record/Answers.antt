-- `records::read_record` meets its contract: each of the three lines leads on to the next, or is bad.
use Rattle.std.proofs.Common.{arith, sym, ◌∙◌}
use Rattle.lines.specs.Read.{kind_of}
use Rattle.lines.proofs.Found.{line_found, perm-small}
use Rattle.records.specs.Read.{typed_record, record_at}
use Rattle.records.proofs.Step.{by-bad, by-not, by_read, to-bad, to-not, to_read, perm-bad, perm-not, perm-got}
use Rattle.records.proofs.read_record.Goals as goal

pub returns-in_default : goal.returns-in_default
unfolding kind_of record_at
returns-in_default c = by-bad _ _ _ c.requires (sym c.line.ensures ∙ c.in_default.is)

pub returns-then-not-by_may : goal.returns-then-not-by_may
unfolding kind_of record_at
returns-then-not-by_may c = by-not _ _ _ c.requires _ _ (sym c.line.ensures ∙ c.in-Some.is) (sym c.by_may.ensures ∙ c.if-not-by_may.true)

pub returns-in_default-line : goal.returns-in_default-line
unfolding kind_of record_at
returns-in_default-line c =
    let by = by_read _ _ _ _ _ (sym c.line.ensures ∙ c.in-Some.is) (sym c.by_may.ensures ∙ c.if-not-by_may.false) in
    to-bad by (sym c.line-2.ensures ∙ c.in_default-line.is)

pub returns-then-not-to_may : goal.returns-then-not-to_may
unfolding kind_of record_at
returns-then-not-to_may c =
    let by = by_read _ _ _ _ _ (sym c.line.ensures ∙ c.in-Some.is) (sym c.by_may.ensures ∙ c.if-not-by_may.false) in
    to-not by _ _ (sym c.line-2.ensures ∙ c.in-Some-line.is) (sym c.to_may.ensures ∙ c.if-not-to_may.true)

pub returns-in_default-line-2 : goal.returns-in_default-line-2
unfolding kind_of record_at
returns-in_default-line-2 c =
    let by = by_read _ _ _ _ _ (sym c.line.ensures ∙ c.in-Some.is) (sym c.by_may.ensures ∙ c.if-not-by_may.false) in
    let to = to_read by _ _ (sym c.line-2.ensures ∙ c.in-Some-line.is) (sym c.to_may.ensures ∙ c.if-not-to_may.false) in
    perm-bad to (sym c.line-3.ensures ∙ c.in_default-line-2.is)

pub returns-then-not-perm_may : goal.returns-then-not-perm_may
unfolding kind_of record_at
returns-then-not-perm_may c =
    let by = by_read _ _ _ _ _ (sym c.line.ensures ∙ c.in-Some.is) (sym c.by_may.ensures ∙ c.if-not-by_may.false) in
    let to = to_read by _ _ (sym c.line-2.ensures ∙ c.in-Some-line.is) (sym c.to_may.ensures ∙ c.if-not-to_may.false) in
    perm-not to _ _ (sym c.line-3.ensures ∙ c.in-Some-line-2.is) (sym c.perm_may.ensures ∙ c.if-not-perm_may.true)

pub overflow_cast-perm : goal.overflow_cast-perm
unfolding kind_of
overflow_cast-perm c = let s = perm-small _ (line_found _ _ _ _ _ (sym c.line-3.ensures ∙ c.in-Some-line-2.is)).fit in omega arith

pub returns : goal.returns
unfolding kind_of record_at typed_record
returns c =
    let by = by_read _ _ _ _ _ (sym c.line.ensures ∙ c.in-Some.is) (sym c.by_may.ensures ∙ c.if-not-by_may.false) in
    let to = to_read by _ _ (sym c.line-2.ensures ∙ c.in-Some-line.is) (sym c.to_may.ensures ∙ c.if-not-to_may.false) in
    perm-got to _ _ (sym c.line-3.ensures ∙ c.in-Some-line-2.is) (sym c.perm_may.ensures ∙ c.if-not-perm_may.false)
