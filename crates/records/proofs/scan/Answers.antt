-- `records::scan` meets its contract. The loop's invariant: what is left to read gives what the whole text gives.
use Rattle.std.proofs.Common.{arith, sym, ◌∙◌}
use Rattle.std.proofs.lemmas.Result.{err_from_is_err_and}
use Rattle.records.specs.Read.{text_record, record_at}
use Rattle.wording.specs.RegisterReader.{outside, forbidden}
use Rattle.records.proofs.SoFar.{scan_start, scan_end, scan_bad, scan_more}
use Rattle.records.proofs.scan.Goals as goal

pub loop-next-init : goal.loop-next-init
loop-next-init c = rw c.before_all-last.ensures (scan_start _ _ _ _ c.requires)

pub returns-in-Some : goal.returns-in-Some
returns-in-Some c = scan_end c.loop-next.invariant _ (sym c.end_line.ensures ∙ c.in-Some.is)

pub read_record-requires : goal.read_record-requires
read_record-requires c = c.loop-next.invariant.within

pub returns-in_err-told : goal.returns-in_err-told
unfolding record_at
returns-in_err-told c =
    let e = err_from_is_err_and c.from_residual.result c.from_residual.ensures.1 in
    rw (e.1, e.2) (scan_bad c.loop-next.invariant _ (sym c.end_line.ensures ∙ c.in_default.is) (sym c.read_record.ensures ∙ c.in_err-told.was))

pub loop-next-smaller : goal.loop-next-smaller
unfolding record_at
loop-next-smaller c =
    let m = scan_more c.loop-next.invariant _ _ (sym c.end_line.ensures ∙ c.in_default.is) (sym c.read_record.ensures ∙ c.in_ok-told.was) in
    omega (arith, m.further, m.state.within)

pub loop-next-preserved : goal.loop-next-preserved
unfolding record_at outside forbidden text_record
loop-next-preserved c =
    rw (c.store.ensures, c.in_range.ensures, c.barred-forbidden.ensures)
    (scan_more c.loop-next.invariant _ _ (sym c.end_line.ensures ∙ c.in_default.is) (sym c.read_record.ensures ∙ c.in_ok-told.was)).state
