-- `register_reader::read` meets its contract: each step refuses, or leads on to the next.
use Rattle.std.proofs.Common.{sym, ◌∙◌}
use Rattle.std.proofs.lemmas.Result.{err_from_is_err_and}
use Rattle.register_reader.specs.Told.{read_answer}
use Rattle.register_reader.proofs.Judged.{header-found, header-missing, judged-bad, judged-done, judged-not}
use Rattle.register_reader.proofs.Taken.{all_told, was_done, was_bad_line}
use Rattle.register_reader.proofs.read.Goals as goal

pub returns-in-Err : goal.returns-in-Err
unfolding read_answer
returns-in-Err c =
    rw (c.bad_line.ensures.0, c.bad_line.ensures.1, c.clear.ensures) (header-missing _ _ (sym c.read_header.ensures ∙ c.in-Err.is))

pub returns-in_err-found : goal.returns-in_err-found
unfolding read_answer
returns-in_err-found c =
    let header = header-found _ c.args.cells.now (sym c.read_header.ensures ∙ c.in-Ok.is) in
    let e = err_from_is_err_and c.from_residual.result c.from_residual.ensures.1 in
    let line = was_bad_line _ _ c.in_err-found.ensures.cases in
    rw (e.1, e.2, line.1, header.behind) (judged-bad _ _ _ _ (all_told c.read_records.ensures line.0))

pub returns-in-Err-judge : goal.returns-in-Err-judge
unfolding read_answer
returns-in-Err-judge c =
    let header = header-found _ c.args.cells.now (sym c.read_header.ensures ∙ c.in-Ok.is) in
    let found = was_done _ _ _ c.in_ok-found.ensures.cases in
    rw (c.from.ensures, c.clear-in-Err-judge.ensures, header.behind)
    (judged-not _ _ _ _ _ (all_told c.read_records.ensures found) c.in-Err-judge.ensures)

pub returns : goal.returns
unfolding read_answer
returns c =
    let header = header-found _ c.args.cells.now (sym c.read_header.ensures ∙ c.in-Ok.is) in
    let found = was_done _ _ _ c.in_ok-found.ensures.cases in
    rw header.behind (judged-done _ _ _ _ (all_told c.read_records.ensures found) c.in_default.ensures)
