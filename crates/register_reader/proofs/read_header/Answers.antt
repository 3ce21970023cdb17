-- `register_reader::read_header` meets its contract: what has been read so far, line by line.
use mathlib.Core.Path.{sym, ◌∙◌}
use Rattle.wording.specs.Lines.{header_of}
use Rattle.lines.specs.Read.{kind_of}
use Rattle.lines.proofs.SoFar.{lines_more}
use Rattle.register_reader.proofs.Header.{header_start, header-bad, header-got}
use Rattle.register_reader.proofs.read_header.Goals as goal

pub returns-in_default : goal.returns-in_default
unfolding kind_of
returns-in_default c = header-bad (header_start _) (sym c.line.ensures ∙ c.in_default.is)

pub returns-in_default-line : goal.returns-in_default-line
unfolding kind_of
returns-in_default-line c =
    let n = lines_more (header_start _) (sym c.line.ensures ∙ c.in-Some.is) in
    header-bad n (sym c.line-2.ensures ∙ c.in_default-line.is)

pub returns-in_default-line-2 : goal.returns-in_default-line-2
unfolding kind_of
returns-in_default-line-2 c =
    let n = lines_more (header_start _) (sym c.line.ensures ∙ c.in-Some.is) in
    let soa = lines_more n (sym c.line-2.ensures ∙ c.in-Some-line.is) in
    header-bad soa (sym c.line-3.ensures ∙ c.in_default-line-2.is)

pub returns : goal.returns
unfolding header_of kind_of
returns c =
    let n = lines_more (header_start _) (sym c.line.ensures ∙ c.in-Some.is) in
    let soa = lines_more n (sym c.line-2.ensures ∙ c.in-Some-line.is) in
    let layer = lines_more soa (sym c.line-3.ensures ∙ c.in-Some-line-2.is) in
    header-got layer
