-- `lines::word` meets its contract: the library finds the word, and what it leaves of the text says where that goes on.
use Rattle.std.proofs.Common.{arith, ◌<◌, length, ◌∙◌}
use mathlib.Core.Logic.{⊎_elim}
use Rattle.lines.proofs.WordRead.{word-past, word-other, word-stands}
use Rattle.lines.proofs.word.Goals as goal

pub returns-in_err-get : goal.returns-in_err-get
returns-in_err-get c =
    let past : length c.args.text.now < c.args.at = ⊎_elim (λ h. h) (λ h. omega arith) c.in_err-get.ensures.lookup.0 in
    c.from_residual.ensures ∙ word-past _ _ _ past c.requires

pub returns-in_err-rest : goal.returns-in_err-rest
returns-in_err-rest c = c.from_residual-in_err-rest.ensures ∙ word-other _ _ _ c.in_ok-get.ensures.lookup.0.2 c.in_err-rest.ensures.cases

pub returns : goal.returns
returns c = word-stands _ _ _ c.in_ok-get.ensures.lookup.0.2 c.in_ok-rest.ensures.cases.0 c.in_ok-rest.ensures.cases.1
