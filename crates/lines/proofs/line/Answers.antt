-- `lines::line` meets its contract: behind the key stands the value.
use Rattle.std.proofs.Common.{◌∙◌}
use Rattle.lines.proofs.Words.{some_key, key-found, other_key, behind_key_lem}
use Rattle.lines.proofs.line.Goals as goal

pub word-requires : goal.word-requires
word-requires c = rw c.key.ensures (some_key _)

pub returns-in_err-start : goal.returns-in_err-start
returns-in_err-start c = c.from_residual.ensures ∙ other_key _ _ _ (rw c.key.ensures at c.in_err-start.ensures)

pub returns : goal.returns
returns c = c.value.ensures ∙ behind_key_lem _ _ _ _ (key-found _ _ _ _ (rw c.key.ensures at c.in_ok-start.ensures))
