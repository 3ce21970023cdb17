-- `refusals::refusal` meets its contract: the refusals of deletions decide on an act that is no grant.
use Rattle.std.proofs.Common.{◌≡◌, rules}
use mathlib.Core.Path.{◌∙◌}
use Rattle.rights.specs.Refusal.{number, answer_of}
use Rattle.refusals.proofs.Refusals.{deletion_decides}
use Rattle.refusals.proofs.refusal.Goals as goal

pub returns-in_err-deletion_refusal-in_default-clause-answer : goal.returns-in_err-deletion_refusal-in_default-clause-answer
returns-in_err-deletion_refusal-in_default-clause-answer c =
    let same : answer_of c.from_residual-in_err-deletion_refusal-in_default.result ≡ number c.in_err-deletion_refusal-in_default.field-0.0 = search rules in
    let form = c.in_ok-act.ensures in
    same ∙ deletion_decides _ _ _ c.in_ok-register_refusal.ensures form.act form.answer c.in_default.not-Grant c.in_err-deletion_refusal-in_default.ensures

pub returns-in_ok-deletion_refusal-in_default-clause-answer : goal.returns-in_ok-deletion_refusal-in_default-clause-answer
returns-in_ok-deletion_refusal-in_default-clause-answer c =
    let form = c.in_ok-act.ensures in
    deletion_decides _ _ _ c.in_ok-register_refusal.ensures form.act form.answer c.in_default.not-Grant c.in_ok-deletion_refusal-in_default.ensures
