-- The holding question in the steps in which the code takes it.
use Rattle.std.specs.Prelude.{ℕ, cond, List}
use Rattle.std.specs.declared.result.Result.{Result}
use Rattle.std.specs.declared.result.Result.TheVariants.{Ok, Err}
use Rattle.rights.specs.declared.Header.{Header}
use Rattle.rights.specs.declared.Permission.{Permission}
use Rattle.rights.specs.declared.Refusal.{Refusal}
use Rattle.rights.specs.Refusal.{number}
use Rattle.rights.specs.Level.{holds}
use Rattle.rights.specs.Question.{Answer, picked_chain, shown, not_shown}

-- what is answered and left where none of the refusals but 12 applies
unfoldable pub searched : Header → List ℕ → Permission → ℕ → List ℕ → Answer
searched h R p j buffer = cond (holds h R p j) (shown buffer (picked_chain h R p j)) (not_shown buffer 12)

-- of how many offices the chain is, or the refusal, and the bytes that are left, as one outcome
abbrev pub outcome_as : Result ℕ Refusal → List ℕ → Answer
outcome_as (Ok offices) chain = record { answer = 0; offices = offices; chain = chain }
outcome_as (Err refusal) chain = record { answer = number refusal; offices = 0; chain = chain }
