-- The outcome of a command as the code gives it: answer and tally by value, the register in the lent buffer.
use Rattle.std.specs.Prelude.{ℕ, ◌≡◌, List}
use Rattle.rights.specs.Command.{Outcome as OutcomeOf}
use Rattle.commands.specs.declared.Outcome.{Outcome}

-- r and the bytes S are the outcome o
pub record Answers (o : OutcomeOf) (r : Outcome) (S : List ℕ) : Type 0 where
  pub answer : r.answer ≡ o.answer
  pub removed : r.removed ≡ o.removed
  pub added : r.added ≡ o.added
  pub cells : S ≡ o.cells
