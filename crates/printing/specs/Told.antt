-- What a writer answers, as code gives it: the number and the length as its result, the room as it leaves it.
use Rattle.std.specs.Prelude.{ℕ, ◌≡◌, List}
use Rattle.std.specs.declared.result.Result.{Result}
use Rattle.std.specs.declared.result.Result.TheVariants.{Ok, Err}
use Rattle.rights.specs.declared.Refusal.{Refusal}
use Rattle.rights.specs.Refusal.{number}
use Rattle.wording.specs.Writer.{Written as Outcome}
use Rattle.printing.specs.declared.Written.{Written}

-- the outcome is told by the result and the room at exit
pub record Told (outcome : Outcome) (result : Written) (room : List ℕ) : Type 0 where
  pub answered : result.answer ≡ outcome.answer
  pub sized : result.size ≡ outcome.size
  pub left : room ≡ outcome.room

-- what is answered for a length that was written, and for a refusal
abbrev pub written_of : Result ℕ Refusal → Written
written_of (Ok size) = record { answer = 0; size = size }
written_of (Err refusal) = record { answer = number refusal; size = 0 }

-- and that the conversion gives it
abbrev pub IsWritten : Result ℕ Refusal → Written → Type 0
IsWritten outcome written = written ≡ written_of outcome
