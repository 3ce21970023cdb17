-- What the command reader answers, by the one outcome that the definitions of the text give.
use Rattle.std.specs.Prelude.{ℕ, List}
use Rattle.std.specs.declared.result.Result.{Result}
use Rattle.std.specs.declared.result.Result.TheVariants.{Ok, Err}
use Rattle.rights.specs.declared.Command.{Command}
use Rattle.wording.specs.Lines.{Reading, got, bad_at, offset, lines_of, command_lines, command_of}
use Rattle.wording.specs.CommandReader.{CommandRead as Outcome, no_command, command_read}
use Rattle.command_reader.specs.declared.CommandRead.{CommandRead}

-- the command and where in the text the rest starts, or where the bad line starts
unfoldable pub five_read : List ℕ → Reading (List ℕ) → Result (Command × ℕ) ℕ
five_read text (got vs rest) = Ok (command_of vs, offset text rest)
five_read text (bad_at line) = Err (offset text line)

-- what stands at the start of the text as a command
unfoldable pub command_in : List ℕ → Result (Command × ℕ) ℕ
command_in text = five_read text (lines_of command_lines text)

-- an outcome of the command reader, but for the rest
unfoldable pub command_answer : Outcome → CommandRead
command_answer o = record { answer = o.answer; at = o.at; command = o.command; next = o.next }

-- what the command reader answers for the text
unfoldable pub command_told : List ℕ → CommandRead
command_told text = command_answer (command_read text)

-- a refused command: 13, where the bad line starts, a command of zeros, and the text's end
unfoldable pub command_refused : ℕ → ℕ → CommandRead
command_refused at end = record { answer = 13; at = at; command = no_command; next = end }
