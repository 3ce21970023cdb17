-- What the command reader answers.
use Rattle.std.specs.Prelude.{ℕ, List, [], length}
use Rattle.rights.specs.declared.Command.{Command}
use Rattle.wording.specs.Lines.{Reading, got, bad_at, offset, lines_of, command_lines, command_of}

-- what the command reader answers: the rest is the caller's text from the byte `next` on
pub record CommandRead : Type 0 where
  pub answer : ℕ
  pub at : ℕ
  pub command : Command
  pub next : ℕ
  pub rest : List ℕ

-- 'a command of zeros'
unfoldable pub no_command : Command
no_command = record { act = 0; layer = record { 0 = 0 }; by = record { 0 = 0 }; to = record { 0 = 0 }; perm = 0 }

-- 01: 'The command reader likewise hands back a command and the rest, or 13 with the offset, a command of zeros and an empty part.'
unfoldable pub command_judged : List ℕ → Reading (List ℕ) → CommandRead
command_judged text (got vs rest) = record { answer = 0; at = 0; command = command_of vs; next = offset text rest; rest = rest }
command_judged text (bad_at line) = record { answer = 13; at = offset text line; command = no_command; next = length text; rest = [] }

-- the one outcome of reading a command from the text
unfoldable pub command_read : List ℕ → CommandRead
command_read text = command_judged text (lines_of command_lines text)
