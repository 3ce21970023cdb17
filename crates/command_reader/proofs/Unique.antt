-- No second outcome: at most one answer satisfies the contract, whatever the text.
-- `Post` is the contract as the check reads it: of the lifetimes, the arguments, the result and the arguments at exit.
use mathlib.Core.Path.{◌≡◌, sym, ◌∙◌}
use Rattle.command_reader.specs.declared.CommandRead.{CommandRead}
use Rattle.command_reader.proofs.read_command.Reads as read-command

pub read_command_once : (κs : _) (a : _) (r s : CommandRead) (exit other : _) → read-command.Post κs a r exit → read-command.Post κs a s other → r ≡ s
read_command_once κs a r s exit other p q = p ∙ sym q
