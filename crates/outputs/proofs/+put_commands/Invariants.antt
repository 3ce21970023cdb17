-- `outputs::put_commands` calls itself with the rest of the text, so the measure is the text's length.
use lib.ListN.{length}
use Rattle.outputs.proofs.+put_commands.Given as goal

abbrev pub decreases-put_commands : goal.decreases-put_commands
decreases-put_commands l = length l.text.now
