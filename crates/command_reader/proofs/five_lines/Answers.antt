-- `command_reader::five_lines` meets its contract: what has been read so far, line by line.
use native.Mathlib.Omega.{arith}
use mathlib.Core.Path.{sym, ◌∙◌}
use Rattle.wording.specs.Lines.{command_of}
use Rattle.lines.specs.Read.{kind_of}
use Rattle.lines.proofs.Found.{line_found, act-small, perm-small}
use Rattle.lines.proofs.SoFar.{lines_more}
use Rattle.command_reader.proofs.Command.{command_start, command-bad, command-got}
use Rattle.command_reader.proofs.five_lines.Goals as goal

pub returns-in_default : goal.returns-in_default
unfolding kind_of
returns-in_default c = command-bad (command_start _) (sym c.line.ensures ∙ c.in_default.is)

pub returns-in_default-line : goal.returns-in_default-line
unfolding kind_of
returns-in_default-line c =
    let act_read = lines_more (command_start _) (sym c.line.ensures ∙ c.in-Some.is) in
    command-bad act_read (sym c.line-2.ensures ∙ c.in_default-line.is)

pub returns-in_default-line-2 : goal.returns-in_default-line-2
unfolding kind_of
returns-in_default-line-2 c =
    let act_read = lines_more (command_start _) (sym c.line.ensures ∙ c.in-Some.is) in
    let layer_read = lines_more act_read (sym c.line-2.ensures ∙ c.in-Some-line.is) in
    command-bad layer_read (sym c.line-3.ensures ∙ c.in_default-line-2.is)

pub returns-in_default-line-3 : goal.returns-in_default-line-3
unfolding kind_of
returns-in_default-line-3 c =
    let act_read = lines_more (command_start _) (sym c.line.ensures ∙ c.in-Some.is) in
    let layer_read = lines_more act_read (sym c.line-2.ensures ∙ c.in-Some-line.is) in
    let by_read = lines_more layer_read (sym c.line-3.ensures ∙ c.in-Some-line-2.is) in
    command-bad by_read (sym c.line-4.ensures ∙ c.in_default-line-3.is)

pub returns-in_default-line-4 : goal.returns-in_default-line-4
unfolding kind_of
returns-in_default-line-4 c =
    let act_read = lines_more (command_start _) (sym c.line.ensures ∙ c.in-Some.is) in
    let layer_read = lines_more act_read (sym c.line-2.ensures ∙ c.in-Some-line.is) in
    let by_read = lines_more layer_read (sym c.line-3.ensures ∙ c.in-Some-line-2.is) in
    let to_read = lines_more by_read (sym c.line-4.ensures ∙ c.in-Some-line-3.is) in
    command-bad to_read (sym c.line-5.ensures ∙ c.in_default-line-4.is)

pub overflow_cast-command : goal.overflow_cast-command
unfolding kind_of
overflow_cast-command c = let s = act-small _ (line_found _ _ _ _ _ (sym c.line.ensures ∙ c.in-Some.is)).fit in omega arith

pub overflow_cast-command-2 : goal.overflow_cast-command-2
unfolding kind_of
overflow_cast-command-2 c = let s = perm-small _ (line_found _ _ _ _ _ (sym c.line-5.ensures ∙ c.in-Some-line-4.is)).fit in omega arith

pub returns : goal.returns
unfolding command_of kind_of
returns c =
    let act_read = lines_more (command_start _) (sym c.line.ensures ∙ c.in-Some.is) in
    let layer_read = lines_more act_read (sym c.line-2.ensures ∙ c.in-Some-line.is) in
    let by_read = lines_more layer_read (sym c.line-3.ensures ∙ c.in-Some-line-2.is) in
    let to_read = lines_more by_read (sym c.line-4.ensures ∙ c.in-Some-line-3.is) in
    let perm_read = lines_more to_read (sym c.line-5.ensures ∙ c.in-Some-line-4.is) in
    command-got perm_read
