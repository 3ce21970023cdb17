-- `row_writer::perm_line` meets its contract.
use Rattle.rights.specs.Permission.{code}
use Rattle.wording.specs.Word.{key, form, perms, word_for}
use Rattle.wording.specs.Line.{word_of, line_text}
use Rattle.row_writer.specs.Row.{perm_text}
use Rattle.row_writer.proofs.perm_line.Goals as goal

pub returns-in-TT : goal.returns-in-TT
unfolding perm_text code line_text key form word_of perms word_for
returns-in-TT c = rw c.in-TT.is

pub returns-in-TF : goal.returns-in-TF
unfolding perm_text code line_text key form word_of perms word_for
returns-in-TF c = rw c.in-TF.is

pub returns-in-FT : goal.returns-in-FT
unfolding perm_text code line_text key form word_of perms word_for
returns-in-FT c = rw c.in-FT.is

pub returns-in-FF : goal.returns-in-FF
unfolding perm_text code line_text key form word_of perms word_for
returns-in-FF c = rw c.in-FF.is
