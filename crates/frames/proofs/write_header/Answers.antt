-- `frames::write_header` meets its contract.
use native.Mathlib.Omega.{arith}
use mathlib.Core.List.{◌++◌, append-nil}
use mathlib.Core.Path.{◌≡◌, sym, ◌∙◌}
use Rattle.rights.specs.Sound.{unless}
use Rattle.rights.specs.declared.Header.{Header}
use Rattle.wording.specs.Word.{bytes, key, form}
use Rattle.wording.specs.Line.{word_of, line_text}
use Rattle.wording.specs.Lines.{lines_text, header_lines, header_values, header_text}
use Rattle.wording.specs.Writer.{header_written}
use Rattle.printing.specs.NumberLine.{number_line}
use Rattle.printing.proofs.Told.{told_refused}
use Rattle.frames.proofs.write_header.Goals as goal

-- the header's text is three lines
header-text :
    (h : Header) →
    header_text h ≡ number_line (bytes "n=") h.n ++ (number_line (bytes "soa=") h.soa.0 ++ number_line (bytes "layer=") h.layer.0)
unfolding header_text lines_text header_lines header_values line_text key form word_of number_line
header-text h = rw append-nil

pub returns-then-not-headed : goal.returns-then-not-headed
unfolding header_written unless
returns-then-not-headed c = rw (sym c.headed.ensures ∙ c.if-not-headed.true, c.from.ensures) (told_refused 1 _ _ (λ z. omega arith))

pub returns : goal.returns
unfolding header_written unless
returns c =
    rw (sym c.headed.ensures ∙ c.if-not-headed.false, header-text) c.write_three.ensures
