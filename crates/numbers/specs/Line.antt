-- What the reader of a line answers, by what the definitions of the text make of its bytes.
use Rattle.std.specs.Prelude.{ℕ, List}
use Rattle.std.specs.declared.option.Option.{Option}
use Rattle.std.specs.declared.option.Option.TheVariants.{Some, None}
use Rattle.wording.specs.Line.{Line, value, bad}
use Rattle.wording.specs.Lines.{offset}

-- a line's value, and where in the text the next line starts
unfoldable pub line_read : List ℕ → Line → Option (ℕ × ℕ)
line_read text (value v rest) = Some (v, offset text rest)
line_read text bad = None
