-- `printing::Page::put_line` meets its contract: key, number and LF are written one behind the other.
use mathlib.Core.List.{[], ◌∷◌, ◌++◌}
use Rattle.wording.specs.Line.{numeral}
use Rattle.printing.specs.NumberLine.{number_line}
use Rattle.printing.proofs.Adds.{adds_both, fits_first, fits_second}
use Rattle.printing.proofs.Page.put_line.Goals as goal

pub put_bytes-requires : goal.put_bytes-requires
unfolding number_line
put_bytes-requires c = fits_first (numeral c.args.line.now.1 ++ (10 ∷ [])) c.requires

pub put_number-requires : goal.put_number-requires
unfolding number_line
put_number-requires c = fits_first (10 ∷ []) (fits_second _ c.put_bytes.ensures c.requires)

pub put_byte-requires : goal.put_byte-requires
unfolding number_line
put_byte-requires c =
    fits_second (10 ∷ []) c.put_number.ensures (fits_second (numeral c.args.line.now.1 ++ (10 ∷ [])) c.put_bytes.ensures c.requires)

pub returns : goal.returns
unfolding number_line
returns c = adds_both c.put_bytes.ensures (adds_both c.put_number.ensures c.put_byte.ensures)
