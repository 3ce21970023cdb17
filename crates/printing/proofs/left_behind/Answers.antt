-- `printing::left_behind` meets its contract.
use native.Mathlib.Omega.{arith}
use Rattle.std.proofs.lemmas.List.Folds.{length-flat_map-take}
use Rattle.printing.specs.NumberLine.{line_bytes}
use Rattle.printing.proofs.left_behind.Goals as goal

pub returns-in_err-left : goal.returns-in_err-left
returns-in_err-left c =
    rw c.from_residual.ensures
    (omega (arith, length-flat_map-take line_bytes, c.in_err-left.ensures))
