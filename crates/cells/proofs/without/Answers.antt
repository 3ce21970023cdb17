-- `cells::without` meets its contract, by what the test gives of each permission.
use Rattle.std.proofs.Common.{rules}
use mathlib.Core.Path.{◌∙◌}
use Rattle.rights.specs.Cell.{without}
use Rattle.theory.proofs.Cell.{cell_of_ext}
use Rattle.cells.proofs.without.Goals as goal

pub returns : goal.returns
unfolding without
returns c = let e = c.cell_of.ensures in e.2 ∙ cell_of_ext _ _ (λ p. let t = e.1 p in search rules)
