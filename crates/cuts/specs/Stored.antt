-- A single cell of a register stored, and a row handed over cell by cell.
use Rattle.std.specs.Prelude.{ℕ, ◌&&◌, cond, List}
use Rattle.rights.specs.declared.Header.{Header}
use Rattle.rights.specs.Register.{cell, register}
use Rattle.rights.specs.Restriction.{is_cell}
use Rattle.rights.specs.Deletion.{handed_cell}
use Rattle.rights.specs.Sound.{readable}

-- the register with v in the cell i, j; there is no such cell where i or j is no office
unfoldable pub stored : Header → List ℕ → ℕ → ℕ → ℕ → List ℕ
stored h R i j v = register h (λ x y. cond (is_cell i j x y) v (cell h R x y))

-- the cell i, k as it is when row j has handed over what it lost there
unfoldable pub handed_at : Header → List ℕ → List ℕ → ℕ → ℕ → ℕ → List ℕ
handed_at h R N i j k = stored h N i k (handed_cell h R N i j i k)

-- S where the header makes a register of both buffers, and otherwise R as it was
unfoldable pub if_both_whole : Header → List ℕ → List ℕ → List ℕ → List ℕ
if_both_whole h before R S = cond (readable h before && readable h R) S R
