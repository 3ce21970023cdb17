-- A row of a register as a part of its own.
use Rattle.std.specs.Prelude.{ℕ, cond, List, length, get_or, eqb}
use Rattle.rights.specs.Below.{table}
use Rattle.rights.specs.Cell.{restrict}

-- what the level leaves of a cell
unfoldable pub at_level : ℕ → ℕ → ℕ
at_level level c = restrict c level

-- one row to the levels that are given for its cells, and every other row kept
unfoldable pub on_row : ℕ → (ℕ → ℕ) → ℕ → ℕ → ℕ
on_row i to x y = cond (eqb x i) (to y) 2

-- one level for every cell
unfoldable pub one_level : ℕ → ℕ → ℕ → ℕ
one_level level i y = level

-- a row whose cells are restricted each to the level that is given for it
unfoldable pub to_levels : (ℕ → ℕ) → List ℕ → List ℕ
to_levels level row = table (length row) (λ y. restrict (get_or row y 0) (level y))
