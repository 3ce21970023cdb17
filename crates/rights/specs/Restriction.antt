-- Restricting many cells at once. To empty a cell, to restrict a row or a column and to sweep are all of this one form.
use Rattle.std.specs.Prelude.{ℕ, Bool, ◌&&◌, cond, List, eqb}
use Rattle.rights.specs.declared.Header.{Header}
use Rattle.rights.specs.Cell.{restrict}
use Rattle.rights.specs.Register.{cell, register}
use Rattle.rights.specs.Level.{levels, level_in}

-- each cell restricted to the level that is given for it
unfoldable pub restricted : Header → List ℕ → (ℕ → ℕ → ℕ) → List ℕ
restricted h R to = register h (λ i j. restrict (cell h R i j) (to i j))

-- the cells that pass the test to 0, and every other kept
unfoldable pub empty_where : (ℕ → ℕ → Bool) → ℕ → ℕ → ℕ
empty_where test x y = cond (test x y) 0 2

-- the cell i, j and no other
unfoldable pub is_cell : ℕ → ℕ → ℕ → ℕ → Bool
is_cell i j x y = eqb x i && eqb y j

-- row j to v, and every other kept
unfoldable pub row_to : ℕ → ℕ → ℕ → ℕ → ℕ
row_to j v x y = cond (eqb x j) v 2

-- each row k to the level of k
unfoldable pub rows_to : List ℕ → ℕ → ℕ → ℕ
rows_to ls x y = level_in ls x

-- each cell of the columns that pass the test to its grantor's level, and every other column kept
unfoldable pub columns_to : (ℕ → Bool) → List ℕ → ℕ → ℕ → ℕ
columns_to test ls x y = cond (test y) (level_in ls x) 2

-- 01: 'Sweep: restrict every row k to the level of k, all levels taken before any restricting.'
unfoldable pub sweep : Header → List ℕ → List ℕ
sweep h R = restricted h R (rows_to (levels h R))

-- 'empty the cell i, j'
unfoldable pub emptied : Header → List ℕ → ℕ → ℕ → List ℕ
emptied h R i j = restricted h R (empty_where (is_cell i j))
