-- What a grant and the four deletions make of a register (01, 'Commands'). R is the register before.
use Rattle.std.specs.Prelude.{ℕ, zero, suc, Bool, true, false, ◌&&◌, not, cond, List, eqb}
use Rattle.rights.specs.declared.Header.{Header}
use Rattle.rights.specs.Below.{table, all_below}
use Rattle.rights.specs.declared.Permission.{Permission}
use Rattle.rights.specs.Permission.{code, any_permission}
use Rattle.rights.specs.Cell.{union, without}
use Rattle.rights.specs.Register.{cell, register}
use Rattle.rights.specs.Level.{is_in, levels, independent_levels, level_in, holds_by}
use Rattle.rights.specs.Restriction.{restricted, is_cell, row_to, columns_to, sweep, emptied}

-- 'Grant: adds the record.'
unfoldable pub granted_cell : Header → List ℕ → ℕ → ℕ → Permission → ℕ → ℕ → ℕ
granted_cell h R i j p x y = cond (is_cell i j x y) (union (cell h R x y) (code p)) (cell h R x y)

-- the register after 'Grant: adds the record.'
unfoldable pub granted : Header → List ℕ → ℕ → ℕ → Permission → List ℕ
granted h R i j p = register h (granted_cell h R i j p)

-- 'WGD: empty the cell i, j; sweep.'
unfoldable pub wgd : Header → List ℕ → ℕ → ℕ → List ℕ
wgd h R i j = sweep h (emptied h R i j)

-- 'Each record (j, k) that stood before and is gone now is added as (i, k), unless k is i.' N is the register now.
unfoldable pub handed_cell : Header → List ℕ → List ℕ → ℕ → ℕ → ℕ → ℕ → ℕ
handed_cell h R N i j x k =
    cond (eqb x i && not (eqb k i)) (union (cell h N i k) (without (cell h R j k) (cell h N j k))) (cell h N x k)

-- the register once each such record 'is added as (i, k), unless k is i'
unfoldable pub handed_over : Header → List ℕ → List ℕ → ℕ → ℕ → List ℕ
handed_over h R N i j = register h (handed_cell h R N i j)

-- 'Let v be j's level then. Restrict row j to v', and what row j lost is handed over. M is the register after the column step.
unfoldable pub row_settled : Header → List ℕ → List ℕ → ℕ → ℕ → List ℕ
row_settled h R M i j = handed_over h R (restricted h M (row_to j (level_in (levels h M) j))) i j

-- 'WLD: empty the cell i, j', then row j
unfoldable pub wld : Header → List ℕ → ℕ → ℕ → List ℕ
wld h R i j = row_settled h R (emptied h R i j) i j

-- 'restrict every cell of column j to its grantor's independent level'
unfoldable pub column_step : Header → List ℕ → ℕ → ℕ → List ℕ
column_step h R i j = restricted h R (columns_to (eqb j) (independent_levels h R i))

-- 'SLD: restrict every cell of column j to its grantor's independent level .. Then v and row j as in WLD.'
unfoldable pub sld : Header → List ℕ → ℕ → ℕ → List ℕ
sld h R i j = row_settled h R (column_step h R i j) i j

-- office y holds p in R by the levels before, and not in S by the levels now
abbrev pub loses_one : Header → List ℕ → List ℕ → List ℕ → List ℕ → ℕ → Permission → Bool
loses_one h R before S now y p = holds_by h R before p y && not (holds_by h S now p y)

-- office y holds fewer permissions now
abbrev pub loses : Header → List ℕ → List ℕ → List ℕ → List ℕ → ℕ → Bool
loses h R before S now y = any_permission (loses_one h R before S now y)

-- the offices that hold fewer permissions in S than in R
unfoldable pub losers : Header → List ℕ → List ℕ → List Bool
losers h R S =
    let before = levels h R in
    let now = levels h S in
    table h.n (loses h R before S now)

-- 'for each office that now holds fewer permissions than before, restrict its column to the independent levels; sweep'
unfoldable pub strong_round : Header → List ℕ → List ℕ → List ℕ → List ℕ
strong_round h R independent S = sweep h (restricted h S (columns_to (is_in (losers h R S)) independent))

-- the two registers have the same cell of grantor i and subject j
abbrev pub same_cell : Header → List ℕ → List ℕ → ℕ → ℕ → Bool
same_cell h R S i j = eqb (cell h R i j) (cell h S i j)

-- the two registers have the same cells
unfoldable pub same : Header → List ℕ → List ℕ → Bool
same h R S = all_below h.n (λ i. all_below h.n (same_cell h R S i))

-- 'Stop when a round alters nothing.' At most so many rounds; that n rounds are enough is a law.
unfoldable pub until_rest : Header → List ℕ → List ℕ → ℕ → List ℕ → List ℕ
until_rest h R independent zero S = S
until_rest h R independent (suc k) S =
    let next = strong_round h R independent S in
    elim (same h next S) [ true ↦ S | false ↦ until_rest h R independent k next ]

-- 'SGD: restrict column j as in SLD; sweep. Then rounds'
unfoldable pub sgd : Header → List ℕ → ℕ → ℕ → List ℕ
sgd h R i j = until_rest h R (independent_levels h R i) h.n (sweep h (column_step h R i j))
