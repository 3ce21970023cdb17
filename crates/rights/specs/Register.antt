-- A register: 'exactly n·n bytes' (01, 'Numbers').
use Rattle.std.specs.Prelude.{ℕ, ◌+◌, ◌*◌, ◌/◌, ◌%◌, List, get_or}
use Rattle.rights.specs.declared.Header.{Header}
use Rattle.rights.specs.Below.{table}

-- the number of the source of authority
abbrev pub soa_of : Header → ℕ
soa_of h = h.soa.0

-- 'the cell of grantor i and subject j is byte i·n + j'
abbrev pub place : Header → ℕ → ℕ → ℕ
place h i j = i * h.n + j

-- the cell of grantor i and subject j
unfoldable pub cell : Header → List ℕ → ℕ → ℕ → ℕ
cell h R i j = get_or R (place h i j) 0

-- the register whose cell of grantor i and subject j is the rule's
unfoldable pub register : Header → (ℕ → ℕ → ℕ) → List ℕ
register h rule = table (h.n * h.n) (λ k. rule (k / h.n) (k % h.n))
