-- The tally of a command: 'records removed (stood before, not after) and added (after, not before)' (01, 'Commands').
use Rattle.std.specs.Prelude.{ℕ, min, List}
use Rattle.rights.specs.declared.Header.{Header}
use Rattle.rights.specs.Below.{sum_below}
use Rattle.rights.specs.Cell.{size, without}
use Rattle.rights.specs.Register.{cell}

-- how many records stand in R and not in S
unfoldable pub missing : Header → List ℕ → List ℕ → ℕ
missing h R S = sum_below h.n (λ i. sum_below h.n (λ j. size (without (cell h R i j) (cell h S i j))))

-- a count in 64 bits, which stays at the largest number
abbrev pub capped : ℕ → ℕ
capped k = min k 18446744073709551615
