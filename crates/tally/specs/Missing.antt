-- Missing records, byte by byte, and where there are no two registers to compare.
use Rattle.std.specs.Prelude.{ℕ, ◌&&◌, cond, List, get_or}
use Rattle.rights.specs.declared.Header.{Header}
use Rattle.rights.specs.Cell.{size, without}
use Rattle.rights.specs.Sound.{readable}
use Rattle.rights.specs.Tally.{missing}

-- how many records of byte k of R are missing from byte k of S
unfoldable pub missing_at : List ℕ → List ℕ → ℕ → ℕ
missing_at R S k = size (without (get_or R k 0) (get_or S k 0))

-- the records of R that S lacks, none where either is no register
unfoldable pub missing_if_whole : Header → List ℕ → List ℕ → ℕ
missing_if_whole h R S = cond (readable h R && readable h S) (missing h R S) 0
