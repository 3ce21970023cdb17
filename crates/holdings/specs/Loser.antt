-- Who holds fewer permissions than before, as an array of marks.
use Rattle.std.specs.Prelude.{ℕ, ◌&&◌, cond, List, []}
use Rattle.rights.specs.declared.Header.{Header}
use Rattle.rights.specs.Below.{table}
use Rattle.rights.specs.Level.{levels}
use Rattle.rights.specs.Deletion.{loses}
use Rattle.rights.specs.Sound.{readable}
use Rattle.levels.specs.Padded.{padded}

-- 1 for an office that holds fewer
unfoldable pub mark_by : Header → List ℕ → List ℕ → List ℕ → List ℕ → ℕ → ℕ
mark_by h R before S now y = cond (loses h R before S now y) 1 0

-- a mark for each office, and nothing after them; nobody where either register cannot be read
unfoldable pub padded_losers : Header → List ℕ → List ℕ → List ℕ
padded_losers h R S =
    padded 0 (cond (readable h R && readable h S) (table h.n (mark_by h R (levels h R) S (levels h S))) [])
