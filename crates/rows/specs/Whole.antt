-- A function here takes any header and any buffer: where they are no register, it leaves the buffer as it was.
use Rattle.std.specs.Prelude.{ℕ, ◌*◌, ◌≤◌, ◌≡◌, cond, List, length}
use Rattle.rights.specs.declared.Header.{Header}
use Rattle.rights.specs.Sound.{readable}

-- S where the header and the buffer R make a register, and otherwise R as it was
unfoldable pub if_whole : Header → List ℕ → List ℕ → List ℕ
if_whole h R S = cond (readable h R) S R

-- what the loops go by: n·n cells, and so few offices that every index is small
pub record Whole (h : Header) (R : List ℕ) : Type 0 where
  pub cells : length R ≡ h.n * h.n
  pub few : h.n ≤ 128
