-- Marked columns.
use Rattle.std.specs.Prelude.{ℕ, Bool, not, List, get_or, eqb}

-- the office is marked: its byte is not 0
unfoldable pub is_marked : List ℕ → ℕ → Bool
is_marked marks y = not (eqb (get_or marks y 0) 0)
