-- One office marked.
use Rattle.std.specs.Prelude.{ℕ, List, set, replicate}

-- 128 marks, that of the office 1
unfoldable pub only_mark : ℕ → List ℕ
only_mark i = set (replicate 128 0) i 1
