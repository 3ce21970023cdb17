-- A line with a number of any size.
use Rattle.std.specs.Prelude.{ℕ, List, [], ◌∷◌, ◌++◌}
use Rattle.wording.specs.Word.{lf}
use Rattle.wording.specs.Line.{numeral}
use Rattle.printing.specs.declared.Line.{Line}

-- a key, a number in decimal, LF: each line of 01 that has a number. It is not bound to 'Text numbers: decimal, 0 to 65535', since
-- 01's `at=` is 65536 where a line is missing at the end of the longest input.
unfoldable pub number_line : List ℕ → ℕ → List ℕ
number_line key v = key ++ (numeral v ++ (lf ∷ []))

-- a line as code has it
abbrev pub line_bytes : Line → List ℕ
line_bytes line = number_line line.0.now line.1
