-- The lines that the program `regrun` writes besides a register's text.
use Rattle.std.specs.Prelude.{ℕ, List, ◌++◌}
use Rattle.wording.specs.Word.{bytes}
use Rattle.wording.specs.Writer.{Written, written_behind}
use Rattle.printing.specs.NumberLine.{number_line}

-- 01: 'For each command: `answer=` (0 or its refusal), `removed=` and `added=` (its own tally).'
unfoldable pub answer_text : ℕ → ℕ → ℕ → List ℕ
answer_text answer removed added =
    number_line (bytes "answer=") answer ++ (number_line (bytes "removed=") removed ++ number_line (bytes "added=") added)

-- 01: 'writes `refused=` and `at=` (offset in the input, 0 unless 13)'
unfoldable pub refused_text : ℕ → ℕ → List ℕ
refused_text number at = number_line (bytes "refused=") number ++ number_line (bytes "at=") at

-- not of 01: a writer of a command's three lines, by the rule of the end line's, from which the output of `regrun` is put together
unfoldable pub answer_written : ℕ → ℕ → ℕ → List ℕ → Written
answer_written answer removed added room = written_behind 0 room (answer_text answer removed added)

-- not of 01: a writer of `refused=` and `at=`, by the same rule
unfoldable pub refused_written : ℕ → ℕ → List ℕ → Written
refused_written number at room = written_behind 0 room (refused_text number at)
