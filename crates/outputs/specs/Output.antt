-- 01, 'Program `regrun`': the whole output for an input.
use Rattle.std.specs.Prelude.{ℕ, zero, suc, ◌+◌, ◌*◌, cond, List, ◌++◌, eqb, ltb, leb, length, take, replicate}
use Rattle.rights.specs.declared.Header.{Header}
use Rattle.rights.specs.Sound.{unless}
use Rattle.rights.specs.Command.{Outcome, outcome}
use Rattle.wording.specs.Records.{register_text}
use Rattle.wording.specs.RegisterReader.{RegisterRead, register_read}
use Rattle.wording.specs.CommandReader.{command_read}
use Rattle.wording.specs.Writer.{Written, written_behind}
use Rattle.answers.specs.Answers.{answer_text, refused_text}

-- 'For each command: `answer=` (0 or its refusal), `removed=` and `added=` (its own tally).'
unfoldable pub answer_lines : Outcome → List ℕ
answer_lines o = answer_text o.answer o.removed o.added

-- 'command texts until the input ends, run one at a time .. At the end the register text. .. a refused text writes `refused=` and
-- `at=` (offset in the input ..) and stops.' The commands stand from the byte `at` of the input on, so many at most; that the
-- text's length is enough is a law.
unfoldable pub commands_by : ℕ → Header → List ℕ → ℕ → List ℕ → List ℕ
commands_by zero h R at text = register_text h R
commands_by (suc k) h R at text =
    cond (eqb (length text) 0) (register_text h R)
    (cond (eqb (command_read text).answer 0)
    (answer_lines (outcome h R (command_read text).command) ++
    commands_by k h (outcome h R (command_read text).command).cells (at + (command_read text).next) (command_read text).rest)
    (refused_text (command_read text).answer (at + (command_read text).at)))

-- the same with as many commands at most as the text has bytes
unfoldable pub commands_output : Header → List ℕ → ℕ → List ℕ → List ℕ
commands_output h R at text = commands_by (length text) h R at text

-- 'standard input is a register text, then command texts': the buffer is as large as the largest register
unfoldable pub behind_register : RegisterRead → List ℕ
behind_register o =
    cond (eqb o.answer 0) (commands_output o.header (take (o.header.n * o.header.n) o.buffer) o.next o.rest)
    (refused_text o.answer o.at)

-- 'Program input: up to 65,536 bytes', and 'Input too long (15, checked first)'
unfoldable pub output : List ℕ → List ℕ
output input = cond (ltb 65536 (length input)) (refused_text 15 0) (behind_register (register_read input (replicate 16384 0)))

-- the output written at the start of a room; one below 1,700,000 bytes, which are enough for every output, is refused
unfoldable pub output_written : List ℕ → List ℕ → Written
output_written input room = written_behind (unless (leb 1700000 (length room)) 14) room (output input)
