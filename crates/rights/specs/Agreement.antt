-- When the definitions give what a worked case says.
use Rattle.std.specs.Prelude.{ℕ, Bool, true, false, ◌&&◌, List, [], ◌∷◌, ◌++◌, length, replicate, drop, eqb}
use Rattle.rights.specs.declared.Command.{Command}
use Rattle.rights.specs.declared.Entry.{Entry}
use Rattle.rights.specs.Permission.{code}
use Rattle.rights.specs.Run.{run_outcome}
use Rattle.rights.specs.Question.{answered}
use Rattle.rights.specs.Maps.{Map, map_header, bytes_of}
use Rattle.rights.specs.Cases.{Case, cut, ask}

-- the commands as a caller hands them in, each with a number in the place of its answer that no command answers
unfoldable pub unanswered : List Command → List Entry
unanswered [] = []
unanswered (c ∷ commands) = record { command = c; answer = 99 } ∷ unanswered commands

-- the answers that a run has set: 01, 'sets each answer'
unfoldable pub answers_of : List Entry → List ℕ
answers_of [] = []
answers_of (e ∷ entries) = e.answer ∷ answers_of entries

-- not of 01: two lists of numbers compared, by which answers, registers and chain buffers are held against a case
unfoldable pub same_numbers : List ℕ → List ℕ → Bool
same_numbers [] [] = true
same_numbers [] (y ∷ ys) = false
same_numbers (x ∷ xs) [] = false
same_numbers (x ∷ xs) (y ∷ ys) = eqb x y && same_numbers xs ys

-- a chain buffer of n bytes, none of them an office, so that a byte that must stay is seen to stay
unfoldable pub buffer : Map → List ℕ
buffer m = replicate m.n 9

-- 01: 'the definitions give each result', of one case: every answer, the tally and every byte of what was lent
unfoldable pub agrees : Case → Bool
agrees (cut m commands answers removed added left) =
    let o = run_outcome (map_header m) (bytes_of m) (unanswered commands) in
    let e = o.ending in
    eqb o.answer 0 && same_numbers (answers_of e.entries) answers && eqb e.removed removed && eqb e.added added && same_numbers e.cells (bytes_of left)
agrees (ask m j p answer chain) =
    let a = answered (map_header m) (bytes_of m) j (code p) (buffer m) in
    eqb a.answer answer && eqb a.offices (length chain) && same_numbers a.chain (chain ++ drop (length chain) (buffer m))

-- 01: 'a list with a single statement that the definitions give each result': the statement, as a test of a list
unfoldable pub all_agree : List Case → Bool
all_agree [] = true
all_agree (c ∷ cs) = agrees c && all_agree cs
