-- What the readers of lines answer: each answer by what the definitions of the text make of the bytes.
use Rattle.std.specs.Prelude.{ℕ, List, [], ◌∷◌, drop}
use Rattle.std.specs.Borrow.{Bor}
use Rattle.std.specs.declared.option.Option.{Option}
use Rattle.std.specs.declared.option.Option.TheVariants.{Some, None}
use Rattle.wording.specs.Word.{Kind, n_line, soa_line, layer_line, act_line, by_line, to_line, perm_line, end_text}
use Rattle.wording.specs.Line.{After, after, otherwise, after_word, Line, value, bad, line_of}
use Rattle.wording.specs.Lines.{offset}
use Rattle.numbers.specs.Line.{line_read}
use Rattle.lines.specs.declared.LineKind.{LineKind}
use Rattle.lines.specs.declared.LineKind.TheVariants.{N, Soa, Layer, Act, By, To, Perm}

-- the kind of line that each case asks for
unfoldable pub kind_of : LineKind → Kind
kind_of N = n_line
kind_of Soa = soa_line
kind_of Layer = layer_line
kind_of Act = act_line
kind_of By = by_line
kind_of To = to_line
kind_of Perm = perm_line

-- where in the text it goes on behind a word
unfoldable pub word_read : List ℕ → After → Option ℕ
word_read text (after rest) = Some (offset text rest)
word_read text otherwise = None

-- the first of a table's words, each with its LF and its number
unfoldable pub chosen_in : List (Bor (List ℕ) × ℕ) → List ℕ → Line
chosen_in [] text = bad
chosen_in (c ∷ cs) text = elim (after_word c.0.now text) [ after rest ↦ value c.1 rest | otherwise ↦ chosen_in cs text ]

-- what stands at the byte `at` as a line of the kind
unfoldable pub line_at : List ℕ → ℕ → Kind → Option (ℕ × ℕ)
line_at text at k = line_read text (line_of k (drop at text))

-- whether the end line stands at the byte `at`, and where the text goes on behind it
unfoldable pub end_at : List ℕ → ℕ → Option ℕ
end_at text at = word_read text (after_word end_text (drop at text))
