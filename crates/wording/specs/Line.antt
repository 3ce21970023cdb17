-- One line: what a reader of lines makes of the start of a text, and what a line with a given value is as text.
use Rattle.std.specs.Prelude.{ℕ, zero, suc, ◌+◌, ◌*◌, ◌-◌, ◌/◌, ◌%◌, Bool, true, false, ◌&&◌, cond, List, [], ◌∷◌, ◌++◌, eqb, ltb, leb}
use Rattle.wording.specs.Word.{lf, Choice, Kind, key, Form, decimal, one_of, form, word_for, worded}

-- what stands behind a word at the start of a text
pub data After : Type 0 where
  after : List ℕ → After
  otherwise : After

-- the word at the start of the text, byte for byte: 01, 'No other byte.' Keys, words and the end line are read by it
unfoldable pub after_word : List ℕ → List ℕ → After
after_word [] text = after text
after_word (w ∷ word) [] = otherwise
after_word (w ∷ word) (b ∷ text) = elim (eqb b w) [ true ↦ after_word word text | false ↦ otherwise ]

-- what a line says: its value, and what stands behind its LF; or nothing, for a line of another kind, or with no such value, or
-- with no LF
pub data Line : Type 0 where
  value : ℕ → List ℕ → Line
  bad : Line

-- the digits 0 to 9
unfoldable pub is_digit : ℕ → Bool
is_digit b = leb 48 b && leb b 57

-- the number so far with one more digit
unfoldable pub extended : ℕ → ℕ → ℕ
extended v b = 10 * v + (b - 48)

-- 01, 'Numbers': 'decimal, 0 to 65535, no leading zero except 0 itself': behind a 0 no digit follows, and none leads above 65535
unfoldable pub goes_on : ℕ → ℕ → Bool
goes_on v b = is_digit b && leb 1 v && leb (extended v b) 65535

-- the digits behind the first one, up to LF; v is the number so far
unfoldable pub digits : ℕ → List ℕ → Line
digits v [] = bad
digits v (b ∷ text) =
    elim (eqb b lf) [ true ↦ value v text | false ↦ elim (goes_on v b) [ true ↦ digits (extended v b) text | false ↦ bad ] ]

-- a number and LF
unfoldable pub number : List ℕ → Line
number [] = bad
number (b ∷ text) = cond (is_digit b) (digits (b - 48) text) bad

-- one of the words and LF
unfoldable pub chosen : List Choice → List ℕ → Line
chosen [] text = bad
chosen (c ∷ cs) text = elim (after_word (c.word ++ (lf ∷ [])) text) [ after rest ↦ value c.number rest | otherwise ↦ chosen cs text ]

-- a value and LF
unfoldable pub value_of : Form → List ℕ → Line
value_of decimal text = number text
value_of (one_of cs) text = chosen cs text

-- behind the key, the value
unfoldable pub behind_key : Kind → After → Line
behind_key k (after text) = value_of (form k) text
behind_key k otherwise = bad

-- a line of the kind: its key, its value, LF
unfoldable pub line_of : Kind → List ℕ → Line
line_of k text = behind_key k (after_word (key k) text)

-- a number in decimal, with so many divisions by 10 at most
unfoldable pub numeral_by : ℕ → ℕ → List ℕ
numeral_by zero v = (48 + v) ∷ []
numeral_by (suc k) v = elim (ltb v 10) [ true ↦ (48 + v) ∷ [] | false ↦ numeral_by k (v / 10) ++ ((48 + v % 10) ∷ []) ]

-- a number in decimal
unfoldable pub numeral : ℕ → List ℕ
numeral v = numeral_by v v

-- a value as text
unfoldable pub word_of : Form → ℕ → List ℕ
word_of decimal v = numeral v
word_of (one_of cs) v = word_for cs v

-- a line of the kind with the value
unfoldable pub line_text : Kind → ℕ → List ℕ
line_text k v = key k ++ (word_of (form k) v ++ (lf ∷ []))

-- the value can be had: 'decimal, 0 to 65535', or with a word
unfoldable pub fits : Form → ℕ → Bool
fits decimal v = leb v 65535
fits (one_of cs) v = worded cs v
