-- The words of the text, in bytes, and the kinds of line that have a value.
use Rattle.std.specs.Prelude.{ℕ, Bool, false, ◌||◌, cond, List, [], ◌∷◌, eqb}
use Prim.Native.Char.{code}
use Prim.Native.String.{String}

-- the bytes of a quoted text, all of it ASCII
abbrev pub bytes : String → List ℕ
bytes String.[] = []
bytes (String.◌∷◌ c s) = code c ∷ bytes s

-- 01: 'Lines end in LF.'
abbrev pub lf : ℕ
lf = 10

-- a word that stands for a number, and the number
pub record Choice : Type 0 where
  pub word : List ℕ
  pub number : ℕ

-- the kinds of line that have a value, each by its key
pub data Kind : Type 0 where
  n_line soa_line layer_line act_line by_line to_line perm_line : Kind

-- 01: 'Header: `n=`, `soa=`, `layer=`. Then for each record `by=`, `to=`, `perm=`', and 'A command is five lines: `act=` .., `layer=`,
-- `by=`, `to=`, `perm=`'
unfoldable pub key : Kind → List ℕ
key n_line = bytes "n="
key soa_line = bytes "soa="
key layer_line = bytes "layer="
key act_line = bytes "act="
key by_line = bytes "by="
key to_line = bytes "to="
key perm_line = bytes "perm="

-- 01: '`act=` (grant, wld, wgd, sld, sgd)', and 'Acts: 0 grant, 1 WLD, 2 WGD, 3 SLD, 4 SGD'
unfoldable pub acts : List Choice
acts =
    record { word = bytes "grant"; number = 0 } ∷
    record { word = bytes "wld"; number = 1 } ∷
    record { word = bytes "wgd"; number = 2 } ∷
    record { word = bytes "sld"; number = 3 } ∷
    record { word = bytes "sgd"; number = 4 } ∷ []

-- 01: '`perm=` (TT, TF, FT, FF)', '8 = TT, 4 = TF, 2 = FT, 1 = FF', and '`none` is code 0'
unfoldable pub perms : List Choice
perms =
    record { word = bytes "TT"; number = 8 } ∷
    record { word = bytes "TF"; number = 4 } ∷
    record { word = bytes "FT"; number = 2 } ∷
    record { word = bytes "FF"; number = 1 } ∷
    record { word = bytes "none"; number = 0 } ∷ []

-- the values that a line may have: the numbers, in decimal, or those with a word
pub data Form : Type 0 where
  decimal : Form
  one_of : List Choice → Form

-- 01: `act=` and `perm=` have words, and every other line has one of the 'Text numbers: decimal, 0 to 65535'
unfoldable pub form : Kind → Form
form n_line = decimal
form soa_line = decimal
form layer_line = decimal
form act_line = one_of acts
form by_line = decimal
form to_line = decimal
form perm_line = one_of perms

-- the word that stands for the number, no byte where there is none
unfoldable pub word_for : List Choice → ℕ → List ℕ
word_for [] v = []
word_for (c ∷ cs) v = cond (eqb v c.number) c.word (word_for cs v)

-- some word stands for the number
unfoldable pub worded : List Choice → ℕ → Bool
worded [] v = false
worded (c ∷ cs) v = eqb v c.number || worded cs v

-- 01: 'Then `end=register`.'
unfoldable pub end_text : List ℕ
end_text = bytes "end=register\n"
