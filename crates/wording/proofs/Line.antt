-- One line: what is read is written again, and what is written is read again.
use Prim.Native.Nat.{ℕ}
use mathlib.Core.Path.{◌≡◌, refl, sym, ap, ◌∙◌}
use mathlib.Core.Bool.{Bool, true, false, ◌&&◌, ◌||◌, not, cond}
use mathlib.Core.List.{List, [], ◌∷◌, ◌++◌, append_assoc}
use lib.Dec.{eqb}
use borrow.Author.Tests.{eqb-true, eq-eqb, le-leb, leb-true}
use Rattle.theory.proofs.Tests.{left_of, right_of}
use Rattle.wording.proofs.Truth.{never}
use Rattle.wording.proofs.Number.{number_read, number-written}
use Rattle.wording.specs.Word.{lf, Choice, Kind, n_line, soa_line, layer_line, act_line, by_line, to_line, perm_line, key, Form, decimal, one_of, form, acts, perms, word_for, worded}
use Rattle.wording.specs.Line.{After, after, otherwise, after_word, Line, value, chosen, value_of, behind_key, line_of, word_of, line_text, fits}

-- the reader of a word, byte by byte: the byte of the word, and another
pub after_word-more : (w b : ℕ) (word text : List ℕ) → eqb b w ≡ true → after_word (w ∷ word) (b ∷ text) ≡ after_word word text
unfolding after_word
after_word-more w b word text e = rw (e, after_word)

pub after_word_stop : (w b : ℕ) (word text : List ℕ) → eqb b w ≡ false → after_word (w ∷ word) (b ∷ text) ≡ otherwise
unfolding after_word
after_word_stop w b word text e = rw (e, after_word)

pub after-word_read : (word text rest : List ℕ) → after_word word text ≡ after rest → word ++ rest ≡ text
unfolding after_word
after-word_read [] text rest e = cc
after-word_read (w ∷ word) [] rest e = never (cc)
after-word_read (w ∷ word) (b ∷ text) rest e = go (after-word_read word text rest) (eqb b w) refl
  where
    go : (after_word word text ≡ after rest → word ++ rest ≡ text) → (t : Bool) → eqb b w ≡ t → w ∷ word ++ rest ≡ b ∷ text
    go ih true q = cc (ih (sym (after_word-more w b word text q) ∙ e), eqb-true b w q)
    go ih false q = never (cc (after_word_stop w b word text q))

pub after_word-written : (word rest : List ℕ) → after_word word (word ++ rest) ≡ after rest
unfolding after_word
after_word-written [] rest = refl
after_word-written (w ∷ word) rest = after_word-more w w word (word ++ rest) (eq-eqb w w refl) ∙ after_word-written word rest

-- no number has two words
distinct : List Choice → Bool
distinct [] = true
distinct (c ∷ cs) = not (worded cs c.number) && distinct cs

-- one of the words and LF, with its number
record WordRead (cs : List Choice) (text : List ℕ) (v : ℕ) (rest : List ℕ) : Type 0 where
  written : word_for cs v ++ (lf ∷ rest) ≡ text
  fit : worded cs v ≡ true

chosen_read : (cs : List Choice) (text : List ℕ) (v : ℕ) (rest : List ℕ) → distinct cs ≡ true → chosen cs text ≡ value v rest → WordRead cs text v rest
unfolding chosen distinct word_for worded
chosen_read [] text v rest d e = never (cc)
chosen_read (c ∷ cs) text v rest d e =
    go (chosen_read cs text v rest (right_of (not (worded cs c.number)) _ d)) (after_word (c.word ++ (lf ∷ [])) text) refl e
  where
    go : (chosen cs text ≡ value v rest → WordRead cs text v rest) → (a : After) → after_word (c.word ++ (lf ∷ [])) text ≡ a →
        elim a as (λ _. Line) [ after r ↦ value c.number r | otherwise ↦ chosen cs text ] ≡ value v rest → WordRead (c ∷ cs) text v rest
    go ih (after r) q f =
        let s : c.number ≡ v = cc in
        let t : eqb v c.number ≡ true = eq-eqb v c.number (sym s) in
        let w : c.word ++ (lf ∷ []) ++ rest ≡ text = after-word_read (c.word ++ (lf ∷ [])) text rest (cc) in
        record { written = rw t (rw append_assoc at w); fit = rw t }
    go ih otherwise q f = other (ih f) (eqb v c.number) refl
      where
        other : WordRead cs text v rest → (t : Bool) → eqb v c.number ≡ t → WordRead (c ∷ cs) text v rest
        other r true t =
            let s : worded cs c.number ≡ true = ap (worded cs) (sym (eqb-true v c.number t)) ∙ r.fit in
            let n : not (worded cs c.number) ≡ true = left_of _ _ d in
            let z : not true ≡ true = rw s at n in
            never (cc)
        other r false t = record { written = rw t r.written; fit = rw t r.fit }

-- each of the words, with LF, is read as its number among all
abbrev EachRead : List Choice → List Choice → Type 0
EachRead all [] = Unit {0}
EachRead all (c ∷ cs) = ((rest : List ℕ) → chosen all (c.word ++ (lf ∷ rest)) ≡ value c.number rest) × EachRead all cs

chosen-written : (all cs : List Choice) (v : ℕ) (rest : List ℕ) → EachRead all cs → worded cs v ≡ true → chosen all (word_for cs v ++ (lf ∷ rest)) ≡ value v rest
unfolding word_for worded
chosen-written all [] v rest r e = never (cc)
chosen-written all (c ∷ cs) v rest r e = go (chosen-written all cs v rest r.1) (eqb v c.number) refl e
  where
    go : (worded cs v ≡ true → chosen all (word_for cs v ++ (lf ∷ rest)) ≡ value v rest) → (t : Bool) → eqb v c.number ≡ t →
        (t || worded cs v) ≡ true → chosen all (cond t c.word (word_for cs v) ++ (lf ∷ rest)) ≡ value v rest
    go ih true q f = rw (eqb-true v c.number q) (r.0 rest)
    go ih false q f = ih f

acts_read : EachRead acts acts
unfolding acts chosen after_word
acts_read = ((λ rest. refl), ((λ rest. refl), ((λ rest. refl), ((λ rest. refl), ((λ rest. refl), tt)))))

perms_read : EachRead perms perms
unfolding perms chosen after_word
perms_read = ((λ rest. refl), ((λ rest. refl), ((λ rest. refl), ((λ rest. refl), ((λ rest. refl), tt)))))

acts_distinct : distinct acts ≡ true
unfolding distinct acts worded
acts_distinct = refl

perms_distinct : distinct perms ≡ true
unfolding distinct perms worded
perms_distinct = refl

-- a form whose words can be told apart
data Clear : Form → Type 0 where
  numbers : Clear decimal
  words : {cs : List Choice} → distinct cs ≡ true → EachRead cs cs → Clear (one_of cs)

form_clear : (k : Kind) → Clear (form k)
unfolding form
form_clear n_line = numbers
form_clear soa_line = numbers
form_clear layer_line = numbers
form_clear act_line = words acts_distinct acts_read
form_clear by_line = numbers
form_clear to_line = numbers
form_clear perm_line = words perms_distinct perms_read

-- what is read as a line of the kind is that line with its value, and the value can be had
pub record LineRead (k : Kind) (text : List ℕ) (v : ℕ) (rest : List ℕ) : Type 0 where
  pub written : line_text k v ++ rest ≡ text
  pub fit : fits (form k) v ≡ true

record ValueRead (f : Form) (text : List ℕ) (v : ℕ) (rest : List ℕ) : Type 0 where
  written : word_of f v ++ (lf ∷ rest) ≡ text
  fit : fits f v ≡ true

value_read : (f : Form) (text : List ℕ) (v : ℕ) (rest : List ℕ) → Clear f → value_of f text ≡ value v rest → ValueRead f text v rest
unfolding value_of word_of fits
value_read decimal text v rest numbers e = let r = number_read text v rest e in record { written = r.written; fit = le-leb v 65535 r.small }
value_read (one_of cs) text v rest (words d c) e = let r = chosen_read cs text v rest d e in record { written = r.written; fit = r.fit }

value_written : (f : Form) (v : ℕ) (rest : List ℕ) → Clear f → fits f v ≡ true → value_of f (word_of f v ++ (lf ∷ rest)) ≡ value v rest
unfolding value_of word_of fits
value_written decimal v rest numbers e = number-written v rest (leb-true v 65535 e)
value_written (one_of cs) v rest (words d c) e = chosen-written cs cs v rest c e

-- a line that is read is the line written from its value
pub line_read_lem : (k : Kind) (text : List ℕ) (v : ℕ) (rest : List ℕ) → line_of k text ≡ value v rest → LineRead k text v rest
unfolding line_of behind_key line_text
line_read_lem k text v rest e = go (after_word (key k) text) refl e
  where
    go : (a : After) → after_word (key k) text ≡ a → behind_key k a ≡ value v rest → LineRead k text v rest
    go (after s) q f =
        let r = value_read (form k) s v rest (form_clear k) f in
        record { written = simp append_assoc (cc (r.written, after-word_read (key k) text s q)); fit = r.fit }
    go otherwise q f = never (cc)

-- a line written from a value that it can have is read as that value
pub line_written : (k : Kind) (v : ℕ) (rest : List ℕ) → fits (form k) v ≡ true → line_of k (line_text k v ++ rest) ≡ value v rest
unfolding line_of behind_key line_text
line_written k v rest e =
    simp append_assoc (rw (after_word-written (key k) (word_of (form k) v ++ (lf ∷ rest))) (value_written (form k) v rest (form_clear k) e))
