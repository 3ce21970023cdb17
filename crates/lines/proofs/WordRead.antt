-- Reading a word at a place in the text, by the library's methods on slices.
use Rattle.std.proofs.Common.{ℕ, ◌-◌, ◌<◌, List, [], ◌∷◌, length, take, drop, ◌≡◌, refl, arith, Bool, true, false, ◌&&◌, nat_eq}
use Rattle.std.specs.declared.option.Option.TheVariants.{Some, None}
use lib.Pointwise.{pointwise}
use lib.ListN.{drop_of_length-le, length-drop}
use Rattle.std.specs.List.{slice_range}
use Rattle.std.proofs.lemmas.List.{take_all}
use Rattle.wording.specs.Line.{after, otherwise, after_word}
use Rattle.wording.specs.Lines.{offset}
use Rattle.lines.specs.Read.{word_read}

-- the text begins with the word, or not
begins : (word text : List ℕ) → pointwise nat_eq (take (length word) text) word ≡ true → after_word word text ≡ after (drop (length word) text)
unfolding after_word
begins [] text e = refl
begins (w ∷ word) [] e = absurd (cc)
begins (w ∷ word) (b ∷ text) e = go (begins word text) (nat_eq b w) refl e
  where
    go : (pointwise nat_eq (take (length word) text) word ≡ true → after_word word text ≡ after (drop (length word) text)) → (t : Bool) → nat_eq b w ≡ t →
        (t && pointwise nat_eq (take (length word) text) word) ≡ true → after_word (w ∷ word) (b ∷ text) ≡ after (drop (length word) text)
    go ih true q f = rw (q, after_word) (ih f)
    go ih false q f = absurd (cc)

other : (word text : List ℕ) → pointwise nat_eq (take (length word) text) word ≡ false → after_word word text ≡ otherwise
unfolding after_word
other [] text e = absurd (cc)
other (w ∷ word) [] e = refl
other (w ∷ word) (b ∷ text) e = go (other word text) (nat_eq b w) refl e
  where
    go : (pointwise nat_eq (take (length word) text) word ≡ false → after_word word text ≡ otherwise) → (t : Bool) → nat_eq b w ≡ t →
        (t && pointwise nat_eq (take (length word) text) word) ≡ false → after_word (w ∷ word) (b ∷ text) ≡ otherwise
    go ih true q f = rw (q, after_word) (ih f)
    go ih false q f = rw (q, after_word)

-- the slice of the text from a byte on
pub behind : (text : List ℕ) (at : ℕ) → slice_range text at (length text) ≡ drop at text
behind text at = take_all (length text - at) (drop at text) (omega (arith, length-drop at text))

module _ (text : List ℕ) (at : ℕ) (word : List ℕ) where
  -- a word needs bytes: past the text's end there is none
  pub word-past : length text < at → 0 < length word → None ≡ word_read text (after_word word (drop at text))
  unfolding word_read after_word
  word-past h some = rw (drop_of_length-le text {i = at} (omega arith)) (go word some)
    where
      go : (word : List ℕ) → 0 < length word → None ≡ word_read text (after_word word [])
      go [] some = absurd (omega arith)
      go (w ∷ word) some = refl

  module _ {rest : List ℕ} (r : rest ≡ slice_range text at (length text)) where
    pub word-other : pointwise nat_eq (take (length word) rest) word ≡ false → None ≡ word_read text (after_word word (drop at text))
    unfolding word_read
    word-other e = rw (← (behind text at), ← r, other word rest e) refl

    pub word-stands :
        {left : List ℕ} → pointwise nat_eq (take (length word) rest) word ≡ true → left ≡ drop (length word) rest →
        Some (length text - length left) ≡ word_read text (after_word word (drop at text))
    unfolding word_read offset
    word-stands {left} e l = rw (← (behind text at), ← r, begins word rest e, l) refl
