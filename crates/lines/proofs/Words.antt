-- Reading one of several words, and the key and the value of a line, at a place in the text.
use Prim.Native.Nat.{ℕ, ◌+◌, ◌≤◌, ◌<◌}
use mathlib.Core.Path.{◌≡◌, refl, sym, ap, ◌∙◌}
use mathlib.Core.List.{List}
use mathlib.Core.Logic.{⊎_elim}
use native.Mathlib.Omega.{arith}
use lib.ListN.{length, get_or, drop, drop_of_length-le}
use lib.Seq.{drop-cons}
use native.Mathlib.Numerals.{add-one}
use Rattle.wording.specs.Word.{Kind, n_line, soa_line, layer_line, act_line, by_line, to_line, perm_line, key, form, end_text}
use Rattle.wording.specs.Line.{After, after, otherwise, after_word, value_of, behind_key, line_of}
use Rattle.wording.specs.Lines.{offset}
use Rattle.wording.proofs.Line.{after-word_read}
use Rattle.wording.proofs.Lines.{rest_within}
use Rattle.theory.proofs.Below.{below_or_not}
use Rattle.wording.proofs.Truth.{never}
use Rattle.numbers.specs.Line.{line_read}
use Rattle.lines.proofs.WordRead.{word-past}
use Rattle.lines.specs.Read.{word_read, chosen_in, line_at, end_at}
use Rattle.std.specs.Borrow.{Bor}
use Rattle.std.specs.declared.option.Option.TheVariants.{Some, None}

-- another word than the one asked for
pub other_word : (text : List ℕ) (a : After) → None ≡ word_read text a → a ≡ otherwise
unfolding word_read
other_word text (after rest) e = never (cc)
other_word text otherwise e = refl

-- the words of a table that are left: the first of them stands there, or it is another and the words behind it are left
pub record ChoiceSoFar (text : List ℕ) (words : List (Bor (List ℕ) × ℕ)) (t : List ℕ) (k : ℕ) : Type 0 where
  pub left : chosen_in (drop k words) t ≡ chosen_in words t

module _ {text : List ℕ} {words : List (Bor (List ℕ) × ℕ)} {t : List ℕ} {k : ℕ} (s : ChoiceSoFar text words t k) where
  pub choice_more :
      (d : Bor (List ℕ) × ℕ) → k < length words → None ≡ word_read text (after_word (get_or words k d).0.now t) → ChoiceSoFar text words t (k + 1)
  unfolding chosen_in
  choice_more d h e = record { left = sym (rw (drop-cons words k d h, add-one, chosen_in, other_word text _ e) refl) ∙ s.left }

  pub choice-found :
      (d : Bor (List ℕ) × ℕ) (next : ℕ) → k < length words → Some next ≡ word_read text (after_word (get_or words k d).0.now t) →
      Some ((get_or words k d).1, next) ≡ line_read text (chosen_in words t)
  unfolding chosen_in line_read word_read
  choice-found d next h e = go (after_word (get_or words k d).0.now t) refl e
    where
      go : (a : After) → after_word (get_or words k d).0.now t ≡ a → Some next ≡ word_read text a → Some ((get_or words k d).1, next) ≡ line_read text (chosen_in words t)
      go (after rest) q f = rw (← s.left, drop-cons words k d h, chosen_in, q) (ap (λ n. Some ((get_or words k d).1, n)) (cc))
      go otherwise q f = absurd (cc)

  pub choice-none : length words ≤ k → None ≡ line_read text (chosen_in words t)
  unfolding chosen_in line_read
  choice-none h = rw (← s.left, drop_of_length-le words {i = k} h) refl

-- a word that is read: it goes on within the text, with what stands behind the word
pub record WordFound (text : List ℕ) (at : ℕ) (word : List ℕ) (next : ℕ) : Type 0 where
  pub within : next ≤ length text
  pub behind : after_word word (drop at text) ≡ after (drop next text)

pub word-found : (text : List ℕ) (at : ℕ) (word : List ℕ) (next : ℕ) → at ≤ length text → Some next ≡ word_read text (after_word word (drop at text)) → WordFound text at word next
unfolding word_read
word-found text at word next h e = go (after_word word (drop at text)) refl e
  where
    go : (a : After) → after_word word (drop at text) ≡ a → Some next ≡ word_read text a → WordFound text at word next
    go (after rest) q f =
        let w = rest_within text at word rest h (after-word_read word (drop at text) rest q) in
        let n : offset text rest ≡ next = cc in
        let part : rest ≡ drop next text = rw n at w.part in
        let inside : next ≤ length text = rw n at w.fits in
        record { within = inside; behind = q ∙ ap after part }
    go otherwise q f = never (cc)

-- each kind has a key of at least two bytes
pub some_key : (k : Kind) → 0 < length (key k)
unfolding key
some_key n_line = omega arith
some_key soa_line = omega arith
some_key layer_line = omega arith
some_key act_line = omega arith
some_key by_line = omega arith
some_key to_line = omega arith
some_key perm_line = omega arith

-- a key that is read stands within the text
pub key-found : (text : List ℕ) (at : ℕ) (k : Kind) (next : ℕ) → Some next ≡ word_read text (after_word (key k) (drop at text)) → WordFound text at (key k) next
key-found text at k next e =
    ⊎_elim (λ past. never (cc (word-past text at (key k) past (some_key k)))) (λ h. word-found text at (key k) next h e) (below_or_not (length text) at)

-- another key, and the key with what stands behind it
pub other_key : (text : List ℕ) (at : ℕ) (k : Kind) → None ≡ word_read text (after_word (key k) (drop at text)) → None ≡ line_at text at k
unfolding line_at line_read line_of behind_key
other_key text at k e = rw (other_word text (after_word (key k) (drop at text)) e) refl

pub behind_key_lem : (text : List ℕ) (at : ℕ) (k : Kind) (next : ℕ) → WordFound text at (key k) next → line_read text (value_of (form k) (drop next text)) ≡ line_at text at k
unfolding line_at line_of behind_key
behind_key_lem text at k next w = rw w.behind refl

-- a line needs bytes: past the text's end there is none
pub no_line : (text : List ℕ) (at : ℕ) (k : Kind) → length text < at → None ≡ line_at text at k
no_line text at k h = other_key text at k (word-past text at (key k) h (some_key k))

pub no_end : (text : List ℕ) (at : ℕ) → length text < at → None ≡ end_at text at
unfolding end_at end_text
no_end text at h = word-past text at end_text h (omega arith)
