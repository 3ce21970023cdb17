-- What is true of a run at each turn: what is left to do gives what the whole run gives.
use Prim.Native.Nat.{ℕ, suc, ◌+◌, ◌*◌, ◌≤◌, ◌<◌}
use native.Mathlib.Omega.{arith}
use native.Mathlib.Numerals.{add-one}
use mathlib.Core.Path.{◌≡◌, refl, ap, ap₂, sym, ◌∙◌}
use mathlib.Core.List.{List, [], ◌∷◌, ◌++◌, append_assoc, append-nil}
use lib.ListN.{length, take, drop, get_or, set, length-set}
use lib.Seq.{drop-cons, take-suc-set, drop-set-lt, drop-length, take_all}
use borrow.Author.Tests.{lt-ltb, le-ltb}
use Rattle.rights.specs.declared.Header.{Header}
use Rattle.rights.specs.declared.Entry.{Entry}
use Rattle.rights.specs.declared.Tally.{Tally}
use Rattle.rights.specs.declared.Ran.{Ran}
use Rattle.rights.specs.Command.{outcome}
use Rattle.rights.specs.Run.{Ending, answered_with, followed_by, untouched, in_turn, run_outcome}
use Rattle.runs.specs.Post.{TakenIn, RanAs}

-- an entry to read past the end of a list
abbrev pub blank : Entry
blank = record {
  command = record { act = 0; layer = record { 0 = 0 }; by = record { 0 = 0 }; to = record { 0 = 0 }; perm = 0 };
  answer = 0;
}

-- nothing is counted yet
abbrev pub Empty : Tally → Type 0
Empty t = (t.removed ≡ 0) × (t.added ≡ 0)

-- where a run stands once k of its entries are answered
pub record Stand : Type 0 where
  pub k : ℕ
  pub cells : List ℕ
  pub entries : List Entry
  pub tally : Tally

abbrev pub standing : ℕ → List ℕ → List Entry → Tally → Stand
standing k cells entries tally = record { k = k; cells = cells; entries = entries; tally = tally }

-- the entry whose turn it is
abbrev pub entry_at : Stand → Entry
entry_at s = get_or s.entries s.k blank

abbrev left : Header → Stand → Ending
left h s = in_turn h s.cells (drop s.k s.entries)

pub record Turn (h : Header) (R : List ℕ) (es : List Entry) (s : Stand) : Type 0 where
  pub few : length es ≤ 256
  pub within : s.k ≤ length es
  pub count : length s.entries ≡ length es
  pub size : length s.cells ≡ length R
  pub entries : take s.k s.entries ++ (left h s).entries ≡ (in_turn h R es).entries
  pub removed : s.tally.removed + (left h s).removed ≡ (in_turn h R es).removed
  pub added : s.tally.added + (left h s).added ≡ (in_turn h R es).added
  pub cells : (left h s).cells ≡ (in_turn h R es).cells
  pub removed_small : s.tally.removed ≤ s.k * 4294967296
  pub added_small : s.tally.added ≤ s.k * 4294967296

pub start : (h : Header) (R : List ℕ) (es : List Entry) (t : Tally) → Empty t → length es ≤ 256 → Turn h R es (standing 0 R es t)
start h R es t empty few = record {
  few = few;
  within = omega arith;
  count = refl;
  size = refl;
  entries = refl;
  removed = omega arith;
  added = omega arith;
  cells = refl;
  removed_small = omega arith;
  added_small = omega arith;
}

-- the entry answered, and what came back of taking it in
abbrev pub moved : Stand → Ran → List ℕ → Stand
moved s r S = record {
  k = s.k + 1;
  cells = S;
  entries = set s.entries s.k (answered_with (entry_at s) r.answer);
  tally = r.tally;
}

module _ (h : Header) (R : List ℕ) (es : List Entry) (s : Stand) (turn : Turn h R es s) where
  pub next :
      s.k < length es → (r : Ran) (S : List ℕ) → TakenIn h s.cells (entry_at s).command s.tally r S →
      length S ≡ length s.cells → Turn h R es (moved s r S)
  unfolding in_turn followed_by
  next less r S taken size =
      let o = outcome h s.cells (entry_at s).command in
      let e = answered_with (entry_at s) r.answer in
      let here : s.k < length s.entries = omega arith in
      let rest = drop (suc s.k) s.entries in
      let was : left h s ≡ followed_by (entry_at s) o (in_turn h o.cells rest) = ap (in_turn h s.cells) (drop-cons s.entries s.k blank here) in
      let is : left h (moved s r S) ≡ in_turn h o.cells rest = rw (add-one, drop-set-lt (suc s.k) s.entries s.k e (omega arith), taken.cells) in
      record {
        few = turn.few;
        within = omega arith;
        count = length-set s.entries s.k e ∙ turn.count;
        size = size ∙ turn.size;
        entries =
            ap₂ ◌++◌ (ap (λ (m : ℕ). take m (set s.entries s.k e)) (add-one s.k) ∙ take-suc-set s.entries s.k e here) (ap (λ (x : Ending). x.entries) is)
            ∙ append_assoc (take s.k s.entries) (e ∷ []) (in_turn h o.cells rest).entries
            ∙ ap (λ (a : ℕ). take s.k s.entries ++ (answered_with (entry_at s) a ∷ (in_turn h o.cells rest).entries)) taken.answer
            ∙ ap (λ (x : Ending). take s.k s.entries ++ x.entries) (sym was)
            ∙ turn.entries;
        removed = let i = ap (λ (x : Ending). x.removed) is in let w = ap (λ (x : Ending). x.removed) was in omega arith;
        added = let i = ap (λ (x : Ending). x.added) is in let w = ap (λ (x : Ending). x.added) was in omega arith;
        cells = ap (λ (x : Ending). x.cells) is ∙ sym (ap (λ (x : Ending). x.cells) was) ∙ turn.cells;
        removed_small = omega arith;
        added_small = omega arith;
      }

  pub over : length es ≤ s.k → RanAs (run_outcome h R es) (record { answer = 0; tally = s.tally }) s.cells s.entries
  unfolding run_outcome in_turn untouched
  over done =
      let e : s.k ≡ length s.entries = omega arith in
      let none : left h s ≡ untouched s.cells [] = ap (in_turn h s.cells) (ap (λ (m : ℕ). drop m s.entries) e ∙ drop-length s.entries) in
      rw (le-ltb 256 (length es) turn.few)
      (record {
        answer = refl;
        removed = let n = ap (λ (x : Ending). x.removed) none in omega arith;
        added = let n = ap (λ (x : Ending). x.added) none in omega arith;
        cells = sym (ap (λ (x : Ending). x.cells) none) ∙ turn.cells;
        entries = rw (ap (λ (x : Ending). x.entries) none, append-nil, take_all s.k s.entries (omega arith)) at turn.entries;
      })

pub refused :
    (h : Header) (R : List ℕ) (es : List Entry) (t : Tally) → Empty t → 256 < length es → {k : ℕ} → k ≡ 16 →
    RanAs (run_outcome h R es) (record { answer = k; tally = t }) R es
unfolding run_outcome untouched
refused h R es t empty many answer =
    rw (lt-ltb 256 (length es) many) (record { answer = answer; removed = empty.0; added = empty.1; cells = refl; entries = refl })
