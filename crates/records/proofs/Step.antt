-- The three lines of a record, at a place in the text, each by its reader's answer.
use Prim.Native.Nat.{ℕ, ◌≤◌}
use mathlib.Core.Path.{◌≡◌, refl, ◌∙◌}
use mathlib.Core.Bool.{true, false}
use mathlib.Core.List.{List}
use lib.ListN.{length, drop}
use Rattle.wording.specs.Word.{by_line, to_line, perm_line}
use Rattle.wording.specs.Line.{line_of}
use Rattle.wording.specs.Records.{Record, by_may, to_may, perm_may, with_perm, with_to, with_by, record_from}
use Rattle.lines.specs.Read.{line_at}
use Rattle.std.specs.declared.option.Option.TheVariants.{Some, None}
use Rattle.std.specs.declared.result.Result.TheVariants.{Ok, Err}
use Rattle.numbers.proofs.Byte.{offset-drop}
use Rattle.lines.proofs.Found.{line_found, line_bad}
use Rattle.records.specs.Read.{typed_record, record_read}

-- the grantor is i: the line of the subject comes next
pub record ByRead (text : List ℕ) (at : ℕ) (last : Record) (i next : ℕ) : Type 0 where
  pub within : next ≤ length text
  pub left : with_to last i (drop next text) (line_of to_line (drop next text)) ≡ record_from last (drop at text)

-- and the subject j: the line of the permission comes next
pub record ToRead (text : List ℕ) (at : ℕ) (last : Record) (i j next : ℕ) : Type 0 where
  pub within : next ≤ length text
  pub left : with_perm last i j (drop next text) (line_of perm_line (drop next text)) ≡ record_from last (drop at text)

module _ (text : List ℕ) (at : ℕ) (last : Record) (h : at ≤ length text) where
  pub by-bad : line_at text at by_line ≡ None → Err at ≡ record_read text (record_from last (drop at text))
  unfolding record_read record_from with_by
  by-bad e = rw (line_bad text at by_line e, offset-drop text at h) refl

  pub by-not : (i next : ℕ) → line_at text at by_line ≡ Some (i, next) → by_may last i ≡ false → Err at ≡ record_read text (record_from last (drop at text))
  unfolding record_read record_from with_by
  by-not i next e may = rw ((line_found text at by_line i next e).read, may, offset-drop text at h) refl

pub by_read : (text : List ℕ) (at : ℕ) (last : Record) (i next : ℕ) → line_at text at by_line ≡ Some (i, next) → by_may last i ≡ true → ByRead text at last i next
unfolding record_from with_by
by_read text at last i next e may = let f = line_found text at by_line i next e in record { within = f.within; left = rw (f.read, may) refl }

module _ {text : List ℕ} {at : ℕ} {last : Record} {i to_at : ℕ} (s : ByRead text at last i to_at) where
  pub to-bad : line_at text to_at to_line ≡ None → Err to_at ≡ record_read text (record_from last (drop at text))
  unfolding record_read with_to
  to-bad e = rw (← s.left, line_bad text to_at to_line e, offset-drop text to_at s.within) refl

  module _ (j next : ℕ) (e : line_at text to_at to_line ≡ Some (j, next)) where
    pub to-not : to_may last i j ≡ false → Err to_at ≡ record_read text (record_from last (drop at text))
    unfolding record_read with_to
    to-not may = rw (← s.left, (line_found text to_at to_line j next e).read, may, offset-drop text to_at s.within) refl

    pub to_read : to_may last i j ≡ true → ToRead text at last i j next
    unfolding with_to
    to_read may = let f = line_found text to_at to_line j next e in record { within = f.within; left = (rw (f.read, may) refl) ∙ s.left }

module _ {text : List ℕ} {at : ℕ} {last : Record} {i j perm_at : ℕ} (s : ToRead text at last i j perm_at) where
  pub perm-bad : line_at text perm_at perm_line ≡ None → Err perm_at ≡ record_read text (record_from last (drop at text))
  unfolding record_read with_perm
  perm-bad e = rw (← s.left, line_bad text perm_at perm_line e, offset-drop text perm_at s.within) refl

  module _ (p next : ℕ) (e : line_at text perm_at perm_line ≡ Some (p, next)) where
    pub perm-not : perm_may last i j p ≡ false → Err perm_at ≡ record_read text (record_from last (drop at text))
    unfolding record_read with_perm
    perm-not may = rw (← s.left, (line_found text perm_at perm_line p next e).read, may, offset-drop text perm_at s.within) refl

    pub perm-got :
        perm_may last i j p ≡ true → Ok (typed_record (record { by = i; to = j; perm = p }), next) ≡ record_read text (record_from last (drop at text))
    unfolding record_read with_perm
    perm-got may = let f = line_found text perm_at perm_line p next e in rw (← s.left, f.read, may, offset-drop text next f.within) refl
