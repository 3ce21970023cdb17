-- What a writer answers in each of its ways out.
use Prim.Native.Nat.{ℕ, ◌+◌, ◌-◌, ◌≤◌, ◌<◌}
use native.Mathlib.Nat.{zero-add}
use native.Mathlib.Omega.{arith}
use mathlib.Core.Path.{◌≡◌, refl, ◌∙◌}
use mathlib.Core.List.{List, append-nil, append_assoc}
use lib.ListN.{length, drop, length-drop, drop_of_length-le}
use lib.Seq.{sets-eq, take_all, drop-drop}
use borrow.Rule.Slice.Mut.{set_vals}
use borrow.Rule.Slice.PartMut.{mid_of, put_mid}
use borrow.Author.Tests.{ne_eqb, lt-ltb}
use Rattle.wording.specs.Writer.{not_written, written, written_behind}
use Rattle.wording.proofs.Writers.{room-enough}
use Rattle.printing.specs.Page.{Fits, Adds}
use Rattle.printing.specs.Told.{Told}
use Rattle.printing.specs.declared.Page.{Page}
use Rattle.printing.specs.declared.Written.{Written}

-- a refusal of the checks before 14
pub told_refused : (refusal : ℕ) (room text : List ℕ) → (refusal ≡ 0 → ⊥) → Told (written_behind refusal room text) (record { answer = refusal; size = 0 }) room
unfolding written_behind not_written
told_refused refusal room text e = rw (ne_eqb refusal 0 e) (record { answered = refl; sized = refl; left = refl })

-- the text is longer than the room
pub told_short : (room text : List ℕ) → length room < length text → Told (written_behind 0 room text) (record { answer = 14; size = 0 }) room
unfolding written_behind not_written
told_short room text h = rw (lt-ltb (length room) (length text) h) (record { answered = refl; sized = refl; left = refl })

-- the text has been written at the start of a page
pub told_done :
    {text room : List ℕ} {before after : Page} → before.at ≡ 0 → Fits text before → Adds text before after → room ≡ after.room.now →
    Told (written_behind 0 before.room.now text) (record { answer = 0; size = after.at }) room
unfolding written
told_done {text} {room} {before} start fits p last =
    rw (room-enough before.room.now text (omega (arith, fits.enough)))
    (record {
      answered = refl;
      sized = omega (arith, p.ends);
      left = last ∙ p.holds ∙ sets-eq text before.room.now before.at fits.enough ∙ rw (start, zero-add);
    })

-- the text has been written into the rest of a page, which was lent
pub told_part :
    {text part : List ℕ} {result : Written} (before : Page) → Fits text before →
    Told (written_behind 0 (mid_of before.at (length before.room.now - before.at) before.room.now) text) result part →
    Adds text before
    (record {
      room = set_vals (put_mid before.at (length before.room.now - before.at) before.room.now part) before.room;
      at = before.at + result.size;
    })
unfolding written
told_part {text} before fits told =
    let rest = drop before.at before.room.now in
    let size = length-drop before.at before.room.now in
    let short : length rest ≤ length before.room.now - before.at = omega arith in
    let enough : length text ≤ length rest = omega (arith, fits.enough) in
    let there = rw (take_all (length before.room.now - before.at) rest short, room-enough rest text enough) at told in
    record {
      same = refl;
      ends = omega (arith, there.sized);
      holds =
          simp (there.left, drop_of_length-le rest short, append-nil, drop-drop, sets-eq text before.room.now before.at fits.enough, append_assoc);
    }
