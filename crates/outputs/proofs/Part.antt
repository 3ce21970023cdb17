-- Texts of bounded length on a page: none, one behind the other, and the text of a writer that is lent the rest of the page.
use Prim.Native.Nat.{ℕ, ◌+◌, ◌-◌, ◌≤◌}
use native.Mathlib.Omega.{arith}
use mathlib.Core.Path.{◌≡◌}
use mathlib.Core.List.{List, [], ◌++◌}
use lib.ListN.{length}
use borrow.Rule.Slice.Mut.{set_vals}
use borrow.Rule.Slice.PartMut.{mid_of, put_mid}
use Rattle.wording.specs.Writer.{written_behind}
use Rattle.printing.specs.Told.{Told}
use Rattle.printing.specs.declared.Page.{Page}
use Rattle.printing.specs.declared.Written.{Written}
use Rattle.printing.proofs.Told.{told_part}
use Rattle.printing.proofs.Adds.{adds_none, adds_both, adds_length}
use Rattle.outputs.specs.Within.{HasRoom, AddsWithin}

pub put_part :
    {part : List ℕ} {result : Written} (before : Page) (refusal bound : ℕ) (text : List ℕ) → refusal ≡ 0 → HasRoom bound before → length text ≤ bound →
    Told (written_behind refusal (mid_of before.at (length before.room.now - before.at) before.room.now) text) result part →
    AddsWithin bound text before
    (record {
      room = set_vals (put_mid before.at (length before.room.now - before.at) before.room.now part) before.room;
      at = before.at + result.size;
    })
put_part before refusal bound text none room few told =
    let put = told_part {text = text} before (record { enough = omega (arith, room.enough) }) (rw none at told) in
    record { adds = put; few = omega (arith, put.ends) }

pub within_none : {page : Page} → AddsWithin 0 [] page page
within_none = record { adds = adds_none; few = omega arith }

pub within_both :
    {before between after : Page} {xs ys : List ℕ} {m n : ℕ} → AddsWithin m xs before between → AddsWithin n ys between after →
    AddsWithin (m + n) (xs ++ ys) before after
within_both p q = record { adds = adds_both p.adds q.adds; few = omega (arith, p.few, q.few) }

pub within_wider : {before after : Page} {xs : List ℕ} {m : ℕ} (n : ℕ) → m ≤ n → AddsWithin m xs before after → AddsWithin n xs before after
within_wider n le p = record { adds = p.adds; few = omega (arith, p.few) }

-- what is left behind a text
pub room_behind : {before between : Page} {xs : List ℕ} {m : ℕ} (n k : ℕ) → AddsWithin m xs before between → m + k ≤ n → HasRoom n before → HasRoom k between
room_behind n k p le room = record { enough = omega (arith, room.enough, p.few, adds_length p.adds) }

pub room_smaller : {page : Page} {n : ℕ} (k : ℕ) → k ≤ n → HasRoom n page → HasRoom k page
room_smaller k le room = record { enough = omega (arith, room.enough) }
