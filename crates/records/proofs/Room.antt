-- A record and its cell: whether there is one, whether there is room, and what is stored.
use Prim.Native.Nat.{ℕ, ◌<◌, ◌≤◌}
use mathlib.Core.Path.{◌≡◌, refl}
use mathlib.Core.Bool.{true, false}
use mathlib.Core.List.{List}
use lib.ListN.{length, get_or, set}
use borrow.Author.Tests.{lt-ltb, le-ltb}
use Rattle.std.proofs.Math.Bool.{and-false}
use Rattle.rights.specs.declared.Header.{Header}
use Rattle.rights.specs.Cell.{union}
use Rattle.wording.specs.Records.{Record}
use Rattle.wording.specs.RegisterReader.{in_range}
use Rattle.records.specs.Stored.{place_of, room_for, stored_one}

pub stored_there :
    (h : Header) (cells : List ℕ) (r : Record) → in_range h r ≡ true → place_of h r < length cells →
    set cells (place_of h r) (union (get_or cells (place_of h r) 0) r.perm) ≡ stored_one h cells r
unfolding stored_one room_for
stored_there h cells r e less = rw (e, lt-ltb _ _ less) refl

-- no room in the buffer, and no cell
pub no_room : (h : Header) (cells : List ℕ) (r : Record) → length cells ≤ place_of h r → cells ≡ stored_one h cells r
unfolding stored_one room_for
no_room h cells r less = rw (le-ltb _ _ less, and-false (in_range h r)) refl

pub no_cell : (h : Header) (cells : List ℕ) (r : Record) → in_range h r ≡ false → cells ≡ stored_one h cells r
unfolding stored_one room_for
no_cell h cells r e = rw e refl
