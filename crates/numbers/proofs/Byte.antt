-- Reading on by one byte, at a place in the text.
use Prim.Native.Nat.{ℕ, ◌+◌, ◌≤◌, ◌<◌}
use mathlib.Core.Path.{◌≡◌}
use mathlib.Core.List.{List, ◌∷◌}
use native.Mathlib.Numerals.{add-one}
use native.Mathlib.Omega.{arith}
use lib.ListN.{length, get_or, drop, length-drop}
use lib.Seq.{drop-cons}
use Rattle.wording.specs.Lines.{offset}

-- what stands from the byte `at` on is found there again
pub offset-drop : (text : List ℕ) (at : ℕ) → at ≤ length text → offset text (drop at text) ≡ at
unfolding offset
offset-drop text at h = rw length-drop (omega arith)

-- from a byte on: it, and what stands behind it
pub from_byte : (l : List ℕ) (k : ℕ) → k < length l → drop k l ≡ get_or l k 0 ∷ drop (k + 1) l
from_byte l k h = rw (add-one, drop-cons l k 0)
