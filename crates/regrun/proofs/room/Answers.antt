-- `regrun::room` meets its contract by a law over the length: so many zeros are not counted one by one.
use Prim.Native.Nat.{ℕ}
use mathlib.Core.Path.{◌≡◌, sym}
use lib.ListN.{length, replicate, length-replicate}
use Rattle.regrun.proofs.room.Goals as goal

long : (k b : ℕ) → k ≡ length (replicate k b)
long k b = sym (length-replicate k b)

pub returns : goal.returns
returns c = long 1700000 0
