-- The whole output: which one it is, and that it is told.
use Prim.Native.Nat.{ℕ, ◌≤◌, ◌<◌}
use native.Mathlib.Omega.{arith}
use mathlib.Core.Path.{◌≡◌}
use mathlib.Core.List.{List}
use lib.ListN.{length, replicate}
use borrow.Author.Tests.{lt-ltb, le-ltb, le-leb, lt-leb}
use Rattle.rights.specs.Sound.{unless}
use Rattle.wording.specs.RegisterReader.{register_read}
use Rattle.answers.specs.Answers.{refused_text}
use Rattle.printing.specs.declared.Page.{Page}
use Rattle.printing.specs.Told.{Told}
use Rattle.printing.proofs.Told.{told_refused, told_done}
use Rattle.outputs.specs.Within.{AddsWithin}
use Rattle.outputs.specs.Output.{behind_register, output, output_written}

-- 'Input too long (15, checked first)'
pub output_long : (input : List ℕ) → 65536 < length input → refused_text 15 0 ≡ output input
unfolding output
output_long input long = rw (lt-ltb 65536 (length input) long)

pub output_read : (input : List ℕ) → length input ≤ 65536 → behind_register (register_read input (replicate 16384 0)) ≡ output input
unfolding output
output_read input short = rw (le-ltb 65536 (length input) short)

module _ (input room : List ℕ) where
  -- a room that is too small for some output is left as it was
  pub room_short : length room < 1700000 → Told (output_written input room) (record { answer = 14; size = 0 }) room
  unfolding output_written unless
  room_short short = rw (lt-leb 1700000 (length room) short) (told_refused 14 room (output input) (λ e. omega (arith, e)))

  pub output_told :
      {before after : Page} → 1700000 ≤ length before.room.now → before.at ≡ 0 → AddsWithin 1700000 (output input) before after → room ≡ after.room.now →
      Told (output_written input before.room.now) (record { answer = 0; size = after.at }) room
  unfolding output_written unless
  output_told {before} large start put last =
      rw (le-leb 1700000 (length before.room.now) large) (told_done start (record { enough = omega (arith, put.adds.ends, put.few) }) put.adds last)
