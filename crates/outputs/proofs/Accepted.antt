-- Where no refusal of the register applies, none of its writers' does before 14, and it can be read.
use Prim.Native.Nat.{ℕ, ◌<◌}
use mathlib.Core.Path.{◌≡◌}
use mathlib.Core.Bool.{true}
use mathlib.Core.List.{List}
use borrow.Author.Tests.{lt-ltb}
use Rattle.rights.specs.declared.Header.{Header}
use Rattle.rights.specs.Sound.{headed, readable, first_of, unless, register_refusal}
use Rattle.theory.proofs.Refusals.{register_ready}
use Rattle.wording.specs.Writer.{row_refusal}

pub header_accepted : (h : Header) → headed h ≡ true → unless (headed h) 1 ≡ 0
unfolding unless
header_accepted h e = rw e

module _ (h : Header) (R : List ℕ) (none : register_refusal h R ≡ 0) where
  pub row_accepted : (i : ℕ) → i < h.n → row_refusal h R i ≡ 0
  unfolding row_refusal first_of unless
  row_accepted i below = rw (none, lt-ltb i h.n below)

  pub register_readable : readable h R ≡ true
  register_readable = let ready = register_ready h R none in rw (ready.headed, ready.whole)
