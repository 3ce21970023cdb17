-- The checks 1, 2, 6, 7 and 3 in order.
use Prim.Native.Nat.{ℕ, ◌*◌, ◌≤◌, ◌<◌}
use mathlib.Core.Path.{◌≡◌, refl}
use mathlib.Core.Bool.{Bool, true, false}
use mathlib.Core.List.{List}
use lib.ListN.{length, take}
use lib.Seq.{length-take-le}
use borrow.Author.Tests.{lt-leb, le-leb, eq-eqb}
use Rattle.rights.specs.declared.Header.{Header}
use Rattle.rights.specs.Sound.{headed, whole, first_of, unless, register_refusal}
use Rattle.wording.specs.RegisterReader.{read_refusal}
use Rattle.register_reader.specs.Told.{buffer_refusal}

module _ (h : Header) (cells : List ℕ) (out barred : Bool) where
  pub refuses_1 : headed h ≡ false → 1 ≡ buffer_refusal h cells out barred
  unfolding buffer_refusal read_refusal first_of unless
  refuses_1 e = rw e refl

  module _ (head : headed h ≡ true) where
    pub refuses_2 : length cells < h.n * h.n → 2 ≡ buffer_refusal h cells out barred
    unfolding buffer_refusal read_refusal first_of unless
    refuses_2 short = rw (head, lt-leb _ _ short) refl

    module _ (room : h.n * h.n ≤ length cells) where
      pub refuses_6 : out ≡ true → 6 ≡ buffer_refusal h cells out barred
      unfolding buffer_refusal read_refusal first_of unless
      refuses_6 e = rw (head, le-leb _ _ room, e) refl

      pub refuses_7 : out ≡ false → barred ≡ true → 7 ≡ buffer_refusal h cells out barred
      unfolding buffer_refusal read_refusal first_of unless
      refuses_7 e f = rw (head, le-leb _ _ room, e, f) refl

      -- what the test of a register by itself says of the first n·n bytes
      pub refuses_3 : out ≡ false → barred ≡ false → register_refusal h (take (h.n * h.n) cells) ≡ buffer_refusal h cells out barred
      unfolding buffer_refusal read_refusal register_refusal first_of unless whole
      refuses_3 e f =
          rw (head, le-leb _ _ room, e, f, eq-eqb _ _ (length-take-le (h.n * h.n) cells room))
