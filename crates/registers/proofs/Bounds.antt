-- What the header of a register that can be read says: no more than 128 offices, and SOA one of them.
use Prim.Native.Nat.{ℕ, ◌≤◌, ◌<◌}
use mathlib.Core.Path.{◌≡◌}
use mathlib.Core.Bool.{true}
use mathlib.Core.List.{List}
use Rattle.rights.specs.declared.Header.{Header}
use Rattle.rights.specs.Register.{soa_of}
use Rattle.rights.specs.Sound.{headed, whole, readable}
use Rattle.theory.proofs.Tests.{left_of}
use Rattle.theory.proofs.Ready.{headed_inside, headed_high}

module _ (h : Header) (R : List ℕ) where
  pub readable_high : readable h R ≡ true → h.n ≤ 128
  readable_high e = headed_high h (left_of (headed h) (whole h R) e)

  pub readable_inside : readable h R ≡ true → soa_of h < h.n
  readable_inside e = headed_inside h (left_of (headed h) (whole h R) e)
