-- Registers as 01 has them, and what their three tests say. Assumes nothing.
use Prim.Native.Nat.{ℕ, ◌*◌, ◌≤◌, ◌<◌}
use native.Mathlib.Nat.{mul-le-mul_left, mul-le-mul_right}
use native.Mathlib.Omega.{arith}
use mathlib.Core.Path.{◌≡◌}
use mathlib.Core.Bool.{true}
use mathlib.Core.List.{List}
use lib.ListN.{length}
use lib.Dec.{leb, ltb}
use borrow.Author.Tests.{eqb-true, leb-true, ltb-true}
use Rattle.rights.specs.declared.Header.{Header}
use Rattle.rights.specs.Register.{soa_of}
use Rattle.rights.specs.Sound.{headed, whole, readable, sound, first_of, unless, register_refusal}
use Rattle.theory.proofs.Tests.{left_of, right_of, parts_of}

-- n and SOA in range, n·n cells, sound: none of refusals 1, 2 and 3 applies
pub record Ready (h : Header) (R : List ℕ) : Type 0 where
  pub headed : headed h ≡ true
  pub whole : whole h R ≡ true
  pub sound : sound h R ≡ true

module _ (h : Header) where
  pub headed_inside : headed h ≡ true → soa_of h < h.n
  unfolding headed
  headed_inside e = ltb-true (soa_of h) h.n (parts_of (leb 2 h.n) (leb h.n 128) (ltb (soa_of h) h.n) e).2

  pub headed_high : headed h ≡ true → h.n ≤ 128
  unfolding headed
  headed_high e = leb-true h.n 128 (parts_of (leb 2 h.n) (leb h.n 128) (ltb (soa_of h) h.n) e).1

  pub whole_length : (R : List ℕ) → whole h R ≡ true → length R ≡ h.n * h.n
  unfolding whole
  whole_length R e = eqb-true (length R) (h.n * h.n) e

  pub ready_register : (R : List ℕ) → Ready h R → register_refusal h R ≡ 0
  unfolding register_refusal first_of unless
  ready_register R ready = rw (ready.headed, ready.whole, ready.sound)

-- what can be read has 16,384 bytes at most
pub few_cells : (h : Header) (R : List ℕ) → readable h R ≡ true → length R ≤ 16384
few_cells h R t =
    let few = headed_high h (left_of (headed h) (whole h R) t) in
    let e = whole_length h R (right_of (headed h) (whole h R) t) in
    omega (arith, mul-le-mul_left h.n few, mul-le-mul_right 128 few)
