-- A copy that is made byte by byte into zeros, and a register as the start of its copy.
use Prim.Native.Nat.{ℕ, ◌-◌, ◌≤◌, ◌<◌, min}
use native.Mathlib.Omega.{arith}
use mathlib.Core.Path.{◌≡◌, refl, ap, ap₂, ◌∙◌}
use mathlib.Core.Logic.{⊎_elim}
use mathlib.Core.Bool.{true}
use mathlib.Core.List.{List, ◌++◌}
use lib.ListN.{length, take, drop, replicate, length-append, length-replicate}
use lib.Seq.{take_all, take_at, take-length}
use Rattle.std.proofs.lemmas.List.{drop-replicate, length-take}
use Rattle.rights.specs.declared.Header.{Header}
use Rattle.rights.specs.Sound.{readable}
use Rattle.theory.proofs.Below.{below_or_not}
use Rattle.theory.proofs.Ready.{few_cells}
use Rattle.buffers.specs.Copy.{copy_of}

-- as many bytes as there is room for
both_ways : (R : List ℕ) (m : ℕ) → m ≡ min (length R) 16384 → take m R ≡ take 16384 R
both_ways R m e =
    ⊎_elim
    (λ (l : length R < 16384).
    let short : m ≡ length R = omega (arith, e) in
    rw (short, take-length R, take_all 16384 R (omega arith)))
    (λ (l : 16384 ≤ length R). let long : m ≡ 16384 = omega (arith, e) in rw long)
    (below_or_not (length R) 16384)

-- and the zeros behind them
pub copy_start_of : (R : List ℕ) (end : ℕ) → end ≡ min (length R) 16384 → take end R ++ drop end (replicate 16384 0) ≡ copy_of R
unfolding copy_of
copy_start_of R end e =
    ap₂ ◌++◌ (both_ways R end e) (drop-replicate end 16384 0 ∙ ap (λ z. replicate z 0) (let same : 16384 - end ≡ 16384 - length R = omega arith in same))

-- a register of at most that many bytes is the start of its copy
pub copy_start : (R : List ℕ) → length R ≤ 16384 → take (length R) (copy_of R) ≡ R
unfolding copy_of
copy_start R l =
    ap (λ (z : List ℕ). take (length R) (z ++ replicate (16384 - length R) 0)) (take_all 16384 R l)
    ∙ take_at R (replicate (16384 - length R) 0) (length R) refl

-- a register has 16,384 bytes at most
pub few-cells : (h : Header) (R : List ℕ) → readable h R ≡ true → length R ≤ 16384
few-cells = few_cells

-- so its copy holds it whole
pub long_copy : (R : List ℕ) → length R ≤ 16384 → length (copy_of R) ≡ 16384
unfolding copy_of
long_copy R l = rw (take_all 16384 R l) (length-append R (replicate (16384 - length R) none) ∙ rw (length-replicate (16384 - length R) none) (omega arith))
  where
    none : ℕ
    none = 0

-- the part of an array into which as many bytes were copied as there is room for
pub part_kept : (R rest : List ℕ) (m : ℕ) → m ≡ min (length R) 16384 → take m (take m R ++ rest) ≡ take 16384 R
part_kept R rest m e = take_at (take m R) rest m (length-take m R ∙ omega (arith, e)) ∙ both_ways R m e

-- a register is kept whole
pub kept_whole : (h : Header) (R : List ℕ) → readable h R ≡ true → take 16384 R ≡ R
kept_whole h R t = take_all 16384 R (few_cells h R t)
