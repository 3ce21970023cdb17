-- Two laws carry all reasoning about cells: what a built register has at i, j, and that registers of equal cells are equal.
-- Assumes nothing.
use Prim.Native.Nat.{ℕ, zero, suc, ◌+◌, ◌*◌, ◌/◌, ◌%◌, ◌<◌}
use native.Mathlib.Nat.{not-suc-le-zero, div-add-mod', div-lt_iff_lt-mul, mod-lt}
use native.Mathlib.Omega.{arith}
use mathlib.Core.Path.{◌≡◌, ap, ap₂, sym, ◌∙◌}
use mathlib.Core.List.{List}
use lib.ListN.{length, get_or}
use lib.Arith.{digits_lt, digits_div, digits_mod}
use Rattle.rights.specs.declared.Header.{Header}
use Rattle.rights.specs.Register.{cell, register}
use Rattle.theory.proofs.Below.{length-table, table_at, table_ext, table_of}

pub length-register : (h : Header) (rule : ℕ → ℕ → ℕ) → length (register h rule) ≡ h.n * h.n
unfolding register
length-register h rule = length-table (h.n * h.n) (λ k. rule (k / h.n) (k % h.n))

-- the cell of a built register is the rule's
pub cell-register : (h : Header) (rule : ℕ → ℕ → ℕ) (i j : ℕ) → i < h.n → j < h.n → cell h (register h rule) i j ≡ rule i j
unfolding register cell
cell-register h rule i j hi hj =
    table_at (h.n * h.n) (λ k. rule (k / h.n) (k % h.n)) (i * h.n + j) 0 (digits_lt hi hj)
    ∙ ap₂ rule (digits_div i hj) (digits_mod i hj)

-- a byte of a register belongs to a grantor and a subject
some_office : (n : ℕ) {k : ℕ} → k < n * n → 0 < n
some_office zero l = absurd (not-suc-le-zero l)
some_office (suc n) l = omega arith

pub grantor_of : (n k : ℕ) → k < n * n → k / n < n
grantor_of n k l = (div-lt_iff_lt-mul (some_office n l)).1 l

pub subject_of : (n k : ℕ) → k < n * n → k % n < n
subject_of n k l = mod-lt k (some_office n l)

-- rules that agree on the offices build one register
pub register_ext :
    (h : Header) (f g : ℕ → ℕ → ℕ) →
    ((i j : ℕ) → i < h.n → j < h.n → f i j ≡ g i j) →
    register h f ≡ register h g
unfolding register
register_ext h f g e =
    table_ext (h.n * h.n) (λ k. f (k / h.n) (k % h.n)) (λ k. g (k / h.n) (k % h.n))
    (λ k l. e (k / h.n) (k % h.n) (grantor_of h.n k l) (subject_of h.n k l))

-- a register is built of its cells
pub register_of : (h : Header) (R : List ℕ) → length R ≡ h.n * h.n → register h (cell h R) ≡ R
unfolding register cell
register_of h R e =
    table_ext (h.n * h.n) (λ k. get_or R (k / h.n * h.n + k % h.n) 0) (λ k. get_or R k 0)
    (λ k l. ap (λ (m : ℕ). get_or R m 0) (div-add-mod' k h.n))
    ∙ table_of (h.n * h.n) R 0 e

-- registers of equal cells are equal
pub same-cells :
    (h : Header) (R S : List ℕ) →
    length R ≡ h.n * h.n →
    length S ≡ h.n * h.n →
    ((i j : ℕ) → i < h.n → j < h.n → cell h R i j ≡ cell h S i j) →
    R ≡ S
same-cells h R S eR eS e = sym (register_of h R eR) ∙ register_ext h (cell h R) (cell h S) e ∙ register_of h S eS
