-- Sound registers: in 01's words, and as a test that computes. That the two are one is a law.
use Rattle.std.specs.Prelude.{ℕ, ◌*◌, ◌<◌, ◌≤◌, ◌≡◌, Bool, true, ◌&&◌, ◌||◌, not, cond, List, length, eqb, leb, ltb}
use Rattle.rights.specs.declared.Header.{Header}
use Rattle.rights.specs.Below.{all_below}
use Rattle.rights.specs.declared.Permission.{Permission}
use Rattle.rights.specs.Permission.{entitles}
use Rattle.rights.specs.Cell.{has, restrict}
use Rattle.rights.specs.Register.{cell, soa_of}
use Rattle.rights.specs.Chain.{Holds}
use Rattle.rights.specs.Level.{levels, level_in}

-- refusal 1 does not apply: n is in 2..128 and SOA is below n
unfoldable pub headed : Header → Bool
headed h = leb 2 h.n && leb h.n 128 && ltb (soa_of h) h.n

-- refusal 2 does not apply: n·n cells
unfoldable pub whole : Header → List ℕ → Bool
whole h R = eqb (length R) (h.n * h.n)

-- neither applies, so that there are cells to read
abbrev pub readable : Header → List ℕ → Bool
readable h R = headed h && whole h R

-- a permission of the grantor's entitles the record
pub record Entitled (h : Header) (R : List ℕ) (i : ℕ) (p : Permission) : Type 0 where
  pub by : Permission
  pub held : Holds h R by i
  pub enough : entitles by p ≡ true

-- 01: 'Sound register: each cell at most 15; diagonal and SOA column zero; each record is entitled by a permission its grantor holds.'
pub record Sound (h : Header) (R : List ℕ) : Type 0 where
  pub small : (i j : ℕ) → i < h.n → j < h.n → cell h R i j ≤ 15
  pub diagonal : (i : ℕ) → i < h.n → cell h R i i ≡ 0
  pub soa_column : (i : ℕ) → i < h.n → cell h R i (soa_of h) ≡ 0
  pub entitled : (i j : ℕ) (p : Permission) → i < h.n → j < h.n → has (cell h R i j) p ≡ true → Entitled h R i p

-- no grant may stand from i to j, whoever holds what
unfoldable pub barred : Header → ℕ → ℕ → Bool
barred h i j = eqb i j || eqb j (soa_of h)

-- a cell as it may stand: at most 15, empty where barred, and nothing in it that restricting to the grantor's level would change
unfoldable pub sound_cell : Header → List ℕ → List ℕ → ℕ → ℕ → Bool
sound_cell h R ls i j =
    leb (cell h R i j) 15 && (not (barred h i j) || eqb (cell h R i j) 0) && eqb (restrict (cell h R i j) (level_in ls i)) (cell h R i j)

-- 01, 'Sound register': every cell is as it may stand, by the levels that are given for the grantors
unfoldable pub sound_by : Header → List ℕ → List ℕ → Bool
sound_by h R ls = all_below h.n (λ i. all_below h.n (λ j. sound_cell h R ls i j))

-- the test for refusal 3
unfoldable pub sound : Header → List ℕ → Bool
sound h R = sound_by h R (levels h R)

-- 'checks .. in order': the first refusal where it applies, and otherwise the second; 0 is none
unfoldable pub first_of : ℕ → ℕ → ℕ
first_of a b = cond (eqb a 0) b a

-- the refusal where the test fails
unfoldable pub unless : Bool → ℕ → ℕ
unless test number = cond test 0 number

-- refusals 1, 2 and 3 of the table: n and SOA, the length of the buffer, soundness
unfoldable pub register_refusal : Header → List ℕ → ℕ
register_refusal h R = first_of (unless (headed h) 1) (first_of (unless (whole h R) 2) (unless (sound h R) 3))
