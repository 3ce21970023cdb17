-- A command with its refusals (01, 'Commands' and 'Refusal numbers').
use Rattle.std.specs.Prelude.{ℕ, Bool, ◌&&◌, not, cond, List, eqb, ltb, leb}
use Rattle.rights.specs.declared.Header.{Header}
use Rattle.rights.specs.declared.Command.{Command}
use Rattle.rights.specs.declared.Permission.{Permission}
use Rattle.rights.specs.Permission.{is_code, decoded, entitles, any_permission}
use Rattle.rights.specs.Cell.{has}
use Rattle.rights.specs.Register.{cell}
use Rattle.rights.specs.Level.{holds}
use Rattle.rights.specs.Sound.{barred, first_of, unless, register_refusal}
use Rattle.rights.specs.Deletion.{granted, wld, wgd, sld, sgd}
use Rattle.rights.specs.Tally.{missing}

-- 01, 'A command has act, layer, by (i)': the number i
abbrev pub by_of : Command → ℕ
by_of c = c.by.0

-- 01, 'by (i), to (j), perm': the number j
abbrev pub to_of : Command → ℕ
to_of c = c.to.0

-- act 0
unfoldable pub is_grant : Command → Bool
is_grant c = eqb c.act 0

-- 'Perm is 1, 2, 4 or 8 for a grant and 0 for a deletion', and the act is 0 to 4
unfoldable pub well_formed : Command → Bool
well_formed c = cond (is_grant c) (is_code c.perm) (leb c.act 4 && eqb c.perm 0)

-- some permission that office i holds entitles p
unfoldable pub may_grant : Header → List ℕ → ℕ → Permission → Bool
may_grant h R i p = any_permission (λ q. holds h R q i && entitles q p)

-- refusals 8 and 9, for grants
unfoldable pub grant_refusal : Header → List ℕ → Command → ℕ
grant_refusal h R c =
    first_of (unless (may_grant h R (by_of c) (decoded c.perm)) 8)
    (unless (not (has (cell h R (by_of c) (to_of c)) (decoded c.perm))) 9)

-- refusal 10, for deletions
unfoldable pub deletion_refusal : Header → List ℕ → Command → ℕ
deletion_refusal h R c = unless (not (eqb (cell h R (by_of c) (to_of c)) 0)) 10

-- refusals 4 to 7, which read the header and the command alone
unfoldable pub form_refusal : Header → Command → ℕ
form_refusal h c =
    first_of (unless (well_formed c) 4)
    (first_of (unless (eqb c.layer.0 h.layer.0) 5)
    (first_of (unless (ltb (by_of c) h.n && ltb (to_of c) h.n) 6) (unless (not (barred h (by_of c) (to_of c))) 7)))

-- 'Commands check 1 to 10 in order (8, 9 only for grants, 10 only for deletions)'; 0 where none applies
unfoldable pub refusal : Header → List ℕ → Command → ℕ
refusal h R c =
    first_of (register_refusal h R)
    (first_of (form_refusal h c) (cond (is_grant c) (grant_refusal h R c) (deletion_refusal h R c)))

-- 'Acts: 0 grant, 1 WLD, 2 WGD, 3 SLD, 4 SGD'
unfoldable pub carried_out : Header → List ℕ → Command → List ℕ
carried_out h R c =
    cond (is_grant c) (granted h R (by_of c) (to_of c) (decoded c.perm))
    (cond (eqb c.act 1) (wld h R (by_of c) (to_of c))
    (cond (eqb c.act 2) (wgd h R (by_of c) (to_of c))
    (cond (eqb c.act 3) (sld h R (by_of c) (to_of c))
    (sgd h R (by_of c) (to_of c)))))

-- what a command answers and leaves
pub record Outcome : Type 0 where
  pub answer : ℕ
  pub removed : ℕ
  pub added : ℕ
  pub cells : List ℕ

-- 'a refusal leaves the register and gives tally 0, 0'
unfoldable pub refused : List ℕ → ℕ → Outcome
refused R number = record { answer = number; removed = 0; added = 0; cells = R }

-- 'A command returns the tally: records removed (stood before, not after) and added (after, not before)'
unfoldable pub done : Header → List ℕ → List ℕ → Outcome
done h R S = record { answer = 0; removed = missing h R S; added = missing h S R; cells = S }

-- the one outcome of a command
unfoldable pub outcome : Header → List ℕ → Command → Outcome
outcome h R c = cond (eqb (refusal h R c) 0) (done h R (carried_out h R c)) (refused R (refusal h R c))
