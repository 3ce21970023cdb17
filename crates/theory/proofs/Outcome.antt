-- Law 4: every command leaves a register as 01 has it; what an accepted one has passed, and what a refused one leaves; whom a local
-- deletion leaves alone. Assumes nothing.
use Prim.Native.Nat.{ℕ, ◌*◌, ◌≤◌, ◌<◌}
use mathlib.Core.Path.{◌≡◌, sym, ◌∙◌}
use mathlib.Core.Logic.{◌⊎◌, ◌↔◌, ⊎_elim}
use mathlib.Core.Bool.{Bool, true, false, not, cond}
use mathlib.Core.List.{List}
use lib.ListN.{length}
use lib.Dec.{eqb}
use borrow.Author.Tests.{eqb-true, eq-eqb, leb-true}
use Rattle.rights.specs.declared.Header.{Header}
use Rattle.rights.specs.declared.Command.{Command}
use Rattle.rights.specs.declared.Permission.{Permission}
use Rattle.rights.specs.Permission.{decoded, need}
use Rattle.rights.specs.Cell.{has}
use Rattle.rights.specs.Register.{cell, soa_of}
use Rattle.rights.specs.Level.{levels, level_in}
use Rattle.rights.specs.Chain.{Holds}
use Rattle.rights.specs.Sound.{whole, sound, unless}
use Rattle.rights.specs.Restriction.{restricted, empty_where, is_cell, row_to, emptied}
use Rattle.rights.specs.Deletion.{granted_cell, granted, handed_cell, handed_over, row_settled, column_step, wld, wgd, sld, sgd}
use Rattle.rights.specs.Command.{by_of, to_of, is_grant, may_grant, grant_refusal, refusal, carried_out, refused, done, outcome}
use Rattle.theory.proofs.Tests.{decided}
use Rattle.theory.proofs.Register.{length-register}
use Rattle.theory.proofs.Ready.{Ready, headed_inside}
use Rattle.theory.proofs.Refusals.{none_of, holds-unless, Passed, command_passed}
use Rattle.theory.proofs.Sound.{may_grant_lem}
use Rattle.theory.proofs.Sweep.{length-sweep}
use Rattle.theory.proofs.Standing.{Clean, sound_clean, swept_sound, restricted_clean}
use Rattle.theory.proofs.LocalDeletion.{Pair, wld-sound, sld-sound, wld_others, sld_others}
use Rattle.theory.proofs.Granting.{grant_sound}
use Rattle.theory.proofs.Rest.{sgd-sound, length-sgd}

-- a refused command leaves the register, and an accepted one is carried out
pub outcome-refused : (h : Header) (R : List ℕ) (c : Command) → eqb (refusal h R c) 0 ≡ false → (outcome h R c).cells ≡ R
unfolding outcome refused
outcome-refused h R c e = rw e

pub outcome-done : (h : Header) (R : List ℕ) (c : Command) → eqb (refusal h R c) 0 ≡ true → (outcome h R c).cells ≡ carried_out h R c
unfolding outcome done
outcome-done h R c e = rw e

-- n·n cells, and sound
abbrev Left : Header → List ℕ → Type 0
Left h S = (length S ≡ h.n * h.n) × (sound h S ≡ true)

one_of : (P : List ℕ → Type 0) (t : Bool) (R S : List ℕ) → P R → P S → P (cond t R S)
one_of P true R S r s = r
one_of P false R S r s = s

wgd-left : (h : Header) (R : List ℕ) → soa_of h < h.n → Clean h R → (i j : ℕ) → Left h (wgd h R i j)
unfolding wgd emptied
wgd-left h R inside clean i j =
    let M = restricted h R (empty_where (is_cell i j)) in
    (length-sweep h M, swept_sound h M inside (restricted_clean h R (empty_where (is_cell i j)) clean))

length_settled : (h : Header) (R M : List ℕ) (i j : ℕ) → length (row_settled h R M i j) ≡ h.n * h.n
unfolding row_settled handed_over
length_settled h R M i j = length-register h (handed_cell h R (restricted h M (row_to j (level_in (levels h M) j))) i j)

module _ (h : Header) (R : List ℕ) (ready : Ready h R) (c : Command) (none : refusal h R c ≡ 0) where
  passed : Passed h R c
  passed = command_passed h R c none

  -- an accepted command names offices in range between which a grant may stand
  pair : Pair h R (by_of c) (to_of c)
  pair =
      record {
        inside = headed_inside h ready.headed;
        sound = ready.sound;
        by = passed.form.by;
        to = passed.form.to;
        free = passed.form.free;
      }

  -- an accepted grant is within its grantor's level
  may : is_grant c ≡ true → need (decoded c.perm) ≤ level_in (levels h R) (by_of c)
  unfolding grant_refusal
  may g =
      let p = decoded c.perm in
      let granting : grant_refusal h R c ≡ 0 = rw g at passed.own in
      let first = (none_of (unless (may_grant h R (by_of c) p) 8) (unless (not (has (cell h R (by_of c) (to_of c)) p)) 9) granting).0 in
      leb-true (need p) (level_in (levels h R) (by_of c))
      (sym (may_grant_lem h R (headed_inside h ready.headed) (by_of c) p pair.by) ∙ holds-unless (may_grant h R (by_of c) p) 7 first)

  carried_left : Left h (carried_out h R c)
  unfolding carried_out granted wld sld row_settled handed_over
  carried_left =
      let i = by_of c in
      let j = to_of c in
      let p = decoded c.perm in
      let clean = sound_clean h R ready.sound in
      ⊎_elim
      (λ (g : is_grant c ≡ true). rw g (length-register h (granted_cell h R i j p), grant_sound h R i j pair p (may g)))
      (λ (g : is_grant c ≡ false).
      rw g
      (one_of (Left h) (eqb c.act 1) (wld h R i j) (cond (eqb c.act 2) (wgd h R i j) (cond (eqb c.act 3) (sld h R i j) (sgd h R i j)))
      (length_settled h R (emptied h R i j) i j, wld-sound h R i j pair)
      (one_of (Left h) (eqb c.act 2) (wgd h R i j) (cond (eqb c.act 3) (sld h R i j) (sgd h R i j))
      (wgd-left h R pair.inside clean i j)
      (one_of (Left h) (eqb c.act 3) (sld h R i j) (sgd h R i j)
      (length_settled h R (column_step h R i j) i j, sld-sound h R i j pair)
      (length-sgd h pair.inside R clean i j, sgd-sound h pair.inside R clean i j)))))
      (decided (is_grant c))

-- every command, accepted or refused, leaves a register as 01 has it
pub outcome_ready : (h : Header) (R : List ℕ) → Ready h R → (c : Command) → Ready h (outcome h R c).cells
unfolding whole
outcome_ready h R ready c =
    ⊎_elim
    (λ (e : eqb (refusal h R c) 0 ≡ true).
    let left = carried_left h R ready c (eqb-true (refusal h R c) 0 e) in
    rw (outcome-done h R c e)
    (record { headed = ready.headed; whole = eq-eqb (length (carried_out h R c)) (h.n * h.n) left.0; sound = left.1 }))
    (λ (e : eqb (refusal h R c) 0 ≡ false). rw (outcome-refused h R c e) ready)
    (decided (eqb (refusal h R c) 0))

-- a local deletion, accepted or refused, leaves every office but the one that it names as subject with exactly what it held
module _ (h : Header) (R : List ℕ) (ready : Ready h R) (c : Command) (local : (c.act ≡ 1) ⊎ (c.act ≡ 3)) where
  local_others :
      refusal h R c ≡ 0 → (p : Permission) (y : ℕ) → (y ≡ to_of c → ⊥) → Holds h (carried_out h R c) p y ↔ Holds h R p y
  unfolding carried_out is_grant
  local_others none p y ne =
      ⊎_elim
      (λ (e : c.act ≡ 1). rw e (wld_others h R (by_of c) (to_of c) (pair h R ready c none) p y ne))
      (λ (e : c.act ≡ 3). rw e (sld_others h R (by_of c) (to_of c) (pair h R ready c none) p y ne))
      local

  pub local_command_others : (p : Permission) (y : ℕ) → (y ≡ to_of c → ⊥) → Holds h (outcome h R c).cells p y ↔ Holds h R p y
  local_command_others p y ne =
      ⊎_elim
      (λ (e : eqb (refusal h R c) 0 ≡ true). rw (outcome-done h R c e) (local_others (eqb-true (refusal h R c) 0 e) p y ne))
      (λ (e : eqb (refusal h R c) 0 ≡ false). rw (outcome-refused h R c e) ((λ held. held), (λ held. held)))
      (decided (eqb (refusal h R c) 0))
