-- Refusals in order: which one applies first, and what is known where none does. Assumes nothing.
use Prim.Native.Nat.{ℕ, zero, suc, ◌<◌}
use native.Mathlib.Omega.{arith}
use mathlib.Core.Path.{◌≡◌, refl}
use mathlib.Core.Bool.{Bool, true, false, ◌&&◌, not, cond}
use mathlib.Core.List.{List}
use lib.Dec.{eqb, ltb, eqb-suc-zero}
use borrow.Author.Tests.{eq-eqb, ne_eqb, ltb-true, not-true}
use Rattle.rights.specs.declared.Header.{Header}
use Rattle.rights.specs.declared.Command.{Command}
use Rattle.rights.specs.Sound.{headed, whole, sound, barred, first_of, unless, register_refusal}
use Rattle.rights.specs.Command.{by_of, to_of, is_grant, well_formed, grant_refusal, deletion_refusal, form_refusal, refusal}
use Rattle.theory.proofs.Tests.{left_of, right_of}
use Rattle.theory.proofs.Ready.{Ready}

-- a refusal that applies comes before the next
pub first_applies : (a b : ℕ) → (a ≡ 0 → ⊥) → first_of a b ≡ a
unfolding first_of
first_applies a b ne = rw (ne_eqb a 0 ne)

pub first_passed : (a b : ℕ) → a ≡ 0 → first_of a b ≡ b
unfolding first_of
first_passed a b e = rw (eq-eqb a 0 e)

-- no refusal of a list applies where none of its parts does
pub none_of : (a b : ℕ) → first_of a b ≡ 0 → (a ≡ 0) × (b ≡ 0)
unfolding first_of
none_of zero b e = (refl, e)
none_of (suc a) b e = let z : suc a ≡ 0 = rw (eqb-suc-zero a) at e in absurd (omega arith)

pub holds-unless : (t : Bool) (k : ℕ) → unless t (suc k) ≡ 0 → t ≡ true
unfolding unless
holds-unless true k e = refl
holds-unless false k e = let z : suc k ≡ 0 = e in absurd (omega arith)

-- a refusal that does not apply, and none behind it
pub passed : (t : Bool) (k b : ℕ) → first_of (unless t (suc k)) b ≡ 0 → (t ≡ true) × (b ≡ 0)
passed t k b e = let both = none_of (unless t (suc k)) b e in (holds-unless t k both.0, both.1)

-- where none of refusals 1, 2 and 3 applies, there is a register as 01 has it
pub register_ready : (h : Header) (R : List ℕ) → register_refusal h R ≡ 0 → Ready h R
unfolding register_refusal
register_ready h R e =
    let one = passed (headed h) 0 (first_of (unless (whole h R) 2) (unless (sound h R) 3)) e in
    let two = passed (whole h R) 1 (unless (sound h R) 3) one.1 in
    record { headed = one.0; whole = two.0; sound = holds-unless (sound h R) 2 two.1 }

-- where none of 4 to 7 applies, both offices are in range and a grant may stand between them
pub record Formed (h : Header) (c : Command) : Type 0 where
  pub by : by_of c < h.n
  pub to : to_of c < h.n
  pub free : barred h (by_of c) (to_of c) ≡ false

pub form_passed : (h : Header) (c : Command) → form_refusal h c ≡ 0 → Formed h c
unfolding form_refusal
form_passed h c e =
    let i = ltb (by_of c) h.n in
    let j = ltb (to_of c) h.n in
    let four = passed (well_formed c) 3 _ e in
    let five = passed (eqb c.layer.0 h.layer.0) 4 _ four.1 in
    let six = passed (i && j) 5 _ five.1 in
    record {
      by = ltb-true (by_of c) h.n (left_of i j six.0);
      to = ltb-true (to_of c) h.n (right_of i j six.0);
      free = not-true (barred h (by_of c) (to_of c)) (holds-unless (not (barred h (by_of c) (to_of c))) 6 six.1);
    }

-- what a command that is not refused has passed
pub record Passed (h : Header) (R : List ℕ) (c : Command) : Type 0 where
  pub register : Ready h R
  pub form : Formed h c
  pub own : cond (is_grant c) (grant_refusal h R c) (deletion_refusal h R c) ≡ 0

pub command_passed : (h : Header) (R : List ℕ) (c : Command) → refusal h R c ≡ 0 → Passed h R c
unfolding refusal
command_passed h R c e =
    let own = cond (is_grant c) (grant_refusal h R c) (deletion_refusal h R c) in
    let register = none_of (register_refusal h R) (first_of (form_refusal h c) own) e in
    let form = none_of (form_refusal h c) own register.1 in
    record { register = register_ready h R register.0; form = form_passed h c form.0; own = form.1 }
