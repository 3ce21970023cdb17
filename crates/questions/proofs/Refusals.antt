-- What is known of a question where no refusal by its form applies.
use Prim.Native.Nat.{ℕ, ◌≤◌, ◌<◌}
use mathlib.Core.Path.{◌≡◌, sym}
use lib.Dec.{ltb, leb}
use borrow.Author.Tests.{ltb-true, leb-true}
use Rattle.rights.specs.declared.Header.{Header}
use Rattle.rights.specs.Permission.{is_code}
use Rattle.rights.specs.Sound.{unless}
use Rattle.rights.specs.Question.{question_form_refusal}
use Rattle.theory.proofs.Refusals.{none_of, holds-unless}

module _ (h : Header) (j perm room : ℕ) (passed : 0 ≡ question_form_refusal h j perm room) where
  -- where none of refusals 4, 6 and 11 applies, the office is in range and the buffer is long enough
  pub form_office : j < h.n
  unfolding question_form_refusal
  form_office = ltb-true j h.n (holds-unless (ltb j h.n) 5 (none_of _ _ (none_of (unless (is_code perm) 4) _ (sym passed)).1).0)

  pub form-room : h.n ≤ room
  unfolding question_form_refusal
  form-room = leb-true h.n room (holds-unless (leb h.n room) 10 (none_of _ _ (none_of (unless (is_code perm) 4) _ (sym passed)).1).1)

pub ruleset formed = (form_office, form-room)
