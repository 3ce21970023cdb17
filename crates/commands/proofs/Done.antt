-- What a refused command answers and leaves, and what one that is carried out does.
use Prim.Native.Nat.{ℕ}
use mathlib.Core.Path.{◌≡◌, ◌∙◌}
use mathlib.Core.Bool.{true}
use mathlib.Core.List.{List}
use lib.ListN.{take}
use borrow.Author.Tests.{eq-eqb, ne_eqb}
use Rattle.rights.specs.declared.Header.{Header}
use Rattle.rights.specs.declared.Command.{Command}
use Rattle.rights.specs.declared.Refusal.{Refusal}
use Rattle.rights.specs.Refusal.{number}
use Rattle.rights.specs.Sound.{whole}
use Rattle.rights.specs.Command.{refusal, carried_out, refused, done, outcome}
use Rattle.theory.proofs.Tests.{both}
use Rattle.theory.proofs.Ready.{Ready}
use Rattle.theory.proofs.Refusals.{command_passed}
use Rattle.theory.proofs.Refusal.{number-nonzero}
use Rattle.theory.proofs.Outcome.{outcome-done, outcome_ready}
use Rattle.rows.specs.Whole.{if_whole}
use Rattle.tally.specs.Missing.{missing_if_whole}
use Rattle.buffers.proofs.Copy.{kept_whole}
use Rattle.commands.specs.declared.Outcome.{Outcome}
use Rattle.commands.specs.Post.{Answers}

-- the outcome of a command that is refused
pub outcome_refused : (h : Header) (R : List ℕ) (c : Command) (r : Refusal) → number r ≡ refusal h R c → outcome h R c ≡ refused R (number r)
unfolding outcome
outcome_refused h R c r e = rw (← e, ne_eqb (number r) 0 (number-nonzero r))

module _ (h : Header) (R : List ℕ) (c : Command) (none : refusal h R c ≡ 0) where
  ready : Ready h R
  ready = (command_passed h R c none).register

  whole_carried : whole h (carried_out h R c) ≡ true
  whole_carried = rw (outcome-done h R c (eq-eqb (refusal h R c) 0 none)) at (outcome_ready h R ready c).whole

  -- an accepted command answers 0 and the records removed and added, and leaves the register that its act makes
  pub done_as :
      (B S : List ℕ) (r : Outcome) → S ≡ if_whole h R (carried_out h R c) → B ≡ take 16384 R →
      r.answer ≡ 0 → r.removed ≡ missing_if_whole h B S → r.added ≡ missing_if_whole h S B → Answers (outcome h R c) r S
  unfolding outcome done if_whole missing_if_whole
  done_as B S r s b answer removed added =
      let passes = eq-eqb (refusal h R c) 0 none in
      let before : B ≡ R = b ∙ kept_whole h R (both ready.headed ready.whole) in
      let head = ready.headed in
      let made : S ≡ carried_out h R c = s ∙ rw (head, ready.whole) in
      record {
        answer = rw passes answer;
        removed = rw passes (removed ∙ rw (before, made, head, ready.whole, whole_carried));
        added = rw passes (added ∙ rw (before, made, head, ready.whole, whole_carried));
        cells = rw passes made;
      }
