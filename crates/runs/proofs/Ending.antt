-- What a run comes to, part by part: no second outcome, the register, and each entry field by field. Assumes nothing.
use Prim.Native.Nat.{ℕ, zero, suc, ◌≤◌, ◌<◌}
use native.Mathlib.Omega.{arith}
use mathlib.Core.Path.{◌≡◌, refl, ap, sym, ◌∙◌}
use mathlib.Core.List.{List, [], ◌∷◌}
use lib.ListN.{length, take, get_or}
use borrow.Author.Tests.{le-ltb}
use Rattle.rights.specs.declared.Header.{Header}
use Rattle.rights.specs.declared.Entry.{Entry}
use Rattle.rights.specs.declared.Ran.{Ran}
use Rattle.rights.specs.Command.{outcome}
use Rattle.rights.specs.Run.{RunOutcome, ran, commands_of, answered_with, followed_by, untouched, in_turn, run_outcome}
use Rattle.theory.proofs.Ready.{Ready}
use Rattle.theory.proofs.Outcome.{outcome_ready}
use Rattle.runs.specs.Post.{RanAs}

-- two results of the same run are one: answer, tally, register and entries
pub no_second_outcome :
    (o : RunOutcome) (r r' : Ran) (S S' : List ℕ) (es es' : List Entry) → RanAs o r S es → RanAs o r' S' es' →
    (r ≡ r') × ((S ≡ S') × (es ≡ es'))
no_second_outcome o r r' S S' es es' a b = (
  (λ i. record {
    answer = (a.answer ∙ sym b.answer) i;
    tally = record { removed = (a.removed ∙ sym b.removed) i; added = (a.added ∙ sym b.added) i };
  }),
  (a.cells ∙ sym b.cells, a.entries ∙ sym b.entries),
)

-- the register is what the commands one by one leave
pub in_turn-cells : (h : Header) (R : List ℕ) (es : List Entry) → (in_turn h R es).cells ≡ ran h R (commands_of es)
unfolding in_turn untouched followed_by ran commands_of
in_turn-cells h R [] = refl
in_turn-cells h R (e ∷ es) = in_turn-cells h (outcome h R e.command).cells es

pub run_cells : (h : Header) (R : List ℕ) (es : List Entry) → length es ≤ 256 → (run_outcome h R es).ending.cells ≡ ran h R (commands_of es)
unfolding run_outcome
run_cells h R es few = rw (le-ltb 256 (length es) few) (in_turn-cells h R es)

-- no entry comes or goes, and no command changes
pub in_turn_count : (h : Header) (R : List ℕ) (es : List Entry) → length (in_turn h R es).entries ≡ length es
unfolding in_turn untouched followed_by
in_turn_count h R [] = refl
in_turn_count h R (e ∷ es) = ap suc (in_turn_count h (outcome h R e.command).cells es)

pub in_turn-command : (h : Header) (R : List ℕ) (es : List Entry) (k : ℕ) (d : Entry) → (get_or (in_turn h R es).entries k d).command ≡ (get_or es k d).command
unfolding in_turn untouched followed_by answered_with
in_turn-command h R [] k d = refl
in_turn-command h R (e ∷ es) zero d = refl
in_turn-command h R (e ∷ es) (suc k) d = in_turn-command h (outcome h R e.command).cells es k d

-- each answer is its command's, on the register that the commands before it left
pub in_turn-answer :
    (h : Header) (R : List ℕ) (es : List Entry) (k : ℕ) (d : Entry) → k < length es →
    (get_or (in_turn h R es).entries k d).answer ≡ (outcome h (ran h R (take k (commands_of es))) (get_or es k d).command).answer
unfolding in_turn untouched followed_by answered_with ran commands_of
in_turn-answer h R [] k d less = absurd (omega arith)
in_turn-answer h R (e ∷ es) zero d less = refl
in_turn-answer h R (e ∷ es) (suc k) d less = in_turn-answer h (outcome h R e.command).cells es k d (omega arith)

-- a register as 01 has it stays one, whatever the run
pub in_turn_ready : (h : Header) (R : List ℕ) → Ready h R → (es : List Entry) → Ready h (in_turn h R es).cells
unfolding in_turn untouched followed_by
in_turn_ready h R ready [] = ready
in_turn_ready h R ready (e ∷ es) = in_turn_ready h (outcome h R e.command).cells (outcome_ready h R ready e.command) es
