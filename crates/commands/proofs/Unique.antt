-- No second outcome: at most one answer, tally and register satisfies each contract.
use Prim.Native.Nat.{ℕ}
use mathlib.Core.Path.{◌≡◌, sym, ◌∙◌}
use mathlib.Core.List.{List}
use Rattle.rights.specs.Command.{Outcome as OutcomeOf}
use Rattle.commands.specs.declared.Outcome.{Outcome}
use Rattle.commands.specs.Post.{Answers}

-- what `command` ensures leaves one answer, one tally and one register
pub command_once : (o : OutcomeOf) (r s : Outcome) (R S : List ℕ) → Answers o r R → Answers o s S → (r ≡ s) × (R ≡ S)
command_once o r s R S p q = (
  (λ i.
      record {
        answer = (p.answer ∙ sym q.answer) i;
        removed = (p.removed ∙ sym q.removed) i;
        added = (p.added ∙ sym q.added) i;
      }),
  p.cells ∙ sym q.cells,
)
