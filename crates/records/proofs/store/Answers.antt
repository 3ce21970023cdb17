-- `records::store` meets its contract: one cell changes, where there is room.
use Rattle.std.proofs.Common.{sym, ◌∙◌}
use mathlib.Core.Logic.{⊎_elim}
use Rattle.records.specs.Read.{text_record}
use Rattle.records.proofs.Room.{stored_there, no_room, no_cell}
use Rattle.records.proofs.store.Goals as goal

pub returns-then-at-cells : goal.returns-then-at-cells
unfolding text_record
returns-then-at-cells c =
    rw (c.union.ensures, c.place-at.ensures)
    (stored_there _ _ _ (sym c.in_range.ensures ∙ c.if-in_range.true) (rw c.place-at.ensures at c.if-at-cells.true))

pub returns-else-in_range : goal.returns-else-in_range
returns-else-in_range c =
    ⊎_elim (λ h. no_room _ _ _ (rw c.place-at.ensures at h.1)) (λ h. no_cell _ _ _ (sym c.in_range.ensures ∙ h)) c.else-in_range.either
