-- `cuts::store` meets its contract: it writes the byte of the cell, if there is one.
use mathlib.Core.Logic.{⊎_elim}
use mathlib.Core.Path.{sym}
use native.Mathlib.Omega.{arith}
use Rattle.cuts.proofs.Cells.{stored_set, stored_nowhere}
use Rattle.cuts.proofs.store.Goals as goal

pub returns-then-j-header : goal.returns-then-j-header
returns-then-j-header c = stored_set _ _ _ _ _ c.requires c.if-i-header.true c.if-j-header.true

pub returns-else-i-header : goal.returns-else-i-header
returns-else-i-header c =
    sym (stored_nowhere _ _ _ _ _ c.requires (λ hi hj. ⊎_elim (λ no_subject. omega (arith, no_subject.1)) (λ no_grantor. omega (arith, no_grantor)) c.else-i-header.either))
