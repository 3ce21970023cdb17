-- `questions::fewest` meets its contract. The loop's invariant: near has the offices so many links away from the set, the next
-- link is read as it has to be, and SOA is not fewer links away.
use Prim.Native.Nat.{ℕ, ◌<◌}
use mathlib.Core.Path.{◌≡◌}
use mathlib.Core.Bool.{false}
use Rattle.rights.specs.Level.{is_in}
use Rattle.rights.specs.Question.{links_away, soa_away}
use Rattle.questions.proofs.Sets.{reading_at}
use Rattle.questions.proofs.fewest.Given as goal

abbrev pub invariant-loop-links : goal.invariant-loop-links
invariant-loop-links l =
    record {
      reading : l.reading ≡ reading_at l.perm l.links;
      near : (y : ℕ) → is_in l.near y ≡ is_in (links_away l.register.header l.register.cells.now l.perm l.links l.set) y;
      before : (k : ℕ) → k < l.links → soa_away l.register.header l.register.cells.now l.perm l.set k ≡ false;
    }
