-- What the functions of this crate promise.
use Rattle.std.specs.Prelude.{ℕ, ◌+◌, ◌<◌, ◌≡◌, List}
use Rattle.rights.specs.declared.Header.{Header}
use Rattle.rights.specs.declared.Command.{Command}
use Rattle.rights.specs.declared.Entry.{Entry}
use Rattle.rights.specs.declared.Tally.{Tally}
use Rattle.rights.specs.declared.Ran.{Ran}
use Rattle.rights.specs.Command.{outcome}
use Rattle.rights.specs.Tally.{capped}
use Rattle.rights.specs.Run.{RunOutcome}

-- one command is carried out, and its tally taken in; that its counts are small is what keeps a run's tally exact
pub record TakenIn (h : Header) (R : List ℕ) (c : Command) (t : Tally) (r : Ran) (S : List ℕ) : Type 0 where
  pub answer : r.answer ≡ (outcome h R c).answer
  pub removed : r.tally.removed ≡ capped (t.removed + (outcome h R c).removed)
  pub added : r.tally.added ≡ capped (t.added + (outcome h R c).added)
  pub cells : S ≡ (outcome h R c).cells
  pub removed_fits : (outcome h R c).removed < 4294967296
  pub added_fits : (outcome h R c).added < 4294967296

-- the run's answer and tally, the register and the entries at exit
pub record RanAs (o : RunOutcome) (r : Ran) (S : List ℕ) (es : List Entry) : Type 0 where
  pub answer : r.answer ≡ o.answer
  pub removed : r.tally.removed ≡ o.ending.removed
  pub added : r.tally.added ≡ o.ending.added
  pub cells : S ≡ o.ending.cells
  pub entries : es ≡ o.ending.entries
