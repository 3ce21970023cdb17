-- Runs of commands (01, 'Commands'), and the runs that demand 3 speaks of.
use Rattle.std.specs.Prelude.{ℕ, ◌+◌, ◌<◌, ◌≡◌, Bool, false, ◌||◌, cond, List, [], ◌∷◌, length, ltb}
use Rattle.rights.specs.declared.Header.{Header}
use Rattle.rights.specs.declared.Command.{Command}
use Rattle.rights.specs.declared.Entry.{Entry}
use Rattle.rights.specs.Restriction.{is_cell}
use Rattle.rights.specs.Command.{Outcome, by_of, to_of, outcome}

-- 'it does what the commands one by one would do': the register that a list of commands leaves
unfoldable pub ran : Header → List ℕ → List Command → List ℕ
ran h R [] = R
ran h R (c ∷ commands) = ran h (outcome h R c).cells commands

-- the commands of a run
unfoldable pub commands_of : List Entry → List Command
commands_of [] = []
commands_of (e ∷ entries) = e.command ∷ commands_of entries

-- 'and sets each answer. No other field of an entry changes'
unfoldable pub answered_with : Entry → ℕ → Entry
answered_with e number = record { command = e.command; answer = number }

-- what entries come to: their answers set, the records that all of their commands removed and added, and the bytes left
pub record Ending : Type 0 where
  pub entries : List Entry
  pub removed : ℕ
  pub added : ℕ
  pub cells : List ℕ

-- one command first, and the others after it: 'hands back a new tally for each command taken in'
unfoldable pub followed_by : Entry → Outcome → Ending → Ending
followed_by e o later =
    record {
      entries = answered_with e o.answer ∷ later.entries;
      removed = o.removed + later.removed;
      added = o.added + later.added;
      cells = later.cells;
    }

-- nothing is done: 'leaves everything unchanged, with tally 0, 0'. 'A tally for a run starts at zero'
unfoldable pub untouched : List ℕ → List Entry → Ending
untouched R entries = record { entries = entries; removed = 0; added = 0; cells = R }

-- each command on the register that the one before it left
unfoldable pub in_turn : Header → List ℕ → List Entry → Ending
in_turn h R [] = untouched R []
in_turn h R (e ∷ entries) = followed_by e (outcome h R e.command) (in_turn h (outcome h R e.command).cells entries)

-- what a run answers and leaves
pub record RunOutcome : Type 0 where
  pub answer : ℕ
  pub ending : Ending

-- 'A run answers 16, checked first, or else 0': 16 is a 'run of more than 256'
unfoldable pub run_outcome : Header → List ℕ → List Entry → RunOutcome
run_outcome h R entries =
    cond (ltb 256 (length entries)) (record { answer = 16; ending = untouched R entries })
    (record { answer = 0; ending = in_turn h R entries })

-- a WGD that names offices in range, this layer and no permission
pub record WeakGlobal (h : Header) (c : Command) : Type 0 where
  pub act : c.act ≡ 2
  pub layer : c.layer.0 ≡ h.layer.0
  pub by : by_of c < h.n
  pub to : to_of c < h.n
  pub perm : c.perm ≡ 0

-- each command of the list is one
pub data WeakGlobals (h : Header) : List Command → Type 0 where
  none : WeakGlobals h []
  more : (c : Command) {commands : List Command} → WeakGlobal h c → WeakGlobals h commands → WeakGlobals h (c ∷ commands)

-- some command of the list names the pair
unfoldable pub names_pair : List Command → ℕ → ℕ → Bool
names_pair [] x y = false
names_pair (c ∷ commands) x y = is_cell (by_of c) (to_of c) x y || names_pair commands x y
