-- No second outcome: at most one list of bytes left behind satisfies each contract.
-- `Post` is the contract as the check reads it: of the lifetimes, the arguments, the result and the arguments at exit.
use Prim.Native.Nat.{ℕ}
use mathlib.Core.List.{List}
use denote.Bor.{Bor}
use denote.Ref.{MutBor, at_last}
use Rattle.rights.specs.declared.Header.{Header}
use Rattle.rights.specs.declared.Office.{Office}
use Rattle.theory.proofs.Once.{Once, no_second}
use Rattle.cuts.proofs.empty_cell.Reads as empty-cell
use Rattle.cuts.proofs.add_record.Reads as add-record
use Rattle.cuts.proofs.hand_over.Reads as hand-over

pub empty_cell_once :
    (κs : _) (cells : MutBor (List ℕ)) (h : Header) (i j : Office) →
    Once (λ (bytes : List ℕ). empty-cell.Post κs (cells, (h, (i, (j, tt)))) tt (at_last cells bytes, (h, (i, (j, tt)))))
empty_cell_once κs cells h i j = no_second _

pub add_record_once :
    (κs : _) (cells : MutBor (List ℕ)) (h : Header) (i j : Office) (perm : ℕ) →
    Once (λ (bytes : List ℕ).
    add-record.Post κs (cells, (h, (i, (j, (perm, tt))))) tt (at_last cells bytes, (h, (i, (j, (perm, tt))))))
add_record_once κs cells h i j perm = no_second _

pub hand_over_once :
    (κs : _) (cells : MutBor (List ℕ)) (h : Header) (i j : Office) (before : Bor (List ℕ)) →
    Once (λ (bytes : List ℕ).
    hand-over.Post κs (cells, (h, (i, (j, (before, tt))))) tt (at_last cells bytes, (h, (i, (j, (before, tt))))))
hand_over_once κs cells h i j before = no_second _
