-- No second outcome: at most one list of bytes left behind satisfies the contract.
-- `Post` is the contract as the check reads it: of the lifetimes, the arguments, the result and the arguments at exit.
use Prim.Native.Nat.{ℕ}
use mathlib.Core.List.{List}
use denote.Ref.{MutBor, at_last}
use Rattle.rights.specs.declared.Header.{Header}
use Rattle.rights.specs.declared.Office.{Office}
use Rattle.theory.proofs.Once.{Once, no_second}
use Rattle.strong.proofs.sgd.Reads as sgd

pub sgd_once :
    (κs : _) (cells : MutBor (List ℕ)) (h : Header) (by to : Office) →
    Once (λ (bytes : List ℕ). sgd.Post κs (cells, (h, (by, (to, tt)))) tt (at_last cells bytes, (h, (by, (to, tt)))))
sgd_once κs cells h by to = no_second _
