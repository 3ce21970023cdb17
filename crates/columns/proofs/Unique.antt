-- No second outcome: at most one list of bytes left behind satisfies the contract.
-- `Post` is the contract as the check reads it: of the lifetimes, the arguments, the result and the arguments at exit.
use Prim.Native.Nat.{ℕ}
use mathlib.Core.List.{List}
use denote.Ref.{MutBor, at_last}
use Rattle.rights.specs.declared.Header.{Header}
use Rattle.theory.proofs.Once.{Once, no_second}
use Rattle.columns.proofs.restrict_columns.Reads as restrict-columns

pub restrict_columns_once :
    (κs : _) (cells : MutBor (List ℕ)) (h : Header) (columns levels : List ℕ) →
    Once (λ (bytes : List ℕ).
    restrict-columns.Post κs (cells, (h, (columns, (levels, tt)))) tt (at_last cells bytes, (h, (columns, (levels, tt)))))
restrict_columns_once κs cells h columns levels = no_second _
