-- No second outcome: at most one result, or one list of bytes left behind, satisfies each contract.
use Prim.Native.Nat.{ℕ}
use mathlib.Core.List.{List}
use denote.Ref.{MutBor, at_last}
use Rattle.rights.specs.declared.Header.{Header}
use Rattle.rights.specs.declared.Office.{Office}
use Rattle.theory.proofs.Once.{Once, no_second}
use Rattle.sweeping.proofs.sweep.Reads as sweep
use Rattle.sweeping.proofs.wgd.Reads as wgd

pub sweep_once :
    (κs : _) (cells : MutBor (List ℕ)) (h : Header) →
    Once (λ (bytes : List ℕ). sweep.Post κs (cells, (h, tt)) tt (at_last cells bytes, (h, tt)))
sweep_once κs cells h = no_second _

pub wgd_once :
    (κs : _) (cells : MutBor (List ℕ)) (h : Header) (by to : Office) →
    Once (λ (bytes : List ℕ). wgd.Post κs (cells, (h, (by, (to, tt)))) tt (at_last cells bytes, (h, (by, (to, tt)))))
wgd_once κs cells h by to = no_second _
