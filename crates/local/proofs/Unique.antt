-- No second outcome: at most one result, or one list of bytes left behind, satisfies each contract.
use Prim.Native.Nat.{ℕ}
use mathlib.Core.List.{List}
use denote.Ref.{MutBor, at_last}
use Rattle.rights.specs.declared.Header.{Header}
use Rattle.rights.specs.declared.Office.{Office}
use Rattle.theory.proofs.Once.{Once, no_second}
use Rattle.local.proofs.column_step.Reads as column-step
use Rattle.local.proofs.wld.Reads as wld
use Rattle.local.proofs.sld.Reads as sld

module _ (cells : MutBor (List ℕ)) (h : Header) (by to : Office) where
  pub column_step_once :
      (κs : _) → Once (λ (bytes : List ℕ). column-step.Post κs (cells, (h, (by, (to, tt)))) tt (at_last cells bytes, (h, (by, (to, tt)))))
  column_step_once κs = no_second _

  pub wld_once : (κs : _) → Once (λ (bytes : List ℕ). wld.Post κs (cells, (h, (by, (to, tt)))) tt (at_last cells bytes, (h, (by, (to, tt)))))
  wld_once κs = no_second _

  pub sld_once : (κs : _) → Once (λ (bytes : List ℕ). sld.Post κs (cells, (h, (by, (to, tt)))) tt (at_last cells bytes, (h, (by, (to, tt)))))
  sld_once κs = no_second _
