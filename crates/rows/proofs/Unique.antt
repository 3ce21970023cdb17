-- No second outcome: at most one list of bytes left behind satisfies each contract.
-- `Post` is the contract as the check reads it: of the lifetimes, the arguments, the result and the arguments at exit.
use Prim.Native.Nat.{ℕ}
use mathlib.Core.Path.{◌≡◌, sym, ◌∙◌}
use mathlib.Core.List.{List}
use seplogic.Ra.Ura.{Ura}
use base.Logic.{SProp, ent}
use types.Logic.{Logic}
use contract.Fact.{fact, fact_i, fact_use}
use denote.Ref.{MutBor, at_last}
use Rattle.rights.specs.declared.Header.{Header}
use Rattle.rights.specs.declared.Office.{Office}
use Rattle.theory.proofs.Once.{Once, no_second}
use Rattle.rows.specs.contracts.Levels as levels-trait
use Rattle.rows.proofs.ArrayU8128Levels.restrict.Reads as row-levels-restrict
use Rattle.rows.proofs.U8Levels.restrict.Reads as one-level-restrict
use Rattle.rows.proofs.restrict_row.Reads as restrict-row
use Rattle.rows.proofs.restrict_to.Reads as restrict-to
use Rattle.rows.proofs.restrict_rows.Reads as restrict-rows
use Rattle.rows.proofs.restrict_one_row.Reads as restrict-one-row

-- the method of `Levels`, at any type: its clause is no `Post` of a function but an assertion, so what entails it of the bytes left behind
-- and of other bytes entails that they are the same
pub levels_restrict_once :
    {M : Type 1} (𝓤 : Ura M) (𝓛 : Logic 𝓤) (T : _) (ghosts : _) (dict : _) (κs : _) (mem : _) (returns : _) (levels : _) (row : MutBor (List ℕ)) (i : ℕ)
    (levels-both : _) (i-both : _) (held : SProp 𝓤) (bytes other : List ℕ) →
    let left : List ℕ → SProp 𝓤 =
    λ (l : List ℕ). levels-trait.restrict.ensures-1 T ghosts dict 𝓛 κs mem returns levels row i
    levels-both (record { entry = row; exit = at_last row l }) i-both tt in
    ent 𝓤 held (left bytes) → ent 𝓤 held (left other) → ent 𝓤 held (fact 𝓤 (bytes ≡ other))
levels_restrict_once 𝓤 𝓛 T ghosts dict κs mem returns levels row i levels-both i-both held bytes other h k =
    fact_use 𝓤 _ h (λ p. fact_use 𝓤 _ k (λ q. fact_i 𝓤 (bytes ≡ other) held (p ∙ sym q)))

-- and as its two types here have it: a level for each grantor
pub row_levels_restrict_once :
    (κs : _) (levels : _) (row : MutBor (List ℕ)) (i : ℕ) →
    Once (λ (bytes : List ℕ). row-levels-restrict.Post κs (levels, (row, (i, tt))) tt (levels, (at_last row bytes, (i, tt))))
row_levels_restrict_once κs levels row i = no_second _

-- and one level for all cells
pub one_level_restrict_once :
    (κs : _) (level : _) (row : MutBor (List ℕ)) (i : ℕ) →
    Once (λ (bytes : List ℕ). one-level-restrict.Post κs (level, (row, (i, tt))) tt (level, (at_last row bytes, (i, tt))))
one_level_restrict_once κs level row i = no_second _

pub restrict_row_once :
    (κs : _) (row : MutBor (List ℕ)) (level : ℕ) →
    Once (λ (bytes : List ℕ). restrict-row.Post κs (row, (level, tt)) tt (at_last row bytes, (level, tt)))
restrict_row_once κs row level = no_second _

pub restrict_rows_once :
    (κs : _) (cells : MutBor (List ℕ)) (h : Header) (levels : List ℕ) →
    Once (λ (bytes : List ℕ). restrict-rows.Post κs (cells, (h, (levels, tt))) tt (at_last cells bytes, (h, (levels, tt))))
restrict_rows_once κs cells h levels = no_second _

pub restrict_one_row_once :
    (κs : _) (cells : MutBor (List ℕ)) (h : Header) (row : Office) (level : ℕ) →
    Once (λ (bytes : List ℕ).
    restrict-one-row.Post κs (cells, (h, (row, (level, tt)))) tt (at_last cells bytes, (h, (row, (level, tt)))))
restrict_one_row_once κs cells h row level = no_second _

pub restrict_to_once :
    (T : _) (laws : _) (ghosts : _) (dict : _) (κs : _) (cells : MutBor (List ℕ)) (h : Header) (levels : _) →
    Once (λ (bytes : List ℕ).
    restrict-to.Post T laws ghosts dict κs (cells, (h, (levels, tt))) tt (at_last cells bytes, (h, (levels, tt))))
restrict_to_once T laws ghosts dict κs cells h levels = no_second _
