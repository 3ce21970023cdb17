-- Demand 3, said of the run: where a run of WGDs ends depends only on the set of pairs that it names, and an office then holds
-- exactly what the register at the start gives it by chains that use no grant of a named pair. Assumes nothing.
use Prim.Native.Nat.{ℕ, ◌≤◌, ◌<◌}
use mathlib.Core.Path.{◌≡◌, ap, sym, ◌∙◌, subst}
use mathlib.Core.Logic.{◌↔◌}
use mathlib.Core.List.{List, Permᴰ}
use lib.ListN.{length}
use Rattle.rights.specs.declared.Header.{Header}
use Rattle.rights.specs.declared.Entry.{Entry}
use Rattle.rights.specs.declared.Ran.{Ran}
use Rattle.rights.specs.declared.Permission.{Permission}
use Rattle.rights.specs.Chain.{Holds, HoldsUnused}
use Rattle.rights.specs.Run.{commands_of, run_outcome, WeakGlobals, names_pair}
use Rattle.theory.proofs.Ready.{Ready}
use Rattle.theory.proofs.WeakRun.{weak_runs_agree, weak_runs_reordered, weak_run_holds}
use Rattle.runs.specs.Post.{RanAs}
use Rattle.runs.proofs.Ending.{run_cells}

-- a run of at most 256 WGDs, each as demand 3 has it
pub record WeakRun (h : Header) (es : List Entry) : Type 0 where
  pub few : length es ≤ 256
  pub weak : WeakGlobals h (commands_of es)

-- entries in another order are commands in another order
pub commands_reordered : {some others : List Entry} → Permᴰ some others → Permᴰ (commands_of some) (commands_of others)
unfolding commands_of
commands_reordered Permᴰ.nil = Permᴰ.nil
commands_reordered (Permᴰ.cons e d) = Permᴰ.cons (ap (λ (x : Entry). x.command) e) (commands_reordered d)
commands_reordered (Permᴰ.swap {l = l} e f) = Permᴰ.swap (ap (λ (x : Entry). x.command) e) (ap (λ (x : Entry). x.command) f)
commands_reordered (Permᴰ.trans d e) = Permᴰ.trans (commands_reordered d) (commands_reordered e)

module _ (h : Header) (R : List ℕ) (ready : Ready h R) where
  -- two runs that name the same pairs, in any order, with repeats or without, end in the same register
  pub same_pairs_same_register :
      (some others : List Entry) → WeakRun h some → WeakRun h others →
      ((x y : ℕ) → x < h.n → y < h.n → names_pair (commands_of some) x y ≡ names_pair (commands_of others) x y) →
      (r r' : Ran) (S S' : List ℕ) (after after' : List Entry) →
      RanAs (run_outcome h R some) r S after → RanAs (run_outcome h R others) r' S' after' → S ≡ S'
  same_pairs_same_register some others ws wo e r r' S S' after after' a b =
      a.cells ∙ run_cells h R some ws.few
      ∙ weak_runs_agree h R ready (commands_of some) (commands_of others) ws.weak wo.weak e
      ∙ sym (b.cells ∙ run_cells h R others wo.few)

  -- and so do two runs of the same commands in another order
  pub reordered_same_register :
      (some others : List Entry) → WeakRun h some → WeakRun h others → Permᴰ (commands_of some) (commands_of others) →
      (r r' : Ran) (S S' : List ℕ) (after after' : List Entry) →
      RanAs (run_outcome h R some) r S after → RanAs (run_outcome h R others) r' S' after' → S ≡ S'
  reordered_same_register some others ws wo e r r' S S' after after' a b =
      a.cells ∙ run_cells h R some ws.few
      ∙ weak_runs_reordered h R ready (commands_of some) (commands_of others) ws.weak wo.weak e
      ∙ sym (b.cells ∙ run_cells h R others wo.few)

  -- who holds what after the run
  pub run_holds :
      (es : List Entry) → WeakRun h es → (r : Ran) (S : List ℕ) (after : List Entry) → RanAs (run_outcome h R es) r S after →
      (p : Permission) (y : ℕ) → y < h.n → Holds h S p y ↔ HoldsUnused h R (names_pair (commands_of es)) p y
  run_holds es w r S after a p y hy =
      subst (λ (X : List ℕ). Holds h X p y ↔ HoldsUnused h R (names_pair (commands_of es)) p y) (sym (a.cells ∙ run_cells h R es w.few))
      (weak_run_holds h R ready (commands_of es) w.weak p y hy)
