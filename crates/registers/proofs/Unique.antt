-- No second outcome: at most one result satisfies each contract, whatever the arguments. Assumes nothing.
-- `Post` is the contract as the check reads it: of the lifetimes, the arguments, the result and the arguments at exit.
use Prim.Native.Nat.{ℕ}
use mathlib.Core.Bool.{Bool, true≢false}
use mathlib.Core.Path.{◌≡◌, refl, sym, ap, ap₂, ◌∙◌}
use mathlib.Core.List.{List}
use Rattle.std.specs.Option.{option_map}
use Rattle.std.specs.declared.option.Option.{Option}
use Rattle.std.specs.declared.option.Option.TheVariants.{None, Some}
use Rattle.rights.specs.declared.Header.{Header}
use Rattle.registers.specs.declared.Register.{Register}
use Rattle.theory.proofs.Once.{Once, no_second}
use Rattle.registers.proofs.cell.Reads as cell
use Rattle.registers.proofs.Register.cell.Reads as register_cell
use Rattle.registers.proofs.Register.of.Reads as of
use Rattle.registers.proofs.headed.Reads as headed
use Rattle.registers.proofs.whole.Reads as whole
use Rattle.registers.proofs.readable.Reads as readable
use Rattle.registers.proofs.barred.Reads as barred

pub cell_once : (κs : _) (a : _) (exit : _) → Once (λ (r : ℕ). cell.Post κs a r exit)
cell_once κs a exit = no_second _

pub headed_once : (κs : _) (a : _) (exit : _) → Once (λ (r : Bool). headed.Post κs a r exit)
headed_once κs a exit = no_second _

pub whole_once : (κs : _) (a : _) (exit : _) → Once (λ (r : Bool). whole.Post κs a r exit)
whole_once κs a exit = no_second _

pub readable_once : (κs : _) (a : _) (exit : _) → Once (λ (r : Bool). readable.Post κs a r exit)
readable_once κs a exit = no_second _

pub barred_once : (κs : _) (a : _) (exit : _) → Once (λ (r : Bool). barred.Post κs a r exit)
barred_once κs a exit = no_second _

pub register_cell_once : (κs : _) (a : _) (exit : _) → Once (λ (r : ℕ). register_cell.Post κs a r exit)
register_cell_once κs a exit = no_second _

-- what is seen of a register that was given, or not
abbrev seen : Register → Header × List ℕ
seen r = (r.header, r.cells.now)

pub of_once : (κs : _) (a : _) (exit : _) (r s : Option Register) → of.Post κs a r exit → of.Post κs a s exit → option_map seen r ≡ option_map seen s
of_once κs a exit None None p q = refl
of_once κs a exit None (Some s) p q = absurd (true≢false (q.0 ∙ sym p.0))
of_once κs a exit (Some r) None p q = absurd (true≢false (p.0 ∙ sym q.0))
of_once κs a exit (Some r) (Some s) p q = ap Some (ap₂ (λ h c. (h, c)) (p.1.0 ∙ sym q.1.0) (p.1.1 ∙ sym q.1.1))
