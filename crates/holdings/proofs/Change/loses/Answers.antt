-- `holdings::Change::loses` meets its contract: each of the four permissions is asked.
use Rattle.std.proofs.Common.{rules, tests}
use Rattle.std.specs.List.{list_any}
use Rattle.std.proofs.lemmas.Iterator.{YieldsList-from_slice}
use Rattle.std.proofs.lemmas.Iterator.Search.{any_from_yields_List}
use mathlib.Core.Path.{◌≡◌, refl, ◌∙◌}
use mathlib.Core.Bool.{Bool, true, false, ◌||◌}
use mathlib.Core.List.{[], ◌∷◌}
use Rattle.rights.specs.declared.Permission.{Permission}
use Rattle.rights.specs.declared.Permission.TheVariants.{TT, TF, FT, FF}
use Rattle.rights.specs.Permission.{any_permission}
use Rattle.rights.specs.Deletion.{loses_one}
use Rattle.holdings.proofs.Change.loses.Goals as goal

any_of_all : (f : Permission → Bool) → list_any f (TT ∷ TF ∷ FT ∷ FF ∷ []) ≡ any_permission f
unfolding any_permission
any_of_all f = go (f TT) (f TF) (f FT) (f FF)
  where
    go : (a b c d : Bool) → a || (b || (c || (d || false))) ≡ a || b || c || d
    go true b c d = refl
    go false true c d = refl
    go false false true d = refl
    go false false false true = refl
    go false false false false = refl

pub returns : goal.returns
returns c =
    let b = c.args.self.now.before in
    let a = c.args.self.now.after in
    let lost = loses_one b.register.header b.register.cells.now b.levels a.register.cells.now a.levels c.args.y in
    any_from_yields_List lost _ _ _ c.any.ensures.ran (YieldsList-from_slice (TT ∷ TF ∷ FT ∷ FF ∷ []) (cc))
    (λ x b q k. search (rules, tests))
    ∙ any_of_all lost
