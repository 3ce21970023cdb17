-- `register_reader::judge` meets its contract: each check by the tests that led there.
use Rattle.std.proofs.Common.{sym, ◌∙◌}
use Rattle.register_reader.proofs.Checks.{refuses_1, refuses_2, refuses_6, refuses_7, refuses_3}
use Rattle.register_reader.proofs.judge.Goals as goal

pub returns-then-not-headed : goal.returns-then-not-headed
returns-then-not-headed c = refuses_1 _ _ _ _ (sym c.headed.ensures ∙ c.if-not-headed.true)

pub returns-then-cells-size : goal.returns-then-cells-size
returns-then-cells-size c = refuses_2 _ _ _ _ (sym c.headed.ensures ∙ c.if-not-headed.false) c.if-cells-size.true

pub returns-then-found : goal.returns-then-found
returns-then-found c = refuses_6 _ _ _ _ (sym c.headed.ensures ∙ c.if-not-headed.false) c.if-cells-size.false c.if-found.true

pub returns-then-found-2 : goal.returns-then-found-2
returns-then-found-2 c = refuses_7 _ _ _ _ (sym c.headed.ensures ∙ c.if-not-headed.false) c.if-cells-size.false c.if-found.false c.if-found-2.true

pub returns : goal.returns
returns c =
    c.register_refusal.ensures
    ∙ refuses_3 _ _ _ _ (sym c.headed.ensures ∙ c.if-not-headed.false) c.if-cells-size.false c.if-found.false c.if-found-2.false
