-- `sound::register_refusal` meets its contract: the refusals are tried in their order.
use mathlib.Core.Path.{sym, ap₂, ◌∙◌}
use mathlib.Core.Bool.{true, false}
use Rattle.rights.specs.Sound.{readable, sound_by}
use Rattle.sound.proofs.Standing.{refused_1, refused_2, refused_3}
use Rattle.sound.proofs.register_refusal.Goals as goal

pub returns-then-not-headed : goal.returns-then-not-headed
returns-then-not-headed c = sym (refused_1 _ _ (sym c.headed.ensures ∙ c.if-not-headed.true))

pub returns-in_default : goal.returns-in_default
returns-in_default c = sym (refused_2 _ _ (sym c.headed.ensures ∙ c.if-not-headed.false) (sym c.in_default.ensures.there))

pub returns-then-sound_by : goal.returns-then-sound_by
returns-then-sound_by c =
    let same = c.in-Some.ensures.same in
    sym (refused_3 _ _ _ true (sym c.in-Some.ensures.there) c.levels.ensures (rw (same.0, same.1) at (sym c.sound_by.ensures ∙ c.if-sound_by.true)))

pub returns-else-sound_by : goal.returns-else-sound_by
returns-else-sound_by c =
    let same = c.in-Some.ensures.same in
    sym (refused_3 _ _ _ false (sym c.in-Some.ensures.there) c.levels.ensures (rw (same.0, same.1) at (sym c.sound_by.ensures ∙ c.if-sound_by.false)))
