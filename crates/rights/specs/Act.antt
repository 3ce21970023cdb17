-- The acts of commands by their numbers (01, 'Commands').
use Rattle.std.specs.Prelude.{ℕ, ◌<◌, ◌≡◌}
use Rattle.std.specs.declared.result.Result.{Result}
use Rattle.std.specs.declared.result.Result.TheVariants.{Ok, Err}
use Rattle.rights.specs.declared.Act.{Act}
use Rattle.rights.specs.declared.Act.TheVariants.{Grant, WLD, WGD, SLD, SGD}
use Rattle.rights.specs.declared.Refusal.{Refusal}
use Rattle.rights.specs.declared.Refusal.TheVariants.{NoCommand}

-- 'Acts: 0 grant, 1 WLD, 2 WGD, 3 SLD, 4 SGD'
abbrev pub act_number : Act → ℕ
act_number Grant = 0
act_number WLD = 1
act_number WGD = 2
act_number SLD = 3
act_number SGD = 4

-- refusal 4, 'unknown act': the act of the number, and the refusal where it is the number of none
abbrev pub ActGiven : ℕ → Result Act Refusal → Type 0
ActGiven k (Ok act) = act_number act ≡ k
ActGiven k (Err refusal) = (4 < k) × (refusal ≡ NoCommand)
