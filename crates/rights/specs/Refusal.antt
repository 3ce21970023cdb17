-- The numbers of refusals (01, 'Refusal numbers'), and the number that an answer is.
use Rattle.std.specs.Prelude.{ℕ}
use Rattle.std.specs.declared.result.Result.{Result}
use Rattle.std.specs.declared.result.Result.TheVariants.{Ok, Err}
use Rattle.rights.specs.declared.Refusal.{Refusal}
use Rattle.rights.specs.declared.Refusal.TheVariants.{NoHeader, WrongLength, Unsound, NoCommand, OtherLayer, NoOffice, Barred, NotEntitled, Standing, EmptyCell, ShortChain, NotHeld, BadText, LittleRoom, LongInput, LongRun}

-- each case by its number in 01's table
abbrev pub number : Refusal → ℕ
number NoHeader = 1
number WrongLength = 2
number Unsound = 3
number NoCommand = 4
number OtherLayer = 5
number NoOffice = 6
number Barred = 7
number NotEntitled = 8
number Standing = 9
number EmptyCell = 10
number ShortChain = 11
number NotHeld = 12
number BadText = 13
number LittleRoom = 14
number LongInput = 15
number LongRun = 16

-- '0 is done', and otherwise the number of the refusal
abbrev pub answer_of : {A : Type 0} → Result A Refusal → ℕ
answer_of (Ok done) = 0
answer_of (Err refusal) = number refusal
