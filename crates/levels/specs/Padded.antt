-- Arrays of 128 entries, one for each office there can be: an entry for each of the n offices, and nothing after them.
use Rattle.std.specs.Prelude.{ℕ, ◌-◌, cond, List, [], ◌++◌, length, replicate}
use Rattle.rights.specs.declared.Header.{Header}
use Rattle.rights.specs.Level.{levels, independent_levels}
use Rattle.rights.specs.Sound.{readable}

-- the list, made up to 128 entries
unfoldable pub padded : {A : Type 0} → A → List A → List A
padded none l = l ++ replicate (128 - length l) none

-- the level of each office; 0 for all where the register cannot be read
unfoldable pub padded_levels : Header → List ℕ → List ℕ
padded_levels h R = padded 0 (cond (readable h R) (levels h R) [])

-- the independent level of each office from office i; 0 for all where the register cannot be read
unfoldable pub padded_independent : Header → List ℕ → ℕ → List ℕ
padded_independent h R i = padded 0 (cond (readable h R) (independent_levels h R i) [])
