-- A register kept for looking back at.
use Rattle.std.specs.Prelude.{ℕ, ◌-◌, List, ◌++◌, length, replicate, take}

-- the first 16,384 bytes, and zeros after them
unfoldable pub copy_of : List ℕ → List ℕ
copy_of R = take 16384 R ++ replicate (16384 - length R) 0
