-- What is known of a register that can be read.
use Prim.Native.Nat.{◌≤◌, ◌<◌}
use Rattle.registers.specs.declared.Register.{Register}
use Rattle.rights.specs.Register.{soa_of}
use Rattle.levels.proofs.Given.{readable-header}

-- it has 128 offices at most, so that an array of 128 marks has one for each
pub few : (r : Register) → r.header.n ≤ 128
few r = (readable-header r.header r.cells.now r.is_readable).0

-- SOA is one of them
pub soa_inside : (r : Register) → soa_of r.header < r.header.n
soa_inside r = (readable-header r.header r.cells.now r.is_readable).1
