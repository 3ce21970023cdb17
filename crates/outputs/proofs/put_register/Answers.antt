-- `outputs::put_register` meets its contract: three texts, one behind the other.
use native.Mathlib.Omega.{arith}
use Rattle.wording.specs.Records.{register_text}
use Rattle.theory.proofs.Ready.{headed_high}
use Rattle.theory.proofs.Refusals.{register_ready}
use Rattle.outputs.proofs.Part.{within_both, within_wider, room_behind, room_smaller}
use Rattle.outputs.proofs.put_register.Goals as goal

pub put_header-requires : goal.put_header-requires
put_header-requires c = ((register_ready _ _ c.requires.0).headed, room_smaller 26 (omega arith) c.requires.1)

pub put_rows-requires : goal.put_rows-requires
put_rows-requires c =
    let register = c.args.register.now in
    let high = headed_high register.header (register_ready register.header register.cells.now c.requires.0).headed in
    (c.requires.0, room_behind _ _ c.put_header.ensures (omega (arith, high)) c.requires.1)

pub put_end-requires : goal.put_end-requires
put_end-requires c =
    let register = c.args.register.now in
    let high = headed_high register.header (register_ready register.header register.cells.now c.requires.0).headed in
    room_behind _ 13 (within_both c.put_header.ensures c.put_rows.ensures) (omega (arith, high)) c.requires.1

pub returns : goal.returns
unfolding register_text
returns c =
    let register = c.args.register.now in
    let high = headed_high register.header (register_ready register.header register.cells.now c.requires.0).headed in
    within_wider _ (omega (arith, high)) (within_both c.put_header.ensures (within_both c.put_rows.ensures c.put_end.ensures))
