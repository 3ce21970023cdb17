-- `register_reader::read_register` meets its contract: the register, or zeros and why there is none.
use Rattle.std.proofs.Common.{◌∙◌}
use Rattle.register_reader.specs.Told.{read_answer}
use Rattle.register_reader.proofs.Taken.{refused_answer}
use Rattle.register_reader.proofs.read_register.Goals as goal

pub returns-in-Ok : goal.returns-in-Ok
unfolding read_answer
returns-in-Ok c = c.in-Ok.ensures

pub returns-in-Err : goal.returns-in-Err
unfolding read_answer
returns-in-Err c =
    record { answer = refused_answer _ c.number.ensures c.default.ensures ∙ c.in-Err.ensures.answer; buffer = c.in-Err.ensures.buffer }
