-- The rest that a reader hands back is the caller's own text.
use Prim.Native.Nat.{ℕ}
use mathlib.Core.Path.{◌≡◌, sym, ap, ◌∙◌}
use mathlib.Core.List.{List}
use native.Mathlib.Omega.{arith}
use lib.ListN.{drop}
use Rattle.wording.specs.RegisterReader.{register_read}
use Rattle.wording.specs.CommandReader.{command_read}
use Rattle.wording.proofs.RegisterText as register-text
use Rattle.wording.proofs.CommandText as command-text
use Rattle.command_reader.specs.CommandTold.{command_answer, command_told}
use Rattle.register_reader.specs.Told.{register_answer, RegisterTold}
use Rattle.rests.specs.Rest.{RestTold, RegisterRest, CommandRest}
use Rattle.command_reader.specs.declared.CommandRead.{CommandRead}
use Rattle.register_reader.specs.declared.RegisterRead.{RegisterRead}

module _ {start there : ℕ × ℕ} {text rest : List ℕ} where
  pub command_rest_told : (read : CommandRead) → read ≡ command_told text → RestTold start text read.next there rest → CommandRest start (command_read text) there rest
  unfolding command_told command_answer
  command_rest_told read e told =
      let n : read.next ≡ (command_read text).next = ap (λ (r : CommandRead). r.next) e in
      record {
        bytes = told.bytes ∙ ap (λ (k : ℕ). drop k text) n ∙ sym (command-text.command-rest text);
        same_text = told.same_text;
        place = omega (arith, told.place, (command-text.command_within text).0);
      }

  pub register_rest_told :
      (buffer : List ℕ) {cells : List ℕ} (read : RegisterRead) → RegisterTold (register_read text buffer) read cells → RestTold start text read.next there rest →
      RegisterRest start (register_read text buffer) there rest cells
  unfolding register_answer
  register_rest_told buffer read was told =
      let n : read.next ≡ (register_read text buffer).next = ap (λ (r : RegisterRead). r.next) was.answer in
      record {
        bytes = told.bytes ∙ ap (λ (k : ℕ). drop k text) n ∙ sym (register-text.register-rest text buffer);
        same_text = told.same_text;
        place = omega (arith, told.place, (register-text.register_within text buffer).0);
        buffer = was.buffer;
      }
