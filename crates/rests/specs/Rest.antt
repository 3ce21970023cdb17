-- The rest of a text: a part of the caller's own bytes, behind what was read.
use Rattle.std.specs.Prelude.{ℕ, ◌+◌, min, ◌≡◌, List, length, drop}
use Rattle.wording.specs.RegisterReader.{RegisterRead}
use Rattle.wording.specs.CommandReader.{CommandRead}

-- the rest is the caller's own text from the byte `next` on, and the empty part at its end where the text is shorter
pub record RestTold (start : ℕ × ℕ) (text : List ℕ) (next : ℕ) (there : ℕ × ℕ) (rest : List ℕ) : Type 0 where
  pub bytes : rest ≡ drop next text
  pub same_text : there.0 ≡ start.0
  pub place : there.1 ≡ start.1 + min next (length text)

-- the rest of an outcome, in the caller's own text, and the buffer
pub record RegisterRest (start : ℕ × ℕ) (o : RegisterRead) (there : ℕ × ℕ) (rest cells : List ℕ) : Type 0 where
  pub bytes : rest ≡ o.rest
  pub same_text : there.0 ≡ start.0
  pub place : there.1 ≡ start.1 + o.next
  pub buffer : cells ≡ o.buffer

-- the rest of an outcome of the command reader, in the caller's own text
pub record CommandRest (start : ℕ × ℕ) (o : CommandRead) (there : ℕ × ℕ) (rest : List ℕ) : Type 0 where
  pub bytes : rest ≡ o.rest
  pub same_text : there.0 ≡ start.0
  pub place : there.1 ≡ start.1 + o.next
