-- What the register reader answers and leaves, by the one outcome that the definitions of the text give.
use Rattle.std.specs.Prelude.{ℕ, ◌*◌, ◌≡◌, Bool, List, length, take, drop, replicate}
use Rattle.std.specs.declared.result.Result.{Result}
use Rattle.std.specs.declared.result.Result.TheVariants.{Ok, Err}
use Rattle.rights.specs.declared.Header.{Header}
use Rattle.rights.specs.Refusal.{number}
use Rattle.rights.specs.Sound.{sound}
use Rattle.wording.specs.Lines.{Reading, got, bad_at, offset, lines_of, header_lines, header_of}
use Rattle.wording.specs.Records.{first, records_from}
use Rattle.wording.specs.RegisterReader.{RegisterRead as Outcome, no_header, with_header, read_refusal, judged}
use Rattle.register_reader.specs.declared.Refused.{Refused}
use Rattle.register_reader.specs.declared.RegisterRead.{RegisterRead}

-- the header and where in the text the next line starts, or where the bad line starts
unfoldable pub header_read : List ℕ → Reading (List ℕ) → Result (Header × ℕ) ℕ
header_read text (got vs rest) = Ok (header_of vs, offset text rest)
header_read text (bad_at line) = Err (offset text line)

-- what stands at the start of the text as a header
unfoldable pub header_in : List ℕ → Result (Header × ℕ) ℕ
header_in text = header_read text (lines_of header_lines text)

-- an outcome of the register reader, but for the buffer and the rest
unfoldable pub register_answer : Outcome → RegisterRead
register_answer o = record { answer = o.answer; at = o.at; header = o.header; next = o.next }

-- a refused register: the number, where the bad line starts, a header of zeros, and the text's end
unfoldable pub register_not : ℕ → ℕ → ℕ → RegisterRead
register_not k at end = record { answer = k; at = at; header = no_header; next = end }

-- the answer for a register that was read, with where the rest starts, or for one that was refused
unfoldable pub read_answer : List ℕ → Result (Header × ℕ) Refused → RegisterRead
read_answer text (Ok register) = record { answer = 0; at = 0; header = register.0; next = register.1 }
read_answer text (Err refused) = register_not (number refused.refusal) refused.at (length text)

-- the answer and the buffer are those of the outcome
pub record RegisterTold (o : Outcome) (r : RegisterRead) (cells : List ℕ) : Type 0 where
  pub answer : r ≡ register_answer o
  pub buffer : cells ≡ o.buffer

-- what the reader checks behind 13, of the buffer with the records and what was found of them
unfoldable pub buffer_refusal : Header → List ℕ → Bool → Bool → ℕ
buffer_refusal h cells out barred = read_refusal h (length cells) out barred (sound h (take (h.n * h.n) cells))

-- the outcome behind a header, with the records from the byte `at` on
unfoldable pub behind_header_at : List ℕ → List ℕ → Header → ℕ → Outcome
behind_header_at text buffer h at = judged text buffer (with_header h (records_from (length (drop at text)) first (drop at text)))
