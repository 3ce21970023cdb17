-- What the register reader answers and leaves.
use Rattle.std.specs.Prelude.{ℕ, ◌*◌, ◌-◌, Bool, false, ◌&&◌, ◌||◌, not, cond, List, [], ◌∷◌, ◌++◌, length, replicate, eqb, ltb, leb}
use Rattle.rights.specs.declared.Header.{Header}
use Rattle.rights.specs.Permission.{decoded}
use Rattle.rights.specs.Register.{register}
use Rattle.rights.specs.Sound.{headed, sound, barred, first_of, unless}
use Rattle.rights.specs.Deletion.{granted}
use Rattle.wording.specs.Lines.{Reading, got, bad_at, offset, lines_of, header_lines, header_of}
use Rattle.wording.specs.Records.{Record, first, records_from}

-- what a register's text says
pub record Content : Type 0 where
  pub header : Header
  pub records : List Record

-- not of 01: the header put to the records that were read behind it; a bad line stays bad
unfoldable pub with_header : Header → Reading (List Record) → Reading Content
with_header h (got rs rest) = got (record { header = h; records = rs }) rest
with_header h (bad_at line) = bad_at line

-- behind the header, the records up to the end
unfoldable pub behind_header : Reading (List ℕ) → Reading Content
behind_header (got vs rest) = with_header (header_of vs) (records_from (length rest) first rest)
behind_header (bad_at line) = bad_at line

-- the header, then the records up to the end
unfoldable pub content_of : List ℕ → Reading Content
content_of text = behind_header (lines_of header_lines text)

-- some record passes the test: 'each over the whole text before the next'
unfoldable pub any_record : (Record → Bool) → List Record → Bool
any_record test [] = false
any_record test (r ∷ rs) = test r || any_record test rs

-- both offices of the record are below n
abbrev pub in_range : Header → Record → Bool
in_range h r = ltb r.by h.n && ltb r.to h.n

-- refusal 6: 'office number ≥ n'
unfoldable pub outside : Header → Record → Bool
outside h r = not (in_range h r)

-- refusal 7: 'by equals to, or to is SOA'
unfoldable pub forbidden : Header → Record → Bool
forbidden h r = barred h r.by r.to

-- every cell empty: the register before any record is added
unfoldable pub nothing : ℕ → ℕ → ℕ
nothing i j = 0

-- the register with each record added in turn
unfoldable pub added : Header → List ℕ → List Record → List ℕ
added h R [] = R
added h R (r ∷ rs) = added h (granted h R r.by r.to (decoded r.perm)) rs

-- the register of these records
unfoldable pub filled : Header → List Record → List ℕ
filled h rs = added h (register h nothing) rs

-- 'checks 13, 1, 2, 6, 7, 3, each over the whole text before the next', what follows 13; 0 where none applies. 2 is 'text reader:
-- shorter' than n·n; size is the length of the register buffer, and the tests are whether a record is outside, whether one is
-- forbidden, and whether the register of them is sound.
unfoldable pub read_refusal : Header → ℕ → Bool → Bool → Bool → ℕ
read_refusal h size out barred tested =
    first_of (unless (headed h) 1)
    (first_of (unless (leb (h.n * h.n) size) 2)
    (first_of (unless (not out) 6) (first_of (unless (not barred) 7) (unless tested 3))))

-- the same of what a text says
unfoldable pub content_refusal : Content → ℕ → ℕ
content_refusal t size =
    read_refusal t.header size (any_record (outside t.header) t.records) (any_record (forbidden t.header) t.records)
    (sound t.header (filled t.header t.records))

-- what the register reader answers and leaves: the rest is the caller's text from the byte `next` on
pub record RegisterRead : Type 0 where
  pub answer : ℕ
  pub at : ℕ
  pub header : Header
  pub buffer : List ℕ
  pub next : ℕ
  pub rest : List ℕ

-- 'n, SOA and layer given as 0'
unfoldable pub no_header : Header
no_header = record { n = 0; soa = record { 0 = 0 }; layer = record { 0 = 0 } }

-- 'Done: n·n bytes written, the rest of the buffer zero, and the unread part of the caller's text handed back.'
unfoldable pub register_done : List ℕ → List ℕ → Header → List ℕ → List ℕ → RegisterRead
register_done text buffer h R rest =
    record {
      answer = 0;
      at = 0;
      header = h;
      buffer = R ++ replicate (length buffer - length R) 0;
      next = offset text rest;
      rest = rest;
    }

-- 'Refused: the whole buffer zero, an empty part, and n, SOA and layer given as 0.' The empty part is the one at the text's end.
unfoldable pub register_refused : List ℕ → List ℕ → ℕ → ℕ → RegisterRead
register_refused text buffer number at =
    record { answer = number; at = at; header = no_header; buffer = replicate (length buffer) 0; next = length text; rest = [] }

-- '13 also gives the offset where the first bad line starts (the text's length if lines are missing; other answers give 0)'
unfoldable pub judged : List ℕ → List ℕ → Reading Content → RegisterRead
judged text buffer (got t rest) =
    cond (eqb (content_refusal t (length buffer)) 0)
    (register_done text buffer t.header (filled t.header t.records) rest)
    (register_refused text buffer (content_refusal t (length buffer)) 0)
judged text buffer (bad_at line) = register_refused text buffer 13 (offset text line)

-- the one outcome of reading a register from the text into the buffer
unfoldable pub register_read : List ℕ → List ℕ → RegisterRead
register_read text buffer = judged text buffer (content_of text)
