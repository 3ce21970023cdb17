-- The content of a register's text, header and records: what is read is written again, and what is written is read again.
use Prim.Native.Nat.{ℕ, zero, suc, ◌≤◌, ◌<◌}
use mathlib.Core.Path.{◌≡◌, refl, sym, ap, ◌∙◌}
use mathlib.Core.Bool.{true}
use mathlib.Core.List.{List, [], ◌∷◌, ◌++◌, append_assoc}
use native.Mathlib.Omega.{arith}
use lib.ListN.{length, length-append}
use Rattle.rights.specs.declared.Header.{Header}
use Rattle.wording.specs.Word.{end_text}
use Rattle.wording.specs.Lines.{Reading, got, bad_at, lines_of, all_fit, header_lines, header_of, header_values, header_text}
use Rattle.wording.specs.Records.{Record, first, record_text, records_text, records_from, joined, row_records, row_text, register_text}
use Rattle.wording.specs.RegisterReader.{Content, with_header, behind_header, content_of}
use Rattle.wording.proofs.Truth.{never}
use Rattle.wording.proofs.Lines.{lines_read, lines_written, fit_length}
use Rattle.wording.proofs.Order.{Ascending}
use Rattle.wording.proofs.CellRecords.{all_records}
use Rattle.wording.proofs.Records.{top, before_first, records_read, records-written, record_long}

-- the text of a register's content
unfoldable pub content_text : Content → List ℕ
content_text t = header_text t.header ++ (records_text t.records ++ end_text)

pub records_text-append : (rs ss : List Record) → records_text (rs ++ ss) ≡ records_text rs ++ records_text ss
unfolding records_text
records_text-append [] ss = refl
records_text-append (r ∷ rs) ss = rw (records_text-append rs ss) (sym (append_assoc (record_text r) (records_text rs) (records_text ss)))

rows_text : (m : ℕ) (h : Header) (R : List ℕ) → joined m (row_text h R) ≡ records_text (joined m (row_records h R))
unfolding joined records_text row_text
rows_text zero h R = refl
rows_text (suc m) h R = rw (rows_text m h R) (sym (records_text-append (joined m (row_records h R)) (row_records h R m)))

-- a register's text is that of its header and its records
pub register_text_lem : (h : Header) (R : List ℕ) → register_text h R ≡ content_text (record { header = h; records = all_records h R })
unfolding register_text content_text all_records
register_text_lem h R = rw (rows_text h.n h R)

header_values_lem : (vs : List ℕ) → length vs ≡ 3 → header_values (header_of vs) ≡ vs
unfolding header_values header_of
header_values_lem [] e = let z : ⊥ = omega arith in absurd z
header_values_lem (a ∷ []) e = let z : ⊥ = omega arith in absurd z
header_values_lem (a ∷ b ∷ []) e = let z : ⊥ = omega arith in absurd z
header_values_lem (a ∷ b ∷ c ∷ []) e = refl
header_values_lem (a ∷ b ∷ c ∷ d ∷ more) e = let z : ⊥ = omega arith in absurd z

-- content that is read is the text written from it, and its records ascend
pub record ContentRead (text : List ℕ) (t : Content) (rest : List ℕ) : Type 0 where
  pub written : content_text t ++ rest ≡ text
  pub ascending : Ascending 65536 1 top t.records

pub content_read : (text : List ℕ) (t : Content) (rest : List ℕ) → content_of text ≡ got t rest → ContentRead text t rest
unfolding content_of behind_header with_header content_text header_text header_lines first
content_read text t rest e = at-header (lines_of header_lines text) refl e
  where
    at_records : (vs s : List ℕ) → lines_of header_lines text ≡ got vs s → (x : Reading (List Record)) → records_from (length s) first s ≡ x →
        with_header (header_of vs) x ≡ got t rest → ContentRead text t rest
    at_records vs s q (bad_at line) w f = never (cc)
    at_records vs s q (got rs u) w f =
        let l = lines_read header_lines text vs s q in
        let same : u ≡ rest = cc in
        let r = records_read (length s) first s rs rest before_first (w ∙ ap (got rs) same) in
        let content : record { header = header_of vs; records = rs } ≡ t = cc in
        rw (← content)
        record {
          written = rw (header_values_lem vs (fit_length header_lines vs l.fit)) (simp append_assoc (cc (r.written, l.written)));
          ascending = r.ascending;
        }

    at-header : (x : Reading (List ℕ)) → lines_of header_lines text ≡ x →
        behind_header x ≡ got t rest → ContentRead text t rest
    at-header (bad_at line) q f = never (cc)
    at-header (got vs s) q f = at_records vs s q (records_from (length s) first s) refl f

-- as many bytes as records, and more
records_long : (rs : List Record) → length rs ≤ length (records_text rs)
unfolding records_text
records_long [] = omega arith
records_long (r ∷ rs) = rw length-append (omega (arith, record_long r, records_long rs))

-- content with a header that fits its lines and with ascending records is read as it was written
pub content_written :
    {hi : ℕ} (t : Content) (more : List ℕ) → all_fit header_lines (header_values t.header) ≡ true → Ascending 65536 1 hi t.records →
    content_of (content_text t ++ more) ≡ got t more
unfolding content_of behind_header with_header content_text header_text header_of header_values first end_text
content_written t more fit a =
    let tail = records_text t.records ++ (end_text ++ more) in
    let l = lines_written header_lines (header_values t.header) tail fit in
    let enough : length t.records < length tail = simp length-append (omega (arith, records_long t.records)) in
    let r = records-written (length tail) first more before_first (omega arith) a enough in
    simp append_assoc (rw (l, r))
