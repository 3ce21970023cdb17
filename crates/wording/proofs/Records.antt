-- Records as text: what is read is written again, and what is written is read again.
use Prim.Native.Nat.{ℕ, zero, suc, ◌+◌, ◌*◌, ◌≤◌, ◌<◌}
use mathlib.Core.Path.{◌≡◌, refl, sym, ap, ◌∙◌}
use mathlib.Core.Bool.{Bool, true, false, ◌||◌, cond}
use mathlib.Core.List.{List, [], ◌++◌, append_assoc}
use native.Mathlib.Omega.{arith}
use lib.Dec.{eqb, ltb, leb}
use lib.ListN.{length}
use borrow.Author.Tests.{ltb-true, ltb-false, leb-true, lt-ltb, le-leb, ne_eqb}
use Rattle.rights.specs.declared.Permission.{Permission}
use Rattle.rights.specs.declared.Permission.TheVariants.{TT, TF, FT, FF}
use Rattle.rights.specs.Permission.{code, any_permission, is_code, decoded}
use Rattle.wording.specs.Word.{key, form, by_line, to_line, perm_line, end_text, perms, worded}
use Rattle.wording.specs.Line.{After, after, otherwise, after_word, Line, value, bad, line_of, line_text, fits}
use Rattle.wording.specs.Lines.{Reading, got, bad_at, and_before}
use Rattle.wording.specs.Records.{Record, first, record_text, records_text, by_may, to_may, perm_may, with_perm, with_to, with_by, record_from, records_from}
use Rattle.theory.proofs.Tests.{left_of, right_of}
use Rattle.wording.proofs.Truth.{never}
use Rattle.wording.proofs.Line.{after-word_read, after_word-written, line_read_lem, line_written}
use Rattle.wording.proofs.Lines.{got_before}
use Rattle.wording.proofs.Cell.{code-decoded, is_code-small}
use Rattle.wording.proofs.Order.{rank, rank_of, Proper, Ascending, none, more}

-- a record that another may come after: one that was read, or what stands in for one before the first
pub record Before (last : Record) : Type 0 where
  pub by-small : last.by ≤ 65535
  pub to-small : last.to ≤ 65535
  pub perm-small : last.perm ≤ 16

pub before_first : Before first
unfolding first
before_first = omega arith

pub before_next : (r : Record) → Proper 65536 r → Before r
before_next r p =
    let c = is_code-small r.perm p.coded in
    let b = p.by_below in
    let t = p.to_below in
    record { by-small = omega arith; to-small = omega arith; perm-small = omega arith }

-- the three tests of the order together say that the rank is higher
rank_above :
    (last : Record) (i j p : ℕ) → Before last → p ≤ 8 → by_may last i ≡ true → to_may last i j ≡ true → perm_may last i j p ≡ true →
    rank_of last < rank i j p
unfolding by_may to_may perm_may
rank_above last i j p f small b t q = go (ltb last.by i) refl t (ltb last.to j) refl (right_of (leb 1 p) _ q)
  where
    go : (x : Bool) → ltb last.by i ≡ x → (x || leb last.to j) ≡ true → (y : Bool) → ltb last.to j ≡ y →
        (x || y || ltb p last.perm) ≡ true → rank_of last < rank i j p
    go true e t y w q = omega (arith, ltb-true last.by i e)
    go false e t true w q = omega (arith, ltb-true last.to j w, leb-true last.by i b)
    go false e t false w q = omega (arith, leb-true last.by i b, leb-true last.to j t, ltb-true p last.perm q)

-- and where the rank is higher, all three pass
record May (last : Record) (i j p : ℕ) : Type 0 where
  may_by : by_may last i ≡ true
  to_may_ok : to_may last i j ≡ true
  perm_may_ok : perm_may last i j p ≡ true

rank_may : (last : Record) (i j p : ℕ) → Before last → j ≤ 65535 → 1 ≤ p → rank_of last < rank i j p → May last i j p
unfolding by_may to_may perm_may
rank_may last i j p f small some above =
    record {
      may_by = le-leb last.by i (omega arith);
      to_may_ok = to (ltb last.by i) refl;
      perm_may_ok = rw (le-leb 1 p some) (perm (ltb last.by i) refl (ltb last.to j) refl);
    }
  where
    to : (x : Bool) → ltb last.by i ≡ x → (x || leb last.to j) ≡ true
    to true e = refl
    to false e = le-leb last.to j (omega (arith, ltb-false last.by i e))

    perm : (x : Bool) → ltb last.by i ≡ x → (y : Bool) → ltb last.to j ≡ y → (x || y || ltb p last.perm) ≡ true
    perm true e y w = refl
    perm false e true w = refl
    perm false e false w = lt-ltb p last.perm (omega (arith, ltb-false last.by i e, ltb-false last.to j w))

-- the words of permissions are those of the four codes, and none
worded-code : (p : ℕ) → is_code p ≡ true → worded perms p ≡ true
unfolding worded perms code
worded-code p e = rw (← (code-decoded p e)) (each (decoded p))
  where
    each : (q : Permission) → worded perms (code q) ≡ true
    each TT = refl
    each TF = refl
    each FT = refl
    each FF = refl

code-worded : (p : ℕ) → worded perms p ≡ true → 1 ≤ p → is_code p ≡ true
unfolding worded perms is_code any_permission code
code-worded p e some = go (eqb p 8) (eqb p 4) (eqb p 2) (eqb p 1) (rw (ne_eqb p 0 (λ z. omega arith)) at e)
  where
    go : (a b c d : Bool) → (a || (b || (c || (d || false)))) ≡ true → (a || b || c || d) ≡ true
    go true b c d e = refl
    go false true c d e = refl
    go false false true d e = refl
    go false false false true e = refl
    go false false false false e = e

-- a branch that is bad where the test fails was taken because it passed
got_if : {A : Type 0} (t : Bool) (x : Reading A) (line : List ℕ) (a : A) (rest : List ℕ) → cond t x (bad_at line) ≡ got a rest → (t ≡ true) × (x ≡ got a rest)
got_if true x line a rest e = (refl, e)
got_if false x line a rest e = never (cc)

by-got :
    (last : Record) (text : List ℕ) (l : Line) (r : Record) (rest : List ℕ) → with_by last text l ≡ got r rest →
    (i : ℕ) × (s : List ℕ) × (l ≡ value i s) × (by_may last i ≡ true) × (with_to last i s (line_of to_line s) ≡ got r rest)
unfolding with_by
by-got last text (value i s) r rest e = let g = got_if (by_may last i) _ text r rest e in (i, s, refl, g.0, g.1)
by-got last text bad r rest e = never (cc)

to-got :
    (last : Record) (i : ℕ) (text : List ℕ) (l : Line) (r : Record) (rest : List ℕ) → with_to last i text l ≡ got r rest →
    (j : ℕ) × (s : List ℕ) × (l ≡ value j s) × (to_may last i j ≡ true) × (with_perm last i j s (line_of perm_line s) ≡ got r rest)
unfolding with_to
to-got last i text (value j s) r rest e = let g = got_if (to_may last i j) _ text r rest e in (j, s, refl, g.0, g.1)
to-got last i text bad r rest e = never (cc)

perm-got :
    (last : Record) (i j : ℕ) (text : List ℕ) (l : Line) (r : Record) (rest : List ℕ) → with_perm last i j text l ≡ got r rest →
    (p : ℕ) × (l ≡ value p rest) × (perm_may last i j p ≡ true) × (record { by = i; to = j; perm = p } ≡ r)
unfolding with_perm
perm-got last i j text (value p s) r rest e = let g = got_if (perm_may last i j p) _ text r rest e in (p, cc, g.0, cc)
perm-got last i j text bad r rest e = never (cc)

-- a record that is read is the text written from it, is proper, and comes after the last one
pub record RecordRead (last : Record) (text : List ℕ) (r : Record) (rest : List ℕ) : Type 0 where
  pub written : record_text r ++ rest ≡ text
  pub proper : Proper 65536 r
  pub above : rank_of last < rank_of r

pub record_read_lem : (last : Record) (text : List ℕ) (r : Record) (rest : List ℕ) → Before last → record_from last text ≡ got r rest → RecordRead last text r rest
unfolding record_from record_text perm_may fits form
record_read_lem last text r rest f e =
    let b = by-got last text (line_of by_line text) r rest e in
    let t = to-got last b.0 b.1 (line_of to_line b.1) r rest b.4 in
    let p = perm-got last b.0 t.0 t.1 (line_of perm_line t.1) r rest t.4 in
    let bl = line_read_lem by_line text b.0 b.1 b.2 in
    let tl = line_read_lem to_line b.1 t.0 t.1 t.2 in
    let pl = line_read_lem perm_line t.1 p.0 rest p.1 in
    let coded = code-worded p.0 pl.fit (leb-true 1 p.0 (left_of _ _ p.2)) in
    let small = is_code-small p.0 coded in
    let bs = leb-true b.0 65535 bl.fit in
    let ts = leb-true t.0 65535 tl.fit in
    rw (← p.3)
    record {
      written = simp append_assoc (cc (bl.written, tl.written, pl.written));
      proper = record { by_below = omega arith; to_below = omega arith; coded = coded };
      above = rank_above last b.0 t.0 p.0 f small.high b.3 t.3 p.2;
    }

-- a proper record that comes after the last one is read as it was written
pub record_written :
    (last r : Record) (rest : List ℕ) → Before last → Proper 65536 r → rank_of last < rank_of r → record_from last (record_text r ++ rest) ≡ got r rest
unfolding record_from record_text with_by with_to with_perm fits form
record_written last r rest f p above =
    let c = is_code-small r.perm p.coded in
    let bs = p.by_below in
    let ts = p.to_below in
    let m = rank_may last r.by r.to r.perm f (omega arith) c.low above in
    let behind-to = line_text perm_line r.perm ++ rest in
    let behind-by = line_text to_line r.to ++ behind-to in
    let bl = line_written by_line r.by behind-by (le-leb r.by 65535 (omega arith)) in
    let tl = line_written to_line r.to behind-to (le-leb r.to 65535 (omega arith)) in
    let pl = line_written perm_line r.perm rest (worded-code r.perm p.coded) in
    simp append_assoc (rw (bl, m.may_by, tl, m.to_may_ok, pl, m.perm_may_ok))

-- the step of the reader of records, for each thing that it may find
pub records_end : (k : ℕ) (last : Record) (text rest : List ℕ) → after_word end_text text ≡ after rest → records_from (suc k) last text ≡ got [] rest
unfolding records_from
records_end k last text rest e = rw (e, records_from)

pub records-more :
    (k : ℕ) (last : Record) (text : List ℕ) (r : Record) (rest : List ℕ) → after_word end_text text ≡ otherwise → record_from last text ≡ got r rest →
    records_from (suc k) last text ≡ and_before r (records_from k r rest)
unfolding records_from
records-more k last text r rest e f = rw (e, f, records_from)

pub records-bad :
    (k : ℕ) (last : Record) (text line : List ℕ) → after_word end_text text ≡ otherwise → record_from last text ≡ bad_at line →
    records_from (suc k) last text ≡ bad_at line
unfolding records_from
records-bad k last text line e f = rw (e, f, records_from)

-- and one of them it finds: the end line, a bad line or a record
pub records-cases :
    {P : Type 0} (last : Record) (text : List ℕ) → ((s : List ℕ) → after_word end_text text ≡ after s → P) →
    ((line : List ℕ) → after_word end_text text ≡ otherwise → record_from last text ≡ bad_at line → P) →
    ((r : Record) (s : List ℕ) → after_word end_text text ≡ otherwise → record_from last text ≡ got r s → P) → P
records-cases {P} last text ends stops goes_on_lem = at_line (after_word end_text text) refl
  where
    at_record : after_word end_text text ≡ otherwise → (x : Reading Record) → record_from last text ≡ x → P
    at_record q (bad_at line) w = stops line q w
    at_record q (got r s) w = goes_on_lem r s q w

    at_line : (x : After) → after_word end_text text ≡ x → P
    at_line (after s) q = ends s q
    at_line otherwise q = at_record q (record_from last text) refl

-- every rank is below this
abbrev pub top : ℕ
top = 65536 * 65536 * 16 + 1

-- records that are read, up to the end line, are the text written from them, and ascend
pub record RecordsRead (last : Record) (text : List ℕ) (rs : List Record) (rest : List ℕ) : Type 0 where
  pub written : records_text rs ++ (end_text ++ rest) ≡ text
  pub ascending : Ascending 65536 (suc (rank_of last)) top rs

pub records_read :
    (k : ℕ) (last : Record) (text : List ℕ) (rs : List Record) (rest : List ℕ) → Before last → records_from k last text ≡ got rs rest →
    RecordsRead last text rs rest
unfolding records_from records_text
records_read zero last text rs rest f e = never (cc)
records_read (suc k) last text rs rest f e =
    records-cases last text
    (λ s q.
    let none_read : [] ≡ rs = cc (records_end k last text s q) in
    let same : s ≡ rest = cc (records_end k last text s q) in
    let below : suc (rank_of last) ≤ top = omega arith in
    rw (← none_read) record { written = after-word_read end_text text rest (q ∙ ap after same); ascending = none below })
    (λ line q w. never (cc (records-bad k last text line q w)))
    (λ r s q w.
    let one = record_read_lem last text r s f w in
    let b = got_before r (records_from k r s) rs rest (sym (records-more k last text r s q w) ∙ e) in
    let others = records_read k r s b.0 rest (before_next r one.proper) b.1 in
    rw (← b.2)
    record {
      written = simp append_assoc (cc (others.written, one.written));
      ascending = more one.proper one.above others.ascending;
    })

not_end : (r : Record) (rest : List ℕ) → after_word end_text (record_text r ++ rest) ≡ otherwise
unfolding after_word end_text record_text line_text key
not_end r rest = refl

-- ascending records that come after the last one, with the end line, are read as they were written
pub records-written :
    {lo hi : ℕ} {rs : List Record} (k : ℕ) (last : Record) (rest : List ℕ) → Before last → rank_of last < lo → Ascending 65536 lo hi rs → length rs < k →
    records_from k last (records_text rs ++ (end_text ++ rest)) ≡ got rs rest
unfolding records_text and_before
records-written {rs} zero last rest f below a enough = let z : ⊥ = omega arith in absurd z
records-written (suc k) last rest f below (none e) enough = records_end k last (end_text ++ rest) rest (after_word-written end_text rest)
records-written {lo = lo} {hi = hi} (suc k) last rest f below (more {r = r} {rs = rs} p e a) enough =
    let tail = records_text rs ++ (end_text ++ rest) in
    let above : rank_of last < rank_of r = omega arith in
    let one = records-more k last (record_text r ++ tail) r tail (not_end r tail) (record_written last r tail f p above) in
    let others = records-written {lo = suc (rank_of r)} k r rest (before_next r p) (omega arith) a (omega arith) in
    rw append_assoc (one ∙ (rw others))

-- a record's text is not empty
pub record_long : (r : Record) → 1 ≤ length (record_text r)
unfolding record_text line_text key
record_long r = omega arith
