-- The checks of the register reader behind 13: what it means that none of them refuses, and that none refuses a sound register.
use Prim.Native.Nat.{ℕ, ◌*◌, ◌≤◌, ◌<◌}
use mathlib.Core.Path.{◌≡◌, refl, sym, ap, ◌∙◌}
use mathlib.Core.Bool.{true, false, not, or-true}
use mathlib.Core.List.{List, ◌∷◌}
use native.Mathlib.Omega.{arith}
use lib.Dec.{ltb, leb}
use lib.ListN.{length}
use borrow.Author.Tests.{ltb-true, leb-true, eqb-true, lt-ltb, le-leb, not-true, not-false}
use Rattle.rights.specs.declared.Header.{Header}
use Rattle.rights.specs.declared.Permission.{Permission}
use Rattle.rights.specs.Permission.{code, decoded}
use Rattle.rights.specs.Cell.{has}
use Rattle.rights.specs.Register.{cell}
use Rattle.rights.specs.Sound.{headed, whole, sound, barred, first_of, unless}
use Rattle.wording.specs.Records.{Record}
use Rattle.wording.specs.RegisterReader.{Content, any_record, outside, forbidden, filled, read_refusal, content_refusal}
use Rattle.theory.proofs.Tests.{left_of, right_of, not_left, not_right, fails}
use Rattle.wording.proofs.Truth.{never}
use Rattle.theory.proofs.Cell.{no_record}
use Rattle.theory.proofs.Refusals.{passed, holds-unless}
use Rattle.theory.proofs.Ready.{headed_high}
use Rattle.theory.proofs.Sound.{sound-cells}
use Rattle.wording.proofs.Cell.{code-decoded}
use Rattle.wording.proofs.Order.{Ascending, none, more, stands, stands_first}
use Rattle.wording.proofs.CellRecords.{all_records, all_ascending, stands_all}
use Rattle.wording.proofs.Filled.{filled_all}

-- no check behind 13 refuses the content
pub record Accepted (t : Content) (size : ℕ) : Type 0 where
  pub headed_ok : headed t.header ≡ true
  pub room_ok : t.header.n * t.header.n ≤ size
  pub inside_ok : any_record (outside t.header) t.records ≡ false
  pub allowed_ok : any_record (forbidden t.header) t.records ≡ false
  pub sound_ok : sound t.header (filled t.header t.records) ≡ true

pub accepted : (t : Content) (size : ℕ) → content_refusal t size ≡ 0 → Accepted t size
unfolding content_refusal read_refusal
accepted t size e =
    let one = passed (headed t.header) 0 _ e in
    let two = passed (leb (t.header.n * t.header.n) size) 1 _ one.1 in
    let six = passed (not (any_record (outside t.header) t.records)) 5 _ two.1 in
    let seven = passed (not (any_record (forbidden t.header) t.records)) 6 _ six.1 in
    record {
      headed_ok = one.0;
      room_ok = leb-true (t.header.n * t.header.n) size two.0;
      inside_ok = not-true _ six.0;
      allowed_ok = not-true _ seven.0;
      sound_ok = holds-unless (sound t.header (filled t.header t.records)) 2 seven.1;
    }

pub not-refused : (t : Content) (size : ℕ) → Accepted t size → content_refusal t size ≡ 0
unfolding content_refusal read_refusal first_of unless
not-refused t size a =
    rw (a.headed_ok, le-leb (t.header.n * t.header.n) size a.room_ok, a.inside_ok, a.allowed_ok, a.sound_ok)

-- records none of which is outside are between offices below n
pub inside : {m lo hi : ℕ} {rs : List Record} (h : Header) → any_record (outside h) rs ≡ false → Ascending m lo hi rs → Ascending h.n lo hi rs
unfolding any_record outside
inside h e (none f) = none f
inside h e (more {r} {rs} p f a) =
    let here = not-false _ (not_left (outside h r) _ e) in
    more
    (record {
      by_below = ltb-true r.by h.n (left_of _ _ here);
      to_below = ltb-true r.to h.n (right_of (ltb r.by h.n) _ here);
      coded = p.coded;
    })
    f (inside h (not_right (outside h r) _ e) a)

-- and the other way round
none-outside : (h : Header) {lo hi : ℕ} {rs : List Record} → Ascending h.n lo hi rs → any_record (outside h) rs ≡ false
unfolding any_record outside
none-outside h (none f) = refl
none-outside h (more {r} {rs} p f a) =
    rw (lt-ltb r.by h.n p.by_below, lt-ltb r.to h.n p.to_below) (none-outside h a)

-- records between offices below n are between offices below a larger number
pub wider : {n lo hi : ℕ} {rs : List Record} (m : ℕ) → n ≤ m → Ascending n lo hi rs → Ascending m lo hi rs
wider m h (none f) = none f
wider m h (more {r} p f a) =
    let b : r.by < m = omega arith in
    let t : r.to < m = omega arith in
    more (record { by_below = b; to_below = t; coded = p.coded }) f (wider m h a)

-- no record is forbidden if none stands where no grant may
none-forbidden :
    (h : Header) {lo hi : ℕ} {rs : List Record} → Ascending h.n lo hi rs →
    ((i j : ℕ) (q : Permission) → i < h.n → j < h.n → stands rs i j (code q) ≡ true → barred h i j ≡ false) →
    any_record (forbidden h) rs ≡ false
unfolding any_record forbidden stands
none-forbidden h (none f) free = refl
none-forbidden h (more {r} {rs} p f a) free =
    let stood = ap (stands (r ∷ rs) r.by r.to) (code-decoded r.perm p.coded) ∙ stands_first r rs in
    rw (free r.by r.to (decoded r.perm) p.by_below p.to_below stood)
    (none-forbidden h a (λ i j q hi hj e. free i j q hi hj (rw (e, or-true))))

-- no record stands where no grant may
sound_free :
    (h : Header) (R : List ℕ) → sound h R ≡ true → (i j : ℕ) (q : Permission) → i < h.n → j < h.n → has (cell h R i j) q ≡ true →
    barred h i j ≡ false
sound_free h R tested i j q hi hj e =
    fails (barred h i j) (λ b. let empty = ((sound-cells h R).0 tested i j hi hj).empty b in never (cc (no_record q)))

-- no check refuses the records of a sound register
pub accepted_sound :
    (h : Header) (R : List ℕ) (size : ℕ) → headed h ≡ true → whole h R ≡ true → sound h R ≡ true → h.n * h.n ≤ size →
    Accepted (record { header = h; records = all_records h R }) size
unfolding whole
accepted_sound h R size head full tested room =
    let small = headed_high h head in
    let narrow : h.n ≤ 65536 = omega arith in
    let ascending = all_ascending h R narrow in
    let same = filled_all h R narrow (eqb-true (length R) (h.n * h.n) full) (λ i j hi hj. ((sound-cells h R).0 tested i j hi hj).small) in
    record {
      headed_ok = head;
      room_ok = room;
      inside_ok = none-outside h ascending;
      allowed_ok = none-forbidden h ascending (λ i j q hi hj e. sound_free h R tested i j q hi hj (sym (stands_all h R i j q hi hj) ∙ e));
      sound_ok = rw same tested;
    }
