-- Lists of records in the order of the text: joined end to end, and fixed by what stands in them.
use Prim.Native.Nat.{ℕ, suc, ◌+◌, ◌*◌, ◌-◌, ◌≤◌, ◌<◌}
use mathlib.Core.Path.{◌≡◌, refl, sym, ap, ◌∙◌}
use mathlib.Core.Bool.{Bool, true, false, ◌&&◌, ◌||◌, or_assoc}
use mathlib.Core.List.{List, [], ◌∷◌, ◌++◌}
use native.Mathlib.Omega.{arith}
use native.Mathlib.Nat.{le_trans}
use lib.Dec.{eqb}
use borrow.Author.Tests.{eqb-true, eq-eqb}
use Rattle.rights.specs.declared.Permission.{Permission}
use Rattle.rights.specs.Permission.{code, is_code, decoded}
use Rattle.wording.specs.Records.{Record}
use Rattle.theory.proofs.Tests.{left_of, right_of}
use Rattle.wording.proofs.Truth.{never}
use Rattle.wording.proofs.Cell.{code-decoded}

-- records in the order of the text have ascending ranks, as long as offices are below 65536
abbrev pub rank : ℕ → ℕ → ℕ → ℕ
rank i j p = (i * 65536 + j) * 16 + (16 - p)

abbrev pub rank_of : Record → ℕ
rank_of r = rank r.by r.to r.perm

-- a record between offices below n, with a permission
pub record Proper (n : ℕ) (r : Record) : Type 0 where
  pub by_below : r.by < n
  pub to_below : r.to < n
  pub coded : is_code r.perm ≡ true

-- proper records with ascending ranks, the first at least lo, and all below hi
pub data Ascending (n : ℕ) : ℕ → ℕ → List Record → Type 0 where
  none : {lo hi : ℕ} → lo ≤ hi → Ascending n lo hi []
  more : {lo hi : ℕ} {r : Record} {rs : List Record} → Proper n r → lo ≤ rank_of r → Ascending n (suc (rank_of r)) hi rs → Ascending n lo hi (r ∷ rs)

pub ascending_from : {n lo hi : ℕ} {rs : List Record} (low : ℕ) → low ≤ lo → Ascending n lo hi rs → Ascending n low hi rs
ascending_from low h (none e) = none (le_trans h e)
ascending_from low h (more p e a) = more p (le_trans h e) a

pub ascending_append :
    {n lo mid hi : ℕ} {rs ss : List Record} → Ascending n lo mid rs → Ascending n mid hi ss → Ascending n lo hi (rs ++ ss)
ascending_append {lo} (none e) b = ascending_from lo e b
ascending_append (more p e a) b = more p e (ascending_append a b)

-- the record i, j, p is r
abbrev pub is_record : Record → ℕ → ℕ → ℕ → Bool
is_record r i j p = eqb i r.by && (eqb j r.to && eqb p r.perm)

-- the record i, j, p is in the list
unfoldable pub stands : List Record → ℕ → ℕ → ℕ → Bool
stands [] i j p = false
stands (r ∷ rs) i j p = is_record r i j p || stands rs i j p

pub stands_append : (rs ss : List Record) (i j p : ℕ) → stands (rs ++ ss) i j p ≡ (stands rs i j p || stands ss i j p)
unfolding stands
stands_append [] ss i j p = refl
stands_append (r ∷ rs) ss i j p = rw (stands_append rs ss i j p) (sym (or_assoc (is_record r i j p) (stands rs i j p) (stands ss i j p)))

is_itself : (r : Record) → is_record r r.by r.to r.perm ≡ true
is_itself r = rw (eq-eqb r.by r.by refl, eq-eqb r.to r.to refl, eq-eqb r.perm r.perm refl)

is_same : (r s : Record) → is_record r s.by s.to s.perm ≡ true → s ≡ r
is_same r s e =
    let b = eqb-true s.by r.by (left_of _ _ e) in
    let t = eqb-true s.to r.to (left_of _ _ (right_of (eqb s.by r.by) _ e)) in
    let p = eqb-true s.perm r.perm (right_of (eqb s.to r.to) _ (right_of (eqb s.by r.by) _ e)) in
    λ i. record { by = b i; to = t i; perm = p i }

-- what stands in a list has a rank that the list begins at or below
stands_rank : {n lo hi : ℕ} {rs : List Record} (s : Record) → Ascending n lo hi rs → stands rs s.by s.to s.perm ≡ true → lo ≤ rank_of s
unfolding stands
stands_rank s (none e) q = never (cc)
stands_rank {lo} s (more {r} {rs} p e a) q = go (stands_rank s a) (is_record r s.by s.to s.perm) refl q
  where
    go : (stands rs s.by s.to s.perm ≡ true → suc (rank_of r) ≤ rank_of s) → (t : Bool) → is_record r s.by s.to s.perm ≡ t →
        (t || stands rs s.by s.to s.perm) ≡ true → lo ≤ rank_of s
    go ih true w f = rw (is_same r s w) e
    go ih false w f = let above = ih f in omega arith

-- no record stands in a list whose ranks are all above its own
not_above : {n hi : ℕ} {rs : List Record} (r : Record) (i j p : ℕ) → Ascending n (suc (rank_of r)) hi rs → is_record r i j p ≡ true → stands rs i j p ≡ false
not_above {rs} r i j p a w = go (stands rs i j p) refl
  where
    go : (t : Bool) → stands rs i j p ≡ t → t ≡ false
    go true e =
        let above = stands_rank (record { by = i; to = j; perm = p }) a e in
        let same = ap rank_of (is_same r (record { by = i; to = j; perm = p }) w) in
        let z : ⊥ = omega arith in absurd z
    go false e = refl

-- lists that have a first record in common and the same records in all, have the same records behind it
same_behind :
    {n hi hi' : ℕ} {rs ss : List Record} (r : Record) (i j p : ℕ) → Ascending n (suc (rank_of r)) hi rs → Ascending n (suc (rank_of r)) hi' ss →
    (is_record r i j p || stands rs i j p) ≡ (is_record r i j p || stands ss i j p) → stands rs i j p ≡ stands ss i j p
same_behind {rs} {ss} r i j p a b e = go (is_record r i j p) refl e
  where
    go : (t : Bool) → is_record r i j p ≡ t → (t || stands rs i j p) ≡ (t || stands ss i j p) → stands rs i j p ≡ stands ss i j p
    go true w f = not_above r i j p a w ∙ sym (not_above r i j p b w)
    go false w f = f

-- the first records of two lists, each of which stands in the other list, are the same
same_first :
    {n hi hi' : ℕ} {rs ss : List Record} (r s : Record) → Ascending n (suc (rank_of r)) hi rs → Ascending n (suc (rank_of s)) hi' ss →
    stands (s ∷ ss) r.by r.to r.perm ≡ true → stands (r ∷ rs) s.by s.to s.perm ≡ true → r ≡ s
unfolding stands
same_first {rs} {ss} r s a b e f = go (is_record s r.by r.to r.perm) refl e (is_record r s.by s.to s.perm) refl f
  where
    go : (t : Bool) → is_record s r.by r.to r.perm ≡ t → (t || stands ss r.by r.to r.perm) ≡ true →
        (u : Bool) → is_record r s.by s.to s.perm ≡ u → (u || stands rs s.by s.to s.perm) ≡ true → r ≡ s
    go true w e u v f = is_same s r w
    go false w e true v f = sym (is_same r s v)
    go false w e false v f =
        let above = stands_rank r b e in
        let below = stands_rank s a f in
        let z : ⊥ = omega arith in absurd z

pub stands_first : (r : Record) (rs : List Record) → stands (r ∷ rs) r.by r.to r.perm ≡ true
unfolding stands
stands_first r rs = rw (is_itself r)

stands_none : (i j p : ℕ) → stands [] i j p ≡ false
unfolding stands
stands_none i j p = refl

-- the two lists have the same records
abbrev pub Same : ℕ → List Record → List Record → Type 0
Same n rs ss = (i j : ℕ) (q : Permission) → i < n → j < n → stands rs i j (code q) ≡ stands ss i j (code q)

at_proper : {n : ℕ} (r : Record) (rs ss : List Record) → Proper n r → Same n rs ss → stands rs r.by r.to r.perm ≡ stands ss r.by r.to r.perm
at_proper r rs ss p same =
    rw (code-decoded r.perm p.coded) at (same r.by r.to (decoded r.perm) p.by_below p.to_below)

-- an ascending list of records is fixed by what stands in it
pub same_list : {n lo hi hi' : ℕ} {rs ss : List Record} → Ascending n lo hi rs → Ascending n lo hi' ss → Same n rs ss → rs ≡ ss
unfolding stands
same_list (none e) (none f) same = refl
same_list (none e) (more {r} {rs} p f a) same = never (cc (at_proper r [] (r ∷ rs) p same, stands_first r rs, stands_none r.by r.to r.perm))
same_list (more {r} {rs} p e a) (none f) same = never (cc (at_proper r (r ∷ rs) [] p same, stands_first r rs, stands_none r.by r.to r.perm))
same_list {n} {hi'} (more {r} {rs} p e a) (more {r = s} {rs = ss} q f b) same =
    let first : r ≡ s =
    same_first r s a b (sym (at_proper r (r ∷ rs) (s ∷ ss) p same) ∙ stands_first r rs) (at_proper s (r ∷ rs) (s ∷ ss) q same ∙ stands_first s ss)
    in
    let b' : Ascending n (suc (rank_of r)) hi' ss = rw first b in
    let rest = same_list a b' (λ i j q hi hj. same_behind r i j (code q) a b' (rw (← first) at (same i j q hi hj))) in
    cc
