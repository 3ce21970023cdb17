-- Laws of permissions and of cells as sets of four. What is finite is one test that computes, and a law out of it. Assumes nothing.
use Prim.Native.Nat.{ℕ, zero, suc, ◌≤◌, ◌<◌, min}
use native.Mathlib.Omega.{arith}
use mathlib.Core.Path.{◌≡◌, refl, ap, sym, ◌∙◌}
use mathlib.Core.Logic.{◌⊎◌, inl, inr, ⊎_elim}
use mathlib.Core.Bool.{Bool, true, false, ◌&&◌, ◌||◌, not, cond, beq, and-true, and-false, and-not_self}
use lib.Dec.{eqb, leb, ltb, lit≤}
use borrow.Author.Tests.{eqb-true, leb-true, ltb-true, ltb-false, lt-ltb, le-leb, le-ltb}
use Rattle.rights.specs.Below.{all_below}
use Rattle.rights.specs.declared.Permission.{Permission}
use Rattle.rights.specs.declared.Permission.TheVariants.{TT, TF, FT, FF}
use Rattle.rights.specs.Permission.{code, any_permission, decoded, entitles, stronger, serves, need, passing}
use Rattle.rights.specs.Cell.{has, cell_of, carries, lowered, restrict}
use Rattle.theory.proofs.Tests.{both, left_of, right_of, or_left, or_right, either, clash, fails, beq_same}
use Rattle.theory.proofs.Below.{all_at, same_below}

-- a test that passes at p passes at some permission
pub any_permission_from : (f : Permission → Bool) (p : Permission) → f p ≡ true → any_permission f ≡ true
unfolding any_permission
any_permission_from f TT e = or_left (f FF) (or_left (f FT) (or_left (f TF) e))
any_permission_from f TF e = or_left (f FF) (or_left (f FT) (or_right (f TT) e))
any_permission_from f FT e = or_left (f FF) (or_right (f TT || f TF) e)
any_permission_from f FF e = or_right (f TT || f TF || f FT) e

-- the permission at which a test passes
pub record Passes (f : Permission → Bool) : Type 0 where
  pub at : Permission
  pub passes : f at ≡ true

pub any_permission-found : (f : Permission → Bool) → any_permission f ≡ true → Passes f
unfolding any_permission
any_permission-found f e =
    ⊎_elim
    (λ q. ⊎_elim
    (λ r. ⊎_elim (λ t. record { at = TT; passes = t }) (λ t. record { at = TF; passes = t }) (either (f TT) (f TF) r))
    (λ r. record { at = FT; passes = r })
    (either (f TT || f TF) (f FT) q))
    (λ q. record { at = FF; passes = q })
    (either (f TT || f TF || f FT) (f FF) e)

-- the test passes at each permission
unfoldable pub each_permission : (Permission → Bool) → Bool
each_permission f = f TT && f TF && f FT && f FF

pub each_permission_lem : (f : Permission → Bool) → each_permission f ≡ true → (p : Permission) → f p ≡ true
unfolding each_permission
each_permission_lem f e TT = left_of (f TT) (f TF) (left_of (f TT && f TF) (f FT) (left_of (f TT && f TF && f FT) (f FF) e))
each_permission_lem f e TF = right_of (f TT) (f TF) (left_of (f TT && f TF) (f FT) (left_of (f TT && f TF && f FT) (f FF) e))
each_permission_lem f e FT = right_of (f TT && f TF) (f FT) (left_of (f TT && f TF && f FT) (f FF) e)
each_permission_lem f e FF = right_of (f TT && f TF && f FT) (f FF) e

-- an equation between tests of a cell and a permission: computed at the cells below k, it holds of each
pub by-cells :
    (k : ℕ) (f g : ℕ → Permission → Bool) →
    all_below k (λ c. each_permission (λ p. beq (f c p) (g c p))) ≡ true →
    (c : ℕ) (p : Permission) → c < k → f c p ≡ g c p
by-cells k f g e c p h =
    beq_same (f c p) (g c p)
    (each_permission_lem (λ p. beq (f c p) (g c p)) (all_at k (λ c. each_permission (λ p. beq (f c p) (g c p))) e c h) p)

-- an equation between permissions
by_pairs :
    (f g : Permission → Permission → Bool) →
    each_permission (λ q. each_permission (λ p. beq (f q p) (g q p))) ≡ true →
    (q p : Permission) → f q p ≡ g q p
by_pairs f g e q p =
    beq_same (f q p) (g q p)
    (each_permission_lem (λ p. beq (f q p) (g q p)) (each_permission_lem (λ q. each_permission (λ p. beq (f q p) (g q p))) e q) p)

pub need_low : (p : Permission) → 1 ≤ need p
unfolding need
need_low TT = lit≤ tt
need_low TF = lit≤ tt
need_low FT = lit≤ tt
need_low FF = lit≤ tt

pub need_high : (p : Permission) → need p ≤ 2
unfolding need
need_high TT = lit≤ tt
need_high TF = lit≤ tt
need_high FT = lit≤ tt
need_high FF = lit≤ tt

enough_at_2 : (p : Permission) (v : ℕ) → leb (need p) (suc (suc v)) ≡ true
enough_at_2 p v = le-leb (need p) (suc (suc v)) (omega (arith, need_high p))

-- a restricted cell carries p exactly where the cell did and the level is enough for p
pub carries-restrict : (c v : ℕ) (p : Permission) → c ≤ 15 → carries (restrict c v) p ≡ carries c p && leb (need p) v
unfolding restrict carries any_permission serves stronger code has cell_of lowered need each_permission all_below
carries-restrict c zero p h = by-cells 16 (λ c p. carries (restrict c 0) p) (λ c p. carries c p && leb (need p) 0) refl c p (omega arith)
carries-restrict c (suc zero) p h = by-cells 16 (λ c p. carries (restrict c 1) p) (λ c p. carries c p && leb (need p) 1) refl c p (omega arith)
carries-restrict c (suc (suc v)) p h = sym (rw (enough_at_2 p v) (and-true (carries c p)))

-- a test of permissions by its four values
member : Bool → Bool → Bool → Bool → Permission → Bool
member a b c d TT = a
member a b c d TF = b
member a b c d FT = c
member a b c d FF = d

each_bool : (Bool → Bool) → Bool
each_bool f = f true && f false

each_bool_lem : (f : Bool → Bool) → each_bool f ≡ true → (a : Bool) → f a ≡ true
unfolding each_bool
each_bool_lem f e true = left_of (f true) (f false) e
each_bool_lem f e false = right_of (f true) (f false) e

is_member : Bool → Bool → Bool → Bool → Permission → Bool
is_member a b c d p = beq (has (cell_of (member a b c d)) p) (member a b c d p)

has_members : (a b c d : Bool) (p : Permission) → is_member a b c d p ≡ true
unfolding is_member has cell_of code member each_bool each_permission
has_members a b c d =
    each_permission_lem (is_member a b c d)
    (each_bool_lem (λ d. each_permission (is_member a b c d))
    (each_bool_lem (λ c. each_bool (λ d. each_permission (is_member a b c d)))
    (each_bool_lem (λ b. each_bool (λ c. each_bool (λ d. each_permission (is_member a b c d))))
    (each_bool_lem (λ a. each_bool (λ b. each_bool (λ c. each_bool (λ d. each_permission (is_member a b c d))))) refl a) b) c) d)

-- the members of the cell of a test are those that pass it
pub has-cell_of : (f : Permission → Bool) (p : Permission) → has (cell_of f) p ≡ f p
unfolding cell_of member is_member
has-cell_of f p =
    beq_same (has (cell_of f) p) (member (f TT) (f TF) (f FT) (f FF) p) (has_members (f TT) (f TF) (f FT) (f FF) p) ∙ picked p
  where
    picked : (p : Permission) → member (f TT) (f TF) (f FT) (f FF) p ≡ f p
    picked TT = refl
    picked TF = refl
    picked FT = refl
    picked FF = refl

pub cell_of_ext : (f g : Permission → Bool) → ((p : Permission) → f p ≡ g p) → cell_of f ≡ cell_of g
unfolding cell_of
cell_of_ext f g e = rw (e TT, e TF, e FT, e FF)

-- a cell is the cell of its members
pub cell_of-has : (c : ℕ) → c ≤ 15 → cell_of (has c) ≡ c
unfolding cell_of has code all_below
cell_of-has c h = same_below 16 (λ c. cell_of (has c)) (λ c. c) refl c (omega arith)

-- cells with the same members are equal
pub cell_ext : (a b : ℕ) → a ≤ 15 → b ≤ 15 → ((p : Permission) → has a p ≡ has b p) → a ≡ b
cell_ext a b ha hb e = sym (cell_of-has a ha) ∙ cell_of_ext (has a) (has b) e ∙ cell_of-has b hb

-- what stands only where a test passes is no more than itself
pub cond_le : (a : Bool) (k : ℕ) → cond a k 0 ≤ k
cond_le true k = omega arith
cond_le false k = omega arith

pub cell_of-small : (f : Permission → Bool) → cell_of f ≤ 15
unfolding cell_of
cell_of-small f = omega (arith, cond_le (f TT) 8, cond_le (f TF) 4, cond_le (f FT) 2, cond_le (f FF) 1)

pub restrict-small : (c v : ℕ) → c ≤ 15 → restrict c v ≤ 15
unfolding restrict
restrict-small c zero h = omega arith
restrict-small c (suc zero) h = cell_of-small (lowered c)
restrict-small c (suc (suc v)) h = h

-- a cell at level 1 is not lowered again
lowered_again : (c : ℕ) (p : Permission) → lowered (cell_of (lowered c)) p ≡ lowered c p
unfolding lowered
lowered_again c TT = refl
lowered_again c TF = rw (has-cell_of (lowered c) TT, has-cell_of (lowered c) TF)
lowered_again c FT = refl
lowered_again c FF = rw (has-cell_of (lowered c) FT, has-cell_of (lowered c) FF)

pub restrict_empty : (w : ℕ) → restrict 0 w ≡ 0
unfolding restrict lowered cell_of has code
restrict_empty zero = refl
restrict_empty (suc zero) = refl
restrict_empty (suc (suc w)) = refl

-- 'to v then w is to the smaller'
pub restrict-restrict : (c v w : ℕ) → restrict (restrict c v) w ≡ restrict c (min v w)
unfolding restrict
restrict-restrict c zero w = let e : min zero w ≡ zero = omega arith in restrict_empty w ∙ ap (restrict c) (sym e)
restrict-restrict c (suc zero) zero = refl
restrict-restrict c (suc zero) (suc zero) = cell_of_ext (lowered (cell_of (lowered c))) (lowered c) (lowered_again c)
restrict-restrict c (suc zero) (suc (suc w)) =
    let e : min (suc zero) (suc (suc w)) ≡ suc zero = omega arith in ap (restrict c) (sym e)
restrict-restrict c (suc (suc v)) zero = let e : min (suc (suc v)) zero ≡ zero = omega arith in ap (restrict c) (sym e)
restrict-restrict c (suc (suc v)) (suc zero) =
    let e : min (suc (suc v)) (suc zero) ≡ suc zero = omega arith in ap (restrict c) (sym e)
restrict-restrict c (suc (suc v)) (suc (suc w)) =
    let e : min (suc (suc v)) (suc (suc w)) ≡ suc (suc (min v w)) = omega arith in ap (restrict c) (sym e)

-- a record is gone from a restricted cell exactly where its need is above the level
pub gone_need : (c v : ℕ) (p : Permission) → c ≤ 15 → has c p && not (has (restrict c v) p) ≡ has c p && ltb v (need p)
unfolding restrict has cell_of lowered code need each_permission all_below
gone_need c zero p h = by-cells 16 (λ c p. has c p && not (has (restrict c 0) p)) (λ c p. has c p && ltb 0 (need p)) refl c p (omega arith)
gone_need c (suc zero) p h = by-cells 16 (λ c p. has c p && not (has (restrict c 1) p)) (λ c p. has c p && ltb 1 (need p)) refl c p (omega arith)
gone_need c (suc (suc v)) p h = rw (le-ltb (suc (suc v)) (need p) (omega (arith, need_high p))) (and-not_self (has c p) ∙ sym (and-false (has c p)))

-- the empty cell has no record
pub no_record : (p : Permission) → has 0 p ≡ false
unfolding has code
no_record TT = refl
no_record TF = refl
no_record FT = refl
no_record FF = refl

-- a cell that holds no record above the level stays as it is
pub restrict_fixed : (c v : ℕ) → c ≤ 15 → ((p : Permission) → has c p ≡ true → need p ≤ v) → restrict c v ≡ c
unfolding restrict lowered need
restrict_fixed c zero h enough =
    cell_ext 0 c (omega arith) h
    (λ p. no_record p ∙ sym (fails (has c p) (λ e. let n : need p ≤ 0 = enough p e in omega (arith, need_low p))))
restrict_fixed c (suc zero) h enough = cell_of_ext (lowered c) (has c) kept ∙ cell_of-has c h
  where
    above : (p : Permission) → 2 ≤ need p → has c p ≡ false
    above p l = fails (has c p) (λ e. let n : need p ≤ 1 = enough p e in omega arith)

    kept : (p : Permission) → lowered c p ≡ has c p
    kept TT = sym (above TT (lit≤ tt))
    kept TF = rw (above TT (lit≤ tt))
    kept FT = sym (above FT (lit≤ tt))
    kept FF = rw (above FT (lit≤ tt))
restrict_fixed c (suc (suc v)) h enough = refl

-- a cell that stays as it is holds no record above the level
pub fixed_need : (c v : ℕ) (p : Permission) → c ≤ 15 → restrict c v ≡ c → has c p ≡ true → need p ≤ v
fixed_need c v p h e q = ltb-false v (need p) (sym (rw (e, q) at (gone_need c v p h)))

-- what a cell carries: p, or something stronger
pub record Carried (c : ℕ) (p : Permission) : Type 0 where
  pub by : Permission
  pub stands : has c by ≡ true
  pub enough : serves by p ≡ true

pub carried : (c : ℕ) (p : Permission) → carries c p ≡ true → Carried c p
unfolding carries
carried c p e =
    let r = any_permission-found (λ q. has c q && serves q p) e in
    record {
      by = r.at;
      stands = left_of (has c r.at) (serves r.at p) r.passes;
      enough = right_of (has c r.at) (serves r.at p) r.passes;
    }

pub carries_from : (c : ℕ) (q p : Permission) → has c q ≡ true → serves q p ≡ true → carries c p ≡ true
unfolding carries
carries_from c q p e s = any_permission_from (λ q. has c q && serves q p) q (both e s)

-- a cell with more records carries more
pub carries-more : (a b : ℕ) (p : Permission) → ((q : Permission) → has a q ≡ true → has b q ≡ true) → carries a p ≡ true → carries b p ≡ true
carries-more a b p more e = let r = carried a p e in carries_from b r.by p (more r.by r.stands) r.enough

-- what serves where q is read serves wherever q serves
serves_trans : (r q p : Permission) → serves r q && serves q p ≡ serves r q && serves q p && serves r p
unfolding each_permission serves stronger code
serves_trans TT = by_pairs (λ q p. serves TT q && serves q p) (λ q p. serves TT q && serves q p && serves TT p) refl
serves_trans TF = by_pairs (λ q p. serves TF q && serves q p) (λ q p. serves TF q && serves q p && serves TF p) refl
serves_trans FT = by_pairs (λ q p. serves FT q && serves q p) (λ q p. serves FT q && serves q p && serves FT p) refl
serves_trans FF = by_pairs (λ q p. serves FF q && serves q p) (λ q p. serves FF q && serves q p && serves FF p) refl

-- a link that carries q carries what q serves for
pub carries-serves : (c : ℕ) (q p : Permission) → carries c q ≡ true → serves q p ≡ true → carries c p ≡ true
carries-serves c q p e s =
    let r = carried c q e in
    carries_from c r.by p r.stands
    (right_of (serves r.by q && serves q p) (serves r.by p) (sym (serves_trans r.by q p) ∙ both r.enough s))

-- what entitles q entitles whatever q entitles
pub entitles_trans : (r q p : Permission) → entitles r q ≡ true → entitles q p ≡ true → entitles r p ≡ true
unfolding entitles
entitles_trans TT q p e f = refl
entitles_trans TF TT p e f = clash e refl
entitles_trans TF TF p e f = f
entitles_trans TF FT p e f = clash e refl
entitles_trans TF FF p e f = clash f refl
entitles_trans FT q p e f = e
entitles_trans FF q p e f = e

-- what entitles q entitles whatever q serves for
pub entitles-serves : (r q p : Permission) → entitles r q ≡ true → serves q p ≡ true → entitles r p ≡ true
unfolding entitles serves stronger code
entitles-serves TT q p e f = refl
entitles-serves TF TT p e f = clash e refl
entitles-serves TF TF TT e f = f
entitles-serves TF TF TF e f = refl
entitles-serves TF TF FT e f = f
entitles-serves TF TF FF e f = refl
entitles-serves TF FT p e f = clash e refl
entitles-serves TF FF TT e f = f
entitles-serves TF FF TF e f = refl
entitles-serves TF FF FT e f = f
entitles-serves TF FF FF e f = refl
entitles-serves FT q p e f = e
entitles-serves FF q p e f = e

pub TT-serves : (p : Permission) → serves TT p ≡ true
unfolding serves stronger code
TT-serves TT = refl
TT-serves TF = refl
TT-serves FT = refl
TT-serves FF = refl

-- what entitles p serves where the reading that passes p on is read
pub entitled-serves : (q p : Permission) → entitles q p ≡ true → serves q (passing p) ≡ true
unfolding entitles passing serves stronger code
entitled-serves TT p e = TT-serves (passing p)
entitled-serves TF TT e = e
entitled-serves TF TF e = refl
entitled-serves TF FT e = e
entitled-serves TF FF e = refl
entitled-serves FT p e = clash e refl
entitled-serves FF p e = clash e refl

-- what passes p on passes itself on
pub passing_itself : (p : Permission) → entitles (passing p) (passing p) ≡ true
unfolding entitles passing
passing_itself TT = refl
passing_itself TF = refl
passing_itself FT = refl
passing_itself FF = refl

-- p is passed on by TT and needs level 2, or by TF and needs level 1
pub passing-cases : (p : Permission) → ((passing p ≡ TT) × (need p ≡ 2)) ⊎ ((passing p ≡ TF) × (need p ≡ 1))
unfolding need passing
passing-cases TT = inl (refl, refl)
passing-cases TF = inr (refl, refl)
passing-cases FT = inl (refl, refl)
passing-cases FF = inr (refl, refl)

pub passing_2 : (p : Permission) → need p ≡ 2 → passing p ≡ TT
passing_2 p e = ⊎_elim (λ c. c.0) (λ c. absurd (let z : 2 ≡ 1 = sym e ∙ c.1 in omega arith)) (passing-cases p)

pub passing_1 : (p : Permission) → need p ≡ 1 → passing p ≡ TF
passing_1 p e = ⊎_elim (λ c. absurd (let z : 1 ≡ 2 = sym e ∙ c.1 in omega arith)) (λ c. c.0) (passing-cases p)

-- the reading that passes p on is of p's need, entitles p, and is carried wherever a reading that entitles p is
pub passing-need : (p : Permission) → need (passing p) ≡ need p
unfolding need passing
passing-need TT = refl
passing-need TF = refl
passing-need FT = refl
passing-need FF = refl

pub passing-entitles : (p : Permission) → entitles (passing p) p ≡ true
unfolding passing entitles
passing-entitles TT = refl
passing-entitles TF = refl
passing-entitles FT = refl
passing-entitles FF = refl

-- a record that serves where p is read needs no less than p
pub serves_least : (r p : Permission) → serves r p ≡ true → need p ≤ need r
unfolding each_permission serves stronger code need
serves_least r p e =
    leb-true (need p) (need r)
    (right_of (serves r p) (leb (need p) (need r)) (sym (by_pairs (λ r p. serves r p) (λ r p. serves r p && leb (need p) (need r)) refl r p) ∙ e))

-- nor does one that serves where what passes p on is read need less, which is of p's need
pub serves-need : (r p : Permission) → serves r (passing p) ≡ true → need p ≤ need r
serves-need r p e = omega (arith, serves_least r (passing p) e, passing-need p)

-- what passes p on serves where p is read
pub passing-serves : (p : Permission) → serves (passing p) p ≡ true
unfolding passing serves stronger code
passing-serves TT = refl
passing-serves TF = refl
passing-serves FT = refl
passing-serves FF = refl

-- no record of a restricted cell is above the level
pub restricted-need : (c v : ℕ) (p : Permission) → c ≤ 15 → has (restrict c v) p ≡ true → need p ≤ v
restricted-need c v p h e =
    let again : min v v ≡ v = omega arith in
    fixed_need (restrict c v) v p (restrict-small c v h) (restrict-restrict c v v ∙ ap (restrict c) again) e

-- a cell with no record above a level has none above it after restricting
pub fixed_restrict : (c v w : ℕ) → restrict c w ≡ c → restrict (restrict c v) w ≡ restrict c v
fixed_restrict c v w e =
    let swap : min v w ≡ min w v = omega arith in
    restrict-restrict c v w ∙ ap (restrict c) swap ∙ sym (restrict-restrict c w v) ∙ ap (λ (d : ℕ). restrict d v) e

-- a record above the level is gone from the restricted cell
pub gone_above : (c v : ℕ) (p : Permission) → c ≤ 15 → has c p ≡ true → v < need p → has c p && not (has (restrict c v) p) ≡ true
gone_above c v p h e l = gone_need c v p h ∙ both e (lt-ltb v (need p) l)

-- and nothing else is
pub above_gone : (c v : ℕ) (p : Permission) → c ≤ 15 → has c p && not (has (restrict c v) p) ≡ true → v < need p
above_gone c v p h e = ltb-true v (need p) (right_of (has c p) (ltb v (need p)) (sym (gone_need c v p h) ∙ e))

-- a permission is the one that its code stands for
pub decoded-code : (p : Permission) → decoded (code p) ≡ p
unfolding decoded code
decoded-code TT = refl
decoded-code TF = refl
decoded-code FT = refl
decoded-code FF = refl

-- the cell of one record has that record alone
pub one_record : (p q : Permission) → has (code p) q ≡ true → q ≡ p
unfolding each_permission has code
one_record p q e =
    let same = eqb-true (code p) (code q) (sym (by_pairs (λ p q. has (code p) q) (λ p q. eqb (code p) (code q)) refl p q) ∙ e) in
    sym (decoded-code q) ∙ ap decoded (sym same) ∙ decoded-code p
