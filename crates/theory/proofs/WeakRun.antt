-- Demand 3: where a run of WGDs ends depends only on the set of pairs that it names. Assumes nothing.
use Prim.Native.Nat.{ℕ, ◌*◌, ◌<◌, min}
use native.Mathlib.Omega.{arith}
use mathlib.Core.Path.{◌≡◌, refl, ap, ap₂, sym, ◌∙◌}
use mathlib.Core.Logic.{◌↔◌}
use mathlib.Core.Bool.{Bool, true, false, ◌||◌, not, cond}
use mathlib.Core.List.{List, [], ◌∷◌, Permᴰ}
use lib.ListN.{length}
use lib.Dec.{eqb}
use borrow.Author.Tests.{eqb-true, eq-eqb, lt-ltb}
use Rattle.rights.specs.declared.Header.{Header}
use Rattle.rights.specs.declared.Command.{Command}
use Rattle.rights.specs.declared.Permission.{Permission}
use Rattle.rights.specs.Cell.{restrict}
use Rattle.rights.specs.Register.{cell}
use Rattle.rights.specs.Chain.{Holds, HoldsUnused}
use Rattle.rights.specs.Level.{holds}
use Rattle.rights.specs.Sound.{barred, first_of, unless}
use Rattle.rights.specs.Restriction.{restricted, empty_where, is_cell, sweep, emptied}
use Rattle.rights.specs.Deletion.{wgd}
use Rattle.rights.specs.Command.{by_of, to_of, is_grant, well_formed, form_refusal, deletion_refusal, refusal, carried_out, outcome}
use Rattle.rights.specs.Run.{ran, WeakGlobal, WeakGlobals, none, more, names_pair}
use Rattle.theory.proofs.Tests.{left_of, right_of, clash}
use Rattle.theory.proofs.Register.{same-cells}
use Rattle.theory.proofs.Restriction.{restricted-cell, restricted-small, restricted_ext, restricted_twice, length-restricted}
use Rattle.theory.proofs.Chain.{holds-chain, holds-unused}
use Rattle.theory.proofs.Sweep.{absorb, holds-sweep}
use Rattle.theory.proofs.Ready.{Ready, headed_inside, whole_length, ready_register}
use Rattle.theory.proofs.Standing.{sound_clean, sweep_sound}
use Rattle.theory.proofs.Outcome.{outcome-refused, outcome-done, outcome_ready}

restrict_where : (c : ℕ) (t : Bool) → (t ≡ true → c ≡ 0) → restrict c (cond t 0 2) ≡ c
unfolding restrict
restrict_where c true e = sym (e refl)
restrict_where c false e = refl

-- where the cells that pass the test are empty, to empty them changes nothing
pub restricted_where :
    (h : Header) (R : List ℕ) (test : ℕ → ℕ → Bool) →
    length R ≡ h.n * h.n →
    ((x y : ℕ) → x < h.n → y < h.n → test x y ≡ true → cell h R x y ≡ 0) →
    restricted h R (empty_where test) ≡ R
unfolding empty_where
restricted_where h R test l e =
    same-cells h (restricted h R (empty_where test)) R (length-restricted h R (empty_where test)) l
    (λ x y hx hy. restricted-cell h R (empty_where test) x y hx hy ∙ restrict_where (cell h R x y) (test x y) (e x y hx hy))

is_cell_lem : (h : Header) (R : List ℕ) (i j x y : ℕ) → is_cell i j x y ≡ true → cell h R i j ≡ 0 → cell h R x y ≡ 0
unfolding is_cell
is_cell_lem h R i j x y t e =
    let ex = eqb-true x i (left_of (eqb x i) (eqb y j) t) in
    let ey = eqb-true y j (right_of (eqb x i) (eqb y j) t) in
    rw (ex, ey) e

-- to empty a cell that is empty, and sweep, changes nothing
pub wgd_empty : (h : Header) (R : List ℕ) → Ready h R → (i j : ℕ) → cell h R i j ≡ 0 → wgd h R i j ≡ R
unfolding wgd emptied
wgd_empty h R ready i j e =
    ap (sweep h) (restricted_where h R (is_cell i j) (whole_length h R ready.whole) (λ x y hx hy t. is_cell_lem h R i j x y t e))
    ∙ sweep_sound h R (whole_length h R ready.whole) ready.sound

-- a WGD as demand 3 has it is refused with 7 or 10, or not at all
weak_refusal :
    (h : Header) (R : List ℕ) → Ready h R → (c : Command) → WeakGlobal h c →
    refusal h R c ≡ first_of (unless (not (barred h (by_of c) (to_of c))) 7) (unless (not (eqb (cell h R (by_of c) (to_of c)) 0)) 10)
unfolding refusal first_of unless form_refusal deletion_refusal well_formed is_grant
weak_refusal h R ready c weak =
    rw (
      ready_register h R ready,
      weak.act,
      weak.perm,
      eq-eqb c.layer.0 h.layer.0 weak.layer,
      lt-ltb (by_of c) h.n weak.by,
      lt-ltb (to_of c) h.n weak.to,
    )

-- whatever a WGD as demand 3 has it answers, it leaves the register as emptying its cell and sweeping would
pub weak_step : (h : Header) (R : List ℕ) → Ready h R → (c : Command) → WeakGlobal h c → (outcome h R c).cells ≡ wgd h R (by_of c) (to_of c)
unfolding first_of unless carried_out is_grant
weak_step h R ready c weak = go (barred h (by_of c) (to_of c)) refl (eqb (cell h R (by_of c) (to_of c)) 0) refl
  where
    unmoved : cell h R (by_of c) (to_of c) ≡ 0 → eqb (refusal h R c) 0 ≡ false → (outcome h R c).cells ≡ wgd h R (by_of c) (to_of c)
    unmoved e r = outcome-refused h R c r ∙ sym (wgd_empty h R ready (by_of c) (to_of c) e)

    go :
        (b : Bool) → barred h (by_of c) (to_of c) ≡ b → (e : Bool) → eqb (cell h R (by_of c) (to_of c)) 0 ≡ e →
        (outcome h R c).cells ≡ wgd h R (by_of c) (to_of c)
    go true eb e ee =
        unmoved ((sound_clean h R ready.sound).unbarred (by_of c) (to_of c) weak.by weak.to eb)
        (rw (weak_refusal h R ready c weak, eb) refl)
    go false eb true ee =
        unmoved (eqb-true (cell h R (by_of c) (to_of c)) 0 ee) (rw (weak_refusal h R ready c weak, eb, ee) refl)
    go false eb false ee = outcome-done h R c (rw (weak_refusal h R ready c weak, eb, ee) refl) ∙ rw weak.act

-- the cells that either test empties
empty_either : (s t : Bool) → min (cond s 0 2) (cond t 0 2) ≡ cond (s || t) 0 2
empty_either true t = omega arith
empty_either false true = omega arith
empty_either false false = omega arith

-- Demand 3: the register at the end is the one at the start with every named cell emptied, swept once
pub weak_run :
    (h : Header) (R : List ℕ) → Ready h R → (commands : List Command) → WeakGlobals h commands →
    ran h R commands ≡ sweep h (restricted h R (empty_where (names_pair commands)))
unfolding ran names_pair wgd emptied empty_where
weak_run h R ready commands none =
    sym
    (ap (sweep h) (restricted_where h R (names_pair []) (whole_length h R ready.whole) (λ x y hx hy t. clash t refl))
    ∙ sweep_sound h R (whole_length h R ready.whole) ready.sound)
weak_run h R ready all (more c {commands} weak weaks) =
    let inside = headed_inside h ready.headed in
    let small = (sound_clean h R ready.sound).small in
    let first = is_cell (by_of c) (to_of c) in
    rw (weak_step h R ready c weak)
    (weak_run h (wgd h R (by_of c) (to_of c)) (rw (← weak_step h R ready c weak) (outcome_ready h R ready c)) commands weaks
    ∙ absorb h inside (restricted h R (empty_where first)) (restricted-small h R (empty_where first) small) (empty_where (names_pair commands))
    ∙ ap (sweep h)
    (restricted_twice h R (empty_where first) (empty_where (names_pair commands))
    ∙ restricted_ext h R (λ x y. min (empty_where first x y) (empty_where (names_pair commands) x y)) (empty_where (names_pair (c ∷ commands)))
    (λ x y hx hy. empty_either (first x y) (names_pair commands x y))))

-- so two runs that name the same pairs, in any order, with repeats or without, end in the same register
pub weak_runs_agree :
    (h : Header) (R : List ℕ) → Ready h R →
    (some others : List Command) → WeakGlobals h some → WeakGlobals h others →
    ((x y : ℕ) → x < h.n → y < h.n → names_pair some x y ≡ names_pair others x y) →
    ran h R some ≡ ran h R others
unfolding empty_where
weak_runs_agree h R ready some others ws wo e =
    weak_run h R ready some ws
    ∙ ap (sweep h)
    (restricted_ext h R (empty_where (names_pair some)) (empty_where (names_pair others))
    (λ x y hx hy. ap (λ (t : Bool). cond t 0 2) (e x y hx hy)))
    ∙ sym (weak_run h R ready others wo)

-- a reordered list names the same pairs
or_swap : (a b c : Bool) → a || (b || c) ≡ b || (a || c)
or_swap true true c = refl
or_swap true false c = refl
or_swap false b c = refl

names_reordered :
    {some others : List Command} → Permᴰ some others → (x y : ℕ) → names_pair some x y ≡ names_pair others x y
unfolding names_pair
names_reordered Permᴰ.nil x y = refl
names_reordered (Permᴰ.cons e d) x y = ap₂ ◌||◌ (ap (λ (c : Command). is_cell (by_of c) (to_of c) x y) e) (names_reordered d x y)
names_reordered (Permᴰ.swap {a} {b} {a'} {b'} {l} e f) x y =
    rw (e, f) (or_swap (is_cell (by_of b') (to_of b') x y) (is_cell (by_of a') (to_of a') x y) (names_pair l x y))
names_reordered (Permᴰ.trans d e) x y = names_reordered d x y ∙ names_reordered e x y

-- in particular a run may be reordered
pub weak_runs_reordered :
    (h : Header) (R : List ℕ) → Ready h R →
    (some others : List Command) → WeakGlobals h some → WeakGlobals h others → Permᴰ some others →
    ran h R some ≡ ran h R others
weak_runs_reordered h R ready some others ws wo e = weak_runs_agree h R ready some others ws wo (λ x y hx hy. names_reordered e x y)

-- Demand 3, what it leaves: an office holds p exactly where the register at the start has a rooted chain for p that uses no grant of
-- a named pair
pub weak_run_holds :
    (h : Header) (R : List ℕ) → Ready h R → (commands : List Command) → WeakGlobals h commands →
    (p : Permission) (y : ℕ) → y < h.n → Holds h (ran h R commands) p y ↔ HoldsUnused h R (names_pair commands) p y
weak_run_holds h R ready commands weak p y hy =
    let inside = headed_inside h ready.headed in
    let small = (sound_clean h R ready.sound).small in
    let M = restricted h R (empty_where (names_pair commands)) in
    let at-end = holds-chain h (ran h R commands) inside p y hy in
    let at-start = holds-chain h M inside p y hy in
    let unused = holds-unused h R inside small (names_pair commands) p y in
    let same : holds h (ran h R commands) p y ≡ holds h M p y =
    ap (λ (S : List ℕ). holds h S p y) (weak_run h R ready commands weak) ∙ holds-sweep h inside M (restricted-small h R (empty_where (names_pair commands)) small) p y hy
    in
    ((λ e. unused.0 (at-start.0 (sym same ∙ at-end.1 e))), (λ u. at-end.0 (same ∙ at-start.1 (unused.1 u))))
