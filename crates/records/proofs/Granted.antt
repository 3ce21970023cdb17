-- Storing a record in a buffer with room for the register is granting it, and the bytes behind the register stay.
use Prim.Native.Nat.{ℕ, ◌+◌, ◌*◌, ◌-◌, ◌/◌, ◌%◌, ◌≤◌, ◌<◌}
use mathlib.Core.Path.{◌≡◌, refl, sym, ap, ◌∙◌}
use mathlib.Core.Logic.{⊎_elim}
use mathlib.Core.Bool.{Bool, true, false, ◌&&◌, cond}
use mathlib.Core.List.{List, ◌++◌}
use native.Mathlib.Omega.{arith}
use lib.Arith.{digits_lt, digits_div, digits_mod}
use lib.Dec.{eqb, ltb}
use lib.ListN.{length, get_or, set, take, replicate, length-append, length-set, length-replicate, get_or-replicate, get_or-append, replicate-append-replicate}
use lib.Seq.{set-append_left, get_or-set_same, get_or-set_other, ext_get_or, take_at}
use borrow.Author.Tests.{ltb-true, lt-ltb, eqb-true, eq-eqb}
use Rattle.rights.specs.declared.Header.{Header}
use Rattle.rights.specs.Permission.{code, decoded}
use Rattle.rights.specs.Cell.{union}
use Rattle.rights.specs.Register.{cell, register}
use Rattle.rights.specs.Restriction.{is_cell}
use Rattle.rights.specs.Deletion.{granted_cell, granted}
use Rattle.theory.proofs.Tests.{left_of, right_of, decided, fails, both}
use Rattle.theory.proofs.Below.{table_at}
use Rattle.theory.proofs.Register.{length-register, cell-register, same-cells}
use Rattle.wording.specs.Records.{Record}
use Rattle.wording.specs.RegisterReader.{nothing, added, filled}
use Rattle.wording.proofs.Truth.{never}
use Rattle.wording.proofs.Cell.{code-decoded}
use Rattle.wording.proofs.Order.{Ascending, none, more}
use Rattle.wording.proofs.Filled.{length-filled}
use Rattle.records.specs.Stored.{place_of, room_for, stored_one, stored_all}

module _ (h : Header) where
  -- the register with the record's cell stored
  abbrev stored_at : List ℕ → Record → List ℕ
  stored_at R r = set R (place_of h r) (union (get_or R (place_of h r) 0) r.perm)

  module _ (R : List ℕ) (long : length R ≡ h.n * h.n) (r : Record) (perm : code (decoded r.perm) ≡ r.perm) where
    -- what a grant makes of a cell
    cell-granted : (x y : ℕ) → x < h.n → y < h.n → cell h (granted h R r.by r.to (decoded r.perm)) x y ≡ cond (is_cell r.by r.to x y) (union (cell h R x y) r.perm) (cell h R x y)
    unfolding granted granted_cell
    cell-granted x y hx hy = cell-register h (granted_cell h R r.by r.to (decoded r.perm)) x y hx hy ∙ (rw perm refl)

    granted_long : length (granted h R r.by r.to (decoded r.perm)) ≡ h.n * h.n
    unfolding granted
    granted_long = length-register h (granted_cell h R r.by r.to (decoded r.perm))

    -- a record between offices
    stored-granted : r.by < h.n → r.to < h.n → stored_at R r ≡ granted h R r.by r.to (decoded r.perm)
    unfolding cell place_of is_cell
    stored-granted hi hj = same-cells h _ _ (length-set R _ _ ∙ long) granted_long (λ x y hx hy. each x y hx hy (is_cell r.by r.to x y) refl ∙ sym (cell-granted x y hx hy))
      where
        each : (x y : ℕ) → x < h.n → y < h.n → (t : Bool) → is_cell r.by r.to x y ≡ t →
            cell h (stored_at R r) x y ≡ cond (is_cell r.by r.to x y) (union (cell h R x y) r.perm) (cell h R x y)
        each x y hx hy true e =
            let ex = eqb-true x r.by (left_of (eqb x r.by) (eqb y r.to) e) in
            let ey = eqb-true y r.to (right_of (eqb x r.by) (eqb y r.to) e) in
            rw (e, ex, ey) (get_or-set_same R (r.by * h.n + r.to) _ 0 (rw long (digits_lt hi hj)))
        each x y hx hy false e = rw e (get_or-set_other R (r.by * h.n + r.to) (x * h.n + y) _ 0 other)
          where
            other : x * h.n + y ≡ r.by * h.n + r.to → ⊥
            other q =
                let ex : x ≡ r.by = sym (digits_div x hy) ∙ ap (λ (k : ℕ). k / h.n) q ∙ digits_div r.by hj in
                let ey : y ≡ r.to = sym (digits_mod x hy) ∙ ap (λ (k : ℕ). k % h.n) q ∙ digits_mod r.by hj in
                let z : true ≡ false = sym (both (eq-eqb x r.by ex) (eq-eqb y r.to ey)) ∙ e in
                never (cc)

    -- a record of no cell
    outside-granted : (r.by < h.n → r.to < h.n → ⊥) → R ≡ granted h R r.by r.to (decoded r.perm)
    unfolding is_cell
    outside-granted out = same-cells h _ _ long granted_long (λ x y hx hy. sym (cell-granted x y hx hy ∙ (rw (no_cell x y hx hy) refl)))
      where
        no_cell : (x y : ℕ) → x < h.n → y < h.n → is_cell r.by r.to x y ≡ false
        no_cell x y hx hy =
            fails (eqb x r.by && eqb y r.to)
            (λ e. out (rw (eqb-true x r.by (left_of (eqb x r.by) (eqb y r.to) e)) at hx) (rw (eqb-true y r.to (right_of (eqb x r.by) (eqb y r.to) e)) at hy))

    -- either, with bytes behind the register
    pub stored_one_lem : (Z : List ℕ) → stored_one h (R ++ Z) r ≡ granted h R r.by r.to (decoded r.perm) ++ Z
    unfolding stored_one room_for place_of
    stored_one_lem Z = ⊎_elim within without (decided (ltb r.by h.n && ltb r.to h.n))
      where
        within : ltb r.by h.n && ltb r.to h.n ≡ true → stored_one h (R ++ Z) r ≡ granted h R r.by r.to (decoded r.perm) ++ Z
        within e =
            let hi = ltb-true r.by h.n (left_of (ltb r.by h.n) (ltb r.to h.n) e) in
            let hj = ltb-true r.to h.n (right_of (ltb r.by h.n) (ltb r.to h.n) e) in
            let low : r.by * h.n + r.to < length R = rw long (digits_lt hi hj) in
            let room : r.by * h.n + r.to < length (R ++ Z) = rw length-append (omega arith) in
            rw (e, lt-ltb _ _ room, get_or-append R Z 0 (r.by * h.n + r.to) low, set-append_left R Z (r.by * h.n + r.to) _ low)
            (ap (λ (l : List ℕ). l ++ Z) (stored-granted hi hj))

        without : ltb r.by h.n && ltb r.to h.n ≡ false → stored_one h (R ++ Z) r ≡ granted h R r.by r.to (decoded r.perm) ++ Z
        without e =
            rw e
            (ap (λ (l : List ℕ). l ++ Z)
            (outside-granted (λ hi hj. let z : true ≡ false = sym (both (lt-ltb r.by h.n hi) (lt-ltb r.to h.n hj)) ∙ e in never (cc))))

  -- records of the text one after the other
  stored_all_lem : {m lo hi : ℕ} {rs : List Record} (R Z : List ℕ) → length R ≡ h.n * h.n → Ascending m lo hi rs → stored_all h (R ++ Z) rs ≡ added h R rs ++ Z
  unfolding stored_all added
  stored_all_lem R Z long (none e) = refl
  stored_all_lem R Z long (more {r = r} {rs = rs} p e a) =
      let perm = code-decoded r.perm p.coded in
      ap (λ (l : List ℕ). stored_all h l rs) (stored_one_lem R long r perm Z)
      ∙ stored_all_lem (granted h R r.by r.to (decoded r.perm)) Z (granted_long R long r perm) a

  empty_register : register h nothing ≡ replicate (h.n * h.n) 0
  unfolding register nothing
  empty_register =
      ext_get_or 0 (register h nothing) (replicate (h.n * h.n) 0) (length-register h nothing ∙ sym (length-replicate (h.n * h.n) 0))
      (λ k less. at_zero k (rw (length-register h nothing) at less))
    where
      at_zero : (k : ℕ) → k < h.n * h.n → get_or (register h nothing) k 0 ≡ get_or (replicate (h.n * h.n) 0) k 0
      at_zero k less = table_at (h.n * h.n) (λ k. nothing (k / h.n) (k % h.n)) k 0 less ∙ sym (get_or-replicate (h.n * h.n) k 0 0 less)

  -- in an empty buffer with room: the register of the records, and zero behind it
  pub stored-filled :
      {m lo hi : ℕ} {rs : List Record} (size : ℕ) → h.n * h.n ≤ size → Ascending m lo hi rs →
      stored_all h (replicate size 0) rs ≡ filled h rs ++ replicate (size - h.n * h.n) 0
  unfolding filled
  stored-filled {rs = rs} size room a =
      let parts : h.n * h.n + (size - h.n * h.n) ≡ size = omega arith in
      let whole : replicate {A = ℕ} size 0 ≡ replicate (h.n * h.n) 0 ++ replicate (size - h.n * h.n) 0 =
      sym (replicate-append-replicate (h.n * h.n) (size - h.n * h.n) 0 ∙ ap (λ (n : ℕ). replicate n 0) parts)
      in
      ap (λ (l : List ℕ). stored_all h l rs) whole
      ∙ stored_all_lem (replicate (h.n * h.n) 0) (replicate (size - h.n * h.n) 0) (length-replicate (h.n * h.n) 0) a
      ∙ ap (λ (l : List ℕ). added h l rs ++ replicate (size - h.n * h.n) 0) (sym empty_register)

  -- and the register is its first n·n bytes
  pub register_part :
      {m lo hi : ℕ} {rs : List Record} (size : ℕ) → h.n * h.n ≤ size → Ascending m lo hi rs →
      take (h.n * h.n) (stored_all h (replicate size 0) rs) ≡ filled h rs
  register_part {rs = rs} size room a =
      ap (take (h.n * h.n)) (stored-filled size room a) ∙ take_at (filled h rs) _ (h.n * h.n) (length-filled h rs)
