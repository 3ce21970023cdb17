-- Texts written one behind the other on a page.
use Prim.Native.Nat.{ℕ, suc, ◌+◌, ◌≤◌, ◌<◌}
use native.Mathlib.Nat.{add-zero}
use native.Mathlib.Omega.{arith}
use mathlib.Core.Path.{◌≡◌, refl, ap, sym, ◌∙◌}
use mathlib.Core.List.{List, [], ◌∷◌, ◌++◌, append-nil, append_assoc}
use lib.ListN.{length, take, get_or, length-append}
use lib.Seq.{sets, sets-eq, length-sets, take_all, drop-drop}
use borrow.Rule.Slice.PartMut.{put_mid}
use Rattle.std.specs.List.{flat_map}
use Rattle.std.proofs.lemmas.List.{take_more}
use Rattle.std.proofs.lemmas.List.Concat.{flat_map-append}
use Rattle.std.proofs.lemmas.List.Folds.{length-flat_map-take}
use Rattle.printing.specs.declared.Page.{Page}
use Rattle.printing.specs.Page.{Fits, Adds}

-- two writes in a row are one of the joined text
sets_append : {A : Type 0} (l : List A) (i : ℕ) (xs ys : List A) → sets l i (xs ++ ys) ≡ sets (sets l i xs) (i + length xs) ys
sets_append l i [] ys = rw add-zero
sets_append l i (x ∷ xs) ys = let next : suc i + length xs ≡ i + suc (length xs) = omega arith in sets_append _ (suc i) xs ys ∙ rw next

-- no byte written yet
pub adds_none : {page : Page} → Adds [] page page
adds_none = record { same = refl; ends = omega arith; holds = refl }

pub adds_both :
    {before between after : Page} {xs ys : List ℕ} → Adds xs before between → Adds ys between after → Adds (xs ++ ys) before after
adds_both {before} {between} {after} {xs} {ys} p q =
    record {
      same = q.same ∙ p.same;
      ends = rw length-append (omega (arith, p.ends, q.ends));
      holds = q.holds ∙ rw (p.holds, p.ends) (sym (sets_append before.room.now before.at xs ys));
    }

-- the room keeps its length
pub adds_length : {text : List ℕ} {before after : Page} → Adds text before after → length after.room.now ≡ length before.room.now
adds_length {text} {before} {after} p = ap length p.holds ∙ length-sets before.room.now before.at text

-- room for two texts is room for the first
pub fits_first : {xs : List ℕ} {page : Page} (ys : List ℕ) → Fits (xs ++ ys) page → Fits xs page
fits_first {xs} ys fits = record { enough = omega (arith, fits.enough, length-append xs ys) }

-- and for the second behind it
pub fits_second : {xs : List ℕ} {before between : Page} (ys : List ℕ) → Adds xs before between → Fits (xs ++ ys) before → Fits ys between
fits_second {xs} ys p fits = record { enough = omega (arith, fits.enough, length-append xs ys, p.ends, adds_length p) }

-- a part of a room with the text in its place
pub part_put : (at k : ℕ) (text room : List ℕ) → at + length text ≤ length room → k ≡ length text → put_mid at k room text ≡ sets room at text
part_put at k text room fits e = rw e (simp (drop-drop, sets-eq text room at fits, append_assoc))

-- things that are written one behind the other: one more, room for it, and all of them
module _ {X : Type 0} (text : X → List ℕ) (xs : List X) (i : ℕ) {before between : Page} (so_far : Adds (flat_map text (take i xs)) before between) where
  pub adds_more : {after : Page} (d : X) → i < length xs → Adds (text (get_or xs i d)) between after → Adds (flat_map text (take (i + 1) xs)) before after
  adds_more d below p = rw (take_more xs i d below, flat_map-append, append-nil) (adds_both so_far p)

  pub fits_more : (d : X) → i < length xs → Fits (flat_map text xs) before → Fits (text (get_or xs i d)) between
  fits_more d below fits =
      record { enough = omega (arith, fits.enough, so_far.ends, adds_length so_far, length-flat_map-take text xs i d below) }

  pub adds_all : length xs ≤ i → Adds (flat_map text xs) before between
  adds_all passed = rw (take_all i xs passed) at so_far
