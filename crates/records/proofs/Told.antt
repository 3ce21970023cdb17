-- What the reader of records answers and leaves, from what its loop has found.
use Prim.Native.Nat.{ℕ, ◌-◌, ◌<◌}
use mathlib.Core.Path.{◌≡◌, refl, sym, ap, ◌∙◌}
use mathlib.Core.Bool.{true, false}
use Rattle.std.specs.Result.{is_err}
use mathlib.Core.List.{List, []}
use native.Mathlib.Omega.{arith}
use lib.ListN.{length, drop, replicate, drop_of_length-le}
use Rattle.rights.specs.declared.Header.{Header}
use Rattle.wording.specs.Lines.{offset}
use Rattle.wording.specs.Records.{records_from}
use Rattle.records.specs.Stored.{found_on, found_at, found_is, answer_of, cells_of, records_at, RecordsTold}
use Rattle.std.specs.declared.result.Result.{Result}
use Rattle.std.specs.declared.result.Result.TheVariants.{Ok, Err}
use Rattle.records.specs.declared.RecordsEnd.{RecordsEnd}

module _ (text : List ℕ) (start : ℕ) (h : Header) (size : ℕ) where
  -- past the text's end every line is missing
  pub told_past : {cells : List ℕ} → length text < start → cells ≡ replicate size 0 → RecordsTold (records_at text start h size) size (Err (length text)) cells
  unfolding records_at found_at found_on records_from answer_of cells_of offset
  told_past past zero =
      let nothing : drop start text ≡ [] = drop_of_length-le text {i = start} (omega arith) in
      let from_none : length text - 0 ≡ length text = omega arith in
      rw nothing record { answer = rw from_none refl; buffer = zero }

  module _ (r : Result RecordsEnd ℕ) (before cells : List ℕ) (zero : before ≡ replicate size 0) (all : found_is r cells ≡ found_at text start h before) where
    here : records_at text start h size ≡ found_is r cells
    unfolding records_at
    here = ap (found_at text start h) (sym zero) ∙ sym all

    pub told_end : false ≡ is_err r → RecordsTold (records_at text start h size) size r cells
    unfolding found_is answer_of cells_of
    told_end e = go r refl e
      where
        go : (x : Result RecordsEnd ℕ) → r ≡ x → false ≡ is_err x → RecordsTold (records_at text start h size) size r cells
        go (Ok end) q f = rw (here, q) record { answer = refl; buffer = refl }
        go (Err line) q f = absurd (cc)

    pub told_bad : {after : List ℕ} → true ≡ is_err r → after ≡ replicate (length cells) 0 → length cells ≡ size → RecordsTold (records_at text start h size) size r after
    unfolding found_is answer_of cells_of
    told_bad {after} e gone long = go r refl e
      where
        go : (x : Result RecordsEnd ℕ) → r ≡ x → true ≡ is_err x → RecordsTold (records_at text start h size) size r after
        go (Ok end) q f = absurd (cc)
        go (Err line) q f = rw (here, q) record { answer = refl; buffer = gone ∙ ap (λ n. replicate n 0) long }
