-- What the steps of the reader say where one refuses, and where none does.
use Rattle.std.proofs.Common.{ℕ, List, ◌≡◌, refl, sym, ap, ◌∙◌}
use Rattle.std.specs.declared.result.Result.{Result}
use Rattle.std.specs.declared.result.Result.TheVariants.{Ok, Err}
use Rattle.std.specs.Result.{MatchResult}
use Rattle.rights.specs.declared.Header.{Header}
use Rattle.rights.specs.Refusal.{number}
use Rattle.wording.specs.RegisterReader.{no_header}
use Rattle.records.specs.declared.RecordsEnd.{RecordsEnd}
use Rattle.records.specs.Stored.{Found, RecordsTold}
use Rattle.register_reader.specs.Told.{register_not}
use Rattle.rights.specs.declared.Refusal.{Refusal}
use Rattle.rights.specs.declared.Refusal.TheVariants.{BadText}
use Rattle.register_reader.specs.declared.Refused.{Refused}

-- what was told of the records is told of the answer that was taken apart
pub all_told : {f : Found} {size : ℕ} {r s : Result RecordsEnd ℕ} {cells : List ℕ} → RecordsTold f size r cells → r ≡ s → RecordsTold f size s cells
all_told told e = record { answer = sym e ∙ told.answer; buffer = told.buffer }

-- a step whose error is only told in another way was done
pub was_done : {A E : Type 0} (D : Type 0) (r : Result A E) (a : A) → MatchResult r (λ x. ◌≡◌ {A = Result A D} (Ok a) (Ok x)) (λ e. ⊥) → r ≡ Ok a
was_done D (Ok x) a h = let e : x ≡ a = cc in ap Ok e
was_done D (Err e) a h = absurd h

-- or a line was bad
pub was_bad_line :
    {A : Type 0} (r : Result A ℕ) (why : Refused) →
    MatchResult r (λ x. ◌≡◌ {A = Result A Refused} (Err why) (Ok x)) (λ e. (why.refusal ≡ BadText) × (why.at ≡ e)) →
    (r ≡ Err why.at) × (why ≡ record { refusal = BadText; at = why.at })
was_bad_line (Ok x) why h = absurd (cc)
was_bad_line (Err e) why h = (ap Err (sym h.1), ap (λ r. record { refusal = r; at = why.at }) h.0)

zeros : (h : Header) → (h.n ≡ 0) × ((h.soa.0 ≡ 0) × (h.layer.0 ≡ 0)) → h ≡ no_header
unfolding no_header
zeros h z = let e : record { n = h.n; soa = record { 0 = h.soa.0 }; layer = record { 0 = h.layer.0 } } ≡ no_header = rw (z.0, z.1.0, z.1.1) refl in e

-- the answer of a refused register
pub refused_answer :
    {h : Header} {k at end : ℕ} (r : Refusal) → k ≡ number r → (h.n ≡ 0) × ((h.soa.0 ≡ 0) × (h.layer.0 ≡ 0)) →
    record { answer = k; at = at; header = h; next = end } ≡ register_not (number r) at end
unfolding register_not
refused_answer {h} r e z = rw (e, zeros h z) refl
