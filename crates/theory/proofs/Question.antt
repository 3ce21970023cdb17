-- Demand 2 of a holding question: on a sound register a well-formed question is told 'holds' exactly where a rooted chain carries the
-- right, and is shown the chain that 01 picks; else it is refused. Assumes nothing.
use Prim.Native.Nat.{ℕ, ◌≤◌, ◌<◌}
use native.Mathlib.Omega.{arith}
use mathlib.Core.Path.{◌≡◌, refl, ap}
use mathlib.Core.Bool.{Bool, true, false}
use mathlib.Core.List.{List}
use mathlib.Core.Logic.{◌↔◌}
use lib.ListN.{length}
use borrow.Author.Tests.{lt-ltb, le-leb}
use Rattle.rights.specs.declared.Header.{Header}
use Rattle.rights.specs.Permission.{is_code, decoded}
use Rattle.rights.specs.Chain.{Holds}
use Rattle.rights.specs.Level.{holds}
use Rattle.rights.specs.Sound.{first_of, unless}
use Rattle.rights.specs.Question.{picked_chain, question_form_refusal, question_refusal, Answer, shown, not_shown, answered}
use Rattle.theory.proofs.Tests.{clash}
use Rattle.theory.proofs.Ready.{Ready, headed_inside, ready_register}
use Rattle.theory.proofs.Chain.{holds-chain}

module _
    (h : Header) (R : List ℕ) (ready : Ready h R) (j perm : ℕ) (code : is_code perm ≡ true) (below : j < h.n)
    (buffer : List ℕ) (room : h.n ≤ length buffer)
  where
    -- 'a question is well-formed if none of these but 12 applies'
    only_12 : question_refusal h R j perm (length buffer) ≡ unless (holds h R (decoded perm) j) 12
    unfolding question_refusal question_form_refusal first_of unless
    only_12 = rw (ready_register h R ready, code, lt-ltb j h.n below, le-leb h.n (length buffer) room)

    test : (holds h R (decoded perm) j ≡ true) ↔ Holds h R (decoded perm) j
    test = holds-chain h R (headed_inside h ready.headed) (decoded perm) j below

    -- 'it writes the chain with fewest links, among those the smallest list compared from SOA on'
    pub question_shown : Holds h R (decoded perm) j → answered h R j perm buffer ≡ shown buffer (picked_chain h R (decoded perm) j)
    unfolding answered unless
    question_shown r = rw (only_12, test.1 r)

    not-held : (t : Bool) → holds h R (decoded perm) j ≡ t → (Holds h R (decoded perm) j → ⊥) → holds h R (decoded perm) j ≡ false
    not-held true e none = absurd (none (test.0 e))
    not-held false e none = e

    -- '12: office does not hold the permission'
    pub question_refused : (Holds h R (decoded perm) j → ⊥) → answered h R j perm buffer ≡ not_shown buffer 12
    unfolding answered unless
    question_refused none = rw (only_12, not-held (holds h R (decoded perm) j) refl none)

    -- told 'holds' exactly where a rooted chain carries the right
    pub question_told : ((answered h R j perm buffer).answer ≡ 0) ↔ Holds h R (decoded perm) j
    unfolding shown not_shown
    question_told = (
      (λ e. told (holds h R (decoded perm) j) refl e),
      (λ r. ap (λ (a : Answer). a.answer) (question_shown r)),
    )
      where
        told : (t : Bool) → holds h R (decoded perm) j ≡ t → (answered h R j perm buffer).answer ≡ 0 → Holds h R (decoded perm) j
        told true e zero = test.0 e
        told false e zero =
            let refused = question_refused (λ r. clash (test.1 r) e) in
            let z : ⊥ = omega (arith, zero, ap (λ (a : Answer). a.answer) refused) in
            absurd z
