-- The outcome of a question, by the ways in which the code comes to it.
use Prim.Native.Nat.{ℕ, suc, ◌+◌, ◌≤◌, ◌<◌}
use native.Mathlib.Numerals.{add-one}
use mathlib.Core.Path.{◌≡◌, refl, ap, sym, ◌∙◌}
use mathlib.Core.Bool.{Bool, true, false, cond}
use mathlib.Core.List.{List, ◌++◌}
use lib.ListN.{length, drop}
use lib.Dec.{eqb}
use borrow.Author.Tests.{ne_eqb, lt-ltb, le-ltb}
use Rattle.rights.specs.declared.Header.{Header}
use Rattle.std.specs.declared.result.Result.TheVariants.{Ok, Err}
use Rattle.rights.specs.declared.Permission.{Permission}
use Rattle.rights.specs.declared.Refusal.{Refusal}
use Rattle.rights.specs.declared.Refusal.TheVariants.{NotHeld}
use Rattle.rights.specs.Refusal.{number}
use Rattle.rights.specs.Permission.{decoded}
use Rattle.rights.specs.Register.{soa_of}
use Rattle.rights.specs.Level.{holds}
use Rattle.rights.specs.Sound.{first_of, unless, register_refusal}
use Rattle.rights.specs.Question.{single, fewest_links, smallest, picked_chain, question_form_refusal, question_refusal, shown, not_shown, answered, fewest_into}
use Rattle.theory.proofs.Refusal.{number-nonzero}
use Rattle.theory.proofs.Picked.{picked_length, fewest_test}
use Rattle.levels.specs.Padded.{padded}
use Rattle.questions.specs.Step.{searched, outcome_as}
use Rattle.questions.proofs.Sets.{smallest-padded, fewest-padded}

module _ (h : Header) (R : List ℕ) (p : Permission) (j : ℕ) (inside : soa_of h < h.n) (office : j < h.n) (set : List Bool) (one : set ≡ padded false (single h j)) where
  found : fewest_into h R p set ≡ fewest_links h R p j
  found = rw one (fewest-padded h R p j)

  -- n links or more: there is no chain
  pub searched-none : (buffer : List ℕ) → h.n ≤ fewest_into h R p set → outcome_as (Err NotHeld) buffer ≡ searched h R p j buffer
  unfolding searched not_shown
  searched-none buffer l =
      let none : holds h R p j ≡ false = sym (fewest_test h R inside p j office) ∙ rw (sym found) (le-ltb (fewest_into h R p set) h.n l) in
      rw none

  -- fewer: the chain that was written is the picked one
  pub searched_some :
      (links : ℕ) (buffer after : List ℕ) →
      links < h.n →
      links ≡ fewest_into h R p set →
      after ≡ smallest h R p links set ++ drop (links + 1) buffer →
      outcome_as (Ok (links + 1)) after ≡ searched h R p j buffer
  unfolding searched shown picked_chain
  searched_some links buffer after l fewest w =
      let away : links ≡ fewest_links h R p j = fewest ∙ found in
      let some : holds h R p j ≡ true = sym (fewest_test h R inside p j office) ∙ rw (sym away) (lt-ltb links h.n l) in
      let chain : smallest h R p links set ≡ picked_chain h R p j = rw (one, away) (smallest-padded h R (fewest_links h R p j) p (single h j)) in
      let size : links + 1 ≡ length (picked_chain h R p j) = add-one links ∙ ap suc away ∙ sym (picked_length h R p j) in
      rw some (rw (w, chain, size) refl)

module _ (h : Header) (R : List ℕ) (j perm : ℕ) (buffer : List ℕ) where
  -- the register is refused
  pub answered-register : (r : Refusal) → number r ≡ register_refusal h R → outcome_as (Err r) buffer ≡ answered h R j perm buffer
  unfolding answered question_refusal not_shown first_of
  answered-register r e =
      let some = ne_eqb (number r) 0 (number-nonzero r) in
      rw (← e, some, some)

  -- the register stands
  module _ (ready : 0 ≡ register_refusal h R) where
    -- the question is refused by its form
    pub answered-form : (r : Refusal) → number r ≡ question_form_refusal h j perm (length buffer) → outcome_as (Err r) buffer ≡ answered h R j perm buffer
    unfolding answered question_refusal not_shown first_of
    answered-form r e =
        let some = ne_eqb (number r) 0 (number-nonzero r) in
        rw (← ready, ← e, some, some)

    -- or the search decides
    pub answered-searched : 0 ≡ question_form_refusal h j perm (length buffer) → searched h R (decoded perm) j buffer ≡ answered h R j perm buffer
    unfolding answered question_refusal searched first_of unless
    answered-searched formed = rw (← ready, ← formed) (go (holds h R (decoded perm) j))
      where
        go :
            (held : Bool) →
            cond held (shown buffer (picked_chain h R (decoded perm) j)) (not_shown buffer 12)
            ≡ cond (eqb (cond held 0 12) 0) (shown buffer (picked_chain h R (decoded perm) j)) (not_shown buffer (cond held 0 12))
        go true = refl
        go false = refl

-- what the two ways of the search are proved by
pub ruleset searching = (searched-none, searched_some)

-- what the three ways of the question are proved by
pub ruleset answering = (answered-register, answered-form, answered-searched)
