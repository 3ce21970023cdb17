-- The holding question, and the chain that 01 picks (01, 'Refusal numbers').
use Rattle.std.specs.Prelude.{ℕ, zero, suc, Bool, ◌&&◌, cond, List, [], ◌∷◌, ◌++◌, length, drop, eqb, ltb, leb}
use Rattle.rights.specs.declared.Header.{Header}
use Rattle.rights.specs.Below.{any_below, first_below, table}
use Rattle.rights.specs.declared.Permission.{Permission}
use Rattle.rights.specs.Permission.{is_code, decoded, passing}
use Rattle.rights.specs.Cell.{carries}
use Rattle.rights.specs.Register.{cell, soa_of}
use Rattle.rights.specs.Level.{is_in, holds}
use Rattle.rights.specs.Sound.{first_of, unless, register_refusal}

-- the set of one office
unfoldable pub single : Header → ℕ → List Bool
single h j = table h.n (eqb j)

-- y is in the set, and the link of x to it carries p
abbrev pub link_into : Header → List ℕ → Permission → List Bool → ℕ → ℕ → Bool
link_into h R p set x y = is_in set y && carries (cell h R x y) p

-- the offices with a link, read as p, into the set: one link nearer SOA
unfoldable pub nearer : Header → List ℕ → Permission → List Bool → List Bool
nearer h R p set = table h.n (λ x. any_below h.n (link_into h R p set x))

-- the offices from which so many links, the last read as p and each earlier one as what passes p on, lead into the set
unfoldable pub links_away : Header → List ℕ → Permission → ℕ → List Bool → List Bool
links_away h R p zero set = set
links_away h R p (suc d) set = links_away h R (passing p) d (nearer h R p set)

-- SOA is so many links away from the set
abbrev pub soa_away : Header → List ℕ → Permission → List Bool → ℕ → Bool
soa_away h R p set d = is_in (links_away h R p d set) (soa_of h)

-- the fewest links from SOA into the set; more than n where there are none
abbrev pub fewest_into : Header → List ℕ → Permission → List Bool → ℕ
fewest_into h R p set = first_below (suc h.n) (soa_away h R p set)

-- the fewest links of a chain for p at j
unfoldable pub fewest_links : Header → List ℕ → Permission → ℕ → ℕ
fewest_links h R p j = fewest_into h R p (single h j)

-- the last office of a chain
unfoldable pub last_of : List ℕ → ℕ
last_of [] = 0
last_of (x ∷ []) = x
last_of (x ∷ y ∷ offices) = last_of (y ∷ offices)

-- The smallest list of offices, so many links long, from SOA into the set: the chain to the set one link nearer SOA, and after
-- it the smallest office of the set to which its last office has a link.
unfoldable pub smallest : Header → List ℕ → Permission → ℕ → List Bool → List ℕ
smallest h R p zero set = soa_of h ∷ []
smallest h R p (suc d) set =
    let earlier = smallest h R (passing p) d (nearer h R p set) in
    earlier ++ (first_below h.n (link_into h R p set (last_of earlier)) ∷ [])

-- 'the chain with fewest links, among those the smallest list compared from SOA on'
unfoldable pub picked_chain : Header → List ℕ → Permission → ℕ → List ℕ
picked_chain h R p j = smallest h R p (fewest_links h R p j) (single h j)

-- refusals 4, 6 and 11, which read the header and the question alone: 'any perm but 1, 2, 4, 8 is 4'; room is the length of the
-- chain buffer
unfoldable pub question_form_refusal : Header → ℕ → ℕ → ℕ → ℕ
question_form_refusal h j perm room =
    first_of (unless (is_code perm) 4) (first_of (unless (ltb j h.n) 6) (unless (leb h.n room) 11))

-- 'A holding question checks 1, 2, 3, 4, 6, 11, 12'; 0 where none applies
unfoldable pub question_refusal : Header → List ℕ → ℕ → ℕ → ℕ → ℕ
question_refusal h R j perm room =
    first_of (register_refusal h R)
    (first_of (question_form_refusal h j perm room) (unless (holds h R (decoded perm) j) 12))

-- what a question answers and leaves
pub record Answer : Type 0 where
  pub answer : ℕ
  pub offices : ℕ
  pub chain : List ℕ

-- the chain at the start of the buffer, 'one byte an office', and 'later bytes stay'
unfoldable pub shown : List ℕ → List ℕ → Answer
shown buffer chain = record { answer = 0; offices = length chain; chain = chain ++ drop (length chain) buffer }

-- 'Refused, it leaves the chain buffer unchanged and gives length 0.'
unfoldable pub not_shown : List ℕ → ℕ → Answer
not_shown buffer number = record { answer = number; offices = 0; chain = buffer }

-- the one outcome of a holding question
unfoldable pub answered : Header → List ℕ → ℕ → ℕ → List ℕ → Answer
answered h R j perm buffer =
    cond (eqb (question_refusal h R j perm (length buffer)) 0)
    (shown buffer (picked_chain h R (decoded perm) j))
    (not_shown buffer (question_refusal h R j perm (length buffer)))
