-- Laws of tests: what a conjunction, a disjunction and a choice say of their parts. Assumes nothing.
use mathlib.Core.Path.{◌≡◌, refl, sym}
use mathlib.Core.Logic.{◌⊎◌, inl, inr}
use mathlib.Core.Bool.{Bool, true, false, ◌&&◌, ◌||◌, not, beq}

pub both : {a b : Bool} → a ≡ true → b ≡ true → a && b ≡ true
both p q = rw (p, q)

pub left_of : (a b : Bool) → a && b ≡ true → a ≡ true
left_of true b p = refl
left_of false b p = p

pub right_of : (a b : Bool) → a && b ≡ true → b ≡ true
right_of true b p = p
right_of false b p = cc

-- the three parts of a conjunction
pub parts_of : (a b c : Bool) → a && b && c ≡ true → (a ≡ true) × (b ≡ true) × (c ≡ true)
parts_of a b c p = (left_of a b (left_of (a && b) c p), right_of a b (left_of (a && b) c p), right_of (a && b) c p)

pub or_left : {a : Bool} (b : Bool) → a ≡ true → a || b ≡ true
or_left b p = rw p

pub or_right : (a : Bool) {b : Bool} → b ≡ true → a || b ≡ true
or_right true p = refl
or_right false p = p

pub either : (a b : Bool) → a || b ≡ true → (a ≡ true) ⊎ (b ≡ true)
either true b p = inl refl
either false b p = inr p

-- neither passes
pub neither : {a b : Bool} → a ≡ false → b ≡ false → a || b ≡ false
neither p q = rw (p, q)

pub not_left : (a b : Bool) → a || b ≡ false → a ≡ false
not_left true b p = p
not_left false b p = refl

pub not_right : (a b : Bool) → a || b ≡ false → b ≡ false
not_right true b p = cc
not_right false b p = p

-- a test that says: where a passes, b does
pub implied : (a b : Bool) → not a || b ≡ true → a ≡ true → b ≡ true
implied true b p q = p
implied false b p q = cc

pub implies : (a b : Bool) → (a ≡ true → b ≡ true) → not a || b ≡ true
implies true b f = f refl
implies false b f = refl

-- a test passes or fails
pub decided : (a : Bool) → (a ≡ true) ⊎ (a ≡ false)
decided true = inl refl
decided false = inr refl

-- what is false is not true
pub clash : {a : Bool} {P : Type 0} → a ≡ true → a ≡ false → P
clash {a} {P} p q = absurd (let z : ◌≡◌ {A = Bool} true false = cc in mathlib.Core.Bool.true≢false z)

-- two tests that pass together are one test
pub same_test : (a b : Bool) → (a ≡ true → b ≡ true) → (b ≡ true → a ≡ true) → a ≡ b
same_test true b f g = cc (f refl)
same_test false true f g = g refl
same_test false false f g = refl

-- a test that cannot pass fails
pub fails : (a : Bool) → (a ≡ true → ⊥) → a ≡ false
fails true f = absurd (f refl)
fails false f = refl

-- tests that compare as equal are equal
pub beq_same : (a b : Bool) → beq a b ≡ true → a ≡ b
beq_same true true e = refl
beq_same true false e = sym e
beq_same false true e = e
beq_same false false e = refl
