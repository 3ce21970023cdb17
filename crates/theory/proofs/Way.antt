-- Ways from SOA over links of one kind: what levels and chains have in common. Assumes nothing.
use Prim.Native.Nat.{ℕ, ◌<◌}
use mathlib.Core.Path.{◌≡◌}
use mathlib.Core.Bool.{Bool, true}
use mathlib.Core.List.{List, [], ◌∷◌, ◌++◌}
use Rattle.rights.specs.declared.Header.{Header}
use Rattle.rights.specs.declared.Permission.{Permission}
use Rattle.rights.specs.Cell.{carries}
use Rattle.rights.specs.Register.{cell, soa_of}

-- the link from x to y carries p
unfoldable pub link_of : Header → List ℕ → Permission → ℕ → ℕ → Bool
link_of h R p x y = carries (cell h R x y) p

-- a list of allowed offices from SOA to y, each link of which passes the test
pub data Way (h : Header) (allowed : ℕ → Bool) (passes : ℕ → ℕ → Bool) : List ℕ → ℕ → Type 0 where
  start : allowed (soa_of h) ≡ true → Way h allowed passes (soa_of h ∷ []) (soa_of h)
  onward :
      {offices : List ℕ} {x : ℕ} (y : ℕ) →
      Way h allowed passes offices x →
      y < h.n →
      allowed y ≡ true →
      passes x y ≡ true →
      Way h allowed passes (offices ++ (y ∷ [])) y

-- such a list exists
pub record Reach (h : Header) (allowed : ℕ → Bool) (passes : ℕ → ℕ → Bool) (y : ℕ) : Type 0 where
  pub offices : List ℕ
  pub way : Way h allowed passes offices y

-- a way ends in range
pub way_inside :
    {h : Header} → soa_of h < h.n →
    {allowed : ℕ → Bool} {passes : ℕ → ℕ → Bool} {offices : List ℕ} {y : ℕ} →
    Way h allowed passes offices y → y < h.n
way_inside inside (start a) = inside
way_inside inside (onward y w l a p) = l

-- where more passes, every way is still one
pub way_more :
    {h : Header} → soa_of h < h.n →
    {allowed : ℕ → Bool} {passes : ℕ → ℕ → Bool} (others : ℕ → ℕ → Bool) →
    ((x y : ℕ) → x < h.n → y < h.n → passes x y ≡ true → others x y ≡ true) →
    {offices : List ℕ} {y : ℕ} → Way h allowed passes offices y → Way h allowed others offices y
way_more inside others more (start a) = start a
way_more inside others more (onward {x = x} y w l a p) =
    onward y (way_more inside others more w) l a (more x y (way_inside inside w) l p)

-- where more is allowed, every way is still one
pub way_among :
    {h : Header} {allowed : ℕ → Bool} {passes : ℕ → ℕ → Bool} (others : ℕ → Bool) →
    ((x : ℕ) → allowed x ≡ true → others x ≡ true) →
    {offices : List ℕ} {y : ℕ} → Way h allowed passes offices y → Way h others passes offices y
way_among {h} others more (start a) = start (more (soa_of h) a)
way_among others more (onward y w l a p) = onward y (way_among others more w) l (more y a) p

-- a way starts and ends at allowed offices
pub way_root :
    {h : Header} {allowed : ℕ → Bool} {passes : ℕ → ℕ → Bool} {offices : List ℕ} {y : ℕ} →
    Way h allowed passes offices y →
    allowed (soa_of h) ≡ true
way_root (start a) = a
way_root (onward y w l a q) = way_root w

pub way_allowed :
    {h : Header} {allowed : ℕ → Bool} {passes : ℕ → ℕ → Bool} {offices : List ℕ} {y : ℕ} →
    Way h allowed passes offices y →
    allowed y ≡ true
way_allowed (start a) = a
way_allowed (onward y w l a q) = a
