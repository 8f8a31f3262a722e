-- ByBits: the definition's cases by the parts' bits without their signs. Assumes nothing.
use Rattle.std.specs.Prelude.{◌≡◌, ◌+◌, ◌*◌, ◌^◌, ◌≤◌, ◌<◌}
use Rattle.lists.specs.Prelude.{refl, ap, ap₂, ◌∙◌, true, false, ℕ, max, min, add_comm, dec_le, arith, T, Float, nan, inf, fin, binary64, fits, to_bits}
use Rattle.norm.specs.Norm.{norm, rounded_root}
use Rattle.norm.specs.Parts.{unsigned, units_of}
use Rattle.norm.specs.Sizes.{size-by_bits, infinite-by_bits, nan-by_bits}
use Rattle.norm.specs.Nearest.{norm-of-sizes}
use Rattle.norm.specs.Claims as Claims

-- infinity's pattern
abbrev INF : ℕ
INF = 2047 * 2 ^ 52

pub infinite-part : (x y : Float) → T (fits binary64 x) → unsigned x ≡ INF → norm x y ≡ inf false
infinite-part x y f e = let w = infinite-by_bits x f e in ap (λ (z : Float). norm z y) w.1 ∙ Claims.infinite-part w.0 y

beside-nan : (y : Float) → (unsigned y ≡ INF → ⊥) → norm nan y ≡ nan
unfolding norm to_bits
beside-nan nan n = refl
beside-nan (inf true) n = absurd (n refl)
beside-nan (inf false) n = absurd (n refl)
beside-nan (fin s m e) n = refl

pub nan-part : (x y : Float) → T (fits binary64 x) → INF < unsigned x → (unsigned y ≡ INF → ⊥) → norm x y ≡ nan
nan-part x y f h n = ap (λ (z : Float). norm z y) (nan-by_bits x f h) ∙ beside-nan y n

pub finite-parts : (x y : Float) → T (fits binary64 x) → T (fits binary64 y) → unsigned x < INF → unsigned y < INF
    → norm x y ≡ rounded_root (units_of (unsigned x) ^ 2 + units_of (unsigned y) ^ 2)
finite-parts x y f g h k = norm-of-sizes x y (units_of (unsigned x)) (units_of (unsigned y)) (size-by_bits x f h) (size-by_bits y g k)

-- the sum of the squares does not depend on which part is the larger
pub larger-first : (a b x y : ℕ) → x ≡ max a b → y ≡ min a b → units_of x ^ 2 + units_of y ^ 2 ≡ units_of a ^ 2 + units_of b ^ 2
larger-first a b x y p q = go (dec_le a b)
  where
    go : Dec (a ≤ b) → units_of x ^ 2 + units_of y ^ 2 ≡ units_of a ^ 2 + units_of b ^ 2
    go (yes h) =
        let e : (x ≡ b) × (y ≡ a) = omega arith in
        ap₂ (λ (x y : ℕ). units_of x ^ 2 + units_of y ^ 2) e.0 e.1 ∙ add_comm (units_of b ^ 2) (units_of a ^ 2)
    go (no h) =
        let e : (x ≡ a) × (y ≡ b) = omega arith in
        ap₂ (λ (x y : ℕ). units_of x ^ 2 + units_of y ^ 2) e.0 e.1
