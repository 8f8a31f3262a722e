-- A slice whose entries at the points are finite passes check 7. Assumes nothing.
use Rattle.refusal.specs.Verdict.{pass}
use Rattle.std.specs.Prelude.{◌≡◌, ◌+◌, ◌*◌, ◌/◌, ◌%◌, ◌<◌}
use Rattle.lists.specs.Prelude.{sym, ap, ◌∙◌, true, List, ℕ, div-add-mod', mod-lt, div-lt_iff_lt-mul, mul-pos, dec_lt, arith, get_or, Float, nan}
use Rattle.lists.specs.Agreement.{both}
use Rattle.complex.specs.Arithmetic.{finite, cfinite}
use Rattle.refusal.specs.Agreement.{ask_yes, all_asked}
use Rattle.two_time.specs.Layout.{place, read_as}
use Rattle.two_time.specs.Calls.{point_entries}
use Rattle.two_time.specs.Cleared.{place_is}

module _ (capacity points n : ℕ) (xs : List Float) (some : 0 < n)
    (h : (t u a b : ℕ) → t < points → u < points → a < n → b < n → cfinite (read_as capacity n xs t u a b) ≡ true) where
  -- number i of row t is a part of an entry
  number_finite_lem : (t i : ℕ) → t < points → i < points * (2 * (n * n)) → finite (get_or xs (i + t * (capacity * (2 * (n * n)))) nan) ≡ true
  unfolding cfinite
  number_finite_lem t i ht hi =
      let w : ℕ = 2 * (n * n) in
      let u : ℕ = i / w in
      let j : ℕ = i % w in
      let q : ℕ = j / 2 in
      let wide : 0 < w = omega (arith, mul-pos some some) in
      let inside : j < w = mod-lt i wide in
      let e : i ≡ u * w + j = sym (div-add-mod' i w) in
      let a : ℕ = q / n in
      let b : ℕ = q % n in
      let whole : a * n + b ≡ q = div-add-mod' q n in
      let entry = both _ _ (h t u a b ht ((div-lt_iff_lt-mul wide).1 hi) ((div-lt_iff_lt-mul some).1 (let l : q < n * n = omega arith in l)) (mod-lt q some)) in
      let p = place_is capacity n t u a b in
      elim (dec_lt (j % 2) 1) [
        | yes even ↦ at (let l : i + t * (capacity * w) ≡ place capacity n t u a b = omega arith in l) ∙ entry.0
        | no odd ↦ at (let l : i + t * (capacity * w) ≡ place capacity n t u a b + 1 = omega arith in l) ∙ entry.1
      ]
    where
      at : {k m : ℕ} → k ≡ m → finite (get_or xs k nan) ≡ finite (get_or xs m nan)
      at l = ap (λ (m : ℕ). finite (get_or xs m nan)) l

  pub points-finite : (operand : ℕ) → point_entries capacity points n operand xs ≡ pass
  unfolding point_entries
  points-finite operand = all_asked points _ (λ t ht. all_asked (points * (2 * (n * n))) _ (λ i hi. ask_yes _ _ (number_finite_lem t i ht hi)))
