-- G^R(t,0) is finite at every point once the work on K and G^R is: what G^< starts from reads nothing else of it. Assumes nothing.
use Rattle.refusal.specs.Verdict.{pass}
use Rattle.std.specs.Prelude.{◌≡◌, ◌&&◌, ◌+◌, ◌*◌, ◌≤◌, ◌<◌}
use Rattle.lists.specs.Prelude.{refl, sym, ap, ap₂, ◌∙◌, true, List, ℕ, mul-le-mul_right, one-mul, digits_lt, dec_lt, arith, get_or, Float, nan}
use Rattle.lists.specs.Agreement.{both}
use Rattle.complex.specs.Arithmetic.{finite, cfinite}
use Rattle.refusal.specs.Agreement.{ask_pass}
use Rattle.refusal.specs.Checks.{finite_at}
use Rattle.two_time.specs.Layout.{TwoTime, place, read_as}
use Rattle.two_time.specs.declared.sums.Sums.TheVariants.{Causal}
use Rattle.two_time.specs.Calls.{point_entries}
use Rattle.two_time.specs.WeightedSum.{finite_sum}
use Rattle.two_time.specs.Sums.{dyson_terms, new_finite}
use Rattle.two_time.specs.NewPlaces.{new-each}
use Rattle.two_time.proofs.NewPlaces.{read-new, read-old}
use Rattle.two_time.specs.Factors.{FiniteBlock}
use Rattle.two_time.specs.Column.{column-finite}
use Rattle.dyson.specs.Retarded.{onward_from, new_retarded, new_retarded_finite}
use Rattle.dyson.specs.Recursion.{recursion, held-is}
use Rattle.dyson.specs.Calls.{solved_new_finite}
use Rattle.transient_run.specs.FormChecks.{asked-each}
use Rattle.transient_run.specs.Calls.{Run, kernel_made, retarded_made}

-- the first block of an operand that passes check 7
pub first_block : (capacity points n operand : ℕ) (xs : List Float) → 0 < points → point_entries capacity points n operand xs ≡ pass → FiniteBlock n (read_as capacity n xs 0 0)
unfolding point_entries cfinite
first_block capacity points n operand xs some h a b ha hb = ap₂ ◌&&◌ (number (place capacity n 0 0 a b) inside) (number (place capacity n 0 0 a b + 1) inside')
  where
    block : ℕ
    block = 2 * (n * n)

    row : block ≤ points * block
    row = let e : 1 * block ≤ points * block = mul-le-mul_right block some in omega (arith, one-mul block)

    inside : place capacity n 0 0 a b < points * block
    inside = omega (arith, row, digits_lt ha hb)

    inside' : place capacity n 0 0 a b + 1 < points * block
    inside' = omega (arith, row, digits_lt ha hb)

    number : (i : ℕ) → i < points * block → finite (get_or xs i nan) ≡ true
    number i l =
        let e : i + 0 * (capacity * block) ≡ i = omega arith in
        ap (λ (k : ℕ). finite (get_or xs k nan)) (sym e)
        ∙ ask_pass (finite (get_or xs (i + 0 * (capacity * block)) nan)) _ (asked-each (points * block) (λ k. finite_at operand xs (k + 0 * (capacity * block))) (asked-each points _ h 0 some) i l)

module _ (old points : ℕ) (r : Run) (some : old < points) (room : points ≤ r.capacity)
    (solved : solved_new_finite r.capacity r.orbitals old points r.times r.free r.self_energy r.retarded r.kernel ≡ true)
    (first : old ≡ 0 → FiniteBlock r.orbitals (read_as r.capacity r.orbitals r.free 0 0)) where
  abbrev n : ℕ
  n = r.orbitals

  abbrev g : TwoTime
  g = onward_from r.capacity n old points r.times r.free (kernel_made old points r) r.retarded

  column : (t : ℕ) → t < points → FiniteBlock n (g t 0)
  unfolding solved_new_finite new_retarded_finite
  column =
      column-finite n r.times (read_as r.capacity n r.free) (read_as r.capacity n (kernel_made old points r)) g old points some
      (λ t lo hi. recursion n r.times _ _ old _ t 0 lo (omega arith))
      (λ t lo hi a b ha hb. new-each n old points (λ i j. finite_sum n (dyson_terms r.times (read_as r.capacity n r.free) (read_as r.capacity n (kernel_made old points r)) g i j))
      (both (new_finite Causal r.capacity n old points r.times r.free r.self_energy) _ solved).1 t 0 a b (omega arith) hi (omega arith) ha hb)
      first

  pub retarded-column : (t : ℕ) → t < points → FiniteBlock n (read_as r.capacity n (retarded_made old points r) t 0)
  unfolding new_retarded
  retarded-column t hi a b ha hb =
      elim (dec_lt t old) [
        | yes before ↦
            ap cfinite
            (read-old r.capacity n old points g r.retarded room t 0 hi (omega arith) before (omega arith) a b ha hb ∙ sym (held-is n r.times _ _ old _ t 0 a b before (omega arith)))
            ∙ column t hi a b ha hb
        | no onward ↦ ap cfinite (read-new r.capacity n old points g r.retarded room t 0 hi (omega arith) (omega arith) a b ha hb) ∙ column t hi a b ha hb
      ]
