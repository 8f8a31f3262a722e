-- A test of the new places is a test of each. Assumes nothing.
use Rattle.std.specs.Prelude.{◌≡◌, ◌≤◌, ◌<◌}
use Rattle.lists.specs.Prelude.{Bool, true, ℕ, max, dec_lt, arith}
use Rattle.lists.specs.Indexed.{all_in}
use Rattle.lists.specs.Agreement.{all-each, each_all}
use Rattle.two_time.specs.New.{every_new}
use Rattle.two_time.specs.Written.{new_is, old-is}

module _ (n old points : ℕ) (p : ℕ → ℕ → ℕ → ℕ → Bool) where
  abbrev EachNew : Type 0
  EachNew = (t u a b : ℕ) → old ≤ max t u → t < points → u < points → a < n → b < n → p t u a b ≡ true

  pub new-each : every_new n old points p ≡ true → EachNew
  unfolding every_new
  new-each h t u a b new ht hu ha hb =
      let place = all-each points _ (all-each points _ h t ht) u hu in
      let entries : all_in n n (p t u) ≡ true = rw (new_is old points t u new ht hu) at place in
      all-each n _ (all-each n _ entries a ha) b hb

  pub each-new : EachNew → every_new n old points p ≡ true
  unfolding every_new
  each-new h =
      each_all points _
      (λ t ht. each_all points _
      (λ u hu. elim (dec_lt (max t u) old) [
        | yes l ↦ rw (old-is old points t u (omega arith) (omega arith))
        | no l ↦ rw (new_is old points t u (omega arith) ht hu) (each_all n _ (λ a ha. each_all n _ (λ b hb. h t u a b (omega arith) ht hu ha hb)))
      ]))
