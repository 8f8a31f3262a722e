-- A two-time function that is laid out is read back entry by entry. Assumes nothing.
use Rattle.std.specs.Prelude.{◌≡◌, ◌<◌}
use Rattle.lists.specs.Prelude.{sym, ap, ◌∙◌, ℕ, add-zero, lit<, get_or, nan}
use Rattle.two_time.specs.Layout.{TwoTime, place, read_as, lay_out_all}
use Rattle.two_time.specs.ReadBack.{number_at}

module _ (n points : ℕ) (f : TwoTime) (t u a b : ℕ) (ht : t < points) (hu : u < points) (ha : a < n) (hb : b < n) where
  pub read_back : read_as points n (lay_out_all points n f) t u a b ≡ f t u a b
  read_back = λ i. record { re = re_part i; im = number_at n points f t u a b ht hu ha hb 1 (lit< tt) i }
    where
      re_part : get_or (lay_out_all points n f) (place points n t u a b) nan ≡ (f t u a b).re
      re_part = ap (λ (k : ℕ). get_or (lay_out_all points n f) k nan) (sym (add-zero (place points n t u a b))) ∙ number_at n points f t u a b ht hu ha hb 0 (lit< tt)
