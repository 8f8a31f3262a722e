-- A written slice is read place by place, and is what it was before a row is written. Assumes nothing.
use Rattle.std.specs.Prelude.{◌≡◌, ◌<◌}
use Rattle.lists.specs.Prelude.{sym, ◌∙◌, cond, List, ℕ, arith, length, le-ltb, Float}
use Rattle.two_time.specs.Layout.{TwoTime, read_as, length_of}
use Rattle.two_time.specs.New.{is_new, written}
use Rattle.two_time.specs.Written.{laid_read, laid_agree, written_to}
use Rattle.two_time.proofs.ReadBack.{read_back}

module _ (capacity n old points : ℕ) (f : TwoTime) (before : List Float) where
  pub read-written : (t u a b : ℕ) → t < capacity → u < capacity → a < n → b < n
      → read_as capacity n (written capacity n old points f before) t u a b ≡ cond (is_new old points t u) (f t u) (read_as capacity n before t u) a b
  unfolding written
  read-written t u a b ht hu ha hb = read_back n capacity _ t u a b ht hu ha hb

  pub written_none : length before ≡ length_of capacity n → before ≡ written_to capacity n old points f before 0
  unfolding written_to
  written_none long = sym (laid_read capacity n before long) ∙ laid_agree capacity n _ _ (λ t u ht hu a b ha hb. rw (le-ltb t 0 (omega arith)))
