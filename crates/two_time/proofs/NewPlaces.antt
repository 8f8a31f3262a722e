-- Slices written at new places: each place is read again, and a slice written twice is the slice written at once. Assumes nothing.
use Rattle.std.specs.Prelude.{◌≡◌, ◌≤◌, ◌<◌}
use Rattle.lists.specs.Prelude.{sym, ◌∙◌, List, ℕ, max, dec_lt, arith, Float}
use Rattle.block.specs.Agreement.{Agree}
use Rattle.two_time.specs.Layout.{TwoTime, read_as}
use Rattle.two_time.specs.New.{written}
use Rattle.two_time.specs.Written.{laid_read, laid_agree, length-written, new_is, old-is, past_is}
use Rattle.two_time.proofs.Written.{read-written}

-- a new place, and an old one
module _ (capacity n old points : ℕ) (f : TwoTime) (before : List Float) (room : points ≤ capacity) (t u : ℕ) (ht : t < points) (hu : u < points) where
  pub read-new : old ≤ max t u → Agree n (read_as capacity n (written capacity n old points f before) t u) (f t u)
  read-new new a b ha hb = read-written capacity n old points f before t u a b (omega arith) (omega arith) ha hb ∙ rw (new_is old points t u new ht hu)

  pub read-old : t < old → u < old → Agree n (read_as capacity n (written capacity n old points f before) t u) (read_as capacity n before t u)
  read-old l m a b ha hb = read-written capacity n old points f before t u a b (omega arith) (omega arith) ha hb ∙ rw (old-is old points t u l m)

-- from 0 to p, then from p to q, is from 0 to q
module _ (capacity n p q : ℕ) (further : p ≤ q) (f g h : TwoTime) (before : List Float) where
  abbrev twice : List Float
  twice = written capacity n p q f (written capacity n 0 p g before)

  abbrev once : List Float
  once = written capacity n 0 q h before

  -- what stands past q was never written
  never-written : (t u : ℕ) → q ≤ max t u → t < capacity → u < capacity → Agree n (read_as capacity n twice t u) (read_as capacity n once t u)
  never-written t u l ht hu a b ha hb =
      read-written capacity n p q f (written capacity n 0 p g before) t u a b ht hu ha hb ∙ rw (past_is p q t u l)
      (read-written capacity n 0 p g before t u a b ht hu ha hb ∙ rw (past_is 0 p t u (let m : p ≤ max t u = omega arith in m))
      (sym (read-written capacity n 0 q h before t u a b ht hu ha hb ∙ rw (past_is 0 q t u l))))

  pub at_once : ((t u : ℕ) → t < q → u < q → Agree n (read_as capacity n twice t u) (read_as capacity n once t u)) → twice ≡ once
  at_once e =
      sym (laid_read capacity n twice (length-written capacity n p q f _))
      ∙ laid_agree capacity n _ _ (λ t u ht hu. elim (dec_lt (max t u) q) [ yes l ↦ e t u (omega arith) (omega arith) | no l ↦ never-written t u (omega arith) ht hu ])
      ∙ laid_read capacity n once (length-written capacity n 0 q h before)
