-- Which s a row of places has: every term of every place, and no other that the row does not reach. Assumes nothing.
use Rattle.std.specs.Prelude.{◌≡◌, ◌+◌, ◌-◌, ◌≤◌, ◌<◌}
use Rattle.lists.specs.Prelude.{List, ℕ, arith, Float, le-leb, lt-ltb}
use Rattle.two_time.specs.declared.sums.Sums.{Sums}
use Rattle.two_time.specs.declared.sums.Sums.TheVariants.{Full, Causal, LesserAdvanced, Lesser, AntiCausal}
use Rattle.two_time.specs.Layout.{TwoTime}
use Rattle.two_time.specs.Sums.{terms_at}
use Rattle.two_time.specs.Intervals.{interval_count_lem}
use Rattle.terms.specs.declared.Span.{Span}
use Rattle.terms.specs.Kinds.{Reaches, first_of, last_of}
use Rattle.terms.specs.Calls.{span_of}

module _ (points t u places : ℕ) (ht : t < points) (hu : u + places ≤ points) where
  pub first-last : (sums : Sums) → first_of sums t u ≤ last_of sums points t u places
  unfolding first_of last_of
  first-last Full = omega arith
  first-last Causal = omega arith
  first-last LesserAdvanced = omega arith
  first-last Lesser = omega (arith, interval_count_lem 0 t)
  first-last AntiCausal = omega arith

  pub last-most : (sums : Sums) → last_of sums points t u places ≤ points
  unfolding last_of
  last-most Full = omega arith
  last-most Causal = omega arith
  last-most LesserAdvanced = omega arith
  last-most Lesser = omega (arith, interval_count_lem 0 t)
  last-most AntiCausal = omega arith

  pub between : (sums : Sums) (s : ℕ) → first_of sums t u ≤ s → s < last_of sums points t u places → Reaches sums t s
  unfolding first_of last_of Reaches
  between Full s a b = omega arith
  between Causal s a b = omega arith
  between LesserAdvanced s a b = omega arith
  between Lesser s a b = (omega (arith, interval_count_lem 0 t), omega (arith, interval_count_lem 0 t))
  between AntiCausal s a b = omega arith

  module _ (times : List Float) (x y : TwoTime) (c : ℕ) (h : c < places) where
    pub first-least : (sums : Sums) → first_of sums t u ≤ (terms_at sums points times x y t (u + c)).from
    unfolding first_of terms_at
    first-least Full = omega arith
    first-least Causal = omega arith
    first-least LesserAdvanced = omega arith
    first-least Lesser = omega arith
    first-least AntiCausal = omega arith

    pub last-enough : (sums : Sums) → (terms_at sums points times x y t (u + c)).count ≤ last_of sums points t u places - (terms_at sums points times x y t (u + c)).from
    unfolding last_of terms_at
    last-enough Full = omega arith
    last-enough Causal = omega (arith, interval_count_lem (u + c) t)
    last-enough LesserAdvanced = omega (arith, interval_count_lem 0 (u + c))
    last-enough Lesser = omega (arith, interval_count_lem 0 t)
    last-enough AntiCausal = omega (arith, interval_count_lem t (u + c))

-- what a loop from the first to before the last serves
pub record Spanned (sums : Sums) (points t u places : ℕ) (span : Span) : Type 0 where
  pub ordered : span.first ≤ span.last
  pub most : span.last ≤ points
  pub reach : (s : ℕ) → span.first ≤ s → s < span.last → Reaches sums t s
  pub least : (times : List Float) (x y : TwoTime) (c : ℕ) → c < places → span.first ≤ (terms_at sums points times x y t (u + c)).from
  pub enough : (times : List Float) (x y : TwoTime) (c : ℕ) → c < places → (terms_at sums points times x y t (u + c)).count ≤ span.last - (terms_at sums points times x y t (u + c)).from

pub spanned : (sums : Sums) (points t u places : ℕ) (span : Span) → t < points → points ≤ 256 → u + places ≤ points → span ≡ span_of sums points t u places
    → Spanned sums points t u places span
unfolding span_of
spanned sums points t u places span ht hp hu e =
    rw (e, le-leb _ _ hu, lt-ltb _ _ ht, le-leb _ _ hp)
    (record {
      ordered = first-last points t u places ht hu sums;
      most = last-most points t u places ht hu sums;
      reach = between points t u places ht hu sums;
      least = λ times x y c h. first-least points t u places ht hu times x y c h sums;
      enough = λ times x y c h. last-enough points t u places ht hu times x y c h sums;
    })
