-- What the checks of a group's call ask, and what they say of the slices that it is lent. Assumes nothing.
use Rattle.std.specs.Prelude.{◌≡◌, ◌&&◌, ◌∷◌, ◌*◌, ◌≤◌, ◌<◌}
use Rattle.lists.specs.Prelude.{sym, ap, ◌∙◌, Bool, List, [], ℕ, arith, length, Float}
use Rattle.refusal.specs.Verdict.{pass, Verdict, ◌then◌}
use Rattle.refusal.specs.Checks.{large_enough, within_limits, fitting}
use Rattle.two_time.specs.Calls.{all_fit, size_checks}
use Rattle.two_time.specs.Layout.{length_of}
use Rattle.two_time.specs.Places.{sized, product-most}
use Rattle.two_time.specs.SizeChecks.{sizes-passed, sizes_asked_lem, fits_more, long-first}
use Rattle.groups.specs.Groups.{is_group, Grouped, grouped}

module _ (points n : ℕ) (left right : List Float) where
  pub asked : {is there left_fits right_fits : Bool} {v told : Verdict} → is ≡ there → left_fits ≡ all_fit points n (left ∷ []) → right_fits ≡ all_fit points n (right ∷ [])
      → v ≡ (large_enough points n then within_limits points n then fitting (is && (left_fits && right_fits))) → v ≡ told → size_checks points n there (left ∷ right ∷ []) ≡ told
  asked {is = is} i l r a e =
      ap (λ (b : Bool). size_checks points n b (left ∷ right ∷ [])) (sym i)
      ∙ sym (sizes_asked_lem points n (left ∷ right ∷ []) is _ _ (fits_more points n left (right ∷ []) _ _ l r) a) ∙ e

  -- where they pass
  pub record Lent (t u places : ℕ) : Type 0 where
    pub there : Grouped points n t u places
    pub some : 0 < n
    pub left-long : length_of points n ≤ length left
    pub right-long : length_of points n ≤ length right
    pub left-most : length left ≤ 33554432

  pub lent : (t u places : ℕ) → size_checks points n (is_group points n t u places) (left ∷ right ∷ []) ≡ pass → Lent t u places
  lent t u places p =
      let z = sizes-passed points n _ _ p in
      let l = long-first _ _ _ z.long in
      let r = long-first _ _ _ l.1 in
      let most = (sized points n z.points-most z.orbitals-most).all in
      record {
        there = grouped _ _ _ _ _ z.others;
        some = z.orbitals-least;
        left-long = omega (arith, l.0);
        right-long = omega (arith, r.0);
        left-most = omega (arith, l.0, most);
      }

-- three slices
pub three-asked : (points n : ℕ) (first second third : List Float) {is there one two three : Bool} {v told : Verdict} → is ≡ there
    → one ≡ all_fit points n (first ∷ []) → two ≡ all_fit points n (second ∷ []) → three ≡ all_fit points n (third ∷ [])
    → v ≡ (large_enough points n then within_limits points n then fitting (is && (one && (two && three)))) → v ≡ told → size_checks points n there (first ∷ second ∷ third ∷ []) ≡ told
three-asked points n first second third {is = is} i f s t a e =
    ap (λ (b : Bool). size_checks points n b (first ∷ second ∷ third ∷ [])) (sym i)
    ∙ sym (sizes_asked_lem points n (first ∷ second ∷ third ∷ []) is _ _ (fits_more points n first (second ∷ third ∷ []) _ _ f (fits_more points n second (third ∷ []) _ _ s t)) a) ∙ e

-- a group's blocks have few numbers
pub few : {points n t u places : ℕ} → Grouped points n t u places → (n * n ≤ 256) × (places * (2 * (n * n)) ≤ 8192)
few {n = n} {places = places} g = (
  product-most n n g.orbitals-most g.orbitals-most,
  product-most places (2 * (n * n)) g.most (let block = product-most n n g.orbitals-most g.orbitals-most in let h : 2 * (n * n) ≤ 512 = omega arith in h),
)
