-- What G^< starts from: two starts agree where g0, G^R(t,0) and G^R(u,0) do, of one form, and of either form where G^R(t,0) and G^R(u,0) are finite;
-- and a start that is finite on the way is finite. Assumes nothing.
use Rattle.std.specs.Prelude.{◌≡◌, ◌<◌}
use Rattle.lists.specs.Prelude.{refl, sym, ap, ◌∙◌, Bool, true, false, List, ℕ, eqb, eqb-true, Float}
use Rattle.std.specs.Float.Ieee as Ieee
use Rattle.lists.specs.Agreement.{both, other}
use Rattle.complex.specs.Arithmetic.{finite, cfinite}
use Rattle.block.specs.Block.{Entries, entries_in}
use Rattle.block.specs.Agreement.{Agree}
use Rattle.two_time.specs.Layout.{read_as}
use Rattle.two_time.specs.WeightedSum.{Terms, partial_sum, weighted_sum, finite_sum}
use Rattle.two_time.specs.OneTest.{partial_none, one_test}
use Rattle.two_time.specs.Start.{Start, empty as from_nothing, occupied_first, occupied_block}
use Rattle.two_time.specs.Factors.{FiniteBlock}
use Rattle.two_time.specs.Started.{SameStart, occupied_agree, occupied-zero}
use Rattle.transient_run.specs.Form.{Form, start_of, g0_of}
use Rattle.transient_run.specs.Form.Form.{empty, occupied}
use Rattle.causality.specs.Statement.{SameKind}

same_back : (n : ℕ) (s s' : Start) (t u : ℕ) → SameStart n s s' t u → SameStart n s' s t u
same_back n s s' t u h = record { block = λ a b ha hb. sym (h.block a b ha hb); finite = λ a b ha hb. sym (h.finite a b ha hb) }

module _ (n capacity capacity' : ℕ) (retarded retarded' : List Float) (t u : ℕ)
    (row : Agree n (read_as capacity n retarded t 0) (read_as capacity' n retarded' t 0)) (column : Agree n (read_as capacity n retarded u 0) (read_as capacity' n retarded' u 0)) where
  abbrev SameStarts : Form → Form → Type 0
  SameStarts form form' = SameStart n (start_of form capacity n retarded) (start_of form' capacity' n retarded') t u

  none : SameStarts empty empty
  unfolding start_of
  none = record { block = λ a b ha hb. refl; finite = λ a b ha hb. refl }

  pub one_form : (form form' : Form) → SameKind form form' → Agree n (g0_of n form) (g0_of n form') → SameStarts form form'
  unfolding start_of g0_of
  one_form empty empty same e = none
  one_form empty (occupied g0) same e = absurd same
  one_form (occupied g0) empty same e = absurd same
  one_form (occupied g0) (occupied g0') same e =
      occupied_agree n (entries_in n g0.values) (entries_in n g0'.values) (read_as capacity n retarded) (read_as capacity' n retarded') t u e row column

  module _ (row-finite : FiniteBlock n (read_as capacity n retarded t 0)) (column-finite : FiniteBlock n (read_as capacity n retarded u 0)) where
    pub either-form : (form form' : Form) → Agree n (g0_of n form) (g0_of n form') → SameStarts form form'
    unfolding start_of g0_of
    either-form empty empty e = none
    either-form (occupied g0) empty e = occupied-zero n (entries_in n g0.values) (read_as capacity n retarded) t u e row-finite column-finite
    either-form empty (occupied g0) e =
        same_back n _ from_nothing t u
        (occupied-zero n (entries_in n g0.values) (read_as capacity' n retarded') t u (λ a b ha hb. sym (e a b ha hb)) (λ a b ha hb. ap cfinite (sym (row a b ha hb)) ∙ row-finite a b ha hb)
        (λ a b ha hb. ap cfinite (sym (column a b ha hb)) ∙ column-finite a b ha hb))
    either-form (occupied g0) (occupied g0') e =
        occupied_agree n (entries_in n g0.values) (entries_in n g0'.values) (read_as capacity n retarded) (read_as capacity' n retarded') t u e row column

-- all that is made for a start is finite, so it is
pub start-finite : (form : Form) (capacity n : ℕ) (retarded : List Float) (t u a b : ℕ) → (start_of form capacity n retarded).finite t u a b ≡ true
    → cfinite ((start_of form capacity n retarded).block t u a b) ≡ true
unfolding start_of cfinite finite Ieee.of_bits
start-finite empty capacity n retarded t u a b e = refl
start-finite (occupied g0) capacity n retarded t u a b e = (both (cfinite (occupied_first n (entries_in n g0.values) (read_as capacity n retarded) t a b)) _ e).1

-- and so is a sum from there that is finite on the way
pub sum-finite : (n : ℕ) (x : Terms) (a b : ℕ) → cfinite (x.start a b) ≡ true → finite_sum n x a b ≡ true → cfinite (weighted_sum n x a b) ≡ true
unfolding weighted_sum
sum-finite n x a b start h = by_flag (eqb x.count 0) refl
  where
    by_flag : (none : Bool) → eqb x.count 0 ≡ none → cfinite (weighted_sum n x a b) ≡ true
    by_flag true e = ap (λ (k : ℕ). cfinite (partial_sum n x k a b)) (eqb-true x.count 0 e) ∙ ap cfinite (partial_none n x a b) ∙ start
    by_flag false e = other (eqb x.count 0) (cfinite (weighted_sum n x a b)) (sym (one_test n x a b) ∙ h) e
