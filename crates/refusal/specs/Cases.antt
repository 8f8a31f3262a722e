-- Closed cases of the checks: each at its edge, and questions in order.
use Rattle.std.specs.Prelude.{Err, ◌≡◌, ◌∷◌}
use Rattle.lists.specs.Prelude.{refl, true, false, [], map, Float, nan, inf, binary64}
use Rattle.std.specs.Float.Ieee as Ieee
use Rattle.lists.specs.Indexed.{all_below}
use Rattle.complex.specs.Arithmetic.{plus_zero, one, czero, size, finite, cfinite}
use Rattle.refusal.specs.Verdict.{pass, by, ask, ◌then◌, ask_all, number_of, zeroed, afterwards, decide, decision_number}
use Rattle.refusal.specs.Checks.{large_enough, not_empty, within_limits, within_block, within_program, fitting, finite_times, rising_times, finite_weights, finite_entries}
use Rattle.refusal.specs.Checks.{valid_tolerance, retarded_at, finite_work, time_below, orbital_below, finite_factors, real_within, well_formed, within_capacity, counter_holds, within_list, desk_known}

abbrev half : Float
half = Ieee.of_bits binary64 0x3fe0_0000_0000_0000

abbrev three_quarters : Float
three_quarters = Ieee.of_bits binary64 0x3fe8_0000_0000_0000

sizes : map number_of (large_enough 2 1 ∷ large_enough 1 1 ∷ large_enough 2 0 ∷ not_empty 1 1 ∷ not_empty 0 1 ∷ not_empty 1 0 ∷ []) ≡ 0 ∷ 1 ∷ 1 ∷ 0 ∷ 1 ∷ 1 ∷ []
unfolding number_of large_enough not_empty ask
sizes = refl

limits : map number_of (within_limits 256 16 ∷ within_limits 257 16 ∷ within_limits 256 17 ∷ within_block 16 16 ∷ within_block 17 1 ∷ within_block 1 17 ∷ within_program 16 1 ∷ within_program 2 8 ∷ within_program 17 1 ∷ within_program 3 6 ∷ [])
    ≡ 0 ∷ 2 ∷ 2 ∷ 0 ∷ 2 ∷ 2 ∷ 0 ∷ 0 ∷ 2 ∷ 2 ∷ []
unfolding number_of within_limits within_block within_program ask
limits = refl

-- the times 0, 0: 5 at 1; a NaN is no time; 0, -0 do not rise
times : finite_times 2 (plus_zero ∷ nan ∷ []) ∷ finite_times 2 (plus_zero ∷ one ∷ []) ∷ rising_times 2 (plus_zero ∷ plus_zero ∷ []) ∷ rising_times 3 (plus_zero ∷ one ∷ half ∷ [])
    ∷ rising_times 2 (plus_zero ∷ Ieee.of_bits binary64 0x8000_0000_0000_0000 ∷ []) ∷ rising_times 2 (plus_zero ∷ one ∷ []) ∷ []
    ≡ Err (by 4) ∷ pass ∷ Err (record { number = 5; operand = 0; first = 1; second = 0; part = plus_zero })
    ∷ Err (record { number = 5; operand = 0; first = 2; second = 0; part = plus_zero }) ∷ Err (record { number = 5; operand = 0; first = 1; second = 0; part = plus_zero }) ∷ pass ∷ []
unfolding finite_times rising_times Ieee.lt Ieee.of_bits all_below ask ask_all finite
times = refl

-- the first number that is not finite, by operand and position
entries : finite_entries 1 (plus_zero ∷ one ∷ inf true ∷ nan ∷ []) 4 ∷ finite_entries 1 (plus_zero ∷ one ∷ inf true ∷ nan ∷ []) 2 ∷ []
    ≡ Err (record { number = 7; operand = 1; first = 2; second = 0; part = plus_zero }) ∷ pass ∷ []
unfolding finite_entries Ieee.of_bits ask ask_all finite
entries = refl

tolerances : map number_of (valid_tolerance one ∷ valid_tolerance plus_zero ∷ valid_tolerance nan ∷ valid_tolerance (inf false) ∷ valid_tolerance (Ieee.neg one) ∷ []) ≡ 0 ∷ 8 ∷ 8 ∷ 8 ∷ 8 ∷ []
unfolding number_of valid_tolerance Ieee.lt Ieee.neg Ieee.of_bits ask finite
tolerances = refl

-- a residual or an imaginary part equal to the tolerance passes, and a NaN does; -0.75 is refused with its sign
residuals : retarded_at 1 0 2 half half ∷ retarded_at 1 0 2 half nan ∷ retarded_at 1 0 2 half three_quarters ∷ real_within half half ∷ real_within half nan ∷ real_within half (Ieee.neg three_quarters) ∷ []
    ≡ pass ∷ pass ∷ Err (record { number = 9; operand = 1; first = 0; second = 2; part = three_quarters }) ∷ pass ∷ pass
    ∷ Err (record { number = 14; operand = 0; first = 0; second = 0; part = Ieee.neg three_quarters }) ∷ []
unfolding retarded_at real_within Ieee.lt Ieee.neg Ieee.of_bits ask size
residuals = refl

others : map number_of (fitting false ∷ finite_weights 2 (λ i. inf false) ∷ finite_work false ∷ time_below 2 2 ∷ time_below 1 2 ∷ orbital_below 1 1 ∷ finite_factors czero nan ∷ finite_factors (record { re = nan; im = plus_zero }) one ∷ finite_factors czero one ∷ well_formed false ∷ within_capacity 3 3 ∷ within_capacity 4 3 ∷ counter_holds 0xffff_ffff_ffff_fffe 1 ∷ counter_holds 0xffff_ffff_ffff_fffe 2
    ∷ desk_known 7 ∷ desk_known 8 ∷ [])
    ≡ 3 ∷ 6 ∷ 10 ∷ 11 ∷ 0 ∷ 12 ∷ 13 ∷ 13 ∷ 0 ∷ 15 ∷ 0 ∷ 16 ∷ 0 ∷ 17 ∷ 0 ∷ 22 ∷ []
unfolding number_of fitting finite_weights finite_work time_below orbital_below finite_factors well_formed within_capacity counter_holds desk_known Ieee.of_bits all_below ask cfinite finite
others = refl

lists : map number_of (within_list 1024 ∷ within_list 1025 ∷ []) ≡ 0 ∷ 18 ∷ []
unfolding number_of within_list ask
lists = refl

-- the first refusal is the answer
in_order : (pass then Err (by 3) then Err (by 7)) ∷ ask_all 3 (λ i. pass) ∷ [] ≡ Err (by 3) ∷ pass ∷ []
unfolding ask_all
in_order = refl

-- accepted: what was made; 10: +0 throughout; any other: as before
leaves : afterwards zeroed pass (one ∷ []) (half ∷ []) ∷ afterwards zeroed (Err (by 10)) (one ∷ []) (half ∷ []) ∷ afterwards zeroed (Err (by 9)) (one ∷ []) (half ∷ []) ∷ []
    ≡ (one ∷ []) ∷ (plus_zero ∷ []) ∷ (half ∷ []) ∷ []
unfolding afterwards
leaves = refl

decisions : map decision_number (decide pass true ∷ decide pass false ∷ decide (Err (by 8)) true ∷ []) ≡ 0 ∷ 0 ∷ 8 ∷ []
unfolding decision_number decide
decisions = refl
