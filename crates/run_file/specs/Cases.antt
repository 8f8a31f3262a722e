-- Closed cases of the run file: where 15 stands in the order, the text of numbers, and a time whose number is not finite.
use Rattle.std.specs.Prelude.{◌≡◌, ◌∷◌, ◌++◌}
use Rattle.lists.specs.Prelude.{refl, true, false, List, [], ℕ, replicate, inf, binary64, to_bits}
use Rattle.std.specs.Float.Ieee as Ieee
use Rattle.refusal.specs.Verdict.{by, ask, ◌then◌, number_of}
use Rattle.refusal.specs.Checks.{large_enough, within_program, well_formed, within_capacity}
use Rattle.two_time.specs.Calls.{capacity_checks, point_entries, point_checks}
use Rattle.two_time.specs.Computation.{checks}
use Rattle.two_time.specs.Example.{floats}
use Rattle.dyson.specs.Calls.{default_tolerance}
use Rattle.observables.specs.declared.Observed.TheVariants.{Number, NotReal, Refused as NotObserved}
use Rattle.observables.specs.Density.{density}
use Rattle.observables.specs.Calls.{observed, lesser_checks, particle_number}
use Rattle.run_file.specs.Bytes.{little_endian, number}
use Rattle.run_file.specs.File.{table_fits, file_checks}
use Rattle.run_file.specs.Text.{decimal_in, decimal, hex_digit, hexadecimal, line, time_line}
use Rattle.run_file.specs.Program.{run_text, file_text, printed}
use Rattle.run_file.specs.P12.{words, file}

-- the file's own answer for ten words and `rest` bytes more
abbrev answer : List ℕ → ℕ → ℕ
answer table rest = number_of (file_checks (words 4 table ++ replicate rest 0))

-- 39 bytes are 15 before check 1. With 40, N = 1 is 1 and N·n = 18 or 2^32 is 2, though the table fits nothing; then the table is 15. N = 2, n = 1
-- with its table takes 40 + 16 + 3·64 bytes: one byte more or less is 15, and so are a gap, another count and another order.
order : number_of (file_checks (replicate 39 1)) ∷ answer (1 ∷ 1 ∷ replicate 8 0) 0 ∷ answer (2 ∷ 0 ∷ replicate 8 0) 0 ∷ answer (18 ∷ 1 ∷ replicate 8 0) 0 ∷ answer (65536 ∷ 65536 ∷ replicate 8 0) 0
    ∷ answer (2 ∷ 1 ∷ replicate 8 0) 0 ∷ answer (2 ∷ 1 ∷ 40 ∷ 2 ∷ 56 ∷ 8 ∷ 120 ∷ 8 ∷ 184 ∷ 8 ∷ []) 208 ∷ answer (2 ∷ 1 ∷ 40 ∷ 2 ∷ 56 ∷ 8 ∷ 120 ∷ 8 ∷ 184 ∷ 8 ∷ []) 209
    ∷ answer (2 ∷ 1 ∷ 40 ∷ 2 ∷ 56 ∷ 8 ∷ 120 ∷ 8 ∷ 184 ∷ 8 ∷ []) 207 ∷ answer (2 ∷ 1 ∷ 40 ∷ 2 ∷ 57 ∷ 8 ∷ 121 ∷ 8 ∷ 185 ∷ 8 ∷ []) 209
    ∷ answer (2 ∷ 1 ∷ 40 ∷ 2 ∷ 56 ∷ 9 ∷ 120 ∷ 8 ∷ 184 ∷ 8 ∷ []) 208 ∷ answer (2 ∷ 1 ∷ 40 ∷ 2 ∷ 120 ∷ 8 ∷ 56 ∷ 8 ∷ 184 ∷ 8 ∷ []) 208 ∷ []
    ≡ 15 ∷ 1 ∷ 1 ∷ 2 ∷ 2 ∷ 15 ∷ 0 ∷ 15 ∷ 15 ∷ 15 ∷ 15 ∷ 15 ∷ []
unfolding number_of file_checks table_fits little_endian well_formed large_enough within_program ask
order = refl

-- "refused 15"
refused : printed [] ≡ 114 ∷ 101 ∷ 102 ∷ 117 ∷ 115 ∷ 101 ∷ 100 ∷ 32 ∷ 49 ∷ 53 ∷ 10 ∷ []
unfolding printed file_text file_checks table_fits little_endian well_formed large_enough within_program ask line decimal decimal_in
refused = refl

-- little-endian: the bytes of 1.5 give 1.5; P12's file has the number 1 at byte 48
decoded : to_bits binary64 (number 0 (0 ∷ 0 ∷ 0 ∷ 0 ∷ 0 ∷ 0 ∷ 0xf8 ∷ 0x3f ∷ [])) ∷ little_endian 8 48 file ∷ [] ≡ 0x3ff8_0000_0000_0000 ∷ 0x3ff0_0000_0000_0000 ∷ []
unfolding little_endian to_bits Ieee.of_bits
decoded = refl

-- decimal digits; "15 number 7FEFFFFFFFFFFFFF", "2 refused 14", "3 refused 8"
texts : decimal 0 ∷ decimal 10 ∷ decimal 256 ∷ time_line 15 (Number (Ieee.of_bits binary64 0x7fef_ffff_ffff_ffff)) ∷ time_line 2 (NotReal (inf true)) ∷ time_line 3 (NotObserved (by 8)) ∷ []
    ≡ (48 ∷ []) ∷ (49 ∷ 48 ∷ []) ∷ (50 ∷ 53 ∷ 54 ∷ [])
    ∷ (49 ∷ 53 ∷ 32 ∷ 110 ∷ 117 ∷ 109 ∷ 98 ∷ 101 ∷ 114 ∷ 32 ∷ 55 ∷ 70 ∷ 69 ∷ 70 ∷ 70 ∷ 70 ∷ 70 ∷ 70 ∷ 70 ∷ 70 ∷ 70 ∷ 70 ∷ 70 ∷ 70 ∷ 70 ∷ 70 ∷ 10 ∷ [])
    ∷ (50 ∷ 32 ∷ 114 ∷ 101 ∷ 102 ∷ 117 ∷ 115 ∷ 101 ∷ 100 ∷ 32 ∷ 49 ∷ 52 ∷ 10 ∷ []) ∷ (51 ∷ 32 ∷ 114 ∷ 101 ∷ 102 ∷ 117 ∷ 115 ∷ 101 ∷ 100 ∷ 32 ∷ 56 ∷ 10 ∷ []) ∷ []
unfolding time_line line decimal decimal_in hexadecimal hex_digit to_bits Ieee.of_bits
texts = refl

-- G^<(0,0) = i·largest on its diagonal, whose trace is not finite (document 02, L10): "run 2 2", "0 refused 10", "1 number 0000000000000000"
infinite : run_text 2 2 default_tolerance (floats (0 ∷ 0x7fef_ffff_ffff_ffff ∷ 0 ∷ 0 ∷ 0 ∷ 0 ∷ 0 ∷ 0x7fef_ffff_ffff_ffff ∷ replicate 24 0))
    ≡ (114 ∷ 117 ∷ 110 ∷ 32 ∷ 50 ∷ 32 ∷ 50 ∷ 10 ∷ []) ++ (48 ∷ 32 ∷ 114 ∷ 101 ∷ 102 ∷ 117 ∷ 115 ∷ 101 ∷ 100 ∷ 32 ∷ 49 ∷ 48 ∷ 10 ∷ [])
    ++ (49 ∷ 32 ∷ 110 ∷ 117 ∷ 109 ∷ 98 ∷ 101 ∷ 114 ∷ 32 ∷ replicate 16 48) ++ (10 ∷ [])
unfolding checks run_text time_line line decimal decimal_in hexadecimal hex_digit particle_number observed lesser_checks point_checks capacity_checks within_capacity point_entries density
infinite = refl
