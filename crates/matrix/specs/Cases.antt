-- Closed cases of the matrix calls. Expected bits by reference/document01.py.
use Rattle.std.specs.Prelude.{Result, Ok, Err, ◌≡◌, ◌∷◌}
use Rattle.lists.specs.Prelude.{refl, true, false, List, [], map, ℕ, take, replicate, nan, inf, binary64, to_bits}
use Rattle.std.specs.Float.Ieee as Ieee
use Rattle.lists.specs.Indexed.{fold, join, all_below}
use Rattle.complex.specs.Arithmetic.{plus_zero, one, real, finite, size, larger, cadd, csub, cmul, conj, cfinite}
use Rattle.complex.specs.Sum.{sum_from, largest_from, largest_in}
use Rattle.norm.specs.Norm.{norm}
use Rattle.refusal.specs.Verdict.{by, ask, ask_all, number_of, measured, decide}
use Rattle.refusal.specs.Checks.{not_empty, within_block, fitting, finite_entries, valid_tolerance, finite_work, orbital_below}
use Rattle.matrix.specs.declared.DenseMatrix.{DenseMatrix}
use Rattle.refusal.specs.declared.Refusal.{Refusal}
use Rattle.block.specs.Block.{lay_out}
use Rattle.matrix.specs.Dense.{block_of, checked}
use Rattle.block.specs.Operations.{product, scaled, added, subtracted, adjoint, identity, trace, matrix_norm_max, all_finite, part_size, part_above, hermitian_within, hermitian}
use Rattle.matrix.specs.Calls.{valued, block_checks, pair_checks, finite_block, from_numbers, from_scalar, zero_of, identity_of, adjoint_of, product_of, scale_of, add_of}
use Rattle.matrix.specs.Calls.{subtract_of, trace_of, max_difference_of, is_hermitian, entry_of}

-- a block of these bit patterns
abbrev block : ℕ → ℕ → List ℕ → DenseMatrix
block rows columns xs = record { rows = rows; columns = columns; values = map (Ieee.of_bits binary64) xs }

-- 0, the shape, and the bits of the first eight numbers; or the refusal's number
abbrev seen : Result DenseMatrix Refusal → List ℕ
seen (Ok x) = 0 ∷ x.rows ∷ x.columns ∷ map (to_bits binary64) (take 8 x.values)
seen (Err r) = r.number ∷ []

-- 1+2i, 3 over -i, 0.5
abbrev x : DenseMatrix
x = block 2 2 (0x3ff0_0000_0000_0000 ∷ 0x4000_0000_0000_0000 ∷ 0x4008_0000_0000_0000 ∷ 0 ∷ 0 ∷ 0xbff0_0000_0000_0000 ∷ 0x3fe0_0000_0000_0000 ∷ 0 ∷ [])

-- 2, i over 1+i, -1
abbrev y : DenseMatrix
y = block 2 2 (0x4000_0000_0000_0000 ∷ 0 ∷ 0 ∷ 0x3ff0_0000_0000_0000 ∷ 0x3ff0_0000_0000_0000 ∷ 0x3ff0_0000_0000_0000 ∷ 0xbff0_0000_0000_0000 ∷ 0 ∷ [])

-- one number
abbrev scalar : ℕ → ℕ → DenseMatrix
scalar a b = block 1 1 (a ∷ b ∷ [])

abbrev most : ℕ
most = 0x7fef_ffff_ffff_ffff

-- x·y, x scaled by 0.25+0i, x + y, x − y
made : map seen (product_of x y ∷ scale_of x (real (Ieee.of_bits binary64 0x3fd0_0000_0000_0000)) ∷ add_of x y ∷ subtract_of x y ∷ []) ≡
    (0 ∷ 2 ∷ 2 ∷ 0x4014_0000_0000_0000 ∷ 0x401c_0000_0000_0000 ∷ 0xc014_0000_0000_0000 ∷ 0x3ff0_0000_0000_0000 ∷ 0x3fe0_0000_0000_0000 ∷ 0xbff8_0000_0000_0000 ∷ 0x3fe0_0000_0000_0000 ∷ 0 ∷ []) ∷
    (0 ∷ 2 ∷ 2 ∷ 0x3fd0_0000_0000_0000 ∷ 0x3fe0_0000_0000_0000 ∷ 0x3fe8_0000_0000_0000 ∷ 0 ∷ 0 ∷ 0xbfd0_0000_0000_0000 ∷ 0x3fc0_0000_0000_0000 ∷ 0 ∷ []) ∷
    (0 ∷ 2 ∷ 2 ∷ 0x4008_0000_0000_0000 ∷ 0x4000_0000_0000_0000 ∷ 0x4008_0000_0000_0000 ∷ 0x3ff0_0000_0000_0000 ∷ 0x3ff0_0000_0000_0000 ∷ 0 ∷ 0xbfe0_0000_0000_0000 ∷ 0 ∷ []) ∷
    (0 ∷ 2 ∷ 2 ∷ 0xbff0_0000_0000_0000 ∷ 0x4000_0000_0000_0000 ∷ 0x4008_0000_0000_0000 ∷ 0xbff0_0000_0000_0000 ∷ 0xbff0_0000_0000_0000 ∷ 0xc000_0000_0000_0000 ∷ 0x3ff8_0000_0000_0000 ∷ 0 ∷ []) ∷ []
unfolding number_of product_of scale_of add_of subtract_of finite_block pair_checks block_checks checked block_of lay_out join not_empty within_block fitting finite_entries finite_work ask ask_all product scaled added subtracted all_finite all_below sum_from fold cadd csub cmul cfinite finite Ieee.of_bits to_bits Ieee.add Ieee.sub Ieee.mul Ieee.neg
made = refl

-- the adjoint conjugates, and gives -0 for the conjugate of a +0; the zero matrix and the identity; a block of numbers is its numbers, then +0; -0+2i
copied : map seen (adjoint_of x ∷ zero_of 2 ∷ identity_of 2 ∷ from_numbers 1 2 (take 4 x.values) ∷ from_scalar (record { re = Ieee.neg plus_zero; im = Ieee.of_bits binary64 0x4000_0000_0000_0000 }) ∷ []) ≡
    (0 ∷ 2 ∷ 2 ∷ 0x3ff0_0000_0000_0000 ∷ 0xc000_0000_0000_0000 ∷ 0 ∷ 0x3ff0_0000_0000_0000 ∷ 0x4008_0000_0000_0000 ∷ 0x8000_0000_0000_0000 ∷ 0x3fe0_0000_0000_0000 ∷ 0x8000_0000_0000_0000 ∷ []) ∷
    (0 ∷ 2 ∷ 2 ∷ 0 ∷ 0 ∷ 0 ∷ 0 ∷ 0 ∷ 0 ∷ 0 ∷ 0 ∷ []) ∷
    (0 ∷ 2 ∷ 2 ∷ 0x3ff0_0000_0000_0000 ∷ 0 ∷ 0 ∷ 0 ∷ 0 ∷ 0 ∷ 0x3ff0_0000_0000_0000 ∷ 0 ∷ []) ∷
    (0 ∷ 1 ∷ 2 ∷ 0x3ff0_0000_0000_0000 ∷ 0x4000_0000_0000_0000 ∷ 0x4008_0000_0000_0000 ∷ 0 ∷ 0 ∷ 0 ∷ 0 ∷ 0 ∷ []) ∷
    (0 ∷ 1 ∷ 1 ∷ 0x8000_0000_0000_0000 ∷ 0x4000_0000_0000_0000 ∷ 0 ∷ 0 ∷ 0 ∷ 0 ∷ 0 ∷ 0 ∷ []) ∷ []
unfolding number_of adjoint_of zero_of identity_of from_numbers from_scalar block_checks checked block_of lay_out join not_empty within_block fitting finite_entries ask ask_all adjoint identity conj finite Ieee.of_bits to_bits Ieee.neg
copied = refl

-- a number's part that is not finite is 7 at position 0 or 1, the real part first; the zero matrix of size 0 is 1, of 17 is 2
refusals : from_scalar (record { re = nan; im = inf true }) ∷ from_scalar (record { re = one; im = inf true }) ∷ zero_of 0 ∷ zero_of 17 ∷ []
    ≡ Err (record { number = 7; operand = 0; first = 0; second = 0; part = plus_zero })
    ∷ Err (record { number = 7; operand = 0; first = 1; second = 0; part = plus_zero })
    ∷ Err (by 1) ∷ Err (by 2) ∷ []
unfolding from_scalar from_numbers zero_of checked not_empty within_block fitting finite_entries ask ask_all finite Ieee.of_bits
refusals = refl

-- -0 by -0 gives +0 in a product, whose sum starts at +0, and the largest by 2 is 10; checks go check by check: 17 by 1 and 0 by 0 is 1
edges : product_of (scalar 0x8000_0000_0000_0000 0) (scalar 0x3ff0_0000_0000_0000 0) ∷ product_of (scalar most 0) (scalar 0x4000_0000_0000_0000 0)
    ∷ product_of (block 17 1 []) (block 0 0 []) ∷ product_of (scalar 0 0) (block 2 1 (0 ∷ 0 ∷ 0 ∷ 0 ∷ [])) ∷ scale_of x (record { re = nan; im = plus_zero })
    ∷ add_of (scalar 0 0) (record { rows = 1; columns = 1; values = plus_zero ∷ inf true ∷ [] }) ∷ []
    ≡ Ok (record { rows = 1; columns = 1; values = plus_zero ∷ plus_zero ∷ replicate 510 plus_zero })
    ∷ Err (by 10) ∷ Err (by 1) ∷ Err (by 3)
    ∷ Err (by 10)
    ∷ Err (record { number = 7; operand = 1; first = 1; second = 0; part = plus_zero }) ∷ []
unfolding product_of add_of scale_of finite_block pair_checks block_checks checked block_of lay_out join not_empty within_block fitting finite_entries finite_work ask ask_all product scaled added all_finite all_below sum_from fold cadd cmul cfinite finite Ieee.of_bits Ieee.add Ieee.sub Ieee.mul Ieee.neg
edges = refl

-- the trace 1.5+2i; the largest twice, in either part, is 10 (document 02, L10); 3 of a block that is not square; 7, not 10, of an infinite entry; entries, and 12 outside
values : trace_of x ∷ trace_of (block 2 2 (most ∷ 0 ∷ 0 ∷ 0 ∷ 0 ∷ 0 ∷ most ∷ 0 ∷ [])) ∷ trace_of (block 2 2 (0 ∷ most ∷ 0 ∷ 0 ∷ 0 ∷ 0 ∷ 0 ∷ most ∷ []))
    ∷ trace_of (block 1 2 (0 ∷ 0 ∷ 0 ∷ 0 ∷ [])) ∷ trace_of (record { rows = 1; columns = 1; values = inf false ∷ plus_zero ∷ [] }) ∷ entry_of x 1 0 ∷ entry_of x 2 0 ∷ entry_of x 0 2 ∷ []
    ≡ Ok (record { re = Ieee.of_bits binary64 0x3ff8_0000_0000_0000; im = Ieee.of_bits binary64 0x4000_0000_0000_0000 }) ∷ Err (by 10) ∷ Err (by 10)
    ∷ Err (by 3) ∷ Err (record { number = 7; operand = 0; first = 0; second = 0; part = plus_zero }) ∷ Ok (record { re = plus_zero; im = Ieee.neg one }) ∷ Err (by 12) ∷ Err (by 12) ∷ []
unfolding trace_of entry_of valued block_checks not_empty within_block fitting finite_entries finite_work orbital_below ask ask_all trace sum_from fold cadd cfinite finite Ieee.of_bits Ieee.add Ieee.neg
values = refl

-- x − y has the entries -1+2i, 3-i, -1-2i, 1.5: the largest norm is that of 3-i
difference : max_difference_of x y ≡ Ok (Ieee.of_bits binary64 0x4009_4c58_3ada_5b53)
unfolding max_difference_of measured pair_checks not_empty within_block fitting finite_entries ask ask_all matrix_norm_max largest_in largest_from fold larger subtracted csub norm finite Ieee.of_bits Ieee.add Ieee.sub Ieee.neg Ieee.ne Ieee.eq Ieee.lt
difference = refl

-- y + adjoint y is Hermitian and x is not; the largest part of 1, 0.5i over 0, 1 is 1, so tolerance 0.5 is just enough; 8; no for 1 by 2
questions : is_hermitian (block 2 2 (0x4010_0000_0000_0000 ∷ 0 ∷ 0x3ff0_0000_0000_0000 ∷ 0 ∷ 0x3ff0_0000_0000_0000 ∷ 0 ∷ 0xc000_0000_0000_0000 ∷ 0 ∷ [])) one
    ∷ is_hermitian x (Ieee.of_bits binary64 0x3fb0_0000_0000_0000)
    ∷ is_hermitian (block 2 2 (0x3ff0_0000_0000_0000 ∷ 0 ∷ 0 ∷ 0x3fe0_0000_0000_0000 ∷ 0 ∷ 0 ∷ 0x3ff0_0000_0000_0000 ∷ 0 ∷ [])) (Ieee.of_bits binary64 0x3fe0_0000_0000_0000)
    ∷ is_hermitian (block 2 2 (0x3ff0_0000_0000_0000 ∷ 0 ∷ 0 ∷ 0x3fe0_0000_0000_0000 ∷ 0 ∷ 0 ∷ 0x3ff0_0000_0000_0000 ∷ 0 ∷ [])) (Ieee.of_bits binary64 0x3fdf_ffff_ffff_ffff)
    ∷ is_hermitian x plus_zero ∷ is_hermitian (block 1 2 (0 ∷ 0 ∷ 0 ∷ 0 ∷ [])) one ∷ []
    ≡ Ok true ∷ Ok false ∷ Ok true ∷ Ok false ∷ Err (by 8) ∷ Ok false ∷ []
unfolding is_hermitian decide block_checks not_empty within_block fitting finite_entries valid_tolerance ask ask_all hermitian hermitian_within part_above part_size all_below largest_in largest_from fold larger csub conj size finite Ieee.of_bits Ieee.add Ieee.sub Ieee.neg Ieee.mul Ieee.ne Ieee.eq Ieee.lt
questions = refl
