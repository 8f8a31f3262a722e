-- The names of the program logic that nearly every file uses, beside the library's operators, passed on so that a file brings them in by one line:
-- booleans, numbers, lists, binary64, and the rule sets of proofs.
pub use Rattle.std.proofs.Common.{◌∙◌, ap, ap₂, subst, sym, append_assoc, append-nil, true≢false, inl, inr, ⊎_elim, add_assoc, add_comm, add-le-add, add-mul, add-suc, add-zero, div-add-mod', div-le_self, div-lt_iff_lt-mul, div-mul-le_self, div-one, eq-or-lt_of_le, eq-zero-or-pos, le-add_right, le_antisymm, le-div_iff_mul-le, le_of_eq, le_of_lt, le_of_mul-le-mul_right, le_of_suc-le-suc, le_refl, le_trans, lt_irrefl, lt_of_le_of_lt, lt_of_lt_of_le, lt_of_mul-lt-mul_right, lt_of_not-le, lt-suc_self, mod-eq_of_lt, mod-lt, mul-add, mul_assoc, mul_comm, mul-div_cancel, mul-le-mul, mul-le-mul_left, mul-le-mul_right, mul_left_comm, mul-lt-mul_of_pos_right, mul-one, mul-pos, mul-zero, not-le_of_lt, not-suc-le-zero, one-mul, pow-suc, suc-add, suc-mul, suc-ne-zero, zero-add, zero-lt-suc, zero-mul, arith, add-one, drop_of_length-le, length-append, length-drop, length-set, length-take, eqb→eq, leb→le, lit<, lit≤, ltb→lt, lt→ltb, nltb→le, pow-add, pow_mono, pow_pos, shl_exact, shl_lt, shr_lt, drop_at, drop-drop, ext_get_or, get_or-append-add, get_or-drop, get_or-set_other, get_or-set_same, get_or-take, length-take-le, take_all, take_at, take-suc, rules, eq-eqb, eqb-true, le-leb, le-ltb, leb-false, leb-true, lt-ltb, ltb-false, ltb-true, ne_eqb}
pub use Rattle.std.specs.Prelude.{refl, List, [], map, Bool, cond, false, not, true, Float, drop, get_or, length, replicate, set, take, T, eqb, leb, ltb, negsuc, pos, ℤ}
pub use Rattle.std.specs.Bool.{beq}
pub use Rattle.std.proofs.Math.Bool.{and_assoc, and-false, and-true}
pub use Rattle.std.proofs.Math.Logic.{⊎_map}
pub use Prim.Native.Nat.Ordering.{eq as ordering_eq}
pub use Prim.Native.Nat.Ordering.{gt as ordering_gt}
pub use Prim.Native.Nat.Ordering.{lt as ordering_lt}
pub use Prim.Native.Nat.{Ordering, compare, max, min, suc, zero, zero-le, ℕ}
pub use Rattle.std.proofs.Math.Nat.{add-mul-div_right, div-div-eq-div-mul, le_of_mul-le-mul_left, lt-div-mul-add, min-eq_left, min-eq_right, min-le_right, mod-le, mul-add-mod_self_right, mul-mod_left, one-le-pow, pow-le-pow_right, pow-succ', pow-zero, sub-zero, suc_inj, suc-sub-suc, zero-sub}
pub use Rattle.std.proofs.Math.Decide.{dec_le, dec_lt}
pub use Rattle.std.specs.Float.Ieee.{below, down, level, low, nan_bits, nearest, odd, prec, round, up}
pub use Rattle.std.specs.Float.{binary64, fin, inf, nan}
unfoldable pub use Rattle.std.specs.Float.Ieee.{div, eq, fits, is_nan, le, lt, ne, neg, of_bits, of_fields, size, to_bits, units}
pub use Rattle.std.proofs.Math.ListN.{get_or-append, get_or-eq_default}
pub use Rattle.std.proofs.lemmas.List.{get_or-replicate, length-replicate, replicate-append-replicate}
pub use Rattle.std.proofs.Math.Dec.{eqb_refl, compare_is_eq, is_le, nleb→lt}
pub use Rattle.std.proofs.Math.Pow.{add-lt-pow, pow-lt, split}
pub use Rattle.std.proofs.lemmas.Nat.{shl-shr, shr_le}
pub use Rattle.std.proofs.Math.Arith.{digits_div, digits_lt, digits_mod, le→nltb, lt_of_le-ne, mod-mul}
pub use Rattle.std.proofs.Math.Seq.{take-length}
pub use Rattle.std.proofs.lemmas.Bool.{eqb-false, lt-leb, not-false, not-true}
pub use Rattle.std.specs.Borrow.{Bor, MutBor}
pub use borrow.Rule.Slice.PartMut.{mid_len, mid_of, post_of, put_same, put_mid, same_len_mid}
