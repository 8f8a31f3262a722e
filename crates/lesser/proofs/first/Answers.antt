-- The part of the slice that a block takes holds the product.
use Rattle.std.specs.Prelude.{◌≡◌, ◌*◌, ◌≤◌}
use Rattle.lists.specs.Prelude.{refl, sym, ◌∙◌, arith, lt-ltb, length-take-le}
use Rattle.two_time.specs.Outcome.{flagged}
use Rattle.two_time.specs.Places.{product-most}
use Rattle.two_time.specs.SizeChecks.{sizes-passed}
use Rattle.groups.specs.Steps.{put_long}
use Rattle.lesser.specs.Rows.{first_part}
use Rattle.lesser.proofs.first.Goals as goal

pub overflow_mul-block : goal.overflow_mul-block
overflow_mul-block c = let z = sizes-passed _ _ _ _ c.requires.1 in let b = product-most c.args.orbitals c.args.orbitals z.orbitals-most z.orbitals-most in omega arith

pub overflow_mul-block-2 : goal.overflow_mul-block-2
overflow_mul-block-2 c = let z = sizes-passed _ _ _ _ c.requires.1 in let b = product-most c.args.orbitals c.args.orbitals z.orbitals-most z.orbitals-most in omega arith

pub slice_bounds-first_factor-end : goal.slice_bounds-first_factor-end
slice_bounds-first_factor-end c = let z = sizes-passed _ _ _ _ c.requires.1 in let b = product-most c.args.orbitals c.args.orbitals z.orbitals-most z.orbitals-most in let l = c.requires.3 in omega arith

pub slice_bounds-first_factor-end-2 : goal.slice_bounds-first_factor-end-2
slice_bounds-first_factor-end-2 c = let z = sizes-passed _ _ _ _ c.requires.1 in let b = product-most c.args.orbitals c.args.orbitals z.orbitals-most z.orbitals-most in let l = c.requires.3 in sym (length-take-le (2 * (c.args.orbitals * c.args.orbitals)) c.args.filled.now (omega arith))

pub returns : goal.returns
returns c =
    let x = c.args in
    let z = sizes-passed _ _ _ _ c.requires.1 in
    let b = product-most x.orbitals x.orbitals z.orbitals-most z.orbitals-most in
    let l = c.requires.3 in
    let v = 2 * (x.orbitals * x.orbitals) in
    let said = first_part x.capacity x.orbitals x.retarded.now x.g0.now x.t x.filled.now (flagged _ _ _ _ (rw (lt-ltb _ _ c.requires.0, c.requires.2)) c.requires.1) (omega arith) v refl
    c.first_factor.ensures.0 c.first_factor.ensures.1 c.is_ok.result c.is_ok.ensures.value in
    (said.0, put_long 0 v x.filled.now c.first_factor.new.out (omega arith) c.first_factor.auto.out ∙ l, said.1)
