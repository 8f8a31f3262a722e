use Rattle.std.specs.Prelude.{◌≡◌, ◌+◌, ◌*◌, ◌^◌}
use Rattle.lists.specs.Prelude.{refl, subst, ℕ, le_antisymm, lt_of_lt_of_le, mul-one, arith, lit≤, digits_lt, pow_mono, shr_lt}
use Rattle.norm.specs.Words.{read}
use Rattle.norm.proofs.Root.{next-digits, word_read, root-small}
use Rattle.norm.proofs.square_root.read_word.Goals as goal

pub loop-init : goal.loop-init
loop-init c = (omega arith, c.requires.0, mul-one (read c.args.s * 2 ^ 64 + c.args.word))

pub read_digits-r-requires : goal.read_digits-r-requires
read_digits-r-requires c =
    let v = c.loop.invariant in
    let r = c.loop.r in
    let small = root-small (read c.args.s * 2 ^ 64 + c.args.word) (read r) c.loop.left c.loop.counter r.root r.rest v.0 v.2 refl (digits_lt c.requires.1 c.ranges.word.fits) in
    (v.1, lt_of_lt_of_le small (pow_mono (lit≤ {m = 81} {n = 82} tt)), shr_lt 2 62 c.loop.auto.left-fits.fits)

pub loop-preserved : goal.loop-preserved
loop-preserved c =
    let r = c.read_digits-r.result in (
      omega (arith, c.loop-test.true),
      c.read_digits-r.ensures.little,
      next-digits (read c.args.s * 2 ^ 64 + c.args.word) (read c.loop.r) c.loop.left c.loop.counter (read r) c.loop.invariant.2 c.read_digits-r.ensures.value,
    )

pub returns : goal.returns
returns c =
    let N = read c.args.s * 2 ^ 64 + c.args.word in
    let all : c.loop.counter ≡ 32 = le_antisymm c.loop.invariant.0 c.loop-test.false in
    record {
      value = word_read N (read c.loop.r) c.loop.left c.loop.auto.left-fits.fits (subst (λ (i : ℕ). N * 4 ^ i ≡ read c.loop.r * 2 ^ 64 + c.loop.left) all c.loop.invariant.2);
      little = c.loop.invariant.1;
    }
