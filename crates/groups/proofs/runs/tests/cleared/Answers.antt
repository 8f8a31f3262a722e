use Rattle.std.specs.Prelude.{is_ok, ◌≡◌, ◌*◌}
use Rattle.lists.specs.Prelude.{refl, sym, ap, ◌∙◌, ℕ, true, replicate, length, length-replicate, rules}
use Rattle.lists.specs.Agreement.{each_all}
use Rattle.complex.specs.Arithmetic.{plus_zero}
use Rattle.block.specs.Zero.{join-replicate}
use Rattle.groups.proofs.runs.tests.cleared.Goals as goal

pub returns : goal.returns
returns c = λ f.
    let x = c.args in let v = 2 * (x.orbitals * x.orbitals) in
    let made = c.by_groups.ensures.fit (λ u. true) (λ u. replicate v plus_zero) f
    record {
      wide = λ u. length-replicate v plus_zero;
      said = λ u places xs ys r post lo hi some most few long.
          let answered : is_ok r ≡ true = search rules in
          let holds : ys.now ≡ replicate (length xs.now) plus_zero = search rules in
          (answered ∙ sym (each_all places (λ p. true) (λ k h. refl)), λ e. holds ∙ ap (λ (k : ℕ). replicate k plus_zero) long ∙ sym (join-replicate places v plus_zero));
    } in
    let yes : c.by_groups.result ≡ true = made.0 ∙ each_all x.count (λ p. true) (λ k h. refl) in
    (yes, made.1 yes ∙ join-replicate x.count v plus_zero ∙ ap (λ (k : ℕ). replicate k plus_zero) (sym f.whole))
