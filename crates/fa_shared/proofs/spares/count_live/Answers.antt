use Rattle.std.proofs.Common.{◌≡◌, ◌∙◌, ◌+◌, Bool, ap, arith, cond, false, sym, true, ℕ}
use Rattle.std.specs.List.{count_by}
use Rattle.fa_machine.specs.Maps.{below}
use Rattle.fa_machine.specs.State.{is_live}
use Rattle.fa_map_calls.proofs.Ranges.{count_more}
use Rattle.fa_shared.proofs.spares.count_live.Goals.{then-is_live, else-is_live}
use Rattle.fa_shared.proofs.spares.count_live.Goals as goal

abbrev bit : Bool → ℕ
bit b = cond b 1 0

counted : (f : ℕ → Bool) (n live next : ℕ) (b : Bool) → f n ≡ b → live ≡ count_by f (below n) → next ≡ live + bit b
    → next ≡ count_by f (below (n + 1))
counted f n live next b is here e =
    let same : n ≡ 0 + n = omega arith in e ∙ (λ i. here i + bit (sym is i)) ∙ ap (λ k. count_by f (below n) + bit (f k)) same ∙ sym (count_more f 0 n)

pub loop-die-preserved : goal.loop-die-preserved
loop-die-preserved g c =
    let m = (g.E.Looks.core c.args.array.now).page_map in
    let here = c.loop-die.invariant.count in let low = c.loop-die.invariant.most in elim c.if-is_live.branch [
      | then-is_live w ↦ record {
        count = counted (is_live m) c.loop-die.die _ _ true (sym c.is_live.ensures ∙ w.if-is_live.true) here (omega (arith, w.live-is));
        most = omega (arith, low, w.live-is);
      }
      | else-is_live w ↦ record {
        count = counted (is_live m) c.loop-die.die _ _ false (sym c.is_live.ensures ∙ w.if-is_live.false) here (omega (arith, w.live-is));
        most = omega (arith, low, w.live-is);
      }
    ]
