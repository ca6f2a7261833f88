use Rattle.fa_core.proofs.Whole.{begun_history, begun_sound}
use Rattle.fa_core_state.proofs.Numbers.{below_bound}
use Rattle.fa_core_state.specs.Begun.{begun}
use Rattle.fa_laws.specs.Counted.{HasHistory}
use Rattle.fa_machine.specs.State.{Core, MapState}
use Rattle.fa_sound.specs.Ready.{AreReady}
use Rattle.fa_sound.specs.Sound.{IsSound}
use Rattle.fa_set.specs.Members.{members}
use Rattle.std.proofs.Common.{ap, arith, subst, sym, ◌∙◌}
use Rattle.fa_machine.specs.Reading.{zeros}
use Rattle.fa_core.proofs.array.Array.new.Goals as goal

pub returns-clause-whole : goal.returns-clause-whole
returns-clause-whole g c =
    let m = g.M.Map.view c.args.page_map in
    let is = c.in_ok-state.ensures.begun in record {
      sound = subst IsSound (sym is)
          (let number = c.args.copies.two_or_three in
          begun_sound c.args.copies.number m c.args.epoch (members c.args.spares) c.args.last.0 (g.met.M.Map.whole c.args.page_map)
          c.requires.numbers number.0 number.1 c.requires.enough
          (λ die in_it. let low = below_bound c.args.spares.bound c.args.spares.low.items die in_it in let same = c.requires.spares in
          omega (arith, low, same)) c.requires.apart);
      ready = subst AreReady (sym is) (record { programs = λ program among. absurd among; epoch = c.requires.first });
      fitted = c.in_ok-state.ensures.fitted;
      history = subst HasHistory (sym is)
          (begun_history c.args.copies.number m c.args.epoch (members c.args.spares) c.args.last.0);
      zeros = c.in_ok-zeros.ensures ∙ sym (ap (λ (k : Core). zeros k.page_map) is);
    }
