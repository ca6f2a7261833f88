use Rattle.std.proofs.Common.{ap, arith, rules}
use Rattle.fa_machine.specs.State.{MapState}
use Rattle.fa_core_upkeep.proofs.copying.copy_to.Goals as goal

pub returns-clause-fitted : goal.returns-clause-fitted
returns-clause-fitted g c =
    let fit = c.requires.fitted in record {
      behind = search rules;
      spares = search rules;
      stepped = search rules;
      waiting = search rules;
      jobs = search rules;
      asked = search rules;
      synced = search rules;
      last = search rules;
      epoch = search rules;
      flushes = search rules;
      round = search rules;
      buffers = search rules;
      tracked = search rules;
      listed = λ batch page is.
          let low = fit.listed batch page is in let same = ap (λ (m : MapState). m.geometry.pages) c.reserve_slot.ensures in
          omega (arith, low, same);
      few = search rules;
      inside = search rules;
    }
