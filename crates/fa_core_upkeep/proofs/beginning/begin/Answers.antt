use Rattle.fa_core_state.proofs.Tracked.{inside_empty, listed_empty, tracked_empty}
use Rattle.fa_machine.specs.State.{CalendarState}
use Rattle.fa_machine.specs.Maps.{is_one_of}
use Rattle.std.proofs.Common.{ap, arith, length, rules, subst, sym, ◌∙◌, ◌≤◌}
use Rattle.std.proofs.lemmas.Bool.{false≢true}
use Rattle.fa_core_upkeep.proofs.beginning.begin.Goals as goal

pub returns-clause-fitted : goal.returns-clause-fitted
returns-clause-fitted g c = record {
  behind = search rules;
  spares = search rules;
  stepped = search rules;
  waiting = search rules;
  jobs = search rules;
  asked = search rules;
  synced = search rules;
  last = search rules;
  epoch = search rules;
  flushes = search rules;
  round = search rules;
  buffers = search rules;
  tracked = tracked_empty _ _ _ (ap (λ (x : CalendarState). x.bookings) c.in_ok-bookings.ensures) (search rules) (search rules);
  listed = λ batch page is.
      absurd (false≢true (sym (ap (λ pages. is_one_of pages page) (listed_empty _ (search rules) batch)) ∙ is));
  few = λ batch. subst (λ n. n ≤ 1024) (sym (ap length (listed_empty _ (search rules) batch))) (omega arith);
  inside = inside_empty _ (ap (λ (x : CalendarState). x.bookings) c.in_ok-bookings.ensures) _;
}
