use Rattle.fa_batch_terms.specs.declared.place.Place.{Place}
use Rattle.fa_laws.proofs.Booked.{opened_outside}
use Rattle.fa_machine.proofs.Lists.{all_from_among}
use Rattle.fa_machine.specs.Reading.{released}
use Rattle.fa_types.specs.Windows.{is_in_window}
use Rattle.std.specs.FinMap.{get}
use Rattle.std.proofs.Common.{false, ◌≡◌}
use Rattle.fa_laws.proofs.steps.no_window_is_planned.Goals as goal

pub returns : goal.returns
returns c = record {
  admit = λ old new pages admitted does. all_from_among (λ (x : Place). is_in_window (get old.calendar.windows x.die.0) x.round.0 ≡ false) admitted.planned.places
      (opened_outside old.page_map old.calendar _ admitted.planned does.0.2);
  replan = λ old new batch planned does. all_from_among (λ (x : Place). is_in_window (get old.calendar.windows x.die.0) x.round.0 ≡ false) planned.places
      (opened_outside old.page_map (released batch old.calendar) _ planned does.0.2);
}
