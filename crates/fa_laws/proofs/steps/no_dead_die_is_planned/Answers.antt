use Rattle.fa_batch_terms.specs.declared.place.Place.{Place}
use Rattle.fa_laws.proofs.Booked.{opened_live}
use Rattle.fa_machine.proofs.Lists.{all_from_among}
use Rattle.fa_machine.specs.Reading.{released}
use Rattle.fa_machine.specs.State.{is_live}
use Rattle.std.proofs.Common.{true, ◌≡◌}
use Rattle.fa_laws.proofs.steps.no_dead_die_is_planned.Goals as goal

pub returns : goal.returns
returns c = record {
  admit = λ old new pages admitted does. all_from_among (λ (x : Place). is_live old.page_map x.die.0 ≡ true) admitted.planned.places
      (opened_live old.page_map old.calendar _ admitted.planned does.0.2);
  replan = λ old new batch planned does. all_from_among (λ (x : Place). is_live old.page_map x.die.0 ≡ true) planned.places
      (opened_live old.page_map (released batch old.calendar) _ planned does.0.2);
}
