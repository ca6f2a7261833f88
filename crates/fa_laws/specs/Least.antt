-- What an accepted plan has to be: one of so few rounds as any, and shown to be so.
use Rattle.std.specs.Prelude.{ℕ, List, Ok}
use Rattle.fa_batch_terms.specs.Certificate.{IsCertificate, IsLeast}
use Rattle.fa_machine.specs.Reading.{Planned, entries_for, to_read, left_of, released}
use Rattle.fa_machine.specs.Rounds.{is_closed}
use Rattle.fa_machine.specs.State.{Core, MapState, CalendarState}
use Rattle.fa_machine.specs.Step.{Act, Admit, Replan}

-- A plan of these pages, each at a die that holds it, in rounds that are open: no plan has fewer rounds, and it carries
-- what shows that.
pub record IsLeastPlan (m : MapState) (calendar : CalendarState) (pages : List ℕ) (planned : Planned) : Type 0 where
  pub certificate : IsCertificate (entries_for m pages) calendar.round (is_closed m calendar) planned.rounds planned.places planned.shortage
  pub least : IsLeast (entries_for m pages) calendar.round (is_closed m calendar) planned.rounds

-- An accepted Admit plans its pages that have bytes, against the state before it. An accepted Replan plans what is left of
-- the batch; the batch's own bookings that were not started do not count.
abbrev pub PlansLeast : Core → Act → Type 0
PlansLeast core (Admit pages (Ok admitted)) = IsLeastPlan core.page_map core.calendar (to_read core.page_map pages) admitted.planned
PlansLeast core (Replan batch (Ok planned)) = IsLeastPlan core.page_map (released batch core.calendar) (left_of core batch) planned
PlansLeast core act = Unit {0}
