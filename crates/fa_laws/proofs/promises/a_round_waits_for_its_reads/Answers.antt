use Rattle.fa_machine.proofs.Lists.{among-range, any_none}
use Rattle.fa_laws.proofs.Within.{reached_booked}
use Rattle.fa_machine.specs.Reading.{booked}
use Rattle.fa_machine.specs.State.{dies_of}
use Rattle.fa_machine.specs.Turning.{is_read_pending, is_reading, is_round_pending, is_step_pending}
use Rattle.fa_machine.specs.declared.jobs.Flight.{Flight}
use Rattle.fa_machine.specs.declared.places.Booking.{Booking}
use Rattle.fa_machine.specs.declared.refusals.AdvanceRefused.TheVariants.{Idle, Pending as AdvancePending, Spent as AdvanceSpent}
use Rattle.std.proofs.Common.{Bool, None, Option, Some, ap, arith, cond, false, not, refl, sym, true, ◌^◌, ◌∙◌, ◌≡◌}
use Rattle.std.proofs.lemmas.Bool.{or_parts, true≢false}
use Rattle.std.proofs.lemmas.Option.{none-some, same_Some}
use Rattle.std.specs.FinMap.{get, len}
use Rattle.std.specs.List.{list_any}
use Rattle.std.specs.Prelude.{◌&&◌, ◌==◌}
use Rattle.fa_laws.proofs.promises.a_round_waits_for_its_reads.Goals as goal

first_of_three : {R : Type 0} (a b c : Bool) (x y z : R) → cond a (Some x) (cond b (Some y) (cond c (Some z) None)) ≡ None → a ≡ false
first_of_three true b c x y z e = absurd (none-some x (sym e))
first_of_three false b c x y z e = refl

ended_read : (flight : Option Flight) (o : Option Booking) (b : Booking) → o ≡ Some b → is_read_pending flight o ≡ false
    → (b.started ≡ true) × (is_reading flight ≡ false)
ended_read flight None b e pending = absurd (none-some b e)
ended_read flight (Some a) b e pending =
    let parts = or_parts (not a.started) (is_reading flight) pending in
    (ap (λ (k : Booking). k.started) (sym (same_Some a b e)) ∙ not_false_is (a.started) parts.0, parts.1)
  where
    not_false_is : (t : Bool) → not t ≡ false → t ≡ true
    not_false_is true e = refl
    not_false_is false e = absurd (true≢false e)

pub returns : goal.returns
returns c w after round die booking reached happens booked =
    let within = reached_booked c.live_dies_are_kept.ensures c.the_geometry_is_kept.ensures w reached die w.core.calendar.round booking booked in
    let none = first_of_three (list_any (is_round_pending w.core) (dies_of w.core.page_map))
    (len w.core.calendar.bookings == 0 && len w.core.calendar.windows == 0) (w.core.calendar.round == 2 ^ 56) AdvancePending Idle AdvanceSpent
    happens.step.does.0 in
    let here = any_none (is_round_pending w.core) (dies_of w.core.page_map) none die
    (among-range 0 w.core.page_map.geometry.dies die (omega arith) (omega (arith, within))) in
    ended_read (get w.core.jobs die) (get w.core.calendar.bookings (die, w.core.calendar.round)) booking booked
    (or_parts (is_read_pending (get w.core.jobs die) (get w.core.calendar.bookings (die, w.core.calendar.round))) (is_step_pending w.core die) here).0
