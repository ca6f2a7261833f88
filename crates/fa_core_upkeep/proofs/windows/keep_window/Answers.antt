use Rattle.fa_core_state.specs.Core.{core_of}
use Rattle.fa_core_upkeep.proofs.Windowed.{closed_taken}
use Rattle.fa_types.specs.Windows.{IsFirstWindow}
use Rattle.fa_machine.specs.State.{CalendarState}
use Rattle.fa_core_state.proofs.Fitted.{fitted_calendar}
use Rattle.std.proofs.Common.{Err, ap, refl, subst, sym}
use Rattle.std.specs.Prelude.{is_some}
use Rattle.fa_core_upkeep.proofs.windows.keep_window.Goals as goal

pub returns-in-Ok-clause-window : goal.returns-in-Ok-clause-window
returns-in-Ok-clause-window g c =
    let core = core_of g.M.Map.view c.args.state.now in (
      record { live = c.requires.live; early = c.requires.early; room = c.in-Ok.ensures.fits refl },
      ap is_some c.requires.none,
      subst (λ f. IsFirstWindow core.calendar.round f c.args.rounds c.in-Ok.first.0)
          (closed_taken core.page_map core.calendar c.args.die.0 c.requires.live) c.in-Ok.ensures.first,
      λ i. record core { calendar = c.in-Ok.ensures.windows i },
    )

pub returns-in-Err-NoMemory-clause-window : goal.returns-in-Err-NoMemory-clause-window
returns-in-Err-NoMemory-clause-window g c =
    let core = core_of g.M.Map.view c.args.state.now in (
      record {
        live = c.requires.live;
        early = c.requires.early;
        room = c.in-Err-NoMemory.ensures.no_memory
            (ap Err c.in-Err-NoMemory.field-0-is);
      },
      ap is_some c.requires.none,
      λ i. record core { calendar = c.in-Err-NoMemory.ensures.err i },
    )

pub returns-in-Ok-clause-fitted : goal.returns-in-Ok-clause-fitted
returns-in-Ok-clause-fitted g c = fitted_calendar _ _ c.requires.fitted _ (sym (ap (λ (k : CalendarState). k.round) c.in-Ok.ensures.windows)) (sym (ap (λ (k : CalendarState). k.bookings) c.in-Ok.ensures.windows))

pub returns-in-Err-Full-clause-fitted : goal.returns-in-Err-Full-clause-fitted
returns-in-Err-Full-clause-fitted g c = fitted_calendar _ _ c.requires.fitted _ (sym (ap (λ (k : CalendarState). k.round) c.in-Err-Full.ensures.err)) (sym (ap (λ (k : CalendarState). k.bookings) c.in-Err-Full.ensures.err))

pub returns-in-Err-NoMemory-clause-fitted : goal.returns-in-Err-NoMemory-clause-fitted
returns-in-Err-NoMemory-clause-fitted g c = fitted_calendar _ _ c.requires.fitted _ (sym (ap (λ (k : CalendarState). k.round) c.in-Err-NoMemory.ensures.err)) (sym (ap (λ (k : CalendarState). k.bookings) c.in-Err-NoMemory.ensures.err))
