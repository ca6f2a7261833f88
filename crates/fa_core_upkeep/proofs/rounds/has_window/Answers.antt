use Rattle.fa_core_bookings.specs.Bookings.{calendar_of}
use Rattle.fa_core_bookings.specs.Found.{past, window_is}
use Rattle.fa_core_state.proofs.Numbers.{no_entry, some_entry}
use Rattle.fa_core_upkeep.proofs.Settled.{looked_on}
use Rattle.fa_types.specs.declared.window.Window.{Window}
use Rattle.std.proofs.Common.{None, Option, Some, ap, arith, false, inl, inr, refl, sym, ◌∙◌, ◌≡◌}
use Rattle.std.proofs.lemmas.Bool.{cases_lt, false≢true}
use Rattle.std.specs.FinMap.{get}
use Rattle.std.specs.Prelude.{is_some, not}
use Rattle.fa_core_upkeep.proofs.rounds.has_window.Goals as goal

pub returns-then-is_some : goal.returns-then-is_some
returns-then-is_some g c =
    let windows = (calendar_of c.args.bookings.now).windows in
    sym (ap not (some_entry windows c.loop-die.die
    (ap is_some (sym c.window.ensures) ∙ sym c.is_some.ensures ∙ c.if-is_some.true)))

pub returns : goal.returns
returns g c =
    let bookings = c.args.bookings.now in
    let all = c.loop-die-test.false in
    sym (ap not (no_entry (calendar_of bookings).windows (λ k. elim (cases_lt k 256) [
      | inl low ↦ c.loop-die.invariant.none k (omega (arith, low, all))
      | inr high ↦ sym (window_is bookings k) ∙ past bookings.calendar k high
    ])))

none_of : (o : Option Window) → is_some o ≡ false → o ≡ None
none_of None is = refl
none_of (Some window) is = absurd (false≢true (sym is))

pub loop-die-init : goal.loop-die-init
loop-die-init g c = record { most = c.busy_from-die.ensures.most; none = λ k low. c.busy_from-die.ensures.windows k (omega arith) low }

pub loop-die-preserved : goal.loop-die-preserved
loop-die-preserved g c =
    let next = c.busy_from-die-in-loop-die in
    record {
      most = next.ensures.most;
      none = looked_on (λ k. get (calendar_of c.args.bookings.now).windows k ≡ None) c.loop-die.die next.result c.loop-die.invariant.none
          (none_of _ (ap is_some (sym c.window.ensures) ∙ sym c.is_some.ensures ∙ c.if-is_some.false))
          next.ensures.windows;
    }
