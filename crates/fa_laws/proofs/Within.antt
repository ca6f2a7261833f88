-- Live dies are dies of the array, and so are those that have a booking.
use Rattle.fa_laws.proofs.Booked.{Good, MayPlan, opened_live}
use Rattle.fa_laws.proofs.Failing.{LiveLaw}
use Rattle.fa_laws.proofs.InTimes.{begins_good, call_good, event_good}
use Rattle.fa_machine.proofs.Maps.{get-insert_other, get-remove_some, has_some}
use Rattle.fa_laws.proofs.Ranged.{calls_core}
use Rattle.fa_laws.proofs.Returning.{finished_live}
use Rattle.fa_laws.proofs.Runs.{run_keeps}
use Rattle.fa_laws.specs.Reached.{IsReached}
use Rattle.fa_machine.specs.Cells.{Outcome}
use Rattle.fa_machine.specs.Maps.{Numbers}
use Rattle.fa_machine.specs.Reading.{released}
use Rattle.fa_machine.specs.Run.{Event, Happening, Happens, ImageCall}
use Rattle.fa_machine.specs.State.{Core, is_live}
use Rattle.fa_machine.specs.Step.{Act, Admit, Done, Replan, SpareIn, Step}
use Rattle.fa_machine.specs.Taking.{EndsJob}
use Rattle.fa_machine.specs.World.{World}
use Rattle.fa_machine.specs.declared.jobs.Flight.{Flight}
use Rattle.fa_machine.specs.declared.places.Booking.{Booking}
use Rattle.fa_machine.specs.declared.refusals.SpareRefused.TheVariants.{NotSpare}
use Rattle.fa_types.specs.declared.geometry.Geometry.{Geometry}
use Rattle.std.proofs.Common.{None, Option, Some, ap, inl, inr, refl, subst, sym, true, ℕ, ◌<◌, ◌∙◌, ◌≡◌}
use Rattle.std.proofs.lemmas.Bool.{cases_eq, ltb-true}
use Rattle.std.specs.FinMap.{contains_key, get, insert, remove}
use Rattle.std.specs.Prelude.{Err, Ok, is_some}

abbrev pub Inside : Core → Type 0
Inside core = (d : ℕ) → is_live core.page_map d ≡ true → d < core.page_map.geometry.dies

abbrev pub GeometryLaw : Type 0
GeometryLaw = (old new : Core) (act : Act) → Step old act new → new.page_map.geometry ≡ old.page_map.geometry

was_there : (live : Numbers) (out d : ℕ) → contains_key (remove live out) d ≡ true → contains_key live d ≡ true
was_there live out d is =
    let some = has_some (get (remove live out) d) is in
    ap is_some (get-remove_some live out d some.0 some.1).0

done_inside : (old new : Core) (out : ℕ) (flight : Option Flight) (outcome : Outcome) → EndsJob old out flight outcome new
    → (d : ℕ) → is_live new.page_map d ≡ true → is_live old.page_map d ≡ true
done_inside old new out None outcome ends d is = absurd ends
done_inside old new out (Some flight) outcome ends d is =
    let now = sym (ap (λ (c : Core). is_live c.page_map d) ends) ∙ is in
    elim (finished_live out flight outcome (record old { jobs = remove old.jobs out })) [
      | inl kept ↦ sym (ap (λ (m : Numbers). contains_key m d) kept) ∙ now
      | inr left ↦ was_there old.page_map.live out d (sym (ap (λ (m : Numbers). contains_key m d) left) ∙ now)
    ]

stays_inside : LiveLaw → GeometryLaw → (old new : Core) (act : Act) → Step old act new → Inside old → Inside new
stays_inside lives same old new act step h d is = subst (λ (g : Geometry). d < g.dies) (sym (same old new act step)) (by_act act step)
  where
    by_act : (act : Act) → Step old act new → d < old.page_map.geometry.dies
    by_act (Done out outcome) step = h d (done_inside old new out (get old.jobs out) outcome step.does d is)
    by_act (SpareIn die (Ok made)) step =
        elim (cases_eq d die) [
          | inl at ↦ subst (λ n. n < old.page_map.geometry.dies) (sym at) (ltb-true die old.page_map.geometry.dies step.allows)
          | inr apart ↦ h d (sym (get-live die apart) ∙ sym (ap (λ (c : Core). is_live c.page_map d) step.does.1) ∙ is)
        ]
      where
        get-live : (die : ℕ) → (d ≡ die → ⊥) → contains_key (insert old.page_map.live die tt) d ≡ is_live old.page_map d
        get-live die apart = ap is_some (get-insert_other old.page_map.live die tt d apart)
    by_act (SpareIn die (Err NotSpare)) step = h d (sym (ap (λ (c : Core). is_live c.page_map d) step.does.1) ∙ is)
    by_act act step = h d (sym (ap (λ (m : Numbers). contains_key m d) (lives old new act step)) ∙ is)

happens_inside : LiveLaw → GeometryLaw → (before : World) (happening : Happening) (after : World) → Inside before.core
    → Happens before happening after → Inside after.core
happens_inside lives same before (Event act) after h happens = stays_inside lives same before.core after.core act happens.step h
happens_inside lives same before (ImageCall die gave) after h happens =
    subst Inside (sym (calls_core before after die (before.works die) gave happens)) h

pub reached_inside : LiveLaw → GeometryLaw → (w : World) → IsReached w → Inside w.core
reached_inside lives same w r = run_keeps (λ (v : World). Inside v.core) (happens_inside lives same) r.first r.happenings w r.beginning.live r.run

-- each booking is of a die of so many, and each live die is one of them
record Booked (n : ℕ) (w : World) : Type 0 where
  good : Good (λ d r batch. d < n) w.core
  inside : Inside w.core
  many : w.core.page_map.geometry.dies ≡ n

-- a die on which a plan reads is live
plans_inside : (core : Core) (n : ℕ) → Inside core → core.page_map.geometry.dies ≡ n → (act : Act) (new : Core) → Step core act new
    → MayPlan (λ d r batch. d < n) act
plans_inside core n h many (Admit pages (Ok admitted)) new step = λ x among.
    subst (λ k. x.die.0 < k) many (h x.die.0 (opened_live core.page_map core.calendar _ admitted.planned step.does.0.2 x among))
plans_inside core n h many (Replan batch (Ok planned)) new step = λ x among.
    subst (λ k. x.die.0 < k) many (h x.die.0 (opened_live core.page_map (released batch core.calendar) _ planned step.does.0.2 x among))
plans_inside core n h many act new step = tt

happens_booked : LiveLaw → GeometryLaw → (n : ℕ) (before : World) (happening : Happening) (after : World) → Booked n before
    → Happens before happening after → Booked n after
happens_booked lives same n before (Event act) after b happens = record {
  good = event_good (λ d r batch. d < n) before.core act after.core happens.step.allows happens.step.does b.good
      (plans_inside before.core n b.inside b.many act after.core happens.step);
  inside = stays_inside lives same before.core after.core act happens.step b.inside;
  many = ap (λ (g : Geometry). g.dies) (same before.core after.core act happens.step) ∙ b.many;
}
happens_booked lives same n before (ImageCall die gave) after b happens =
    let kept = calls_core before after die (before.works die) gave happens in
    record {
      good = call_good (λ d r batch. d < n) before after die (before.works die) gave happens b.good;
      inside = subst Inside (sym kept) b.inside;
      many = ap (λ (c : Core). c.page_map.geometry.dies) kept ∙ b.many;
    }

pub reached_booked : LiveLaw → GeometryLaw → (w : World) → IsReached w → (d r : ℕ) (b : Booking)
    → get w.core.calendar.bookings (d, r) ≡ Some b → d < w.core.page_map.geometry.dies
reached_booked lives same w reached d r b e =
    let n = reached.first.core.page_map.geometry.dies in
    let all = run_keeps (Booked n) (happens_booked lives same n) reached.first reached.happenings w
    (record { good = begins_good (λ d r batch. d < n) reached.first reached.beginning; inside = reached.beginning.live; many = refl }) reached.run in
    subst (λ k. d < k) (sym all.many) (all.good.all d r b e)
