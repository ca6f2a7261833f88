-- What a Take leaves: the job that it hands out is in flight.
use Rattle.std.proofs.Common.{◌≡◌, ◌∙◌, ℕ, Bool, true, false, List, Option, Some, None, ap, slice_get, slice_set, subst, sym, if◌then◌else◌}
use Rattle.std.specs.Option.{option_map_or}
use Rattle.std.proofs.lemmas.Option.{none-some, same_Some}
use Rattle.std.specs.FinMap.{get}
use Rattle.fa_core_outcome.specs.Outcomes.{outcome_of}
use Rattle.fa_core_outcome.specs.declared.outcome.Outcome.{Outcome as JobOutcome}
use Rattle.fa_image.specs.Image.{ImageAnswer, ImageCall}
use Rattle.fa_machine.proofs.Maps.{get-insert_same}
use Rattle.fa_machine.specs.Cells.{Outcome, is_of_kind}
use Rattle.fa_machine.specs.State.{Core}
use Rattle.fa_machine.specs.Step.{Step, Take}
use Rattle.fa_machine.specs.Taking.{Handed, after_urgent, begins, handed, is_idle, other_job, urgent_job, without_stale_booking}
use Rattle.fa_machine.specs.declared.jobs.Flight.{Flight}
use Rattle.fa_mount.specs.Standings.{place_on}
use Rattle.fa_shared_lock.specs.Locked.{LockedState}
use Rattle.fa_shared_lock.specs.Seats.{number_of}
use Rattle.fa_shared_lock.proofs.Holds.{join_rest}
use Rattle.fa_solo_job.specs.Deeds.{IsForDies, Runs, Stays}
use Rattle.fa_solo_job.specs.Inner.{Does, EndsAt, house_of}
use Rattle.fa_solo_job.specs.declared.inner.Inner.{Inner}
use Rattle.fa_core_outcome.specs.Fits.{IsJobFor}
use Rattle.fa_types.specs.declared.geometry.Geometry.{Geometry}
use Rattle.fa_shared_lock.specs.Rest.{LeavesRest}
use Rattle.fa_jobs.specs.Made.{Ran}

from_begins : (die seat : ℕ) (core : Core) (given : Option Handed) (job : Handed) (new : Core)
    → (Some job, new) ≡ begins die seat core given → get new.jobs die ≡ Some job.flight
from_begins die seat core (Some j) job new e =
    ap (λ (c : Core). get c.jobs die) (ap (λ (p : Option Handed × Core). p.1) e) ∙ get-insert_same core.jobs die j.flight
    ∙ ap (λ (h : Handed). Some h.flight) (sym (same_Some job j (ap (λ (p : Option Handed × Core). p.0) e)))
from_begins die seat core None job new e = absurd (none-some job (sym (ap (λ (p : Option Handed × Core). p.0) e)))

from_urgent : (die seat : ℕ) (core : Core) (urgent : Option Flight) (job : Handed) (new : Core)
    → (Some job, new) ≡ after_urgent die seat core urgent → get new.jobs die ≡ Some job.flight
from_urgent die seat core (Some flight) job new e = from_begins die seat core (Some (handed flight)) job new e
from_urgent die seat core None job new e =
    let left = without_stale_booking die core in from_begins die seat left (other_job left die) job new e

from_idle : (idle : Bool) (die seat : ℕ) (core : Core) (job : Handed) (new : Core)
    → (Some job, new) ≡ (if idle then after_urgent die seat core (urgent_job core die) else (None, core))
    → get new.jobs die ≡ Some job.flight
from_idle true die seat core job new e = from_urgent die seat core (urgent_job core die) job new e
from_idle false die seat core job new e = absurd (none-some job (sym (ap (λ (p : Option Handed × Core). p.0) e)))

pub took_job : (old : Core) (die seat : ℕ) (job : Handed) (new : Core) → Step old (Take die seat (Some job)) new
    → get new.jobs die ≡ Some job.flight
took_job old die seat job new step = from_idle (is_idle old die) die seat old job new step.does

-- what a job ran, by other numbers that are equal
pub ran_by : {I : Type 0} (made : I → ImageCall → ImageAnswer → I → Type 0) (g h : Geometry) (x y : List ℕ) (die : ℕ) (job : Handed)
    (result : JobOutcome) (bytes those : List ℕ) (before after : I) → g ≡ h → x ≡ y → bytes ≡ those
    → Ran made g x die job (outcome_of result bytes) before after → Ran made h y die job (outcome_of result those) before after
ran_by made g h x y die job result bytes those before after shape number same ran =
    subst (λ (b : List ℕ). Ran made h y die job (outcome_of result b) before after) same
    (subst (λ (n : List ℕ). Ran made h n die job (outcome_of result bytes) before after) number
    (subst (λ (s : Geometry). Ran made s x die job (outcome_of result bytes) before after) shape ran))

-- a job that fits, by other numbers that are equal
pub fits_by : (g h : Geometry) (x y : List ℕ) (die : ℕ) (job : Handed) → g ≡ h → x ≡ y → IsJobFor g x die job → IsJobFor h y die job
fits_by g h x y die job shape number fits =
    subst (λ (n : List ℕ). IsJobFor h n die job) number (subst (λ (s : Geometry). IsJobFor s x die job) shape fits)

-- an outcome of a job that is in flight
pub kind_in : (jobs : Option Flight) (flight : Flight) (outcome : Outcome) → jobs ≡ Some flight → is_of_kind flight outcome ≡ true
    → option_map_or (λ (job : Flight). is_of_kind job outcome) jobs false ≡ true
kind_in jobs flight outcome is kind = ap (λ (j : Option Flight). option_map_or (λ (job : Flight). is_of_kind job outcome) j false) is ∙ kind

pub kind_at : (jobs : Option Flight) (flight : Flight) (result : JobOutcome) (bytes those : List ℕ) → jobs ≡ Some flight → bytes ≡ those
    → is_of_kind flight (outcome_of result bytes) ≡ true
    → option_map_or (λ (job : Flight). is_of_kind job (outcome_of result those)) jobs false ≡ true
kind_at jobs flight result bytes those is same kind =
    kind_in jobs flight (outcome_of result those) is (ap (λ (b : List ℕ). is_of_kind flight (outcome_of result b)) (sym same) ∙ kind)

-- the calls of a job leave what is in flight
pub kept_flight : {L M I A : Type 0} (a b : Inner L M I A) (die : ℕ) (flight : Flight)
    → b ≡ record a { images = b.images; scratch = b.scratch; buffer = b.buffer } → get a.locked.core.jobs die ≡ Some flight
    → get b.locked.core.jobs die ≡ Some flight
kept_flight {L} {M} {I} {A} a b die flight rest is = ap (λ (r : Inner L M I A). get r.locked.core.jobs die) rest ∙ is

module _ {L M I A : Type 0} (made : I → ImageCall → ImageAnswer → I → Type 0) where
  -- a Take and what its job ran, up to its Done
  pub does_job : (a t b : Inner L M I A) (die place : ℕ) (job : Handed) → Step a.locked.core (Take die (number_of a.seat) (Some job)) t.locked.core
      → LeavesRest a.locked a.seat t.locked t.seat → place_on a.dies.items die ≡ Some place
      → IsJobFor a.locked.core.page_map.geometry a.locked.number die job
      → t.locked.core.page_map.geometry ≡ a.locked.core.page_map.geometry → t.images.items ≡ a.images.items → t.dies.items ≡ a.dies.items
      → EndsAt made t die place job b → Does made IsForDies a b
  does_job a t b die place job takes left at fits shape images dies ends = record {
    goes = Runs (house_of a) (house_of b) die Stays (record {
      job = job;
      outcome = ends.outcome;
      taken = t.locked.core;
      index = place;
      before = ends.ran.before;
      after = ends.ran.after;
      takes = takes;
      place = at;
      image = ap (λ (x : List I). slice_get x place) (sym images) ∙ ends.ran.image_is;
      fits = fits;
      ran = subst (λ (n : List ℕ). Ran made a.locked.core.page_map.geometry n die job ends.outcome ends.ran.before ends.ran.after)
          (ap (λ (l : LockedState). l.number) left.rest)
          (subst (λ (s : Geometry). Ran made s t.locked.number die job ends.outcome ends.ran.before ends.ran.after) shape ends.ran.ran);
      ends = ends.ends;
      images = ends.ran.images_are ∙ ap (λ (x : List I). slice_set x place ends.ran.after) images;
    });
    left = join_rest left ends.left;
    dies = ends.dies ∙ dies;
  }
