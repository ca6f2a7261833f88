-- The deeds of a store of one thread drive its array.
use Rattle.fa_solo_laws.specs.Driving.{IsDeedOf, IsForCopy, IsForRead, IsPlain, StandsFor, image_on}
use Rattle.fa_mount_headers.specs.declared.judging.Standing.{Standing}
use Rattle.fa_image.specs.Image.{ImageAnswer, ImageCall}
use Rattle.fa_laws.proofs.Within.{GeometryLaw}
use Rattle.fa_machine.specs.State.{Core}
use Rattle.fa_machine.specs.Step.{Act, Admit, Advance, CommitCopy, Done, EndBatch, Fold, ReserveCopy, Step, Take, Window}
use Rattle.fa_machine.specs.World.{Work, with_value}
use Rattle.fa_machine.specs.declared.refusals.CommitCopyRefused.TheVariants.{Pending}
use Rattle.fa_mount.specs.Standings.{AreApart, place_on}
use Rattle.fa_mount_close_laws.proofs.DrivenRuns.{job_drives}
use Rattle.fa_mount_close_laws.proofs.JobCalls.{value_here, value_other}
use Rattle.fa_mount_close_laws.specs.Drives.{Drive, Driven, Drives, HasEvent, IsOwed, MakesCall, MakesEvent, OnlyMade, acts_of, told_by, works_after}
use Rattle.fa_solo_job.specs.Deeds.{Goes, IsForDies, IsForOrder, IsForRequests, Makes, MakesJob, Runs, Stays}
use Rattle.fa_solo_job.proofs.Chains.{awaits_goes, goes_more, goes_wider}
use Rattle.fa_solo_job.specs.House.{House}
use Rattle.fa_solo_job.specs.Orders.{Commits, Endless, IsOver, Looks, NoLook, OneMore, ReadsPage, Settles}
use Rattle.fa_core_outcome.specs.Fits.{IsJobFor}
use Rattle.fa_types.specs.declared.geometry.Geometry.{Geometry}
use Rattle.fa_jobs.specs.Made.{Ran}
use Rattle.std.proofs.Common.{List, None, Ok, Err, Option, Some, [], ap, inl, inr, map, refl, slice_get, slice_set, subst, suc, sym, zero, ℕ}
use Rattle.std.proofs.Common.{◌++◌, ◌∙◌, ◌∷◌, ◌≡◌}
use Rattle.std.proofs.lemmas.Bool.{cases_eq}
use Rattle.std.specs.List.{AllByRecursion}
use Rattle.std.specs.Prelude.{option_and_then}

-- the list with another element at a place
pub got_here : {X : Type 0} (xs : List X) (i : ℕ) (old new : X) → slice_get xs i ≡ Some old → slice_get (slice_set xs i new) i ≡ Some new
got_here [] i old new is = absurd (let none : None ≡ Some old = is in cc)
got_here (x ∷ xs) zero old new is = refl
got_here (x ∷ xs) (suc i) old new is = got_here xs i old new is

pub got_other : {X : Type 0} (xs : List X) (i j : ℕ) (new : X) → (j ≡ i → ⊥) → slice_get (slice_set xs i new) j ≡ slice_get xs j
got_other [] i j new apart = refl
got_other (x ∷ xs) zero zero new apart = absurd (apart refl)
got_other (x ∷ xs) zero (suc j) new apart = refl
got_other (x ∷ xs) (suc i) zero new apart = refl
got_other (x ∷ xs) (suc i) (suc j) new apart = got_other xs i j new (λ e. apart (ap suc e))

pub dies_plain : (act : Act) → IsForDies act → IsPlain act
dies_plain (Take die seat None) may = tt
dies_plain (Take die seat (Some job)) may = absurd may
dies_plain (Done die outcome) may = absurd may
dies_plain (ReserveCopy page seq payload (Ok done)) may = absurd may
dies_plain act may = tt

pub requests_plain : (act : Act) → IsForRequests act → IsPlain act
requests_plain (Take die seat None) may = tt
requests_plain (Take die seat (Some job)) may = absurd may
requests_plain (Done die outcome) may = absurd may
requests_plain (ReserveCopy page seq payload (Ok done)) may = absurd may
requests_plain act may = tt

pub order_plain : (act : Act) → IsForOrder act → IsPlain act
order_plain (Take die seat None) may = tt
order_plain (Take die seat (Some job)) may = absurd may
order_plain (Done die outcome) may = absurd may
order_plain (ReserveCopy page seq payload (Ok done)) may = absurd may
order_plain act may = tt

pub read_plain : (act : Act) → IsForRead act → IsPlain act
read_plain (Take die seat None) may = tt
read_plain (Take die seat (Some job)) may = absurd may
read_plain (Done die outcome) may = absurd may
read_plain (ReserveCopy page seq payload (Ok done)) may = absurd may
read_plain act may = tt

pub copy_plain : (act : Act) → IsForCopy act → IsPlain act
copy_plain (Take die seat None) may = tt
copy_plain (Take die seat (Some job)) may = absurd may
copy_plain (Done die outcome) may = absurd may
copy_plain (ReserveCopy page seq payload (Ok done)) may = absurd may
copy_plain act may = tt

for_copy : (act : Act) → IsForDies act → IsForCopy act
for_copy (Take die seat None) may = may
for_copy (Window die rounds answer) may = may
for_copy (Advance answer) may = may
for_copy Fold may = may
for_copy act may = absurd may

for_read : (act : Act) → IsForDies act → IsForRead act
for_read (Take die seat None) may = may
for_read (Window die rounds answer) may = may
for_read (Advance answer) may = may
for_read Fold may = may
for_read act may = absurd may

plain_owed : {I : Type 0} (act : Act) (s : Driven I) → IsPlain act → IsOwed s act
plain_owed (Done die outcome) s plain = absurd plain
plain_owed (ReserveCopy page seq payload (Ok done)) s plain = absurd plain
plain_owed (ReserveCopy page seq payload (Err refused)) s plain = tt
plain_owed act s plain = tt

plain_works : (act : Act) (works : ℕ → Option Work) → IsPlain act → works_after act works ≡ works
plain_works (Take die seat None) works plain = refl
plain_works (Take die seat (Some job)) works plain = absurd plain
plain_works (Done die outcome) works plain = absurd plain
plain_works act works plain = refl

acts_of_calls : (die : ℕ) {G : Type 0} (gave : List G) (rest : List Drive) → acts_of (map (λ g. MakesCall die) gave ++ rest) ≡ acts_of rest
acts_of_calls die [] rest = refl
acts_of_calls die (g ∷ gave) rest = acts_of_calls die gave rest

acts_of_both : (drives rest : List Drive) (P : Act → Type 0) → AllByRecursion P (acts_of drives) → AllByRecursion P (acts_of rest)
    → AllByRecursion P (acts_of (drives ++ rest))
acts_of_both [] rest P all more = more
acts_of_both (MakesEvent act ∷ drives) rest P all more = (all.0, acts_of_both drives rest P all.1 more)
acts_of_both (MakesCall die ∷ drives) rest P all more = acts_of_both drives rest P all more
acts_of_both (drive ∷ drives) rest P all more = acts_of_both drives rest P all more

-- a page that is read, and a copy that is seen through, as deeds
module _ {I : Type 0} (made : I → ImageCall → ImageAnswer → I → Type 0) (array : List ℕ) (dies : List Standing) (seat : ℕ) where
  pub reads_goes : (old new : House I) → ReadsPage made array dies seat old new → Goes made array dies seat IsForRead old new
  reads_goes old new reads =
      Makes reads.waited new (EndBatch reads.admitted.batch.0 reads.answers)
      (goes_more made array dies seat IsForRead old reads.asked reads.waited
      (Makes old reads.asked (Admit (reads.page ∷ []) (Ok reads.admitted)) Stays tt reads.due reads.asks reads.images.0)
      (goes_wider made array dies seat IsForDies IsForRead for_read reads.asked reads.waited
      (awaits_goes made array dies seat reads.admitted.batch.0 reads.asked reads.looks reads.waited reads.waits)))
      tt tt reads.ends reads.images.1

  looks_goes : (old : House I) (looks : ℕ) (new : House I) → Looks made array dies seat old looks new → Goes made array dies seat IsForCopy old new
  looks_goes old looks new NoLook = Stays
  looks_goes old looks new (OneMore before middle looked here earlier step images goes) =
      goes_more made array dies seat IsForCopy old looked new
      (Makes middle looked (CommitCopy (Err Pending)) (looks_goes old before middle earlier) tt tt step images)
      (goes_wider made array dies seat IsForDies IsForCopy for_copy looked new goes)

  pub settles_goes : (old new : House I) → Settles made array dies seat old new → Goes made array dies seat IsForCopy old new
  settles_goes old new (Commits looks middle here answer looked ends step images) =
      Makes middle new (CommitCopy answer) (looks_goes old looks middle looked) tt tt step images
  settles_goes old new (IsOver looks here looked none) = looks_goes old looks new looked
  settles_goes old new (Endless looks here looked many) = looks_goes old looks new looked

-- deeds leave the geometry
pub goes_shape : {I : Type 0} (made : I → ImageCall → ImageAnswer → I → Type 0) (array : List ℕ) (dies : List Standing) (seat : ℕ) (P : Act → Type 0)
    → GeometryLaw → (old new : House I) → Goes made array dies seat P old new → new.core.page_map.geometry ≡ old.core.page_map.geometry
goes_shape made array dies seat P law old new Stays = refl
goes_shape made array dies seat P law old new (Makes middle here act before may due step images) =
    law middle.core new.core act step ∙ goes_shape made array dies seat P law old middle before
goes_shape made array dies seat P law old new (Runs middle here die before job) =
    law job.taken new.core (Done die job.outcome) job.ends ∙ law middle.core job.taken (Take die seat (Some job.job)) job.takes
    ∙ goes_shape made array dies seat P law old middle before

module _ {I : Type 0} (made : I → ImageCall → ImageAnswer → I → Type 0) (array : List ℕ) where
  drives_both : (s middle last : Driven I) (drives rest : List Drive) → Drives made array s drives middle → Drives made array middle rest last
      → Drives made array s (drives ++ rest) last
  drives_both s middle last [] rest same more = subst (λ (d : Driven I). Drives made array d rest last) same more
  drives_both s middle last (drive ∷ drives) rest goes more =
      (goes.0, goes.1, drives_both goes.0 middle last drives rest goes.2 more)

  module _ (dies : List Standing) (seat : ℕ) (P : Act → Type 0) where
    -- what the deeds so far drive to
    abbrev Leads : Driven I → House I → Type 0
    Leads first house = (drives : List Drive) × (last : Driven I) × Drives made array first drives last × StandsFor dies house last
        × AllByRecursion (IsDeedOf P) (acts_of drives)

    one_event : (first : Driven I) (middle new : House I) (act : Act) → IsPlain act → P act → Step middle.core act new.core
        → new.images ≡ middle.images → Leads first middle → Leads first new
    one_event first middle new act plain is_one step same led =
        let s : Driven I = led.1 in
        let last : Driven I = record s { core = new.core; works = works_after act s.works; told = s.told ++ told_by s.core act } in
        let event : HasEvent s act last = record {
          step = subst (λ (c : Core). Step c act new.core) (sym led.3.core) step;
          owed = plain_owed act s plain;
          follows = refl;
        } in (
          led.0 ++ MakesEvent act ∷ [],
          last,
          drives_both first s last led.0 (MakesEvent act ∷ []) led.2 (last, event, refl),
          record {
            core = refl;
            images = λ die. led.3.images die ∙ ap (λ (l : List I). image_on dies l die) (sym same);
            works = λ die. ap (λ (f : ℕ → Option Work). f die) (plain_works act s.works plain) ∙ led.3.works die;
          },
          acts_of_both led.0 (MakesEvent act ∷ []) (IsDeedOf P) led.4 (inl is_one, tt),
        )

    -- the image of each die behind a job of one of them
    image_then : AreApart dies → (images : List I) (die index : ℕ) (before after : I) → place_on dies die ≡ Some index
        → slice_get images index ≡ Some before → (f : ℕ → Option I) → f die ≡ Some after
        → ((d : ℕ) → (d ≡ die → ⊥) → f d ≡ image_on dies images d) → (d : ℕ) → f d ≡ image_on dies (slice_set images index after) d
    image_then apart images die index before after place is f here others d = elim (cases_eq d die) [
      | inl same ↦
          ap f same ∙ here ∙ sym (got_here images index before after is)
          ∙ sym (ap (option_and_then (slice_get (slice_set images index after))) (ap (place_on dies) same ∙ place))
      | inr other ↦ others d other ∙ there (place_on dies d) refl other
    ]
      where
        there : (o : Option ℕ) → place_on dies d ≡ o → (d ≡ die → ⊥)
            → option_and_then (slice_get images) (place_on dies d) ≡ option_and_then (slice_get (slice_set images index after)) (place_on dies d)
        there None is_none other =
            ap (option_and_then (slice_get images)) is_none ∙ sym (ap (option_and_then (slice_get (slice_set images index after))) is_none)
        there (Some k) is_some other =
            ap (option_and_then (slice_get images)) is_some
            ∙ sym (got_other images index k after
            (λ e. other (apart d die index (is_some ∙ ap Some e) place)))
            ∙ sym (ap (option_and_then (slice_get (slice_set images index after))) is_some)

    one_job : GeometryLaw → AreApart dies → (first : Driven I) (middle new : House I) (die : ℕ) → MakesJob made array dies seat die middle new
        → Leads first middle → Leads first new
    one_job law apart first middle new die job led =
        let s : Driven I = led.1 in
        let take : Act = Take die seat (Some job.job) in
        let work : Work = record { job = job.job; gave = [] } in
        let taken : Driven I = record s { core = job.taken; works = with_value die (Some work) s.works; told = s.told ++ told_by s.core take } in
        let takes : HasEvent s take taken = record {
          step = subst (λ (c : Core). Step c take job.taken) (sym led.3.core) job.takes;
          owed = tt;
          follows = refl;
        } in
        let shape : middle.core.page_map.geometry ≡ job.taken.page_map.geometry = sym (law middle.core job.taken take job.takes) in
        let image : s.images die ≡ Some job.before =
        led.3.images die ∙ ap (option_and_then (slice_get middle.images)) job.place ∙ job.image in
        let ran : Ran made job.taken.page_map.geometry array die job.job job.outcome job.before job.after =
        subst (λ (g : Geometry). Ran made g array die job.job job.outcome job.before job.after) shape job.ran in
        let calls = job_drives made array die job.job taken job.outcome job.before job.after (value_here die (Some work) s.works) image
        (subst (λ (g : Geometry). IsJobFor g array die job.job) shape job.fits) ran in
        let called : Driven I = calls.0 in
        let only : OnlyMade taken die (record { job = job.job; gave = ran.gave }) job.after called = calls.2 in
        let done : Act = Done die job.outcome in
        let last : Driven I = record called { core = new.core; works = with_value die None called.works; told = called.told ++ told_by called.core done } in
        let same : job.taken ≡ called.core = sym (ap (λ (d : Driven I). d.core) only.rest) in
        let ends : HasEvent called done last = record {
          step = subst (λ (c : Core). Step c done new.core) same job.ends;
          owed = calls.3;
          follows = refl;
        } in
        let made_calls : List Drive = map (λ g. MakesCall die) ran.gave in
        let behind : List Drive = MakesEvent take ∷ (made_calls ++ MakesEvent done ∷ []) in
        let goes : Drives made array s behind last =
        (taken, takes, drives_both taken called last made_calls (MakesEvent done ∷ []) calls.1 (last, ends, refl)) in (
          led.0 ++ behind,
          last,
          drives_both first s last led.0 behind led.2 goes,
          record {
            core = refl;
            images = λ d. image_then apart middle.images die job.index job.before job.after job.place job.image called.images only.image
                (λ k other. only.other_images k other ∙ led.3.images k) d
                ∙ ap (λ (l : List I). image_on dies l d) (sym job.images);
            works = λ d. elim (cases_eq d die) [
              | inl here ↦ ap (with_value die None called.works) here ∙ value_here die None called.works
              | inr other ↦
                  value_other die None called.works d other ∙ only.other_works d other ∙ value_other die (Some work) s.works d other ∙ led.3.works d
            ];
          },
          acts_of_both led.0 behind (IsDeedOf P) led.4
              (inr tt, subst (AllByRecursion (IsDeedOf P)) (sym (acts_of_calls die ran.gave (MakesEvent done ∷ []))) (inr tt, tt)),
        )

    pub deeds_drive : GeometryLaw → ((act : Act) → P act → IsPlain act) → AreApart dies → (old new : House I) (first : Driven I)
        → StandsFor dies old first → Goes made array dies seat P old new → Leads first new
    deeds_drive law plain apart old new first stands Stays = ([], first, refl, stands, tt)
    deeds_drive law plain apart old new first stands (Makes middle here act goes is_one due step same) =
        one_event first middle new act (plain act is_one) is_one step same (deeds_drive law plain apart old middle first stands goes)
    deeds_drive law plain apart old new first stands (Runs middle here die goes job) =
        one_job law apart first middle new die job (deeds_drive law plain apart old middle first stands goes)
