-- What of a world bears on which cells are of their page's last write, told over plain functions, and what of it always holds.
use Rattle.fa_mount_close_laws.specs.LastCells.{IsOfLast}
use Rattle.fa_laws.proofs.Admitting.{one_value_other, one_value_same}
use Rattle.fa_laws.proofs.Invariant.{owned_of}
use Rattle.fa_laws.proofs.Scene.{IsTargetAt, Owned}
use Rattle.fa_machine.specs.Among.{Among}
use Rattle.fa_machine.specs.Cells.{Cell, Sealed}
use Rattle.fa_machine.specs.State.{WaitingProgram}
use Rattle.fa_machine.specs.Taking.{Handed}
use Rattle.fa_machine.specs.World.{Accepted, Gave, GaveCell, Refused, Work, World, with_value}
use Rattle.fa_machine.specs.Writing.{is_programming}
use Rattle.fa_machine.specs.declared.jobs.Flight.{Flight}
use Rattle.fa_machine.specs.declared.jobs.Flight.TheVariants.{Program}
use Rattle.fa_machine.specs.declared.places.Target.{Target}
use Rattle.fa_machine.specs.declared.places.Version.{Version}
use Rattle.fa_types.specs.declared.numbers.Page.{Page}
use Rattle.fa_types.specs.declared.numbers.Slot.{Slot}
use Rattle.std.proofs.Common.{Bool, List, None, Option, Some, [], ap, arith, false, inl, inr, refl, subst, sym, true, ℕ, ◌*◌, ◌<◌, ◌||◌}
use Rattle.std.proofs.Common.{◌∙◌, ◌∷◌, ◌≡◌, ◌⊎◌}
use Rattle.std.proofs.lemmas.Bool.{cases_eq, false≢true}
use Rattle.std.proofs.lemmas.Option.{none-some, same_Some}
use Rattle.std.specs.FinMap.{contains_key, get}
use Rattle.std.specs.Prelude.{option_map}

pub record Sight : Type 0 where
  -- what stands in each slot, by die and slot
  pub seen : ℕ → ℕ → Cell
  -- live dies and spares
  pub there : ℕ → Bool
  pub total : ℕ
  pub pages : ℕ
  pub number : ℕ → Option Version
  pub payloads : ℕ → ℕ → List ℕ
  pub own : Option ℕ → Option Owned
  pub waiting : List WaitingProgram
  pub works : ℕ → Option Work

abbrev pub sight_of : World → Sight
sight_of w = record {
  seen = λ die slot. (w.images die).seen slot;
  there = λ die. contains_key w.core.page_map.live die || contains_key w.core.spares die;
  total = w.core.page_map.geometry.blocks * w.core.page_map.geometry.slots;
  pages = w.core.page_map.geometry.pages;
  number = λ page. get w.core.page_map.versions page;
  payloads = w.payloads;
  own = owned_of w.core.copying w.core.claims;
  waiting = w.core.waiting;
  works = w.works;
}

-- a call of the job was refused, so what stands in its slots may be anything, and its die goes out
abbrev pub has_refused : List Gave → Bool
has_refused (Refused ∷ []) = true
has_refused (GaveCell cell ∷ Refused ∷ []) = true
has_refused (Accepted ∷ Refused ∷ []) = true
has_refused gave = false

abbrev pub has_failed : Option Work → Bool
has_failed None = false
has_failed (Some work) = has_refused work.gave

abbrev pub flight_at : Option Work → Option Flight
flight_at work = option_map {T = Work} (λ k. k.job.flight) work

-- a slot is kept for something that is reserved
pub record HasTarget (own : Option ℕ → Option Owned) (die slot : ℕ) : Type 0 where
  pub owner : Option ℕ
  pub owned : Owned
  pub target : Target
  pub at : IsTargetAt own die slot owner owned target

-- a write that is reserved under a claim for this slot, and was programmed there, or is at the moment
pub record IsComing (own : Option ℕ → Option Owned) (work : Option Work) (die slot page : ℕ) (version : Version) : Type 0 where
  pub claim : ℕ
  pub owned : Owned
  pub target : Target
  pub at : IsTargetAt own die slot (Some claim) owned target
  pub page_is : owned.page ≡ page
  pub version_is : owned.version ≡ version
  pub done : (target.programmed ≡ true) ⊎ (is_programming (flight_at work) slot ≡ true)

-- a good cell is of its page's last write or of an older one, or of one that is coming
abbrev pub IsKnown : Sight → ℕ → ℕ → ℕ → Version → List ℕ → Type 0
IsKnown s page die slot version payload =
    IsOfLast (s.number page) (s.payloads page) version payload ⊎ IsComing s.own (s.works die) die slot page version

pub record Known (s : Sight) : Type 0 where
  pub cells : (page die slot : ℕ) (version : Version) (payload : List ℕ) → page < s.pages → s.there die ≡ true → slot < s.total
      → has_failed (s.works die) ≡ false → s.seen die slot ≡ Sealed page version die slot payload → IsKnown s page die slot version payload
  -- each program that is to come has a slot that is kept for it
  pub waits : (p : WaitingProgram) → Among p s.waiting → HasTarget s.own p.die p.slot
  pub programs : (die : ℕ) (work : Work) (page : Page) (version : Version) (slot : Slot) → s.works die ≡ Some work
      → work.job.flight ≡ Program page version slot → HasTarget s.own die slot.0

-- what is reserved stays so
abbrev pub StaysOwned : (Option ℕ → Option Owned) → (Option ℕ → Option Owned) → Type 0
StaysOwned own then = (q : Option ℕ) (x : Owned) → own q ≡ Some x → then q ≡ Some x

pub same_at : (own then : Option ℕ → Option Owned) (die slot : ℕ) (q : Option ℕ) (x : Owned) (t : Target) → then q ≡ Some x
    → IsTargetAt own die slot q x t → IsTargetAt then die slot q x t
same_at own then die slot q x t owns at = record { owns = owns; among = at.among; on_die = at.on_die; at_slot = at.at_slot }

pub target_stays : (own then : Option ℕ → Option Owned) → StaysOwned own then → (die slot : ℕ) → HasTarget own die slot → HasTarget then die slot
target_stays own then stays die slot h = record {
  owner = h.owner;
  owned = h.owned;
  target = h.target;
  at = same_at own then die slot h.owner h.owned h.target (stays h.owner h.owned h.at.owns) h.at;
}

-- what is coming is so still where its claim is as it was
pub coming_stays : (own then : Option ℕ → Option Owned) (work work_then : Option Work) (die slot page : ℕ) (version : Version)
    → (c : IsComing own work die slot page version) → then (Some c.claim) ≡ Some c.owned
    → (is_programming (flight_at work) slot ≡ true → is_programming (flight_at work_then) slot ≡ true)
    → IsComing then work_then die slot page version
coming_stays own then work work_then die slot page version c owns goes = record {
  claim = c.claim;
  owned = c.owned;
  target = c.target;
  at = same_at own then die slot (Some c.claim) c.owned c.target owns c.at;
  page_is = c.page_is;
  version_is = c.version_is;
  done = elim c.done [
    | inl programmed ↦ inl programmed
    | inr at ↦ inr (goes at)
  ];
}

-- other things are reserved, or programs wait, with which nothing of before is over
pub owned_is_known : (s : Sight) → Known s → (then : Option ℕ → Option Owned) (waiting : List WaitingProgram) → StaysOwned s.own then
    → ((p : WaitingProgram) → Among p waiting → Among p s.waiting ⊎ HasTarget then p.die p.slot) → Known (record s { own = then; waiting = waiting })
owned_is_known s h then waiting stays more = record {
  cells = λ page die slot version payload low there inside fine is. elim (h.cells page die slot version payload low there inside fine is) [
    | inl last ↦ inl last
    | inr c ↦ inr (coming_stays s.own then (s.works die) (s.works die) die slot page version c (stays (Some c.claim) c.owned c.at.owns) (λ at. at))
  ];
  waits = λ p among. elim (more p among) [
    | inl was ↦ target_stays s.own then stays p.die p.slot (h.waits p was)
    | inr new ↦ new
  ];
  programs = λ die work page version slot e flight. target_stays s.own then stays die slot.0 (h.programs die work page version slot e flight);
}

-- bytes are reserved for a number that no page has yet
pub recorded_is_known : (s : Sight) → Known s → (payloads : ℕ → ℕ → List ℕ)
    → ((page : ℕ) (version : Version) → s.number page ≡ Some version → payloads page version.seq.0 ≡ s.payloads page version.seq.0)
    → Known (record s { payloads = payloads })
recorded_is_known s h payloads same = record {
  cells = λ page die slot version payload low there inside fine is. elim (h.cells page die slot version payload low there inside fine is) [
    | inr c ↦ inr c
    | inl last ↦ inl (record {
      write = last.write;
      is_last = last.is_last;
      older = last.older;
      same = λ e.
          let was = last.same e in
          (was.0, was.1 ∙ sym (ap (payloads page) e ∙ same page last.write last.is_last ∙ ap (s.payloads page) (sym e)));
    })
  ];
  waits = h.waits;
  programs = h.programs;
}

-- fewer dies are there
pub fewer_is_known : (s : Sight) → Known s → (there : ℕ → Bool) → ((die : ℕ) → there die ≡ true → s.there die ≡ true) → Known (record s { there = there })
fewer_is_known s h there was = record {
  cells = λ page die slot version payload low is_there inside fine is. h.cells page die slot version payload low (was die is_there) inside fine is;
  waits = h.waits;
  programs = h.programs;
}

no_flight : (work : Option Work) (slot : ℕ) → work ≡ None → is_programming (flight_at work) slot ≡ true → ⊥
no_flight work slot none at = false≢true (sym (ap (λ o. is_programming (flight_at o) slot) none) ∙ at)

-- a job begins on a die that has none
pub begun_is_known : (s : Sight) → Known s → (die : ℕ) (job : Handed) (waiting : List WaitingProgram) → s.works die ≡ None
    → ((p : WaitingProgram) → Among p waiting → Among p s.waiting)
    → ((page : Page) (version : Version) (slot : Slot) → job.flight ≡ Program page version slot → HasTarget s.own die slot.0)
    → Known (record s { works = with_value die (Some (record { job = job; gave = [] })) s.works; waiting = waiting })
begun_is_known s h die job waiting idle fewer programs = record {
  cells = λ page d slot version payload low there inside fine is. elim (cases_eq d die) [
    | inl same ↦ elim (h.cells page d slot version payload low there inside (ap has_failed (ap s.works same ∙ idle)) is) [
      | inl last ↦ inl last
      | inr c ↦ inr (coming_stays s.own s.own (s.works d) (then d) d slot page version c c.at.owns (λ at. absurd (no_flight (s.works d) slot (ap s.works same ∙ idle) at)))
    ]
    | inr apart ↦
        let other = one_value_other die (Some work) s.works d apart in
        elim (h.cells page d slot version payload low there inside (sym (ap has_failed other) ∙ fine) is) [
          | inl last ↦ inl last
          | inr c ↦ inr (coming_stays s.own s.own (s.works d) (then d) d slot page version c c.at.owns (λ at. ap (λ o. is_programming (flight_at o) slot) other ∙ at))
        ]
  ];
  waits = λ p among. h.waits p (fewer p among);
  programs = λ d k page version slot e flight. elim (cases_eq d die) [
    | inl same ↦
        let new = same_Some work k (sym (one_value_same die (Some work) s.works d same) ∙ e) in
        subst (λ n. HasTarget s.own n slot.0) (sym same) (programs page version slot (ap (λ (u : Work). u.job.flight) new ∙ flight))
    | inr apart ↦ h.programs d k page version slot (sym (one_value_other die (Some work) s.works d apart) ∙ e) flight
  ];
}
  where
    work : Work
    work = record { job = job; gave = [] }

    then : ℕ → Option Work
    then = with_value die (Some work) s.works

-- The job of a die ended, which was no program, or its die is not there any more.
pub over_is_known : (s : Sight) → Known s → (die : ℕ) → (has_failed (s.works die) ≡ false) ⊎ (s.there die ≡ false)
    → ((slot : ℕ) → is_programming (flight_at (s.works die)) slot ≡ true → s.there die ≡ false)
    → Known (record s { works = with_value die None s.works })
over_is_known s h die fine_or_out no_program = record {
  cells = λ page d slot version payload low there inside fine is. elim (cases_eq d die) [
    | inl same ↦ elim fine_or_out [
      | inr out ↦ absurd (false≢true (sym out ∙ ap s.there (sym same) ∙ there))
      | inl was_fine ↦ elim (h.cells page d slot version payload low there inside (ap has_failed (ap s.works same) ∙ was_fine) is) [
        | inl last ↦ inl last
        | inr c ↦ inr (coming_stays s.own s.own (s.works d) (then d) d slot page version c c.at.owns
            (λ at. absurd (false≢true (sym (no_program slot (ap (λ o. is_programming (flight_at o) slot) (ap s.works (sym same)) ∙ at)) ∙ ap s.there (sym same) ∙ there))))
      ]
    ]
    | inr apart ↦
        let other = one_value_other die None s.works d apart in
        elim (h.cells page d slot version payload low there inside (sym (ap has_failed other) ∙ fine) is) [
          | inl last ↦ inl last
          | inr c ↦ inr (coming_stays s.own s.own (s.works d) (then d) d slot page version c c.at.owns (λ at. ap (λ o. is_programming (flight_at o) slot) other ∙ at))
        ]
  ];
  waits = h.waits;
  programs = λ d k page version slot e flight. elim (cases_eq d die) [
    | inl same ↦ absurd (none-some k (sym (one_value_same die None s.works d same) ∙ e))
    | inr apart ↦ h.programs d k page version slot (sym (one_value_other die None s.works d apart) ∙ e) flight
  ];
}
  where
    then : ℕ → Option Work
    then = with_value die None s.works

-- a write that was there is so still for a page with a greater number
pub raised : (number : Option Version) (reserved : ℕ → List ℕ) (version next : Version) (payload : List ℕ) → IsOfLast number reserved version payload
    → ((was : Version) → number ≡ Some was → was.seq.0 < next.seq.0) → IsOfLast (Some next) reserved version payload
raised number reserved version next payload last newer =
    let n = newer last.write last.is_last in
    let o = last.older in
    record {
      write = next;
      is_last = refl;
      older = omega (arith, n, o);
      same = λ e. absurd (omega (arith, n, o, e));
    }
