-- What an event changes of images and jobs, and what a Take hands out.
use Rattle.fa_crash.proofs.Trusted.{HeldOn, IsErasedAt}
use Rattle.fa_laws.proofs.Admitting.{one_value_other, one_value_same}
use Rattle.fa_laws.proofs.Staying.{copy_from_holds}
use Rattle.fa_machine.proofs.Lists.{found_passes}
use Rattle.fa_machine.proofs.Takes.{IsOther, IsUrgent, take_cases}
use Rattle.fa_machine.specs.Among.{Among}
use Rattle.fa_machine.specs.Cells.{DidErase, DidProgram, DidRead, DidSync, Outcome, payload_of}
use Rattle.fa_machine.specs.Collecting.{is_erased_outside}
use Rattle.fa_machine.specs.Copies.{holds_page}
use Rattle.fa_machine.specs.Placement.{is_erased_slot}
use Rattle.fa_machine.specs.State.{Core, WaitingProgram, is_live, slots_of, used_at}
use Rattle.fa_machine.specs.Step.{Act, Admit, Commit, Done, Reserve, ReserveFewer, ReserveHole, Take}
use Rattle.fa_machine.specs.Taking.{Handed, Takes, is_for, is_idle, is_lasting, without_stale_booking}
use Rattle.fa_machine.specs.World.{Accepted, Gave, GaveCell, Refused, Work, World, followed, outcome_of, with_due, with_end, with_told}
use Rattle.fa_machine.specs.declared.ids.Block.{Block}
use Rattle.fa_machine.specs.declared.jobs.Flight.{Flight}
use Rattle.fa_machine.specs.declared.jobs.Flight.TheVariants.{Erase, Header, Move, Program, Read, Sync}
use Rattle.fa_machine.specs.declared.places.Used.{Used}
use Rattle.fa_machine.specs.declared.places.Version.{Version}
use Rattle.fa_types.specs.declared.numbers.Page.{Page}
use Rattle.fa_types.specs.declared.numbers.Slot.{Slot}
use Rattle.std.proofs.Common.{Bool, List, None, Option, Some, [], ap, eqb-true, false, inl, inr, not, refl, subst, sym, true, ℕ, ◌/◌, ◌∙◌, ◌∷◌, ◌≡◌, ◌⊎◌}
use Rattle.std.proofs.lemmas.Bool.{and_parts, cases_eq, false≢true, true≢false}
use Rattle.std.proofs.lemmas.Option.{none-some, same_Some}
use Rattle.std.specs.FinMap.{get}
use Rattle.std.specs.Prelude.{Ok, is_none, is_some, ◌&&◌}

due_images : (die : ℕ) (flight : Flight) (w : World) → (with_due die flight w).images ≡ w.images
due_images die (Read batch page version slot) w = refl
due_images die flight w = refl

told_images : (die batch page seq : ℕ) (o : Option (List ℕ)) (w : World) → (with_told die batch page seq o w).images ≡ w.images
told_images die batch page seq None w = refl
told_images die batch page seq (Some bytes) w = refl

end_images : (die : ℕ) (flight : Option Flight) (outcome : Outcome) (w : World) → (with_end die flight outcome w).images ≡ w.images
end_images die None outcome w = refl
end_images die (Some (Read batch page version slot)) (DidRead cell) w = told_images die batch.0 page.0 version.seq.0 (payload_of page.0 version die slot.0 cell) w
end_images die (Some flight) outcome w = refl

-- no event changes an image
pub followed_images : (act : Act) (w : World) → (followed act w).images ≡ w.images
followed_images (Reserve claim payload (Ok seq)) w = refl
followed_images (ReserveHole claim (Ok seq)) w = refl
followed_images (ReserveFewer claim payload (Ok seq)) w = refl
followed_images (Commit claim seat (Ok seq)) w = refl
followed_images (Admit pages (Ok admitted)) w = refl
followed_images (Take die seat (Some job)) w = due_images die job.flight w
followed_images (Done die outcome) w = end_images die (get w.core.jobs die) outcome w
followed_images act w = refl

-- a die was handed this job
abbrev pub IsTaken : Act → ℕ → Work → Type 0
IsTaken (Take die seat (Some job)) d work = (die ≡ d) × (record { job = job; gave = [] } ≡ work)
IsTaken act d work = ⊥

-- the job of a die does not end
abbrev pub IsGoing : Act → ℕ → Type 0
IsGoing (Done die outcome) d = d ≡ die → ⊥
IsGoing act d = Unit {0}

-- a job in flight was so before, or was just handed out
pub followed_works : (act : Act) (w : World) (d : ℕ) (work : Work) → (followed act w).works d ≡ Some work
    → ((w.works d ≡ Some work) × IsGoing act d) ⊎ IsTaken act d work
followed_works (Reserve claim payload (Ok seq)) w d work e = inl (e, tt)
followed_works (ReserveHole claim (Ok seq)) w d work e = inl (e, tt)
followed_works (ReserveFewer claim payload (Ok seq)) w d work e = inl (e, tt)
followed_works (Commit claim seat (Ok seq)) w d work e = inl (e, tt)
followed_works (Admit pages (Ok admitted)) w d work e = inl (e, tt)
followed_works (Take die seat (Some job)) w d work e =
    elim (cases_eq d die) [
      | inl same ↦ inr (sym same, same_Some _ work (sym (one_value_same die (Some (record { job = job; gave = [] })) w.works d same) ∙ e))
      | inr apart ↦ inl (sym (one_value_other die (Some (record { job = job; gave = [] })) w.works d apart) ∙ e, tt)
    ]
followed_works (Done die outcome) w d work e =
    elim (cases_eq d die) [
      | inl same ↦ absurd (none-some work (sym (one_value_same die None w.works d same) ∙ e))
      | inr apart ↦ inl (sym (one_value_other die None w.works d apart) ∙ e, apart)
    ]
followed_works act w d work e = inl (e, tt)

-- what a job that is handed out comes from: a program from one that waited, a move goes to an erased slot
abbrev pub ComesFrom : Core → ℕ → Flight → Bool → Type 0
ComesFrom core die (Program page version slot) lasting =
    (p : WaitingProgram) × Among p core.waiting × (p.die ≡ die) × (p.slot ≡ slot.0) × (p.page ≡ page.0) × (lasting ≡ is_lasting core.page_map p.page p.die)
ComesFrom core die (Move page version from to) lasting = IsErasedAt core die to.0
ComesFrom core die flight lasting = Unit {0}

abbrev TakenFrom : Core → ℕ → Option Handed → Type 0
TakenFrom core die None = Unit {0}
TakenFrom core die (Some job) = ComesFrom core die job.flight job.lasting

none_of : (o : Option Used) → is_none o ≡ true → o ≡ None
none_of None e = refl
none_of (Some u) e = absurd (false≢true e)

urgent_from : (core : Core) (die : ℕ) (flight : Flight) → is_idle core die ≡ true → IsUrgent core die flight
    → ComesFrom core die flight false
urgent_from core die (Header epoch live) idle u = tt
urgent_from core die (Erase block) idle u = tt
urgent_from core die (Read batch page version slot) idle u = tt
urgent_from core die (Program page version slot) idle u = absurd u
urgent_from core die (Sync flushes) idle u = absurd u
urgent_from core die (Move page version from to) idle u =
    let place = (found_passes (is_erased_outside core.page_map die (from.0 / core.page_map.geometry.slots)) (slots_of core.page_map) to.0 u.1).0 in
    (none_of (used_at core.page_map die to.0) (and_parts (is_erased_slot core.page_map die to.0) _ place).0, (and_parts (is_live core.page_map die) _ idle).0)

other_from : (core : Core) (die : ℕ) (job : Option Handed) → IsOther (without_stale_booking die core) die job → TakenFrom core die job
other_from core die None u = tt
other_from core die (Some job) u =
    elim u [
      | inl p ↦
          let found = found_passes (is_for die) core.waiting p.0 p.1 in
          subst (λ (j : Handed). ComesFrom core die j.flight j.lasting) (sym p.2) (p.0, found.1, eqb-true p.0.die die found.0, refl, refl, refl)
      | inr f ↦ subst (λ (j : Handed). ComesFrom core die j.flight j.lasting) (sym f.1) tt
    ]

pub taken_from : (core new : Core) (die seat : ℕ) (job : Handed) → Takes core die seat (Some job) new
    → ComesFrom core die job.flight job.lasting
taken_from core new die seat job e =
    subst (λ (t : Option Handed × Core). TakenFrom core die t.0) (sym e)
    (take_cases core die seat (λ (t : Option Handed × Core). TakenFrom core die t.0) tt
    (λ flight idle u. urgent_from core die flight idle u) (λ job idle u. other_from core die job u))

-- a program that is not lasting is of a page that was never written, or that its die holds
pub unless_lasting : (core : Core) (p : WaitingProgram) → is_lasting core.page_map p.page p.die ≡ false
    → (get core.page_map.versions p.page ≡ None) ⊎ HeldOn core p.die p.page
unless_lasting core p e = at (get core.page_map.versions p.page) refl (holds_page core.page_map p.page p.die) refl
  where
    at : (o : Option Version) → get core.page_map.versions p.page ≡ o → (b : Bool) → holds_page core.page_map p.page p.die ≡ b
        → (get core.page_map.versions p.page ≡ None) ⊎ HeldOn core p.die p.page
    at None is b holds = inl is
    at (Some v) is false holds = absurd (true≢false (sym (λ i. is_some (is i) && not (holds i)) ∙ e))
    at (Some v) is true holds =
        let c = copy_from_holds core p.page p.die holds in
        inr (record { slot = c.slot; tag = c.tag_page; version = c.tag_version; held = c.held; page_is = c.page_is })

abbrev did_program : Option Outcome → Bool
did_program (Some DidProgram) = true
did_program o = false

abbrev did_erase : Option Outcome → Bool
did_erase (Some DidErase) = true
did_erase o = false

-- a lasting program that ended was programmed and synced
pub program_gave : (die : ℕ) (page : Page) (version : Version) (slot : Slot) (payload : List ℕ) (gave : List Gave)
    → outcome_of die (record { flight = Program page version slot; payload = payload; lasting = true }) gave ≡ Some DidProgram
    → gave ≡ Accepted ∷ Accepted ∷ []
program_gave die page version slot payload (Accepted ∷ Accepted ∷ []) e = refl
program_gave die page version slot payload (Accepted ∷ []) e = absurd (none-some DidProgram e)
program_gave die page version slot payload (Accepted ∷ Refused ∷ []) e = absurd (false≢true (ap did_program e))
program_gave die page version slot payload (Refused ∷ []) e = absurd (false≢true (ap did_program e))
program_gave die page version slot payload (GaveCell cell ∷ []) e = absurd (none-some DidProgram e)
program_gave die page version slot payload (GaveCell cell ∷ Accepted ∷ []) e = absurd (false≢true (ap did_program e))
program_gave die page version slot payload (GaveCell cell ∷ Refused ∷ []) e = absurd (false≢true (ap did_program e))
program_gave die page version slot payload gave e = absurd (none-some DidProgram e)

-- an erase that ended was synced before and then erased
pub erase_gave : (die : ℕ) (block : Block) (payload : List ℕ) (lasting : Bool) (gave : List Gave)
    → outcome_of die (record { flight = Erase block; payload = payload; lasting = lasting }) gave ≡ Some DidErase
    → gave ≡ Accepted ∷ Accepted ∷ []
erase_gave die block payload lasting (Accepted ∷ Accepted ∷ []) e = refl
erase_gave die block payload lasting (Accepted ∷ []) e = absurd (none-some DidErase e)
erase_gave die block payload lasting (Accepted ∷ Refused ∷ []) e = absurd (false≢true (ap did_erase e))
erase_gave die block payload lasting (Refused ∷ []) e = absurd (false≢true (ap did_erase e))
erase_gave die block payload lasting (GaveCell cell ∷ []) e = absurd (none-some DidErase e)
erase_gave die block payload lasting (GaveCell cell ∷ Accepted ∷ []) e = absurd (false≢true (ap did_erase e))
erase_gave die block payload lasting (GaveCell cell ∷ Refused ∷ []) e = absurd (false≢true (ap did_erase e))
erase_gave die block payload lasting gave e = absurd (none-some DidErase e)

abbrev did_sync : Option Outcome → Bool
did_sync (Some DidSync) = true
did_sync o = false

-- a sync that ended was accepted
pub sync_gave : (die flushes : ℕ) (payload : List ℕ) (lasting : Bool) (gave : List Gave)
    → outcome_of die (record { flight = Sync flushes; payload = payload; lasting = lasting }) gave ≡ Some DidSync → gave ≡ Accepted ∷ []
sync_gave die flushes payload lasting (Accepted ∷ []) e = refl
sync_gave die flushes payload lasting (Accepted ∷ Accepted ∷ []) e = absurd (none-some DidSync e)
sync_gave die flushes payload lasting (Accepted ∷ Refused ∷ []) e = absurd (none-some DidSync e)
sync_gave die flushes payload lasting (Refused ∷ []) e = absurd (false≢true (ap did_sync e))
sync_gave die flushes payload lasting (GaveCell cell ∷ []) e = absurd (none-some DidSync e)
sync_gave die flushes payload lasting (GaveCell cell ∷ Accepted ∷ []) e = absurd (false≢true (ap did_sync e))
sync_gave die flushes payload lasting (GaveCell cell ∷ Refused ∷ []) e = absurd (false≢true (ap did_sync e))
sync_gave die flushes payload lasting gave e = absurd (none-some DidSync e)

-- a job that was just handed out was given nothing
pub taken_gave : (act : Act) (die : ℕ) (work : Work) → IsTaken act die work → work.gave ≡ []
taken_gave (Take d seat (Some job)) die work taken = sym (ap (λ (v : Work). v.gave) taken.1)
taken_gave act die work taken = absurd taken
