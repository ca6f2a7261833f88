-- What is known of cells stays so as jobs are taken and as they end.
use Rattle.fa_mount_close_laws.proofs.Owning.{Marked, marked_target, marks_of}
use Rattle.fa_mount_close_laws.proofs.Settling.{job_at, works_live}
use Rattle.fa_mount_close_laws.proofs.Sights.{HasTarget, IsComing, Known, Sight, begun_is_known, fewer_is_known, flight_at, has_failed, has_refused}
use Rattle.fa_mount_close_laws.proofs.Sights.{over_is_known, owned_is_known, sight_of}
use Rattle.fa_laws.proofs.Admitting.{one_value_other, one_value_same}
use Rattle.fa_laws.proofs.Endings.{HasOutcome, may_end, with_done}
use Rattle.fa_laws.proofs.Invariant.{Holds, next, owned_of, scene_of}
use Rattle.fa_laws.proofs.Scene.{IsTargetAt, JobFits, Owned}
use Rattle.fa_laws.proofs.Starting.{idle_works}
use Rattle.fa_machine.proofs.Lists.{among-filter, among-without, cut_first, found_passes}
use Rattle.fa_machine.proofs.Maps.{get-remove_same, get-remove_some, has_some}
use Rattle.fa_machine.proofs.Takes.{IsOther, IsUrgent, take_cases}
use Rattle.fa_machine.specs.Among.{Among}
use Rattle.fa_machine.specs.Cells.{DidErase, DidMove, DidProgram, DidRead, DidSync, DidWriteHeader, Fault, Outcome, Wrong}
use Rattle.fa_machine.specs.Cells.{is_of_kind, payload_of}
use Rattle.fa_machine.specs.Conditions.{drop_die}
use Rattle.fa_machine.specs.Maps.{change}
use Rattle.fa_machine.specs.State.{Core, OpenBatch, WaitingProgram, is_live}
use Rattle.fa_machine.specs.Step.{Done, Take, allowed, is_sized_read}
use Rattle.fa_machine.specs.Taking.{EndsJob, Handed, Takes, begins, begun, finished, handed, is_for, is_idle, mark, program_of, read_ends, with_answer}
use Rattle.fa_machine.specs.Taking.{without_stale_booking}
use Rattle.fa_machine.specs.World.{Accepted, Gave, GaveCell, JobCall, Refused, Work, World, call_behind, number_of_call, outcome_of}
use Rattle.fa_machine.specs.World.{with_end, with_told, with_value}
use Rattle.fa_machine.specs.Writing.{is_programming}
use Rattle.fa_machine.specs.declared.jobs.Flight.{Flight}
use Rattle.fa_machine.specs.declared.jobs.Flight.TheVariants.{Erase, Header, Move, Program, Read, Sync}
use Rattle.fa_machine.specs.declared.places.Copying.{Copying}
use Rattle.fa_machine.specs.declared.places.Target.{Target}
use Rattle.fa_machine.specs.declared.places.Version.{Version}
use Rattle.fa_sound.specs.Sound.{IsSound}
use Rattle.fa_types.specs.declared.numbers.Page.{Page}
use Rattle.fa_types.specs.declared.numbers.Slot.{Slot}
use Rattle.std.proofs.Common.{Bool, List, None, Option, Some, [], ap, eq-eqb, eqb-true, false, inl, inr, not, refl, subst, suc, sym, true, ℕ}
use Rattle.std.proofs.Common.{◌∙◌, ◌∷◌, ◌≡◌, ◌||◌, ◌⊎◌}
use Rattle.std.proofs.lemmas.Bool.{and_parts, cases_eq, false≢true, or_cases, or_left, or_right, true≢false}
use Rattle.std.proofs.lemmas.Option.{none-some, same_Some}
use Rattle.std.specs.FinMap.{contains_key, get, remove}
use Rattle.std.specs.List.{after_first, before_first}
use Rattle.std.specs.Prelude.{filter, if◌then◌else◌, is_some, option_map, ◌++◌, ◌==◌}

-- a job that is no program
no_program : (flight : Flight) → ((slot : ℕ) → is_programming (Some flight) slot ≡ false) → (page : Page) (version : Version) (slot : Slot)
    → flight ≡ Program page version slot → ⊥
no_program flight none page version slot e =
    false≢true (sym (none slot.0) ∙ ap (λ f. is_programming (Some f) slot.0) e ∙ eq-eqb slot.0 slot.0 refl)

abbrev slot_in : Flight → ℕ
slot_in (Program page version slot) = slot.0
slot_in flight = 0

abbrev TakeKnown : World → ℕ → ℕ → Option Handed × Core → Type 0
TakeKnown w die seat pair = Known (sight_of (next (Take die seat pair.0) pair.1 w))

module _ (w : World) (h : Holds w) (k : Known (sight_of w)) (die seat : ℕ) where
  -- a job that is no program begins
  plain_known : (flight : Flight) → w.works die ≡ None → ((slot : ℕ) → is_programming (Some flight) slot ≡ false)
      → Known (record (sight_of w) { works = with_value die (Some (record { job = handed flight; gave = [] })) w.works })
  plain_known flight idle none =
      begun_is_known (sight_of w) k die (handed flight) w.core.waiting idle (λ p among. among)
      (λ page version slot e. absurd (no_program flight none page version slot e))

  urgent_known : (flight : Flight) → is_idle w.core die ≡ true → IsUrgent w.core die flight
      → TakeKnown w die seat (Some (handed flight), begun die seat flight w.core)
  urgent_known (Header epoch live) idle u = plain_known (Header epoch live) (idle_works w h die idle).1 (λ slot. refl)
  urgent_known (Move page version from to) idle u = plain_known (Move page version from to) (idle_works w h die idle).1 (λ slot. refl)
  urgent_known (Erase block) idle u = plain_known (Erase block) (idle_works w h die idle).1 (λ slot. refl)
  urgent_known (Read batch page version slot) idle u = plain_known (Read batch page version slot) (idle_works w h die idle).1 (λ slot. refl)
  urgent_known (Program page version slot) idle u = absurd u
  urgent_known (Sync flushes) idle u = absurd u

  program_known : (p : WaitingProgram) → w.works die ≡ None → (p.die ≡ die) → Among p w.core.waiting
      → Known (record (sight_of w) {
        works = with_value die (Some (record { job = program_of w.core.page_map p; gave = [] })) w.works;
        waiting = before_first (is_for die) w.core.waiting ++ after_first (is_for die) w.core.waiting;
      })
  program_known p idle on among =
      begun_is_known (sight_of w) k die (program_of w.core.page_map p) (before_first (is_for die) w.core.waiting ++ after_first (is_for die) w.core.waiting) idle
      (λ q i. among-without (is_for die) q w.core.waiting (subst (Among q) (cut_first (is_for die) w.core.waiting) i))
      (λ page version slot e. subst (λ (t : ℕ × ℕ). HasTarget (sight_of w).own t.0 t.1) {x = (p.die, p.slot)} {y = (die, slot.0)}
      (λ i. (on i, ap slot_in e i)) (k.waits p among))

  other_known : (job : Option Handed) → is_idle w.core die ≡ true → IsOther (without_stale_booking die w.core) die job
      → TakeKnown w die seat (begins die seat (without_stale_booking die w.core) job)
  other_known None idle u = k
  other_known (Some job) idle u =
      elim u [
        | inl p ↦
            let found = found_passes (is_for die) w.core.waiting p.0 p.1 in
            subst (λ j. TakeKnown w die seat (begins die seat (without_stale_booking die w.core) (Some j))) (sym p.2)
            (program_known p.0 (idle_works w h die idle).1 (eqb-true p.0.die die found.0) found.1)
        | inr f ↦ subst (λ j. TakeKnown w die seat (begins die seat (without_stale_booking die w.core) (Some j))) (sym f.1)
            (plain_known (Sync f.0) (idle_works w h die idle).1 (λ slot. refl))
      ]

  pub take_known : (answer : Option Handed) (core : Core) → Takes w.core die seat answer core → Known (sight_of (next (Take die seat answer) core w))
  take_known answer core e =
      subst (TakeKnown w die seat) (sym e) (take_cases w.core die seat (TakeKnown w die seat) k urgent_known other_known)

abbrev is_fault : Outcome → Bool
is_fault (Fault call) = true
is_fault outcome = false

-- a job of which a call was refused ends with a fault
not_refused : (die : ℕ) (job : Handed) (gave : List Gave) (outcome : Outcome) → outcome_of die job gave ≡ Some outcome
    → is_fault outcome ≡ false → has_refused gave ≡ false
not_refused die job (Refused ∷ []) outcome e n = absurd (true≢false (ap is_fault (same_Some _ outcome e) ∙ n))
not_refused die job (GaveCell cell ∷ Refused ∷ []) outcome e n = absurd (true≢false (ap is_fault (same_Some _ outcome e) ∙ n))
not_refused die job (Accepted ∷ Refused ∷ []) outcome e n = behind (call_behind job.flight job.lasting) e
  where
    behind : (call : Option JobCall) → option_map (λ call. Fault (number_of_call call)) call ≡ Some outcome → has_refused (Accepted ∷ Refused ∷ []) ≡ false
    behind None e = absurd (none-some outcome e)
    behind (Some call) e = absurd (true≢false (ap is_fault (same_Some _ outcome e) ∙ n))
not_refused die job gave outcome e n = refl

module _ (w : World) (h : Holds w) (s : IsSound w.core) (k : Known (sight_of w)) (die : ℕ) (work : Work) (works : w.works die ≡ Some work) where
  abbrev over : Core
  over = record (w.core) { jobs = remove w.core.jobs die }

  abbrev after : Core → World
  after core = record w { works = with_value die None w.works; core = core; moment = suc w.moment }

  alive : is_live w.core.page_map die ≡ true
  alive = works_live w h s k die work works

  no_spare : contains_key w.core.spares die ≡ false
  no_spare = unless (contains_key w.core.spares die) refl
    where
      unless : (b : Bool) → contains_key w.core.spares die ≡ b → b ≡ false
      unless false e = refl
      unless true e = absurd (false≢true (sym (h.sound.spares die e) ∙ alive))

  abbrev there_left : ℕ → Bool
  there_left d = contains_key (remove w.core.page_map.live die) d || contains_key w.core.spares d

  fewer_there : (d : ℕ) → there_left d ≡ true → (contains_key w.core.page_map.live d || contains_key w.core.spares d) ≡ true
  fewer_there d e =
      elim (or_cases (contains_key (remove w.core.page_map.live die) d) (contains_key w.core.spares d) e) [
        | inl live ↦
            let some = has_some (get (remove w.core.page_map.live die) d) live in
            or_left (contains_key w.core.page_map.live d) (contains_key w.core.spares d) (ap is_some (get-remove_some w.core.page_map.live die d some.0 some.1).0)
        | inr spare ↦ or_right (contains_key w.core.page_map.live d) (contains_key w.core.spares d) spare
      ]

  gone : there_left die ≡ false
  gone = (λ i. is_some (get-remove_same w.core.page_map.live die i) || no_spare i)

  abbrev left : Sight
  left = record (sight_of w) { there = there_left }

  abbrev ended : Sight
  ended = record left { works = with_value die None w.works }

  -- the die goes out
  drop_known : Known (sight_of (after (drop_die die over)))
  drop_known =
      owned_is_known ended (over_is_known left (fewer_is_known (sight_of w) k there_left fewer_there) die (inr gone) (λ slot at. gone))
      (sight_of w).own (filter (λ (p : WaitingProgram). not (p.die == die)) w.core.waiting) (λ q x e. e)
      (λ p among. inl (among-filter (λ (p : WaitingProgram). not (p.die == die)) p w.core.waiting among).0)

  module _ (fine : has_refused work.gave ≡ false) where
    has_not_failed : has_failed (w.works die) ≡ false
    has_not_failed = ap has_failed works ∙ fine

    -- a job that is no program is over
    over_known : ((slot : ℕ) → is_programming (Some work.job.flight) slot ≡ false) → Known (sight_of (after over))
    over_known none = over_is_known (sight_of w) k die (inl has_not_failed)
        (λ slot at. absurd (false≢true (sym (none slot) ∙ sym (ap (λ o. is_programming (flight_at o) slot) works) ∙ at)))

    module _ (page : Page) (version : Version) (slot : Slot) (flight : work.job.flight ≡ Program page version slot)
        (of_page : (q : Option ℕ) (x : Owned) (t : Target) → IsTargetAt (sight_of w).own die slot.0 q x t → x.page ≡ page.0) where
      abbrev own : Option ℕ → Option Owned
      own = owned_of w.core.copying w.core.claims

      abbrev own_then : Option ℕ → Option Owned
      own_then = owned_of (option_map {T = Copying} (λ c. record c { target = mark die slot.0 c.target }) w.core.copying)
          (change (marks_of page.0 die slot.0) w.core.claims)

      abbrev works_then : ℕ → Option Work
      works_then = with_value die None w.works

      marked_at : (d n : ℕ) (q : Option ℕ) (x : Owned) (t : Target) → IsTargetAt own d n q x t → Marked own own_then die slot.0 d n q x t
      marked_at = marked_target page.0 die slot.0 w.core.copying w.core.claims of_page

      has_still : (d n : ℕ) → HasTarget own d n → HasTarget own_then d n
      has_still d n t =
          let m = marked_at d n t.owner t.owned t.target t.at in
          record { owner = t.owner; owned = m.owned; target = m.target; at = m.at }

      comes_still : (p d n : ℕ) (v : Version) → (c : IsComing own (w.works d) d n p v)
          → (is_programming (flight_at (w.works d)) n ≡ true → (is_programming (flight_at (works_then d)) n ≡ true) ⊎ ((d ≡ die) × (n ≡ slot.0)))
          → IsComing own_then (works_then d) d n p v
      comes_still p d n v c goes =
          let m = marked_at d n (Some c.claim) c.owned c.target c.at in
          record {
            claim = c.claim;
            owned = m.owned;
            target = m.target;
            at = m.at;
            page_is = m.page_is ∙ c.page_is;
            version_is = m.version_is ∙ c.version_is;
            done = elim c.done [
              | inl programmed ↦ inl (m.still programmed)
              | inr at ↦ elim (goes at) [
                | inl still ↦ inr still
                | inr here ↦ inl (m.here here.0 here.1)
              ]
            ];
          }

      here_or_still : (d n : ℕ) → is_programming (flight_at (w.works d)) n ≡ true
          → (is_programming (flight_at (works_then d)) n ≡ true) ⊎ ((d ≡ die) × (n ≡ slot.0))
      here_or_still d n at =
          elim (cases_eq d die) [
            | inl same ↦ inr (
              same,
              sym (eqb-true slot.0 n
                  (sym (ap (λ o. is_programming o n) (ap flight_at (ap w.works same ∙ works) ∙ ap Some flight)) ∙ at)),
            )
            | inr apart ↦ inl (ap (λ o. is_programming (flight_at o) n) (one_value_other die None w.works d apart) ∙ at)
          ]

      was_fine : (d : ℕ) → has_failed (works_then d) ≡ false → has_failed (w.works d) ≡ false
      was_fine d e =
          elim (cases_eq d die) [
            | inl same ↦ ap has_failed (ap w.works same) ∙ has_not_failed
            | inr apart ↦ sym (ap has_failed (one_value_other die None w.works d apart)) ∙ e
          ]

      programmed_known : Known (record (sight_of w) { own = own_then; works = works_then })
      programmed_known = record {
        cells = λ p d n v payload low there inside e cell. elim (k.cells p d n v payload low there inside (was_fine d e) cell) [
          | inl last ↦ inl last
          | inr c ↦ inr (comes_still p d n v c (here_or_still d n))
        ];
        waits = λ p among. has_still p.die p.slot (k.waits p among);
        programs = λ d j p v n e is. elim (cases_eq d die) [
          | inl same ↦ absurd (none-some j (sym (one_value_same die None w.works d same) ∙ e))
          | inr apart ↦ has_still d n.0 (k.programs d j p v n (sym (one_value_other die None w.works d apart) ∙ e) is)
        ];
      }

  answer_known : (batch page : ℕ) (bytes : List ℕ) (b : Option OpenBatch) → Known (sight_of (after over))
      → Known (sight_of (after (with_answer batch page bytes b over)))
  answer_known batch page bytes None known = known
  answer_known batch page bytes (Some b) known = known

  read_known : (batch page seq : ℕ) (o : Option (List ℕ)) → Known (sight_of (after over))
      → Known (sight_of (record (with_told die batch page seq o w) { works = with_value die None w.works; core = read_ends die batch page o over; moment = suc w.moment }))
  read_known batch page seq None known = drop_known
  read_known batch page seq (Some bytes) known = answer_known batch page bytes (get w.core.batches batch) known

  header_known : (b : Bool) → Known (sight_of (after over)) → Known (sight_of (after (if b then record over { behind = remove w.core.behind die } else over)))
  header_known true known = known
  header_known false known = known

  job_known : (flight : Flight) → work.job.flight ≡ flight → (outcome : Outcome)
      → JobFits (scene_of w).bytes (scene_of w).places (scene_of w).in_block (w.due die).bytes die flight work.job.payload
      → outcome_of die (record (work.job) { flight = flight }) work.gave ≡ Some outcome → is_of_kind flight outcome ≡ true
      → Known (sight_of (record (with_end die (Some flight) outcome w) {
        works = with_value die None w.works;
        core = finished die flight outcome over;
        moment = suc w.moment;
      }))
  job_known (Read batch page version slot) is (DidRead cell) fits out kind =
      read_known batch.0 page.0 version.seq.0 (payload_of page.0 version die slot.0 cell)
      (over_known (not_refused die (record (work.job) { flight = Read batch page version slot }) work.gave (DidRead cell) out refl)
      (λ n. ap (λ f. is_programming (Some f) n) is))
  job_known (Program page version slot) is DidProgram fits out kind =
      programmed_known (not_refused die (record (work.job) { flight = Program page version slot }) work.gave DidProgram out refl) page version slot is
      (λ q x t at. (fits.place.target q x t at).1)
  job_known (Move page version from to) is DidMove fits out kind =
      over_known (not_refused die (record (work.job) { flight = Move page version from to }) work.gave DidMove out refl) (λ n. ap (λ f. is_programming (Some f) n) is)
  job_known (Erase block) is DidErase fits out kind =
      over_known (not_refused die (record (work.job) { flight = Erase block }) work.gave DidErase out refl) (λ n. ap (λ f. is_programming (Some f) n) is)
  job_known (Header epoch live) is DidWriteHeader fits out kind =
      header_known (epoch == w.core.epoch)
      (over_known (not_refused die (record (work.job) { flight = Header epoch live }) work.gave DidWriteHeader out refl) (λ n. ap (λ f. is_programming (Some f) n) is))
  job_known (Sync flushes) is DidSync fits out kind =
      over_known (not_refused die (record (work.job) { flight = Sync flushes }) work.gave DidSync out refl) (λ n. ap (λ f. is_programming (Some f) n) is)
  job_known flight is (Fault call) fits out kind = drop_known
  job_known flight is Wrong fits out kind = drop_known
  job_known flight is outcome fits out kind = absurd (false≢true kind)

done_case : (w : World) (h : Holds w) (s : IsSound w.core) (k : Known (sight_of w)) (die : ℕ) (flight : Option Flight) (work : Option Work) (outcome : Outcome) (core : Core)
    → get w.core.jobs die ≡ flight → w.works die ≡ work → may_end w.core flight outcome ≡ true → HasOutcome die work outcome
    → EndsJob w.core die flight outcome core → Known (sight_of (record (with_done die flight outcome w) { core = core; moment = suc w.moment }))
done_case w h s k die None work outcome core job works may worked ends = absurd ends
done_case w h s k die (Some flight) None outcome core job works may worked ends = absurd (none-some outcome worked)
done_case w h s k die (Some flight) (Some work) outcome core job works may worked ends =
    let is : work.job.flight ≡ flight = same_Some work.job.flight flight (sym (job_at w h s k die work works) ∙ job) in
    subst (λ (c : Core). Known (sight_of (record (with_done die (Some flight) outcome w) { core = c; moment = suc w.moment }))) (sym ends)
    (job_known w h s k die work works flight is outcome
    (subst (λ f. JobFits (scene_of w).bytes (scene_of w).places (scene_of w).in_block (w.due die).bytes die f work.job.payload) is (h.sound.works die work works).job)
    (subst (λ f. outcome_of die (record (work.job) { flight = f }) work.gave ≡ Some outcome) is worked)
    (and_parts (is_of_kind flight outcome) (is_sized_read w.core outcome) may).0)

pub done_known : (w : World) → Holds w → IsSound w.core → Known (sight_of w) → (die : ℕ) (outcome : Outcome) (core : Core)
    → allowed w.core (Done die outcome) ≡ true → HasOutcome die (w.works die) outcome → EndsJob w.core die (get w.core.jobs die) outcome core
    → Known (sight_of (next (Done die outcome) core w))
done_known w h s k die outcome core may worked ends = done_case w h s k die (get w.core.jobs die) (w.works die) outcome core refl refl may worked ends
