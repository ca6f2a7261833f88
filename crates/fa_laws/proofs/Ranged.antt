-- Each used slot is one of its die.
use Rattle.fa_laws.proofs.Endings.{HappensCall, HasOutcome}
use Rattle.fa_laws.proofs.Committing.{reserved_owned}
use Rattle.fa_laws.proofs.Events.{happens_holds}
use Rattle.fa_laws.proofs.Finishing.{passed_some}
use Rattle.fa_laws.proofs.Invariant.{Holds, owned_of, scene_of}
use Rattle.fa_machine.proofs.Lists.{among-filter, among-map, among-take, among_low, found_passes, no_refusal, none_found}
use Rattle.fa_machine.proofs.Maps.{get-change, get-keep, get-place_other, place_cmp_total, place_same}
use Rattle.fa_machine.proofs.Values.{get-insert_all}
use Rattle.fa_laws.proofs.Runs.{run_keeps}
use Rattle.fa_laws.proofs.Scene.{JobFits, Owned, is_settled}
use Rattle.fa_machine.specs.Among.{Among}
use Rattle.fa_laws.proofs.Starts.{beginning_holds}
use Rattle.fa_machine.proofs.Takes.{IsOther, IsUrgent, take_cases}
use Rattle.fa_laws.specs.Reached.{IsReached}
use Rattle.fa_machine.specs.Cells.{DidErase, DidMove, DidProgram, DidRead, DidSync, DidWriteHeader, Fault, Outcome, Wrong}
use Rattle.fa_machine.specs.Collecting.{is_erased_outside}
use Rattle.fa_machine.specs.Conditions.{drop_die, reserved_under}
use Rattle.fa_machine.specs.Copies.{holds_page}
use Rattle.fa_machine.specs.Maps.{change, insert_all, keep, place_cmp}
use Rattle.fa_machine.specs.Placement.{copies_asked, copy_place, free, has_room, is_erased_slot, lowest_erased, order_of, room}
use Rattle.fa_machine.specs.Placement.{targets}
use Rattle.fa_machine.specs.Run.{CallsNext, Event, Happening, Happens, ImageCall}
use Rattle.fa_machine.specs.State.{Core, MapState, OpenBatch, Reservation, is_live, slots_of, used_at}
use Rattle.fa_machine.specs.Step.{Abandon, Act, Admit, Advance, Claim, Commit, CommitCopy, Does, Done, EndBatch, FlushBegin}
use Rattle.fa_machine.specs.Step.{FlushState, Fold, Release, Replan, Reserve, ReserveCopy, ReserveFewer, ReserveHole, SpareIn, Take}
use Rattle.fa_machine.specs.Step.{Window}
use Rattle.fa_machine.specs.Taking.{EndsJob, Handed, Takes, begins, begun, finished, read_ends, stays, with_answer}
use Rattle.fa_machine.specs.Taking.{without_stale_booking}
use Rattle.fa_machine.specs.Turning.{CommitsCopy, copying_to}
use Rattle.fa_machine.specs.World.{Gave, IsTold, JobCall, Work, World, next_call}
use Rattle.fa_machine.specs.Writing.{Abandons, Commits, Reserves, claimed_page, live_targets, target_on}
use Rattle.fa_machine.specs.Writing.{without_page}
use Rattle.fa_machine.specs.declared.answers.Copied.{Copied}
use Rattle.fa_machine.specs.declared.answers.Copied.TheVariants.{Current, Late}
use Rattle.fa_machine.specs.declared.jobs.Flight.{Flight}
use Rattle.fa_machine.specs.declared.jobs.Flight.TheVariants.{Erase, Header, Move, Program, Read, Sync}
use Rattle.fa_machine.specs.declared.places.Copying.{Copying}
use Rattle.fa_types.specs.declared.kind.Kind.{Kind}
use Rattle.fa_machine.specs.declared.places.Target.{Target}
use Rattle.fa_machine.specs.declared.places.Used.{Used}
use Rattle.fa_machine.specs.declared.places.Used.TheVariants.{Held, Reserved, Stale}
use Rattle.fa_machine.specs.declared.places.Version.{Version}
use Rattle.fa_machine.specs.declared.refusals.AbandonRefused.{AbandonRefused}
use Rattle.fa_machine.specs.declared.refusals.ClaimRefused.TheVariants.{Claimed, NoMemory as ClaimNoMemory}
use Rattle.fa_machine.specs.declared.refusals.CommitCopyRefused.{CommitCopyRefused}
use Rattle.fa_machine.specs.declared.refusals.CommitCopyRefused.TheVariants.{Failed as CopyFailed, Pending as CopyPending}
use Rattle.fa_machine.specs.declared.refusals.CommitRefused.{CommitRefused}
use Rattle.fa_machine.specs.declared.refusals.FlushRefused.TheVariants.{Spent}
use Rattle.fa_machine.specs.declared.refusals.ReserveCopyRefused.TheVariants.{NoMemory as CopyNoMemory}
use Rattle.fa_machine.specs.declared.refusals.ReserveRefused.{ReserveRefused}
use Rattle.fa_machine.specs.declared.refusals.ReserveRefused.TheVariants.{NoMemory as ReserveNoMemory}
use Rattle.fa_machine.specs.declared.refusals.SpareRefused.TheVariants.{NotSpare}
use Rattle.fa_machine.specs.declared.refusals.WindowRefused.TheVariants.{Busy as WindowBusy, HasOne, NoMemory as WindowNoMemory}
use Rattle.fa_types.specs.declared.numbers.Seq.{Seq}
use Rattle.std.proofs.Common.{Bool, List, None, Option, Some, [], ap, arith, false, inl, inr, map, not, refl, subst, sym, true}
use Rattle.std.proofs.Common.{ℕ, ◌*◌, ◌-◌, ◌/◌, ◌<◌, ◌∙◌, ◌∷◌, ◌≡◌}
use Rattle.std.proofs.lemmas.Bool.{and_parts, cases_eq, false≢true, ltb-true, not-false}
use Rattle.std.proofs.lemmas.Option.{none-some, same_Some}
use Rattle.std.specs.FinMap.{FinMap, get, insert, remove}
use Rattle.std.specs.Prelude.{Err, Ok, Result, filter, if◌then◌else◌, is_some, option_map, unwrap_or, ◌&&◌, ◌==◌}

abbrev pub slots_total : Core → ℕ
slots_total core = core.page_map.geometry.blocks * core.page_map.geometry.slots

abbrev pub AreRanged : ℕ → FinMap place_cmp Used → Type 0
AreRanged total used = (d k : ℕ) (u : Used) → get used (d, k) ≡ Some u → k < total

abbrev pub Ranged : Core → Type 0
Ranged core = AreRanged (slots_total core) core.page_map.used

-- the slot that a die with room has for a copy is one of its slots
pub room_low : (m : MapState) (die : ℕ) → has_room m die ≡ true → (target_on m die).slot.0 < m.geometry.blocks * m.geometry.slots
room_low m die room = low (lowest_erased m die) refl
  where
    low : (slot : Option ℕ) → lowest_erased m die ≡ slot → unwrap_or slot 0 < m.geometry.blocks * m.geometry.slots
    low (Some slot) e =
        let h = among_low 0 (m.geometry.blocks * m.geometry.slots) slot (found_passes (is_erased_slot m die) (slots_of m) slot e).1 in omega (arith, h)
    low None e =
        let none = none_found (is_erased_slot m die) (slots_of m) e in
        let some = ltb-true 0 (free m die - m.geometry.slots) (and_parts (is_live m die) _ room).1 in
        absurd (omega (arith, none, some))

pub ranged_all : (total : ℕ) (ts : List Target) (final : Used) (used : FinMap place_cmp Used) → AreRanged total used
    → ((t : Target) → Among t ts → t.slot.0 < total) → AreRanged total (insert_all (map (λ (t : Target). (t.die.0, t.slot.0)) ts) final used)
ranged_all total ts final used ranged low d k u e =
    elim (get-insert_all place_cmp_total place_same (map (λ (t : Target). (t.die.0, t.slot.0)) ts) final used (d, k)) [
      | inl same ↦ ranged d k u (sym same ∙ e)
      | inr found ↦
          let t = among-map (λ (t : Target). (t.die.0, t.slot.0)) (d, k) ts found.0 in
          subst (λ n. n < total) (ap (λ (q : ℕ × ℕ). q.1) t.2) (low t.0 t.1)
    ]

pub ranged_insert : (total : ℕ) (used : FinMap place_cmp Used) (die slot : ℕ) (x : Used) → AreRanged total used → slot < total
    → AreRanged total (insert used (die, slot) x)
ranged_insert total used die slot x ranged low d k u e =
    elim (cases_eq k slot) [
      | inl same ↦ subst (λ n. n < total) (sym same) low
      | inr apart ↦ ranged d k u (sym (get-place_other used die slot x d k (λ f g. apart g)) ∙ e)
    ]

pub ranged_keep : (total : ℕ) (used : FinMap place_cmp Used) (test : ℕ × ℕ → Used → Bool) → AreRanged total used → AreRanged total (keep test used)
ranged_keep total used test ranged d k u e =
    ranged d k u (passed_some (test (d, k)) (get used (d, k)) u (sym (get-keep place_cmp_total place_same test used (d, k)) ∙ e))

pub ranged_change : (total : ℕ) (used : FinMap place_cmp Used) (f : ℕ × ℕ → Used → Used) → AreRanged total used → AreRanged total (change f used)
ranged_change total used f ranged d k u e = was (get used (d, k)) refl (sym (get-change place_cmp_total place_same f used (d, k)) ∙ e)
  where
    was : (o : Option Used) → get used (d, k) ≡ o → option_map (f (d, k)) o ≡ Some u → k < total
    was None is e = absurd (none-some u e)
    was (Some x) is e = ranged d k x is

-- the targets of what is reserved are in range where their dies are live
pub owned_low : (w : World) → Holds w → Ranged w.core → (q : Option ℕ) (x : Owned) → owned_of w.core.copying w.core.claims q ≡ Some x
    → (t : Target) → Among t x.targets → is_live w.core.page_map t.die.0 ≡ true → t.slot.0 < slots_total w.core
owned_low w h ranged q x owns t among alive =
    ranged t.die.0 t.slot.0 Reserved (((h.sound.owned q x owns).targets t among).kept alive)

module _ (w : World) (h : Holds w) (ranged : Ranged w.core) where
  new_low : (page : ℕ) (t : Target) → Among t (map (target_on w.core.page_map) (targets w.core.copies w.core.page_map page)) → t.slot.0 < slots_total w.core
  new_low page t among =
      let found = among-map (target_on w.core.page_map) t (targets w.core.copies w.core.page_map page) among in
      let in_order = among-take (copies_asked w.core.copies w.core.page_map) found.0 (filter (has_room w.core.page_map) (order_of w.core.copies w.core.page_map page)) found.1 in
      let room = (among-filter (has_room w.core.page_map) found.0 (order_of w.core.copies w.core.page_map page) in_order).1 in
      subst (λ (u : Target). u.slot.0 < slots_total w.core) found.2 (room_low w.core.page_map found.0 room)

  reserve_ranged : (claim least : ℕ) (kind : Kind) (payload : List ℕ) (answer : Result Seq ReserveRefused) (core : Core)
      → Reserves w.core claim least kind payload answer core → Ranged core
  reserve_ranged claim least kind payload (Ok seq) core d =
      subst Ranged (sym d.2) (ranged_all (slots_total w.core) (map (target_on w.core.page_map) (targets w.core.copies w.core.page_map (claimed_page w.core claim))) Reserved
      w.core.page_map.used ranged (new_low (claimed_page w.core claim)))
  reserve_ranged claim least kind payload (Err ReserveNoMemory) core d = subst Ranged (sym d.1) ranged
  reserve_ranged claim least kind payload (Err refused) core d = subst Ranged (sym d.1) ranged

  live_low : (claim : ℕ) (r : Reservation) → reserved_under w.core claim ≡ Some r → (t : Target) → Among t (live_targets w.core r.targets)
      → t.slot.0 < slots_total w.core
  live_low claim r is t among =
      let kept = among-filter (λ (t : Target). is_live w.core.page_map t.die.0) t r.targets among in
      owned_low w h ranged (Some claim) _ (reserved_owned (get w.core.claims claim) r is) t kept.0 kept.1

  commit_ranged : (claim seat : ℕ) (o : Option Reservation) → reserved_under w.core claim ≡ o → (answer : Result Seq CommitRefused) (core : Core)
      → Commits w.core claim seat o answer core → Ranged core
  commit_ranged claim seat None is answer core d = absurd d
  commit_ranged claim seat (Some r) is (Ok seq) core d =
      subst Ranged (sym d.2) (ranged_all (slots_total w.core) (live_targets w.core r.targets) _ _
      (ranged_change (slots_total w.core) w.core.page_map.used (λ place used. without_page (claimed_page w.core claim) used) ranged) (live_low claim r is))
  commit_ranged claim seat (Some r) is (Err refused) core d = subst Ranged (sym d.1) ranged

  abandon_ranged : (claim : ℕ) (o : Option Reservation) → reserved_under w.core claim ≡ o → (answer : Result (Unit {0}) AbandonRefused) (core : Core)
      → Abandons w.core claim o answer core → Ranged core
  abandon_ranged claim None is answer core d = absurd d
  abandon_ranged claim (Some r) is (Ok made) core d =
      subst Ranged (sym d.1) (ranged_all (slots_total w.core) (live_targets w.core r.targets) Stale w.core.page_map.used ranged (live_low claim r is))
  abandon_ranged claim (Some r) is (Err refused) core d = subst Ranged (sym d.1) ranged

  copy_low : (c : Copying) → w.core.copying ≡ Some c → (is_live w.core.page_map c.target.die.0 && not c.target.programmed) ≡ false × (not (is_live w.core.page_map c.target.die.0) ≡ false)
      → (t : Target) → Among t (c.target ∷ []) → t.slot.0 < slots_total w.core
  copy_low c is none t (inl same) =
      subst (λ (u : Target). u.slot.0 < slots_total w.core) same
      (owned_low w h ranged None _ (ap (option_map {T = Copying} (λ c. record { page = c.page.0; version = c.version; targets = c.target ∷ [] })) is) c.target (inl refl)
      (not-false (is_live w.core.page_map c.target.die.0) none.1))
  copy_low c is none t (inr rest) = absurd rest

  commit_copy_ranged : (o : Option Copying) → w.core.copying ≡ o → (answer : Result Copied CommitCopyRefused) (core : Core) → CommitsCopy w.core o answer core → Ranged core
  commit_copy_ranged None is answer core d = absurd d
  commit_copy_ranged (Some c) is (Ok Current) core d =
      subst Ranged (sym d.2) (ranged_all (slots_total w.core) (c.target ∷ []) (Held c.page c.version) w.core.page_map.used ranged
      (copy_low c is (no_refusal (is_live w.core.page_map c.target.die.0 && not c.target.programmed) (not (is_live w.core.page_map c.target.die.0)) CopyPending CopyFailed d.0)))
  commit_copy_ranged (Some c) is (Ok Late) core d =
      subst Ranged (sym d.2) (ranged_all (slots_total w.core) (c.target ∷ []) Stale w.core.page_map.used ranged
      (copy_low c is (no_refusal (is_live w.core.page_map c.target.die.0 && not c.target.programmed) (not (is_live w.core.page_map c.target.die.0)) CopyPending CopyFailed d.0)))
  commit_copy_ranged (Some c) is (Err CopyPending) core d = subst Ranged (sym d.1) ranged
  commit_copy_ranged (Some c) is (Err CopyFailed) core d = subst Ranged (sym d.1) ranged

  copying_ranged : (page : ℕ) (payload : List ℕ) (v : Option Version) (die : Option ℕ) → copy_place w.core.copies w.core.page_map page ≡ die → Ranged (copying_to w.core page payload v die)
  copying_ranged page payload (Some v) (Some die) e =
      let found = found_passes (λ d. has_room w.core.page_map d && not (holds_page w.core.page_map page d)) (order_of w.core.copies w.core.page_map page) die e in
      let room = (and_parts (has_room w.core.page_map die) _ found.0).0 in
      ranged_insert (slots_total w.core) w.core.page_map.used die (target_on w.core.page_map die).slot.0 Reserved ranged (room_low w.core.page_map die room)
  copying_ranged page payload (Some v) None e = ranged
  copying_ranged page payload None die e = ranged

  begun_ranged : (die seat : ℕ) (flight : Flight) → IsUrgent w.core die flight → Ranged (begun die seat flight w.core)
  begun_ranged die seat (Header epoch live) u = ranged
  begun_ranged die seat (Move page version from to) u =
      ranged_insert (slots_total w.core) w.core.page_map.used die to.0 Reserved ranged
      (let n = among_low 0 (slots_total w.core) to.0 (found_passes (is_erased_outside w.core.page_map die (from.0 / w.core.page_map.geometry.slots)) (slots_of w.core.page_map) to.0 u.1).1 in omega (arith, n))
  begun_ranged die seat (Erase block) u = ranged
  begun_ranged die seat (Read batch page version slot) u = ranged
  begun_ranged die seat (Program page version slot) u = absurd u
  begun_ranged die seat (Sync flushes) u = absurd u

  other_ranged : (die seat : ℕ) (job : Option Handed) → IsOther (without_stale_booking die w.core) die job → Ranged (begins die seat (without_stale_booking die w.core) job).1
  other_ranged die seat None u = ranged
  other_ranged die seat (Some job) u =
      elim u [
        | inl p ↦ subst (λ j. Ranged (begins die seat (without_stale_booking die w.core) (Some j)).1) (sym p.2) ranged
        | inr f ↦ subst (λ j. Ranged (begins die seat (without_stale_booking die w.core) (Some j)).1) (sym f.1) ranged
      ]

  take_ranged : (die seat : ℕ) (answer : Option Handed) (core : Core) → Takes w.core die seat answer core → Ranged core
  take_ranged die seat answer core e =
      subst (λ (pair : Option Handed × Core). Ranged pair.1) (sym e)
      (take_cases w.core die seat (λ (pair : Option Handed × Core). Ranged pair.1) ranged (λ flight idle u. begun_ranged die seat flight u) (λ job idle u. other_ranged die seat job u))

  settled_some : (o : Option Used) → is_settled o ≡ true → (u : Used) × (o ≡ Some u)
  settled_some None e = absurd (false≢true e)
  settled_some (Some u) e = (u, refl)

  abbrev over : ℕ → Core
  over die = record (w.core) { jobs = remove w.core.jobs die }

  answer_ranged : (die batch page : ℕ) (bytes : List ℕ) (b : Option OpenBatch) → Ranged (with_answer batch page bytes b (over die))
  answer_ranged die batch page bytes None = ranged
  answer_ranged die batch page bytes (Some b) = ranged

  dropped_ranged : (die : ℕ) → Ranged (drop_die die (over die))
  dropped_ranged die = ranged_keep (slots_total w.core) w.core.page_map.used (λ place used. not (place.0 == die)) ranged

  read_ranged : (die batch page : ℕ) (o : Option (List ℕ)) → Ranged (read_ends die batch page o (over die))
  read_ranged die batch page None = dropped_ranged die
  read_ranged die batch page (Some bytes) = answer_ranged die batch page bytes (get w.core.batches batch)

  header_ranged : (b : Bool) (die : ℕ) → Ranged (if b then record (over die) { behind = remove w.core.behind die } else over die)
  header_ranged true die = ranged
  header_ranged false die = ranged

  finished_ranged : (die : ℕ) (flight : Flight) (payload : List ℕ) (outcome : Outcome)
      → JobFits (scene_of w).bytes (scene_of w).places (scene_of w).in_block (w.due die).bytes die flight payload → Ranged (finished die flight outcome (over die))
  finished_ranged die (Read batch page version slot) payload (DidRead cell) fits = read_ranged die batch.0 page.0 _
  finished_ranged die (Program page version slot) payload DidProgram fits = ranged
  finished_ranged die (Move page version from to) payload DidMove fits =
      let source = settled_some (used_at w.core.page_map die from.0) fits.settled in
      ranged_insert (slots_total w.core) (insert w.core.page_map.used (die, from.0) Stale) die to.0 _
      (ranged_insert (slots_total w.core) w.core.page_map.used die from.0 Stale ranged (ranged die from.0 source.0 source.1)) (ranged die to.0 Reserved fits.kept)
  finished_ranged die (Erase block) payload DidErase fits = ranged_keep (slots_total w.core) w.core.page_map.used (stays w.core.page_map die block.0) ranged
  finished_ranged die (Header epoch live) payload DidWriteHeader fits = header_ranged (epoch == w.core.epoch) die
  finished_ranged die (Sync flushes) payload DidSync fits = ranged
  finished_ranged die flight payload (Fault call) fits = dropped_ranged die
  finished_ranged die flight payload Wrong fits = dropped_ranged die
  finished_ranged die flight payload outcome fits = ranged

  done_ranged : (die : ℕ) (flight : Option Flight) (work : Option Work) (outcome : Outcome) (core : Core) → get w.core.jobs die ≡ flight → w.works die ≡ work
      → HasOutcome die work outcome → EndsJob w.core die flight outcome core → Ranged core
  done_ranged die None work outcome core job works worked e = absurd e
  done_ranged die (Some flight) None outcome core job works worked e = absurd (none-some outcome worked)
  done_ranged die (Some flight) (Some work) outcome core job works worked e =
      let is : work.job.flight ≡ flight = same_Some work.job.flight flight (sym (ap (option_map {T = Work} (λ k. k.job.flight)) works) ∙ sym (h.jobs die) ∙ job) in
      subst Ranged (sym e) (finished_ranged die flight work.job.payload outcome
      (subst (λ f. JobFits (scene_of w).bytes (scene_of w).places (scene_of w).in_block (w.due die).bytes die f work.job.payload) is (h.sound.works die work works).job))

  event_ranged : (act : Act) (core : Core) → Does w.core act core → IsTold w act → Ranged core
  event_ranged (Claim page (Ok id)) core d told = subst Ranged (sym d.2) ranged
  event_ranged (Claim page (Err Claimed)) core d told = subst Ranged (sym d.1) ranged
  event_ranged (Claim page (Err ClaimNoMemory)) core d told = subst Ranged (sym d.1) ranged
  event_ranged (Release claim) core d told = subst Ranged (sym d) ranged
  event_ranged (Reserve claim payload answer) core d told = reserve_ranged claim _ _ payload answer core d
  event_ranged (ReserveHole claim answer) core d told = reserve_ranged claim _ _ _ answer core d
  event_ranged (ReserveFewer claim payload answer) core d told = reserve_ranged claim _ _ payload answer core d
  event_ranged (Commit claim seat answer) core d told = commit_ranged claim seat (reserved_under w.core claim) refl answer core d
  event_ranged (Abandon claim answer) core d told = abandon_ranged claim (reserved_under w.core claim) refl answer core d
  event_ranged (Admit pages (Ok admitted)) core d told = subst Ranged (sym d.2) ranged
  event_ranged (Admit pages (Err refused)) core d told = subst Ranged (sym d.1) ranged
  event_ranged (Replan batch (Ok planned)) core d told = subst Ranged (sym d.1) ranged
  event_ranged (Replan batch (Err refused)) core d told = subst Ranged (sym d.1) ranged
  event_ranged (EndBatch batch answer) core d told = subst Ranged (sym d.1) ranged
  event_ranged (Take die seat answer) core d told = take_ranged die seat answer core d
  event_ranged (Done die outcome) core d told = done_ranged die (get w.core.jobs die) (w.works die) outcome core refl refl told d
  event_ranged (Window die count (Ok first)) core d told = subst Ranged (sym d.3) ranged
  event_ranged (Window die count (Err WindowBusy)) core d told = subst Ranged (sym d.1) ranged
  event_ranged (Window die count (Err HasOne)) core d told = subst Ranged (sym d.2) ranged
  event_ranged (Window die count (Err WindowNoMemory)) core d told = subst Ranged (sym d.2) ranged
  event_ranged (Advance (Ok round)) core d told = subst Ranged (sym d.2) ranged
  event_ranged (Advance (Err refused)) core d told = subst Ranged (sym d.1) ranged
  event_ranged (SpareIn die (Ok made)) core d told = subst Ranged (sym d.1) ranged
  event_ranged (SpareIn die (Err NotSpare)) core d told = subst Ranged (sym d.1) ranged
  event_ranged (ReserveCopy page seq payload (Ok made)) core d told =
      subst Ranged (sym d.1) (copying_ranged page payload (get w.core.page_map.versions page) (copy_place w.core.copies w.core.page_map page) refl)
  event_ranged (ReserveCopy page seq payload (Err CopyNoMemory)) core d told = subst Ranged (sym d.1) ranged
  event_ranged (ReserveCopy page seq payload (Err refused)) core d told = subst Ranged (sym d.1) ranged
  event_ranged (CommitCopy answer) core d told = commit_copy_ranged w.core.copying refl answer core d
  event_ranged (FlushBegin (Ok flush)) core d told = subst Ranged (sym d.3) ranged
  event_ranged (FlushBegin (Err Spent)) core d told = subst Ranged (sym d.1) ranged
  event_ranged (FlushState flush answer) core d told = subst Ranged (sym d.1) ranged
  event_ranged Fold core d told = subst Ranged (sym d) ranged

call_core : (before after : World) (die : ℕ) (work : Option Work) (gave : Gave) → HappensCall before die work gave after → after.core ≡ before.core
call_core before after die None gave c = absurd c
call_core before after die (Some work) gave c = next_core (next_call die work.job work.gave) c
  where
    next_core : (call : Option JobCall) → CallsNext before die (Some work) call gave after → after.core ≡ before.core
    next_core None c = absurd c
    next_core (Some call) c = ap (λ (v : World). v.core) c.2

pub calls_core : (before after : World) (die : ℕ) (work : Option Work) (gave : Gave) → HappensCall before die work gave after → after.core ≡ before.core
calls_core before after die work gave c = call_core before after die work gave c

-- what holds of each world that a run leads to, with what is in range
pub record HoldsRanged (w : World) : Type 0 where
  pub holds : Holds w
  pub ranged : Ranged w.core

pub happens_ranged : (before : World) (happening : Happening) (after : World) → HoldsRanged before → Happens before happening after → HoldsRanged after
happens_ranged before (Event act) after h happens = record {
  holds = happens_holds before (Event act) after h.holds happens;
  ranged = event_ranged before h.holds h.ranged act after.core happens.step.does happens.told;
}
happens_ranged before (ImageCall die gave) after h happens = record {
  holds = happens_holds before (ImageCall die gave) after h.holds happens;
  ranged = subst Ranged (sym (call_core before after die (before.works die) gave happens)) h.ranged;
}

pub reached_ranged : (w : World) → IsReached w → HoldsRanged w
reached_ranged w r =
    run_keeps HoldsRanged happens_ranged r.first r.happenings w
    (record { holds = beginning_holds r.first r.beginning; ranged = λ d k u e. (r.beginning.used d k (ap is_some e)).1 }) r.run
