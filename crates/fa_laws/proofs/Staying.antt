-- A current copy stays with its die until its page is written again.
use Rattle.fa_laws.proofs.Endings.{HasOutcome}
use Rattle.fa_batch_terms.specs.Batch.{holds}
use Rattle.fa_laws.proofs.Claiming.{room_erased}
use Rattle.fa_laws.proofs.Committing.{reserved_owned}
use Rattle.fa_laws.proofs.Finishing.{passed_all}
use Rattle.fa_laws.proofs.Handing.{holds_held, no_state}
use Rattle.fa_laws.proofs.ImageCalls.{read_too}
use Rattle.fa_laws.proofs.Invariant.{Holds, scene_of}
use Rattle.fa_machine.proofs.Lists.{among-filter, among-map, among-map-intro, among-range, among-take, found_passes, no_refusal, none_passes}
use Rattle.fa_machine.proofs.Maps.{get-change, get-insert_other, get-insert_same, get-keep}
use Rattle.fa_machine.proofs.Values.{get-insert_all, get-insert_all_among}
use Rattle.fa_machine.proofs.Maps.{get-place_other, get-place_same, get-remove_same, place_cmp_total, place_itself, place_same}
use Rattle.fa_laws.proofs.Outlasting.{dropped_other, moved_other}
use Rattle.fa_laws.proofs.Parts.{kept≢held}
use Rattle.fa_laws.proofs.Ranged.{HoldsRanged, Ranged, calls_core, happens_ranged, reached_ranged, slots_total}
use Rattle.fa_laws.proofs.Returning.{OutLaw, SparesLaw, spareless}
use Rattle.fa_laws.proofs.Runs.{runs_on}
use Rattle.fa_laws.proofs.Scene.{IsErasing, IsMoving, JobFits}
use Rattle.fa_machine.specs.Among.{Among}
use Rattle.fa_machine.proofs.Takes.{IsOther, IsUrgent, take_cases}
use Rattle.fa_laws.specs.Leaving.{LeavesPage, RunLeaving}
use Rattle.fa_laws.specs.Reached.{IsReached}
use Rattle.fa_machine.specs.Cells.{Broken, Cell, DidErase, DidMove, DidProgram, DidRead, DidSync, DidWriteHeader, Empty, Fault}
use Rattle.fa_machine.specs.Cells.{Outcome, Sealed, Wrong, payload_of}
use Rattle.fa_machine.specs.Collecting.{is_erased_outside, is_in_block}
use Rattle.fa_machine.specs.Conditions.{drop_die, reserved_under}
use Rattle.fa_machine.specs.Copies.{copy_on, holds_last, holds_page, is_current, is_held_slot, is_reserved_slot}
use Rattle.fa_machine.specs.Maps.{change, insert_all, place_cmp}
use Rattle.fa_machine.specs.Placement.{copies_asked, copy_place, has_room, is_erased_slot, order_of, targets}
use Rattle.fa_machine.specs.Run.{Event, Happening, Happens, HappensEvent, ImageCall, Run}
use Rattle.fa_machine.specs.State.{Core, MapState, OpenBatch, Reservation, is_live, slots_of, used_at}
use Rattle.fa_machine.specs.Step.{Abandon, Act, Admit, Advance, Claim, Commit, CommitCopy, Does, Done, EndBatch, FlushBegin}
use Rattle.fa_machine.specs.Step.{FlushState, Fold, Release, Replan, Reserve, ReserveCopy, ReserveFewer, ReserveHole, SpareIn, Take}
use Rattle.fa_machine.specs.Step.{Window}
use Rattle.fa_machine.specs.Taking.{EndsJob, Handed, Takes, begins, begun, erase_ends, finished, move_ends, read_ends, stays}
use Rattle.fa_machine.specs.Taking.{stepped_on, with_answer, without_stale_booking}
use Rattle.fa_machine.specs.Turning.{CommitsCopy, copying_to}
use Rattle.fa_machine.specs.World.{IsTold, Work, World}
use Rattle.fa_machine.specs.Writing.{Abandons, Commits, Reserves, claimed_page, live_targets, target_on}
use Rattle.fa_machine.specs.Writing.{without_page}
use Rattle.fa_machine.specs.declared.answers.Copied.{Copied}
use Rattle.fa_machine.specs.declared.answers.Copied.TheVariants.{Current, Late}
use Rattle.fa_machine.specs.declared.jobs.Flight.{Flight}
use Rattle.fa_machine.specs.declared.jobs.Flight.TheVariants.{Erase, Header, Move, Program, Read, Sync}
use Rattle.fa_machine.specs.declared.places.Copying.{Copying}
use Rattle.fa_types.specs.declared.kind.Kind.{Kind}
use Rattle.fa_machine.specs.declared.places.Target.{Target}
use Rattle.fa_machine.specs.declared.places.Used.{Used}
use Rattle.fa_machine.specs.declared.places.Used.TheVariants.{Held, Reserved, Stale}
use Rattle.fa_machine.specs.declared.places.Version.{Version}
use Rattle.fa_machine.specs.declared.refusals.AbandonRefused.{AbandonRefused}
use Rattle.fa_machine.specs.declared.refusals.ClaimRefused.TheVariants.{Claimed, NoMemory as ClaimNoMemory}
use Rattle.fa_machine.specs.declared.refusals.CommitCopyRefused.{CommitCopyRefused}
use Rattle.fa_machine.specs.declared.refusals.CommitCopyRefused.TheVariants.{Failed as CopyFailed, Pending as CopyPending}
use Rattle.fa_machine.specs.declared.refusals.CommitRefused.{CommitRefused}
use Rattle.fa_machine.specs.declared.refusals.FlushRefused.TheVariants.{Spent}
use Rattle.fa_machine.specs.declared.refusals.ReserveCopyRefused.TheVariants.{NoMemory as CopyNoMemory}
use Rattle.fa_machine.specs.declared.refusals.ReserveRefused.{ReserveRefused}
use Rattle.fa_machine.specs.declared.refusals.ReserveRefused.TheVariants.{NoMemory as ReserveNoMemory}
use Rattle.fa_machine.specs.declared.refusals.SpareRefused.TheVariants.{NotSpare}
use Rattle.fa_machine.specs.declared.refusals.WindowRefused.TheVariants.{Busy as WindowBusy, HasOne, NoMemory as WindowNoMemory}
use Rattle.fa_types.specs.declared.numbers.Page.{Page}
use Rattle.fa_types.specs.declared.numbers.Seq.{Seq}
use Rattle.std.proofs.Common.{Bool, List, None, Option, Some, [], ap, arith, eq-eqb, eqb-true, false, inl, inr, map, not, refl, subst}
use Rattle.std.proofs.Common.{sym, true, ℕ, ◌/◌, ◌∙◌, ◌∷◌, ◌≡◌}
use Rattle.std.proofs.lemmas.Bool.{and_from, and_parts, cases_Bool, cases_eq, false_from_ne_true, false≢true, ne_eqb, not-false, not_from_false}
use Rattle.std.proofs.lemmas.Bool.{or_cases, or_left, true≢false}
use Rattle.std.proofs.lemmas.Option.{cond_some, none-some, same_Some}
use Rattle.std.specs.FinMap.{FinMap, contains_key, get, insert, remove}
use Rattle.std.specs.List.{list_any}
use Rattle.std.specs.Ordering.{nat_cmp}
use Rattle.std.specs.Prelude.{Err, Ok, Result, filter, find, if◌then◌else◌, is_some, option_map, ◌&&◌, ◌==◌, ◌++◌}

-- a slot of a live die that holds the page with its number
pub record HasCopy (core : Core) (page die : ℕ) : Type 0 where
  pub version : Version
  pub number : get core.page_map.versions page ≡ Some version
  pub slot : ℕ
  pub tag_page : Page
  pub tag_version : Version
  pub held : get core.page_map.used (die, slot) ≡ Some (Held tag_page tag_version)
  pub page_is : tag_page.0 ≡ page
  pub seq_is : tag_version.seq.0 ≡ version.seq.0

pub copy_from_holds : (core : Core) (page die : ℕ) → holds_page core.page_map page die ≡ true → HasCopy core page die
copy_from_holds core page die holds = at_slot (copy_on core.page_map page die) refl holds
  where
    of_number : (slot : ℕ) (v : Option Version) → get core.page_map.versions page ≡ v → holds_last page v (used_at core.page_map die slot) ≡ true → HasCopy core page die
    of_number slot None e is = absurd (false≢true is)
    of_number slot (Some v) e is =
        let found = holds_held page v (used_at core.page_map die slot) is in
        record { version = v; number = e; slot = slot; tag_page = found.0; tag_version = found.1; held = found.2; page_is = found.3; seq_is = found.4 }

    at_slot : (s : Option ℕ) → copy_on core.page_map page die ≡ s → is_some s ≡ true → HasCopy core page die
    at_slot None e is = absurd (false≢true is)
    at_slot (Some slot) e is =
        let current = (found_passes (is_current core.page_map page die) (slots_of core.page_map) slot e).0 in
        of_number slot (get core.page_map.versions page) refl (and_parts (is_live core.page_map die) _ current).1

find_some : {X : Type 0} (p : X → Bool) (xs : List X) (x : X) → Among x xs → p x ≡ true → is_some (find p xs) ≡ true
find_some p xs x i t = by_find (find p xs) refl
  where
    by_find : (o : Option _) → find p xs ≡ o → is_some (find p xs) ≡ true
    by_find None e = absurd (true≢false (sym t ∙ none_passes p xs e x i))
    by_find (Some y) e = ap is_some e

pub holds_from_copy : (core : Core) (page die : ℕ) → HasCopy core page die → Ranged core → is_live core.page_map die ≡ true → holds_page core.page_map page die ≡ true
holds_from_copy core page die c ranged alive =
    let low = ranged die c.slot (Held c.tag_page c.tag_version) c.held in
    find_some (is_current core.page_map page die) (slots_of core.page_map) c.slot (among-range 0 (slots_total core) c.slot (omega arith) (omega (arith, low)))
    (and_from (is_live core.page_map die) (holds_last page (get core.page_map.versions page) (used_at core.page_map die c.slot)) alive
    ((λ i. holds_last page (c.number i) (c.held i))
    ∙ and_from (c.tag_page.0 == page) (c.tag_version.seq.0 == c.version.seq.0) (eq-eqb c.tag_page.0 page c.page_is) (eq-eqb c.tag_version.seq.0 c.version.seq.0 c.seq_is)))

-- the copy where the number and the slot are as they were
stays_same : (old new : Core) (page die : ℕ) (c : HasCopy old page die) → get new.page_map.versions page ≡ get old.page_map.versions page
    → get new.page_map.used (die, c.slot) ≡ get old.page_map.used (die, c.slot) → HasCopy new page die
stays_same old new page die c number used = record {
  version = c.version;
  number = number ∙ c.number;
  slot = c.slot;
  tag_page = c.tag_page;
  tag_version = c.tag_version;
  held = used ∙ c.held;
  page_is = c.page_is;
  seq_is = c.seq_is;
}

stays_map : (old new : Core) (page die : ℕ) → HasCopy old page die → new.page_map.versions ≡ old.page_map.versions → new.page_map.used ≡ old.page_map.used → HasCopy new page die
stays_map old new page die c numbers used =
    stays_same old new page die c (ap (λ (m : FinMap nat_cmp Version). get m page) numbers) (ap (λ (m : FinMap place_cmp Used). get m (die, c.slot)) used)

-- slots that hold nothing are changed alone
stays_all : (ts : List Target) (final : Used) (used : FinMap place_cmp Used) (d k : ℕ) (p : Page) (u : Version) → get used (d, k) ≡ Some (Held p u)
    → ((t : Target) → Among t ts → get used (t.die.0, t.slot.0) ≡ Some (Held p u) → ⊥)
    → get (insert_all (map (λ (t : Target). (t.die.0, t.slot.0)) ts) final used) (d, k) ≡ get used (d, k)
stays_all ts final used d k p u held away =
    elim (get-insert_all place_cmp_total place_same (map (λ (t : Target). (t.die.0, t.slot.0)) ts) final used (d, k)) [
      | inl same ↦ same
      | inr found ↦
          let t = among-map (λ (t : Target). (t.die.0, t.slot.0)) (d, k) ts found.0 in
          absurd (away t.0 t.1 (ap (get used) t.2 ∙ held))
    ]

module _ (w : World) (h : Holds w) (page die : ℕ) (c : HasCopy w.core page die) where
  abbrev Stays : Core → Type 0
  Stays core = HasCopy core page die

  to_stays : (x core : Core) → core ≡ x → Stays x → Stays core
  to_stays x core e s = subst Stays (sym e) s

  same_stays : (x core : Core) → core ≡ x → x.page_map.versions ≡ w.core.page_map.versions → x.page_map.used ≡ w.core.page_map.used → Stays core
  same_stays x core e numbers used = to_stays x core e (stays_map w.core x page die c numbers used)

  new_erased : (p : ℕ) (t : Target) → Among t (map (target_on w.core.page_map) (targets w.core.copies w.core.page_map p)) → get w.core.page_map.used (t.die.0, t.slot.0) ≡ None
  new_erased p t among =
      let found = among-map (target_on w.core.page_map) t (targets w.core.copies w.core.page_map p) among in
      let in_order = among-take (copies_asked w.core.copies w.core.page_map) found.0 (filter (has_room w.core.page_map) (order_of w.core.copies w.core.page_map p)) found.1 in
      let room = (among-filter (has_room w.core.page_map) found.0 (order_of w.core.copies w.core.page_map p) in_order).1 in
      subst (λ (u : Target). get w.core.page_map.used (u.die.0, u.slot.0) ≡ None) found.2 (room_erased w.core.page_map found.0 room).1

  reserve_stays : (claim least : ℕ) (kind : Kind) (payload : List ℕ) (answer : Result Seq ReserveRefused) (core : Core)
      → Reserves w.core claim least kind payload answer core → Stays core
  reserve_stays claim least kind payload (Ok seq) core d =
      to_stays _ core d.2 (stays_same w.core _ page die c refl
      (stays_all (map (target_on w.core.page_map) (targets w.core.copies w.core.page_map (claimed_page w.core claim))) Reserved w.core.page_map.used die c.slot c.tag_page c.tag_version c.held
      (λ t among held. none-some (Held c.tag_page c.tag_version) (sym (new_erased (claimed_page w.core claim) t among) ∙ held))))
  reserve_stays claim least kind payload (Err ReserveNoMemory) core d = to_stays w.core core d.1 c
  reserve_stays claim least kind payload (Err refused) core d = to_stays w.core core d.1 c

  live_kept : (claim : ℕ) (r : Reservation) → reserved_under w.core claim ≡ Some r → (t : Target) → Among t (live_targets w.core r.targets)
      → get w.core.page_map.used (t.die.0, t.slot.0) ≡ Some Reserved
  live_kept claim r is t among =
      let kept = among-filter (λ (t : Target). is_live w.core.page_map t.die.0) t r.targets among in
      ((h.sound.owned (Some claim) _ (reserved_owned (get w.core.claims claim) r is)).targets t kept.0).kept kept.1

  commit_stays : (claim seat : ℕ) (o : Option Reservation) → reserved_under w.core claim ≡ o → (answer : Result Seq CommitRefused) (core : Core)
      → Commits w.core claim seat o answer core → LeavesPage page w (Event (Commit claim seat answer)) → Stays core
  commit_stays claim seat None is answer core d leaves = absurd d
  commit_stays claim seat (Some r) is (Err refused) core d leaves = to_stays w.core core d.1 c
  commit_stays claim seat (Some r) is (Ok seq) core d leaves =
      let other : ℕ = claimed_page w.core claim in
      let stale = get-change place_cmp_total place_same (λ place used. without_page other used) w.core.page_map.used (die, c.slot) in
      let kept : get (change (λ place used. without_page other used) w.core.page_map.used) (die, c.slot) ≡ Some (Held c.tag_page c.tag_version) =
      stale ∙ ap (option_map (without_page other)) c.held
      ∙ ap {B = Option Used} (λ b. Some (if b then Stale else Held c.tag_page c.tag_version)) (ne_eqb c.tag_page.0 other (λ same. leaves (sym same ∙ c.page_is))) in
      to_stays _ core d.2 (stays_same w.core _ page die c (get-insert_other w.core.page_map.versions other r.version page (λ same. leaves (sym same)))
      (stays_all (live_targets w.core r.targets) _ (change (λ place used. without_page other used) w.core.page_map.used) die c.slot c.tag_page c.tag_version kept
      (λ t among held. kept≢held _ c.tag_page c.tag_version
      (get-change place_cmp_total place_same (λ place used. without_page other used) w.core.page_map.used (t.die.0, t.slot.0) ∙ ap (option_map (without_page other)) (live_kept claim r is t among)) held)
      ∙ kept ∙ sym c.held))

  abandon_stays : (claim : ℕ) (o : Option Reservation) → reserved_under w.core claim ≡ o → (answer : Result (Unit {0}) AbandonRefused) (core : Core)
      → Abandons w.core claim o answer core → Stays core
  abandon_stays claim None is answer core d = absurd d
  abandon_stays claim (Some r) is (Ok made) core d =
      to_stays _ core d.1 (stays_same w.core _ page die c refl
      (stays_all (live_targets w.core r.targets) Stale w.core.page_map.used die c.slot c.tag_page c.tag_version c.held
      (λ t among held. kept≢held _ c.tag_page c.tag_version (live_kept claim r is t among) held)))
  abandon_stays claim (Some r) is (Err refused) core d = to_stays w.core core d.1 c

  copy_kept : (k : Copying) → w.core.copying ≡ Some k → (not (is_live w.core.page_map k.target.die.0) ≡ false) → (t : Target) → Among t (k.target ∷ [])
      → get w.core.page_map.used (t.die.0, t.slot.0) ≡ Some Reserved
  copy_kept k is alive t (inl same) =
      subst (λ (u : Target). get w.core.page_map.used (u.die.0, u.slot.0) ≡ Some Reserved) same
      (((h.sound.owned None _ (ap (option_map {T = Copying} (λ c. record { page = c.page.0; version = c.version; targets = c.target ∷ [] })) is)).targets k.target (inl refl)).kept
      (not-false (is_live w.core.page_map k.target.die.0) alive))
  copy_kept k is alive t (inr rest) = absurd rest

  copy_stays : (o : Option Copying) → w.core.copying ≡ o → (answer : Result Copied CommitCopyRefused) (core : Core) → CommitsCopy w.core o answer core → Stays core
  copy_stays None is answer core d = absurd d
  copy_stays (Some k) is (Ok Current) core d =
      to_stays _ core d.2 (stays_same w.core _ page die c refl
      (stays_all (k.target ∷ []) (Held k.page k.version) w.core.page_map.used die c.slot c.tag_page c.tag_version c.held
      (λ t among held. kept≢held _ c.tag_page c.tag_version (copy_kept k is (no_refusal (is_live w.core.page_map k.target.die.0 && not k.target.programmed) (not (is_live w.core.page_map k.target.die.0)) CopyPending CopyFailed d.0).1 t among) held)))
  copy_stays (Some k) is (Ok Late) core d =
      to_stays _ core d.2 (stays_same w.core _ page die c refl
      (stays_all (k.target ∷ []) Stale w.core.page_map.used die c.slot c.tag_page c.tag_version c.held
      (λ t among held. kept≢held _ c.tag_page c.tag_version (copy_kept k is (no_refusal (is_live w.core.page_map k.target.die.0 && not k.target.programmed) (not (is_live w.core.page_map k.target.die.0)) CopyPending CopyFailed d.0).1 t among) held)))
  copy_stays (Some k) is (Err CopyPending) core d = to_stays w.core core d.1 c
  copy_stays (Some k) is (Err CopyFailed) core d = same_stays _ core d.1 refl refl

  copying_stays : (p : ℕ) (payload : List ℕ) (v : Option Version) (d : Option ℕ) → copy_place w.core.copies w.core.page_map p ≡ d → Stays (copying_to w.core p payload v d)
  copying_stays p payload (Some v) (Some d) e =
      let found = found_passes (λ d. has_room w.core.page_map d && not (holds_page w.core.page_map p d)) (order_of w.core.copies w.core.page_map p) d e in
      let erased = (room_erased w.core.page_map d (and_parts (has_room w.core.page_map d) _ found.0).0).1 in
      stays_same w.core _ page die c refl
      (get-place_other w.core.page_map.used d (target_on w.core.page_map d).slot.0 Reserved die c.slot
      (λ f g. none-some (Held c.tag_page c.tag_version) (sym ((λ i. get w.core.page_map.used (f i, g i)) ∙ erased) ∙ c.held)))
  copying_stays p payload (Some v) None e = c
  copying_stays p payload None d e = c

  begun_stays : (d seat : ℕ) (flight : Flight) → IsUrgent w.core d flight → Stays (begun d seat flight w.core)
  begun_stays d seat (Header epoch live) u = stays_map w.core _ page die c refl refl
  begun_stays d seat (Move p version from to) u =
      let found = found_passes (is_erased_outside w.core.page_map d (from.0 / w.core.page_map.geometry.slots)) (slots_of w.core.page_map) to.0 u.1 in
      let erased = no_state _ (and_parts (is_erased_slot w.core.page_map d to.0) _ found.0).0 in
      stays_same w.core _ page die c refl
      (get-place_other w.core.page_map.used d to.0 Reserved die c.slot
      (λ f g. none-some (Held c.tag_page c.tag_version) (sym ((λ i. get w.core.page_map.used (f i, g i)) ∙ erased) ∙ c.held)))
  begun_stays d seat (Erase block) u = stays_map w.core _ page die c refl refl
  begun_stays d seat (Read batch p version slot) u = stays_map w.core _ page die c refl refl
  begun_stays d seat (Program p version slot) u = absurd u
  begun_stays d seat (Sync flushes) u = absurd u

  other_stays : (d seat : ℕ) (job : Option Handed) → IsOther (without_stale_booking d w.core) d job → Stays (begins d seat (without_stale_booking d w.core) job).1
  other_stays d seat None u = stays_map w.core _ page die c refl refl
  other_stays d seat (Some job) u =
      elim u [
        | inl p ↦ subst (λ j. Stays (begins d seat (without_stale_booking d w.core) (Some j)).1) (sym p.2) (stays_map w.core _ page die c refl refl)
        | inr f ↦ subst (λ j. Stays (begins d seat (without_stale_booking d w.core) (Some j)).1) (sym f.1) (stays_map w.core _ page die c refl refl)
      ]

  take_stays : (d seat : ℕ) (answer : Option Handed) (core : Core) → Takes w.core d seat answer core → Stays core
  take_stays d seat answer core e =
      subst (λ (pair : Option Handed × Core). Stays pair.1) (sym e)
      (take_cases w.core d seat (λ (pair : Option Handed × Core). Stays pair.1) c (λ flight idle u. begun_stays d seat flight u) (λ job idle u. other_stays d seat job u))

  abbrev over : ℕ → Core
  over d = record (w.core) { jobs = remove w.core.jobs d }

  drop_stays : (d : ℕ) → is_live (drop_die d (over d)).page_map die ≡ true → Stays (drop_die d (over d))
  drop_stays d alive =
      let apart : die ≡ d → ⊥ = λ same. false≢true (sym (ap is_some (ap (get (remove w.core.page_map.live d)) same ∙ get-remove_same w.core.page_map.live d)) ∙ alive) in
      stays_same w.core _ page die c refl ((dropped_other (over d) d die apart).used c.slot)

  answer_stays : (d batch p : ℕ) (bytes : List ℕ) (b : Option OpenBatch) → Stays (with_answer batch p bytes b (over d))
  answer_stays d batch p bytes None = stays_map w.core _ page die c refl refl
  answer_stays d batch p bytes (Some b) = stays_map w.core _ page die c refl refl

  read_stays : (d batch p : ℕ) (o : Option (List ℕ)) → is_live (read_ends d batch p o (over d)).page_map die ≡ true → Stays (read_ends d batch p o (over d))
  read_stays d batch p None alive = drop_stays d alive
  read_stays d batch p (Some bytes) alive = answer_stays d batch p bytes (get w.core.batches batch)

  header_stays : (b : Bool) (d : ℕ) → Stays (if b then record (over d) { behind = remove w.core.behind d } else over d)
  header_stays true d = stays_map w.core _ page die c refl refl
  header_stays false d = stays_map w.core _ page die c refl refl

  -- two tags of one cell are one
  same_tag : (p p' : ℕ) (v v' : Version) (d slot : ℕ) (cell : Cell) (x y : List ℕ) → payload_of p v d slot cell ≡ Some x → payload_of p' v' d slot cell ≡ Some y
      → (p ≡ p') × (v.seq.0 ≡ v'.seq.0)
  same_tag p p' v v' d slot Empty x y e f = absurd (none-some x e)
  same_tag p p' v v' d slot Broken x y e f = absurd (none-some x e)
  same_tag p p' v v' d slot (Sealed q u d' s bytes) x y e f =
      let a = (cond_some _ bytes x e).0 in
      let b = (cond_some _ bytes y f).0 in
      let first = four_parts (q == p) (u.seq.0 == v.seq.0) (d' == d) (s == slot) a in
      let second = four_parts (q == p') (u.seq.0 == v'.seq.0) (d' == d) (s == slot) b in
      (sym (eqb-true q p first.0) ∙ eqb-true q p' second.0, sym (eqb-true u.seq.0 v.seq.0 first.1) ∙ eqb-true u.seq.0 v'.seq.0 second.1)
    where
      four_parts : (k l m n : Bool) → (k && l && m && n) ≡ true → (k ≡ true) × (l ≡ true)
      four_parts true true m n e = (refl, refl)
      four_parts true false m n e = absurd (false≢true e)
      four_parts false l m n e = absurd (false≢true e)

  -- where the copy itself was moved it is current in its new slot
  move_stays : (d : ℕ) (p : Page) (version : Version) (from to : ℕ) → IsMoving (scene_of w).bytes (scene_of w).places d p.0 version from to
      → is_live w.core.page_map die ≡ true → Stays (stepped_on d (move_ends d p.0 version from to (over d)))
  move_stays d p version from to moving alive =
      elim (cases_eq die d) [
        | inr apart ↦ stays_same w.core _ page die c refl (moved_other w.core d from to _ die apart c.slot)
        | inl same ↦ elim (cases_eq c.slot to) [
          | inl target ↦ absurd (kept≢held _ c.tag_page c.tag_version moving.kept ((λ i. get w.core.page_map.used (sym same i, sym target i)) ∙ c.held))
          | inr away ↦ elim (cases_eq c.slot from) [
            | inr elsewhere ↦ stays_same w.core _ page die c refl
                (get-place_other (insert w.core.page_map.used (d, from) Stale) d to _ die c.slot (λ e f. away f) ∙ get-place_other w.core.page_map.used d from Stale die c.slot (λ e f. elsewhere f))
            | inl source ↦ moved_itself same source
          ]
        ]
      ]
    where
      moved_itself : die ≡ d → c.slot ≡ from → Stays (stepped_on d (move_ends d p.0 version from to (over d)))
      moved_itself same source =
          let held : used_at w.core.page_map d from ≡ Some (Held c.tag_page c.tag_version) = (λ i. get w.core.page_map.used (sym same i, sym source i)) ∙ c.held in
          let stands = (h.sound.held d from c.tag_page c.tag_version held).cell in
          let tags = same_tag c.tag_page.0 p.0 c.tag_version version d from ((w.images d).seen from) _ _
          (read_too c.tag_page.0 c.tag_version d from ((w.images d).seen from) _ stands) (read_too p.0 version d from ((w.images d).seen from) _ moving.cell) in
          let page_is : p.0 ≡ page = sym tags.0 ∙ c.page_is in
          let current : is_current w.core.page_map p.0 d from ≡ true =
          and_from (is_live w.core.page_map d) _ (sym (ap (is_live w.core.page_map) same) ∙ alive)
          ((λ i. holds_last (page_is i) (get w.core.page_map.versions (page_is i)) (used_at w.core.page_map d from))
          ∙ (λ i. holds_last page (c.number i) (held i))
          ∙ and_from (c.tag_page.0 == page) (c.tag_version.seq.0 == c.version.seq.0) (eq-eqb c.tag_page.0 page c.page_is) (eq-eqb c.tag_version.seq.0 c.version.seq.0 c.seq_is)) in
          record {
            version = c.version;
            number = c.number;
            slot = to;
            tag_page = record { 0 = p.0 };
            tag_version = version;
            held = (λ i. get (insert (insert w.core.page_map.used (d, from) Stale) (d, to) (if is_current w.core.page_map p.0 d from then Held (record { 0 = p.0 }) version else Stale)) (same i, to))
                ∙ get-place_same (insert w.core.page_map.used (d, from) Stale) d to _
                ∙ ap {B = Option Used} (λ b. Some (if b then Held (record { 0 = p.0 }) version else Stale)) current;
            page_is = page_is;
            seq_is = sym tags.1 ∙ c.seq_is;
          }

  erase_stays : (d block : ℕ) → IsErasing (scene_of w).in_block (scene_of w).places d block → Stays (stepped_on d (erase_ends d block (over d)))
  erase_stays d block erasing =
      stays_same w.core _ page die c refl
      (get-keep place_cmp_total place_same (stays w.core.page_map d block) w.core.page_map.used (die, c.slot)
      ∙ passed_all (stays w.core.page_map d block (die, c.slot)) (get w.core.page_map.used (die, c.slot))
      (λ u e. or_left (not (die == d && is_in_block w.core.page_map block c.slot)) (is_reserved_slot (Some u))
      (not_from_false _ (false_from_ne_true _ (λ inside.
      let parts = and_parts (die == d) (is_in_block w.core.page_map block c.slot) inside in
      false≢true (sym (erasing.none_held c.slot parts.1) ∙ ap is_held_slot ((λ i. get w.core.page_map.used (sym (eqb-true die d parts.0) i, c.slot)) ∙ c.held)))))))

  finished_stays : (d : ℕ) (flight : Flight) (payload : List ℕ) (outcome : Outcome) → is_live w.core.page_map die ≡ true
      → JobFits (scene_of w).bytes (scene_of w).places (scene_of w).in_block (w.due d).bytes d flight payload
      → is_live (finished d flight outcome (over d)).page_map die ≡ true → Stays (finished d flight outcome (over d))
  finished_stays d (Read batch p version slot) payload (DidRead cell) was fits alive = read_stays d batch.0 p.0 _ alive
  finished_stays d (Program p version slot) payload DidProgram was fits alive = stays_map w.core _ page die c refl refl
  finished_stays d (Move p version from to) payload DidMove was fits alive = move_stays d p version from.0 to.0 fits was
  finished_stays d (Erase block) payload DidErase was fits alive = erase_stays d block.0 fits
  finished_stays d (Header epoch live) payload DidWriteHeader was fits alive = header_stays (epoch == w.core.epoch) d
  finished_stays d (Sync flushes) payload DidSync was fits alive = stays_map w.core _ page die c refl refl
  finished_stays d flight payload (Fault call) was fits alive = drop_stays d alive
  finished_stays d flight payload Wrong was fits alive = drop_stays d alive
  finished_stays d flight payload outcome was fits alive = stays_map w.core _ page die c refl refl

  done_stays : (d : ℕ) (flight : Option Flight) (work : Option Work) (outcome : Outcome) (core : Core) → is_live w.core.page_map die ≡ true
      → get w.core.jobs d ≡ flight → w.works d ≡ work → HasOutcome d work outcome → EndsJob w.core d flight outcome core → is_live core.page_map die ≡ true → Stays core
  done_stays d None work outcome core was job works worked e alive = absurd e
  done_stays d (Some flight) None outcome core was job works worked e alive = absurd (none-some outcome worked)
  done_stays d (Some flight) (Some work) outcome core was job works worked e alive =
      let is : work.job.flight ≡ flight = same_Some work.job.flight flight (sym (ap (option_map {T = Work} (λ k. k.job.flight)) works) ∙ sym (h.jobs d) ∙ job) in
      to_stays _ core e (finished_stays d flight work.job.payload outcome was
      (subst (λ f. JobFits (scene_of w).bytes (scene_of w).places (scene_of w).in_block (w.due d).bytes d f work.job.payload) is (h.sound.works d work works).job)
      (ap (λ (k : Core). is_live k.page_map die) (sym e) ∙ alive))

  event_stays : (act : Act) (core : Core) → Does w.core act core → IsTold w act → LeavesPage page w (Event act) → is_live w.core.page_map die ≡ true
      → is_live core.page_map die ≡ true → Stays core
  event_stays (Claim p (Ok id)) core d told leaves was alive = same_stays _ core d.2 refl refl
  event_stays (Claim p (Err Claimed)) core d told leaves was alive = same_stays _ core d.1 refl refl
  event_stays (Claim p (Err ClaimNoMemory)) core d told leaves was alive = same_stays _ core d.1 refl refl
  event_stays (Release claim) core d told leaves was alive = same_stays _ core d refl refl
  event_stays (Reserve claim payload answer) core d told leaves was alive = reserve_stays claim _ _ payload answer core d
  event_stays (ReserveHole claim answer) core d told leaves was alive = reserve_stays claim _ _ _ answer core d
  event_stays (ReserveFewer claim payload answer) core d told leaves was alive = reserve_stays claim _ _ payload answer core d
  event_stays (Commit claim seat answer) core d told leaves was alive = commit_stays claim seat (reserved_under w.core claim) refl answer core d leaves
  event_stays (Abandon claim answer) core d told leaves was alive = abandon_stays claim (reserved_under w.core claim) refl answer core d
  event_stays (Admit pages (Ok admitted)) core d told leaves was alive = same_stays _ core d.2 refl refl
  event_stays (Admit pages (Err refused)) core d told leaves was alive = same_stays _ core d.1 refl refl
  event_stays (Replan batch (Ok planned)) core d told leaves was alive = same_stays _ core d.1 refl refl
  event_stays (Replan batch (Err refused)) core d told leaves was alive = same_stays _ core d.1 refl refl
  event_stays (EndBatch batch answer) core d told leaves was alive = same_stays _ core d.1 refl refl
  event_stays (Take out seat answer) core d told leaves was alive = take_stays out seat answer core d
  event_stays (Done out outcome) core d told leaves was alive = done_stays out (get w.core.jobs out) (w.works out) outcome core was refl refl told d alive
  event_stays (Window out count (Ok first)) core d told leaves was alive = same_stays _ core d.3 refl refl
  event_stays (Window out count (Err WindowBusy)) core d told leaves was alive = same_stays _ core d.1 refl refl
  event_stays (Window out count (Err HasOne)) core d told leaves was alive = same_stays _ core d.2 refl refl
  event_stays (Window out count (Err WindowNoMemory)) core d told leaves was alive = same_stays _ core d.2 refl refl
  event_stays (Advance (Ok round)) core d told leaves was alive = same_stays _ core d.2 refl refl
  event_stays (Advance (Err refused)) core d told leaves was alive = same_stays _ core d.1 refl refl
  event_stays (SpareIn out (Ok made)) core d told leaves was alive = same_stays _ core d.1 refl refl
  event_stays (SpareIn out (Err NotSpare)) core d told leaves was alive = same_stays _ core d.1 refl refl
  event_stays (ReserveCopy p seq payload (Ok made)) core d told leaves was alive =
      to_stays _ core d.1 (copying_stays p payload (get w.core.page_map.versions p) (copy_place w.core.copies w.core.page_map p) refl)
  event_stays (ReserveCopy p seq payload (Err CopyNoMemory)) core d told leaves was alive = same_stays _ core d.1 refl refl
  event_stays (ReserveCopy p seq payload (Err refused)) core d told leaves was alive = same_stays _ core d.1 refl refl
  event_stays (CommitCopy answer) core d told leaves was alive = copy_stays w.core.copying refl answer core d
  event_stays (FlushBegin (Ok flush)) core d told leaves was alive = same_stays _ core d.3 refl refl
  event_stays (FlushBegin (Err Spent)) core d told leaves was alive = same_stays _ core d.1 refl refl
  event_stays (FlushState flush answer) core d told leaves was alive = same_stays _ core d.1 refl refl
  event_stays Fold core d told leaves was alive = same_stays _ core d refl refl

happening_stays : (before : World) (happening : Happening) (after : World) (page die : ℕ) → HoldsRanged before → HasCopy before.core page die
    → Happens before happening after → LeavesPage page before happening → is_live before.core.page_map die ≡ true → is_live after.core.page_map die ≡ true
    → HasCopy after.core page die
happening_stays before (Event act) after page die h c happens leaves was alive =
    event_stays before h.holds page die c act after.core happens.step.does happens.told leaves was alive
happening_stays before (ImageCall out gave) after page die h c happens leaves was alive =
    subst (λ (k : Core). HasCopy k page die) (sym (calls_core before after out (before.works out) gave happens)) c

pub holds_live : (m : MapState) (page die : ℕ) → holds_page m page die ≡ true → is_live m die ≡ true
holds_live m page die holds = at_slot (copy_on m page die) refl holds
  where
    at_slot : (s : Option ℕ) → copy_on m page die ≡ s → is_some s ≡ true → is_live m die ≡ true
    at_slot None e is = absurd (false≢true is)
    at_slot (Some slot) e is = (and_parts (is_live m die) _ (found_passes (is_current m page die) (slots_of m) slot e).0).0

-- the run of one that leaves a page
pub run_of : (page : ℕ) (before : World) (happenings : List Happening) (after : World) → RunLeaving page before happenings after
    → Run before happenings after
run_of page before [] after run = run
run_of page before (happening ∷ happenings) after run = (run.0, run.1, run_of page run.0 happenings after run.3)

-- where that run leads is reached
pub reached_over : (w last : World) (happenings : List Happening) (page : ℕ) → IsReached w → RunLeaving page w happenings last → IsReached last
reached_over w last happenings page r run = record {
  first = r.first;
  happenings = r.happenings ++ happenings;
  beginning = r.beginning;
  run = runs_on r.first r.happenings w happenings last r.run (run_of page w happenings last run);
}

-- a die that is live later, and is no spare, is live now
live_before : OutLaw → (page die : ℕ) (before after : World) (happenings : List Happening) → RunLeaving page before happenings after
    → contains_key before.core.spares die ≡ false → is_live after.core.page_map die ≡ true → is_live before.core.page_map die ≡ true
live_before law page die before after happenings run no_spare alive =
    elim (cases_Bool (is_live before.core.page_map die)) [
      | inl now ↦ now
      | inr not_now ↦ absurd (false≢true (sym (law before after happenings die (run_of page before happenings after run) not_now no_spare) ∙ alive))
    ]

-- a live die is no spare
no_spare_live : (w : World) → Holds w → (die : ℕ) → is_live w.core.page_map die ≡ true → contains_key w.core.spares die ≡ false
no_spare_live w h die alive = false_from_ne_true (contains_key w.core.spares die) (λ spare. false≢true (sym (h.sound.spares die spare) ∙ alive))

run_stays : OutLaw → SparesLaw → (page die : ℕ) (before : World) (happenings : List Happening) (after : World) → HoldsRanged before
    → HasCopy before.core page die → is_live before.core.page_map die ≡ true → RunLeaving page before happenings after
    → is_live after.core.page_map die ≡ true → holds_page after.core.page_map page die ≡ true
run_stays law spares page die before [] after h c was run alive =
    subst (λ (v : World). holds_page v.core.page_map page die ≡ true) (sym run) (holds_from_copy before.core page die c h.ranged was)
run_stays law spares page die before (happening ∷ happenings) after h c was run alive =
    let none = spareless spares die before happening run.0 run.1 (no_spare_live before h.holds die was) in
    let now = live_before law page die run.0 after happenings run.3 none alive in
    run_stays law spares page die run.0 happenings after (happens_ranged before happening run.0 h run.1)
    (happening_stays before happening run.0 page die h c run.1 run.2 was now) now run.3 alive

pub copy_stays_over : OutLaw → SparesLaw → (w last : World) (happenings : List Happening) (page die : ℕ) → IsReached w
    → holds_page w.core.page_map page die ≡ true → RunLeaving page w happenings last → is_live last.core.page_map die ≡ true
    → holds_page last.core.page_map page die ≡ true
copy_stays_over law spares w last happenings page die reached holds run alive =
    run_stays law spares page die w happenings last (reached_ranged w reached) (copy_from_holds w.core page die holds)
    (holds_live w.core.page_map page die holds) run alive

die_among : (die : ℕ) (ts : List Target) → list_any (λ (t : Target). t.die.0 == die) ts ≡ true → (t : Target) × Among t ts × (t.die.0 ≡ die)
die_among die [] e = absurd (false≢true e)
die_among die (t ∷ ts) e =
    elim (or_cases (t.die.0 == die) (list_any (λ (t : Target). t.die.0 == die) ts) e) [
      | inl first ↦ (t, inl refl, eqb-true t.die.0 die first)
      | inr rest ↦ let found = die_among die ts rest in (found.0, inr found.1, found.2)
    ]

commit_has : (w : World) (claim seat die : ℕ) (seq : Seq) (r : Reservation) (core : Core) → Commits w.core claim seat (Some r) (Ok seq) core
    → list_any (λ (t : Target). t.die.0 == die) (live_targets w.core r.targets) ≡ true → HasCopy core (claimed_page w.core claim) die × (is_live core.page_map die ≡ true)
commit_has w claim seat die seq r core d one =
    let page : ℕ = claimed_page w.core claim in
    let t = die_among die (live_targets w.core r.targets) one in
    subst (λ (k : Core). HasCopy k page die × (is_live k.page_map die ≡ true)) (sym d.2) (
      record {
        version = r.version;
        number = get-insert_same w.core.page_map.versions page r.version;
        slot = t.0.slot.0;
        tag_page = record { 0 = page };
        tag_version = r.version;
        held = ap (λ (n : ℕ). get (insert_all (map (λ (t : Target). (t.die.0, t.slot.0)) (live_targets w.core r.targets)) (Held (record { 0 = page }) r.version)
            (change (λ place used. without_page page used) w.core.page_map.used)) (n, t.0.slot.0)) (sym t.2)
            ∙ get-insert_all_among place_cmp_total place_same (map (λ (t : Target). (t.die.0, t.slot.0)) (live_targets w.core r.targets)) _ _ (t.0.die.0, t.0.slot.0)
            (place_itself (t.0.die.0, t.0.slot.0)) (among-map-intro (λ (t : Target). (t.die.0, t.slot.0)) t.0 (live_targets w.core r.targets) t.1);
        page_is = refl;
        seq_is = refl;
      },
      sym (ap (is_live w.core.page_map) t.2) ∙ (among-filter (λ (t : Target). is_live w.core.page_map t.die.0) t.0 r.targets t.1).1,
    )

pub commit_is_held : (w after : World) (claim seat die : ℕ) (seq : Seq) (r : Reservation) → IsReached w → HappensEvent w (Commit claim seat (Ok seq)) after
    → reserved_under w.core claim ≡ Some r → list_any (λ (t : Target). t.die.0 == die) (live_targets w.core r.targets) ≡ true
    → holds_page after.core.page_map (claimed_page w.core claim) die ≡ true
commit_is_held w after claim seat die seq r reached happens is one =
    let has = commit_has w claim seat die seq r after.core
    (subst (λ o. Commits w.core claim seat o (Ok seq) after.core) is happens.step.does) one in
    holds_from_copy after.core (claimed_page w.core claim) die has.0
    (happens_ranged w (Event (Commit claim seat (Ok seq))) after (reached_ranged w reached) happens).ranged has.1
