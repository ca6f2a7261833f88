-- What an event may make of the slots of dies: a slot stays as it is, or is erased, or holds nothing new but the page of a Commit, of the copy
-- under way, or of a slot of its die whose copy is current.
use Rattle.fa_laws.proofs.Endings.{HasOutcome}
use Rattle.fa_laws.proofs.Invariant.{Holds, scene_of}
use Rattle.fa_machine.proofs.Lists.{among-filter, among-map, among-take, found_passes, no_refusal}
use Rattle.fa_machine.proofs.Maps.{get-change, get-keep}
use Rattle.fa_machine.proofs.Values.{get-insert_all}
use Rattle.fa_machine.proofs.Maps.{get-place_other, get-place_same, place_cmp_total, place_same}
use Rattle.fa_laws.proofs.Scene.{IsMoving, JobFits}
use Rattle.fa_machine.specs.Among.{Among}
use Rattle.fa_machine.proofs.Takes.{IsOther, take_cases}
use Rattle.fa_machine.specs.Cells.{DidErase, DidMove, DidProgram, DidRead, DidSync, DidWriteHeader, Fault}
use Rattle.fa_machine.specs.Cells.{Outcome, Wrong}
use Rattle.fa_machine.specs.Conditions.{drop_die, reserved_under}
use Rattle.fa_machine.specs.Copies.{holds_page, is_current, is_held_slot}
use Rattle.fa_machine.specs.Maps.{change, insert_all, place_cmp}
use Rattle.fa_machine.specs.Placement.{copies_asked, copy_place, has_room, order_of, targets}
use Rattle.fa_machine.specs.State.{Core, OpenBatch, Reservation, is_live, used_at}
use Rattle.fa_machine.specs.Step.{Abandon, Act, Admit, Advance, Claim, Commit, CommitCopy, Does, Done, EndBatch, FlushBegin}
use Rattle.fa_machine.specs.Step.{FlushState, Fold, Release, Replan, Reserve, ReserveCopy, ReserveFewer, ReserveHole, SpareIn, Take}
use Rattle.fa_machine.specs.Step.{Window}
use Rattle.fa_machine.specs.Taking.{EndsJob, Handed, Takes, begins, begun, finished, move_ends, read_ends, stays}
use Rattle.fa_machine.specs.Taking.{stepped_on, with_answer, without_stale_booking}
use Rattle.fa_machine.specs.Turning.{CommitsCopy, copying_to}
use Rattle.fa_machine.specs.World.{IsTold, Work, World}
use Rattle.fa_machine.specs.Writing.{Abandons, Commits, Reserves, claimed_page, live_targets, target_on}
use Rattle.fa_machine.specs.Writing.{without_page}
use Rattle.fa_machine.specs.declared.answers.Copied.{Copied}
use Rattle.fa_machine.specs.declared.answers.Copied.TheVariants.{Current, Late}
use Rattle.fa_machine.specs.declared.jobs.Flight.{Flight}
use Rattle.fa_machine.specs.declared.jobs.Flight.TheVariants.{Erase, Header, Move, Program, Read, Sync}
use Rattle.fa_machine.specs.declared.places.Copying.{Copying}
use Rattle.fa_types.specs.declared.kind.Kind.{Kind}
use Rattle.fa_machine.specs.declared.places.Target.{Target}
use Rattle.fa_machine.specs.declared.places.Used.{Used}
use Rattle.fa_machine.specs.declared.places.Used.TheVariants.{Held, Reserved, Stale}
use Rattle.fa_machine.specs.declared.places.Version.{Version}
use Rattle.fa_machine.specs.declared.refusals.AbandonRefused.{AbandonRefused}
use Rattle.fa_machine.specs.declared.refusals.ClaimRefused.TheVariants.{Claimed, NoMemory as ClaimNoMemory}
use Rattle.fa_machine.specs.declared.refusals.CommitCopyRefused.{CommitCopyRefused}
use Rattle.fa_machine.specs.declared.refusals.CommitCopyRefused.TheVariants.{Failed as CopyFailed, Pending as CopyPending}
use Rattle.fa_machine.specs.declared.refusals.CommitRefused.{CommitRefused}
use Rattle.fa_machine.specs.declared.refusals.FlushRefused.TheVariants.{Spent}
use Rattle.fa_machine.specs.declared.refusals.ReserveCopyRefused.TheVariants.{NoMemory as CopyNoMemory}
use Rattle.fa_machine.specs.declared.refusals.ReserveRefused.{ReserveRefused}
use Rattle.fa_machine.specs.declared.refusals.ReserveRefused.TheVariants.{NoMemory as ReserveNoMemory}
use Rattle.fa_machine.specs.declared.refusals.SpareRefused.TheVariants.{NotSpare}
use Rattle.fa_machine.specs.declared.refusals.WindowRefused.TheVariants.{Busy as WindowBusy, HasOne, NoMemory as WindowNoMemory}
use Rattle.fa_types.specs.declared.numbers.Page.{Page}
use Rattle.fa_types.specs.declared.numbers.Seq.{Seq}
use Rattle.std.proofs.Common.{Bool, List, None, Option, Some, [], ap, false, inl, inr, map, not, refl, subst}
use Rattle.std.proofs.Common.{sym, true, ℕ, ◌∙◌, ◌∷◌, ◌≡◌}
use Rattle.std.proofs.lemmas.Bool.{and_parts, cases_eq, false≢true, not-false}
use Rattle.std.proofs.lemmas.Option.{none-some, same_Some}
use Rattle.std.specs.FinMap.{FinMap, get, insert, remove}
use Rattle.std.specs.Prelude.{Err, Ok, Result, filter, if◌then◌else◌, is_some, option_map, ◌&&◌, ◌==◌}
use Rattle.fa_laws.proofs.Scene.{is_settled}
use Rattle.fa_machine.specs.Placement.{is_thin}
use Rattle.fa_machine.specs.Taking.{is_idle, mark, program_ends}
use Rattle.fa_machine.specs.Turning.{has_number, reserve_copy_refusal}
use Rattle.fa_machine.specs.declared.refusals.ReserveCopyRefused.{ReserveCopyRefused}
use Rattle.fa_machine.specs.declared.refusals.ReserveCopyRefused.TheVariants.{Gone}
use Rattle.fa_machine.specs.Maps.{keep}
use Rattle.std.proofs.Common.{cond, ◌⊎◌}
use Rattle.std.proofs.lemmas.Bool.{not-true}
use Rattle.fa_machine.proofs.Maps.{passed}

abbrev page_of_held : Used → ℕ
page_of_held (Held page version) = page.0
page_of_held used = 0

abbrev page_of_copy : Option Copying → ℕ
page_of_copy (Some c) = c.page.0
page_of_copy None = 0

-- the page is written by the event
abbrev pub Writes : Core → Act → ℕ → Type 0
Writes old (Commit claim seat (Ok seq)) page = claimed_page old claim ≡ page
Writes old act page = ⊥

-- a copy of the page is under way
abbrev pub Copies : Core → ℕ → Type 0
Copies old page = (c : Copying) × (old.copying ≡ Some c) × (c.page.0 ≡ page)

abbrev pub Why : Core → Act → ℕ → ℕ → Type 0
Why old act die page = Writes old act page ⊎ (Copies old page ⊎ ((from : ℕ) × (is_current old.page_map page die from ≡ true)))

pub record IsNew (old : Core) (act : Act) (die slot : ℕ) (now : Option Used) : Type 0 where
  pub there : (is_live old.page_map die ≡ true) ⊎ (is_some (get old.page_map.used (die, slot)) ≡ true)
  pub why : (page : Page) (version : Version) → now ≡ Some (Held page version) → Why old act die page.0

abbrev pub Change : Core → Act → ℕ → ℕ → Option Used → Type 0
Change old act die slot now = (now ≡ get old.page_map.used (die, slot)) ⊎ ((now ≡ None) ⊎ IsNew old act die slot now)

pub record Changes (old : Core) (act : Act) (new : Core) : Type 0 where
  pub used : (die slot : ℕ) → Change old act die slot (get new.page_map.used (die, slot))
  pub copying : (c : Copying) → new.copying ≡ Some c → Copies old c.page.0 ⊎ (is_thin old.copies old.page_map c.page.0 ≡ true)

abbrev is_free : Used → Bool
is_free used = not (is_held_slot (Some used))

free≢held : (used : Used) → is_free used ≡ true → (page : Page) (version : Version) → Some used ≡ Some (Held page version) → ⊥
free≢held used free page version e = false≢true (sym (not-true _ free) ∙ ap is_held_slot e)

module _ (w : World) (h : Holds w) (act : Act) where
  abbrev Ch : Core → Type 0
  Ch core = Changes w.core act core

  to : (x core : Core) → core ≡ x → Ch x → Ch core
  to x core e ch = subst Ch (sym e) ch

  alike : (x : Core) → x.page_map.used ≡ w.core.page_map.used → x.copying ≡ w.core.copying → Ch x
  alike x used copying = record {
    used = λ die slot. inl (ap (λ (m : FinMap place_cmp Used). get m (die, slot)) used);
    copying = λ c e. inl (c, sym copying ∙ e, refl);
  }

  same : (x core : Core) → core ≡ x → x.page_map.used ≡ w.core.page_map.used → x.copying ≡ w.core.copying → Ch core
  same x core e used copying = to x core e (alike x used copying)

  -- a slot that holds nothing new
  freed : (die slot : ℕ) (used : Used) → is_free used ≡ true → (is_live w.core.page_map die ≡ true) ⊎ (is_some (get w.core.page_map.used (die, slot)) ≡ true)
      → IsNew w.core act die slot (Some used)
  freed die slot used free there = record { there = there; why = λ page version e. absurd (free≢held used free page version e) }

  now_is : (die slot : ℕ) (now other : Option Used) → now ≡ other → Change w.core act die slot other → Change w.core act die slot now
  now_is die slot now other e ch = subst (Change w.core act die slot) (sym e) ch

  -- the slots of some live dies in a new state
  placed : (ts : List Target) (final : Used) (m : FinMap place_cmp Used) → ((t : Target) → Among t ts → is_live w.core.page_map t.die.0 ≡ true)
      → ((page : Page) (version : Version) → Some final ≡ Some (Held page version) → (die : ℕ) → Why w.core act die page.0)
      → ((die slot : ℕ) → Change w.core act die slot (get m (die, slot)))
      → (die slot : ℕ) → Change w.core act die slot (get (insert_all (map (λ (t : Target). (t.die.0, t.slot.0)) ts) final m) (die, slot))
  placed ts final m alive why before die slot =
      elim (get-insert_all place_cmp_total place_same (map (λ (t : Target). (t.die.0, t.slot.0)) ts) final m (die, slot)) [
        | inl kept ↦ now_is die slot _ _ kept (before die slot)
        | inr found ↦
            let t = among-map (λ (t : Target). (t.die.0, t.slot.0)) (die, slot) ts found.0 in
            now_is die slot _ _ found.1 (inr (inr (record {
              there = inl (subst (λ d. is_live w.core.page_map d ≡ true) (ap (λ (q : ℕ × ℕ). q.0) t.2) (alive t.0 t.1));
              why = λ page version e. why page version e die;
            })))
      ]

  freeing : (final : Used) → is_free final ≡ true → (page : Page) (version : Version) → Some final ≡ Some (Held page version) → (die : ℕ)
      → Why w.core act die page.0
  freeing final free page version e die = absurd (free≢held final free page version e)

  as_it_was : (die slot : ℕ) → Change w.core act die slot (get w.core.page_map.used (die, slot))
  as_it_was die slot = inl refl

  target_live : (p : ℕ) (t : Target) → Among t (map (target_on w.core.page_map) (targets w.core.copies w.core.page_map p)) → is_live w.core.page_map t.die.0 ≡ true
  target_live p t among =
      let found = among-map (target_on w.core.page_map) t (targets w.core.copies w.core.page_map p) among in
      let in_order = among-take (copies_asked w.core.copies w.core.page_map) found.0 (filter (has_room w.core.page_map) (order_of w.core.copies w.core.page_map p)) found.1 in
      let room = (among-filter (has_room w.core.page_map) found.0 (order_of w.core.copies w.core.page_map p) in_order).1 in
      subst (λ (u : Target). is_live w.core.page_map u.die.0 ≡ true) found.2 (and_parts (is_live w.core.page_map found.0) _ room).0

  still_live : (r : Reservation) (t : Target) → Among t (live_targets w.core r.targets) → is_live w.core.page_map t.die.0 ≡ true
  still_live r t among = (among-filter (λ (t : Target). is_live w.core.page_map t.die.0) t r.targets among).1

  reserve_ch : (claim least : ℕ) (kind : Kind) (payload : List ℕ) (answer : Result Seq ReserveRefused) (core : Core)
      → Reserves w.core claim least kind payload answer core → Ch core
  reserve_ch claim least kind payload (Ok seq) core d =
      to _ core d.2 (record {
        used = placed (map (target_on w.core.page_map) (targets w.core.copies w.core.page_map (claimed_page w.core claim))) Reserved w.core.page_map.used
            (target_live (claimed_page w.core claim)) (freeing Reserved refl) as_it_was;
        copying = λ c e. inl (c, e, refl);
      })
  reserve_ch claim least kind payload (Err ReserveNoMemory) core d = same w.core core d.1 refl refl
  reserve_ch claim least kind payload (Err refused) core d = same w.core core d.1 refl refl

  abandon_ch : (claim : ℕ) (o : Option Reservation) (answer : Result (Unit {0}) AbandonRefused) (core : Core) → Abandons w.core claim o answer core → Ch core
  abandon_ch claim None answer core d = absurd d
  abandon_ch claim (Some r) (Ok made) core d =
      to _ core d.1 (record {
        used = placed (live_targets w.core r.targets) Stale w.core.page_map.used (still_live r) (freeing Stale refl) as_it_was;
        copying = λ c e. inl (c, e, refl);
      })
  abandon_ch claim (Some r) (Err refused) core d = same w.core core d.1 refl refl

  -- a slot that held the page is stale
  staled : (page die slot : ℕ) (o : Option Used) → get w.core.page_map.used (die, slot) ≡ o → Change w.core act die slot (option_map (without_page page) o)
  staled page die slot None is = inl (sym is)
  staled page die slot (Some Reserved) is = inl (sym is)
  staled page die slot (Some Stale) is = inl (sym is)
  staled page die slot (Some (Held p version)) is = by_page (p.0 == page)
    where
      by_page : (b : Bool) → Change w.core act die slot (Some (if b then Stale else Held p version))
      by_page true = inr (inr (freed die slot Stale refl (inr (ap is_some is))))
      by_page false = inl (sym is)

  commit_ch : (claim seat : ℕ) (seq : Seq) → act ≡ Commit claim seat (Ok seq) → (o : Option Reservation) (core : Core)
      → Commits w.core claim seat o (Ok seq) core → Ch core
  commit_ch claim seat seq is None core d = absurd d
  commit_ch claim seat seq is (Some r) core d =
      let page : ℕ = claimed_page w.core claim in
      to _ core d.2 (record {
        used = placed (live_targets w.core r.targets) (Held (record { 0 = page }) r.version)
            (change (λ place used. without_page page used) w.core.page_map.used) (still_live r)
            (λ p version e die. inl (subst (λ a. Writes w.core a p.0) (sym is)
            (ap (λ (u : Used). page_of_held u) (same_Some (Held (record { 0 = page }) r.version) (Held p version) e))))
            (λ die slot. now_is die slot _ _ (get-change place_cmp_total place_same (λ place used. without_page page used) w.core.page_map.used (die, slot))
            (staled page die slot (get w.core.page_map.used (die, slot)) refl));
        copying = λ c e. inl (c, e, refl);
      })

  uncommitted_ch : (claim seat : ℕ) (o : Option Reservation) (refused : CommitRefused) (core : Core) → Commits w.core claim seat o (Err refused) core → Ch core
  uncommitted_ch claim seat None refused core d = absurd d
  uncommitted_ch claim seat (Some r) refused core d = same w.core core d.1 refl refl

  no_copying : (c : Copying) → None ≡ Some c → Copies w.core c.page.0 ⊎ (is_thin w.core.copies w.core.page_map c.page.0 ≡ true)
  no_copying c e = absurd (none-some c e)

  -- the die of a copy that has a place is live
  copied_live : (c : Copying) → not (is_live w.core.page_map c.target.die.0) ≡ false → (t : Target) → Among t (c.target ∷ []) → is_live w.core.page_map t.die.0 ≡ true
  copied_live c alive t (inl is) = subst (λ (u : Target). is_live w.core.page_map u.die.0 ≡ true) is (not-false (is_live w.core.page_map c.target.die.0) alive)
  copied_live c alive t (inr rest) = absurd rest

  copy_ch : (o : Option Copying) → w.core.copying ≡ o → (answer : Result Copied CommitCopyRefused) (core : Core) → CommitsCopy w.core o answer core → Ch core
  copy_ch None is answer core d = absurd d
  copy_ch (Some c) is (Ok Current) core d =
      to _ core d.2 (record {
        used = placed (c.target ∷ []) (Held c.page c.version) w.core.page_map.used
            (copied_live c (no_refusal (is_live w.core.page_map c.target.die.0 && not c.target.programmed) (not (is_live w.core.page_map c.target.die.0)) CopyPending CopyFailed d.0).1)
            (λ p version e die. inr (inl (c, is, ap (λ (u : Used). page_of_held u) (same_Some (Held c.page c.version) (Held p version) e)))) as_it_was;
        copying = no_copying;
      })
  copy_ch (Some c) is (Ok Late) core d =
      to _ core d.2 (record {
        used = placed (c.target ∷ []) Stale w.core.page_map.used
            (copied_live c (no_refusal (is_live w.core.page_map c.target.die.0 && not c.target.programmed) (not (is_live w.core.page_map c.target.die.0)) CopyPending CopyFailed d.0).1)
            (freeing Stale refl) as_it_was;
        copying = no_copying;
      })
  copy_ch (Some c) is (Err CopyPending) core d = same w.core core d.1 refl refl
  copy_ch (Some c) is (Err CopyFailed) core d = to _ core d.1 (record { used = as_it_was; copying = no_copying })

  -- one slot in a new state that is no copy
  one_freed : (d s : ℕ) (final : Used) (m : FinMap place_cmp Used) → is_free final ≡ true
      → (is_live w.core.page_map d ≡ true) ⊎ (is_some (get w.core.page_map.used (d, s)) ≡ true)
      → ((die slot : ℕ) → Change w.core act die slot (get m (die, slot)))
      → (die slot : ℕ) → Change w.core act die slot (get (insert m (d, s) final) (die, slot))
  one_freed d s final m free there before die slot =
      elim (cases_eq die d) [
        | inr apart ↦ now_is die slot _ _ (get-place_other m d s final die slot (λ e f. apart e)) (before die slot)
        | inl on ↦ elim (cases_eq slot s) [
          | inr apart ↦ now_is die slot _ _ (get-place_other m d s final die slot (λ e f. apart f)) (before die slot)
          | inl at ↦ now_is die slot _ _ ((λ i. get (insert m (d, s) final) (on i, at i)) ∙ get-place_same m d s final)
              (inr (inr (subst₂_new (sym on) (sym at) (freed d s final free there))))
        ]
      ]
    where
      subst₂_new : {x y : ℕ} → d ≡ x → s ≡ y → IsNew w.core act d s (Some final) → IsNew w.core act x y (Some final)
      subst₂_new p q new = subst (λ (z : ℕ × ℕ). IsNew w.core act z.0 z.1 (Some final)) (λ i. (p i, q i)) new

  copying_ch : (p seq : ℕ) (payload : List ℕ) (v : Option Version) (d : Option ℕ) → copy_place w.core.copies w.core.page_map p ≡ d
      → is_thin w.core.copies w.core.page_map p ≡ true → Ch (copying_to w.core p payload v d)
  copying_ch p seq payload (Some v) (Some d) e thin =
      let found = found_passes (λ d. has_room w.core.page_map d && not (holds_page w.core.page_map p d)) (order_of w.core.copies w.core.page_map p) d e in
      let alive = (and_parts (is_live w.core.page_map d) _ (and_parts (has_room w.core.page_map d) _ found.0).0).0 in
      record {
        used = one_freed d (target_on w.core.page_map d).slot.0 Reserved w.core.page_map.used refl (inl alive) as_it_was;
        copying = λ c is. inr (ap (λ (o : Option Copying). is_thin w.core.copies w.core.page_map (page_of_copy o)) (sym is) ∙ thin);
      }
  copying_ch p seq payload (Some v) None e thin = alike w.core refl refl
  copying_ch p seq payload None d e thin = alike w.core refl refl

  begun_ch : (d seat : ℕ) (flight : Flight) → is_idle w.core d ≡ true → Ch (begun d seat flight w.core)
  begun_ch d seat (Header epoch live) idle = alike _ refl refl
  begun_ch d seat (Move p version from to) idle = record {
    used = one_freed d to.0 Reserved w.core.page_map.used refl (inl (and_parts (is_live w.core.page_map d) _ idle).0) as_it_was;
    copying = λ c e. inl (c, e, refl);
  }
  begun_ch d seat (Erase block) idle = alike _ refl refl
  begun_ch d seat (Read batch p version slot) idle = alike _ refl refl
  begun_ch d seat (Program p version slot) idle = alike _ refl refl
  begun_ch d seat (Sync flushes) idle = alike _ refl refl

  other_ch : (d seat : ℕ) (job : Option Handed) → IsOther (without_stale_booking d w.core) d job → Ch (begins d seat (without_stale_booking d w.core) job).1
  other_ch d seat None u = alike _ refl refl
  other_ch d seat (Some job) u =
      elim u [
        | inl p ↦ subst (λ j. Ch (begins d seat (without_stale_booking d w.core) (Some j)).1) (sym p.2) (alike _ refl refl)
        | inr f ↦ subst (λ j. Ch (begins d seat (without_stale_booking d w.core) (Some j)).1) (sym f.1) (alike _ refl refl)
      ]

  take_ch : (d seat : ℕ) (answer : Option Handed) (core : Core) → Takes w.core d seat answer core → Ch core
  take_ch d seat answer core e =
      subst (λ (pair : Option Handed × Core). Ch pair.1) (sym e)
      (take_cases w.core d seat (λ (pair : Option Handed × Core). Ch pair.1) (alike w.core refl refl) (λ flight idle u. begun_ch d seat flight idle)
      (λ job idle u. other_ch d seat job u))

  abbrev over : ℕ → Core
  over d = record (w.core) { jobs = remove w.core.jobs d }

  -- slots that are kept, and others that are erased
  kept_ch : (test : ℕ × ℕ → Used → Bool) (die slot : ℕ) → Change w.core act die slot (get (keep test w.core.page_map.used) (die, slot))
  kept_ch test die slot =
      now_is die slot _ _ (get-keep place_cmp_total place_same test w.core.page_map.used (die, slot)) (by_state (get w.core.page_map.used (die, slot)) refl)
    where
      by_test : (u : Used) (b : Bool) → get w.core.page_map.used (die, slot) ≡ Some u → Change w.core act die slot (if b then Some u else None)
      by_test u true is = inl (sym is)
      by_test u false is = inr (inl refl)

      by_state : (o : Option Used) → get w.core.page_map.used (die, slot) ≡ o → Change w.core act die slot (passed (test (die, slot)) o)
      by_state None is = inl (sym is)
      by_state (Some u) is = by_test u (test (die, slot) u) is

  drop_ch : (d : ℕ) → Ch (drop_die d (over d))
  drop_ch d = record { used = kept_ch (λ place used. not (place.0 == d)); copying = λ c e. inl (c, e, refl) }

  answer_ch : (d batch p : ℕ) (bytes : List ℕ) (b : Option OpenBatch) → Ch (with_answer batch p bytes b (over d))
  answer_ch d batch p bytes None = alike _ refl refl
  answer_ch d batch p bytes (Some b) = alike _ refl refl

  read_ch : (d batch p : ℕ) (o : Option (List ℕ)) → Ch (read_ends d batch p o (over d))
  read_ch d batch p None = drop_ch d
  read_ch d batch p (Some bytes) = answer_ch d batch p bytes (get w.core.batches batch)

  header_ch : (b : Bool) (d : ℕ) → Ch (if b then record (over d) { behind = remove w.core.behind d } else over d)
  header_ch true d = alike _ refl refl
  header_ch false d = alike _ refl refl

  program_ch : (d p slot : ℕ) → Ch (program_ends p d slot (over d))
  program_ch d p slot = record {
    used = as_it_was;
    copying = λ c e. inl (was w.core.copying refl c e);
  }
    where
      was : (o : Option Copying) → w.core.copying ≡ o → (c : Copying) → option_map {T = Copying} (λ c. record c { target = mark d slot c.target }) o ≡ Some c → Copies w.core c.page.0
      was None is c e = absurd (none-some c e)
      was (Some k) is c e = (k, is, ap (λ (x : Copying). x.page.0) (same_Some _ c e))

  -- the slot that was moved to holds the page where its copy was current
  move_ch : (d : ℕ) (p : Page) (version : Version) (from t : ℕ) → IsMoving (scene_of w).bytes (scene_of w).places d p.0 version from t
      → Ch (stepped_on d (move_ends d p.0 version from t (over d)))
  move_ch d p version from t moving = record { used = moved; copying = λ c e. inl (c, e, refl) }
    where
      source : (die slot : ℕ) → Change w.core act die slot (get (insert w.core.page_map.used (d, from) Stale) (die, slot))
      source = one_freed d from Stale w.core.page_map.used refl (inr (settled_is (used_at w.core.page_map d from) moving.settled)) as_it_was
        where
          settled_is : (o : Option Used) → is_settled o ≡ true → is_some o ≡ true
          settled_is None e = absurd (false≢true e)
          settled_is (Some u) e = refl

      target : (b : Bool) → is_current w.core.page_map p.0 d from ≡ b
          → IsNew w.core act d t (Some (if b then Held (record { 0 = p.0 }) version else Stale))
      target true current = record {
        there = inr (ap is_some moving.kept);
        why = λ page v e. inr (inr (
          from,
          subst (λ n. is_current w.core.page_map n d from ≡ true)
              (ap (λ (u : Used). page_of_held u) (same_Some (Held (record { 0 = p.0 }) version) (Held page v) e)) current,
        ));
      }
      target false current = freed d t Stale refl (inr (ap is_some moving.kept))

      moved : (die slot : ℕ) → Change w.core act die slot (get (insert (insert w.core.page_map.used (d, from) Stale) (d, t) (if is_current w.core.page_map p.0 d from then Held (record { 0 = p.0 }) version else Stale)) (die, slot))
      moved die slot =
          elim (cases_eq die d) [
            | inr apart ↦ now_is die slot _ _ (get-place_other (insert w.core.page_map.used (d, from) Stale) d t (if is_current w.core.page_map p.0 d from then Held (record { 0 = p.0 }) version else Stale) die slot (λ e f. apart e)) (source die slot)
            | inl on ↦ elim (cases_eq slot t) [
              | inr apart ↦ now_is die slot _ _ (get-place_other (insert w.core.page_map.used (d, from) Stale) d t (if is_current w.core.page_map p.0 d from then Held (record { 0 = p.0 }) version else Stale) die slot (λ e f. apart f)) (source die slot)
              | inl at ↦ now_is die slot _ _ ((λ i. get (insert (insert w.core.page_map.used (d, from) Stale) (d, t) (if is_current w.core.page_map p.0 d from then Held (record { 0 = p.0 }) version else Stale)) (on i, at i)) ∙ get-place_same (insert w.core.page_map.used (d, from) Stale) d t (if is_current w.core.page_map p.0 d from then Held (record { 0 = p.0 }) version else Stale))
                  (inr (inr (subst (λ (z : ℕ × ℕ). IsNew w.core act z.0 z.1 (Some (if is_current w.core.page_map p.0 d from then Held (record { 0 = p.0 }) version else Stale))) (λ i. (sym on i, sym at i))
                  (target (is_current w.core.page_map p.0 d from) refl))))
            ]
          ]

  finished_ch : (d : ℕ) (flight : Flight) (payload : List ℕ) (outcome : Outcome)
      → JobFits (scene_of w).bytes (scene_of w).places (scene_of w).in_block (w.due d).bytes d flight payload → Ch (finished d flight outcome (over d))
  finished_ch d (Read batch p version slot) payload (DidRead cell) fits = read_ch d batch.0 p.0 _
  finished_ch d (Program p version slot) payload DidProgram fits = program_ch d p.0 slot.0
  finished_ch d (Move p version from to) payload DidMove fits = move_ch d p version from.0 to.0 fits
  finished_ch d (Erase block) payload DidErase fits = record { used = kept_ch (stays w.core.page_map d block.0); copying = λ c e. inl (c, e, refl) }
  finished_ch d (Header epoch live) payload DidWriteHeader fits = header_ch (epoch == w.core.epoch) d
  finished_ch d (Sync flushes) payload DidSync fits = alike _ refl refl
  finished_ch d flight payload (Fault call) fits = drop_ch d
  finished_ch d flight payload Wrong fits = drop_ch d
  finished_ch d flight payload outcome fits = alike _ refl refl

  done_ch : (d : ℕ) (flight : Option Flight) (work : Option Work) (outcome : Outcome) (core : Core) → get w.core.jobs d ≡ flight → w.works d ≡ work
      → HasOutcome d work outcome → EndsJob w.core d flight outcome core → Ch core
  done_ch d None work outcome core job works worked e = absurd e
  done_ch d (Some flight) None outcome core job works worked e = absurd (none-some outcome worked)
  done_ch d (Some flight) (Some work) outcome core job works worked e =
      let is : work.job.flight ≡ flight = same_Some work.job.flight flight (sym (ap (option_map {T = Work} (λ k. k.job.flight)) works) ∙ sym (h.jobs d) ∙ job) in
      to _ core e (finished_ch d flight work.job.payload outcome
      (subst (λ f. JobFits (scene_of w).bytes (scene_of w).places (scene_of w).in_block (w.due d).bytes d f work.job.payload) is (h.sound.works d work works).job))

-- a copy that is reserved is one of a thin page
reserved_thin : (core : Core) (page seq : ℕ) → reserve_copy_refusal core page seq ≡ None → is_thin core.copies core.page_map page ≡ true
reserved_thin core page seq e = by_first (is_thin core.copies core.page_map page) (has_number seq (get core.page_map.versions page)) _ e
  where
    by_first : (a b : Bool) (rest : Option ReserveCopyRefused) → cond (not (a && b)) (Some Gone) rest ≡ None → a ≡ true
    by_first true b rest e = refl
    by_first false b rest e = absurd (none-some Gone (sym e))

pub event_changes : (w : World) (h : Holds w) (act : Act) (core : Core) → Does w.core act core → IsTold w act → Changes w.core act core
event_changes w h (Claim p (Ok id)) core d told = same w h (Claim p (Ok id)) _ core d.2 refl refl
event_changes w h (Claim p (Err Claimed)) core d told = same w h (Claim p (Err Claimed)) _ core d.1 refl refl
event_changes w h (Claim p (Err ClaimNoMemory)) core d told = same w h (Claim p (Err ClaimNoMemory)) _ core d.1 refl refl
event_changes w h (Release claim) core d told = same w h (Release claim) _ core d refl refl
event_changes w h (Reserve claim payload answer) core d told = reserve_ch w h (Reserve claim payload answer) claim _ _ payload answer core d
event_changes w h (ReserveHole claim answer) core d told = reserve_ch w h (ReserveHole claim answer) claim _ _ _ answer core d
event_changes w h (ReserveFewer claim payload answer) core d told = reserve_ch w h (ReserveFewer claim payload answer) claim _ _ payload answer core d
event_changes w h (Commit claim seat (Ok seq)) core d told = commit_ch w h (Commit claim seat (Ok seq)) claim seat seq refl (reserved_under w.core claim) core d
event_changes w h (Commit claim seat (Err refused)) core d told = uncommitted_ch w h (Commit claim seat (Err refused)) claim seat (reserved_under w.core claim) refused core d
event_changes w h (Abandon claim answer) core d told = abandon_ch w h (Abandon claim answer) claim (reserved_under w.core claim) answer core d
event_changes w h (Admit pages (Ok admitted)) core d told = same w h (Admit pages (Ok admitted)) _ core d.2 refl refl
event_changes w h (Admit pages (Err refused)) core d told = same w h (Admit pages (Err refused)) _ core d.1 refl refl
event_changes w h (Replan batch (Ok planned)) core d told = same w h (Replan batch (Ok planned)) _ core d.1 refl refl
event_changes w h (Replan batch (Err refused)) core d told = same w h (Replan batch (Err refused)) _ core d.1 refl refl
event_changes w h (EndBatch batch answer) core d told = same w h (EndBatch batch answer) _ core d.1 refl refl
event_changes w h (Take out seat answer) core d told = take_ch w h (Take out seat answer) out seat answer core d
event_changes w h (Done out outcome) core d told = done_ch w h (Done out outcome) out (get w.core.jobs out) (w.works out) outcome core refl refl told d
event_changes w h (Window out count (Ok first)) core d told = same w h (Window out count (Ok first)) _ core d.3 refl refl
event_changes w h (Window out count (Err WindowBusy)) core d told = same w h (Window out count (Err WindowBusy)) _ core d.1 refl refl
event_changes w h (Window out count (Err HasOne)) core d told = same w h (Window out count (Err HasOne)) _ core d.2 refl refl
event_changes w h (Window out count (Err WindowNoMemory)) core d told = same w h (Window out count (Err WindowNoMemory)) _ core d.2 refl refl
event_changes w h (Advance (Ok round)) core d told = same w h (Advance (Ok round)) _ core d.2 refl refl
event_changes w h (Advance (Err refused)) core d told = same w h (Advance (Err refused)) _ core d.1 refl refl
event_changes w h (SpareIn out (Ok made)) core d told = same w h (SpareIn out (Ok made)) _ core d.1 refl refl
event_changes w h (SpareIn out (Err NotSpare)) core d told = same w h (SpareIn out (Err NotSpare)) _ core d.1 refl refl
event_changes w h (ReserveCopy p seq payload (Ok made)) core d told =
    to w h (ReserveCopy p seq payload (Ok made)) _ core d.1
    (copying_ch w h (ReserveCopy p seq payload (Ok made)) p seq payload (get w.core.page_map.versions p) (copy_place w.core.copies w.core.page_map p) refl
    (reserved_thin w.core p seq d.0))
event_changes w h (ReserveCopy p seq payload (Err CopyNoMemory)) core d told = same w h (ReserveCopy p seq payload (Err CopyNoMemory)) _ core d.1 refl refl
event_changes w h (ReserveCopy p seq payload (Err refused)) core d told = same w h (ReserveCopy p seq payload (Err refused)) _ core d.1 refl refl
event_changes w h (CommitCopy answer) core d told = copy_ch w h (CommitCopy answer) w.core.copying refl answer core d
event_changes w h (FlushBegin (Ok flush)) core d told = same w h (FlushBegin (Ok flush)) _ core d.3 refl refl
event_changes w h (FlushBegin (Err Spent)) core d told = same w h (FlushBegin (Err Spent)) _ core d.1 refl refl
event_changes w h (FlushState flush answer) core d told = same w h (FlushState flush answer) _ core d.1 refl refl
event_changes w h Fold core d told = same w h Fold _ core d refl refl
