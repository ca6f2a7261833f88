-- A used slot of a die that stays live is erased by the end of an erase alone.
use Rattle.fa_laws.proofs.Outlasting.{dropped_other}
use Rattle.fa_machine.proofs.Maps.{get-change, get-keep, get-remove_same, has_some, passed, place_cmp_total, place_same}
use Rattle.fa_machine.proofs.Takes.{IsOther, IsUrgent, take_cases}
use Rattle.fa_machine.proofs.Values.{get-insert_all}
use Rattle.fa_laws.specs.Erased.{IsErased}
use Rattle.fa_machine.specs.Cells.{DidErase, DidMove, DidProgram, DidRead, DidSync, DidWriteHeader, Fault, Outcome, Wrong, payload_of}
use Rattle.fa_machine.specs.Collecting.{is_in_block}
use Rattle.fa_machine.specs.Conditions.{drop_die, reserved_under}
use Rattle.fa_machine.specs.Copies.{is_reserved_slot}
use Rattle.fa_machine.specs.Maps.{change, insert_all, place_cmp}
use Rattle.fa_machine.specs.Placement.{copy_place, targets}
use Rattle.fa_machine.specs.State.{Core, OpenBatch, Reservation, is_live, used_at}
use Rattle.fa_machine.specs.Step.{Abandon, Act, Admit, Advance, Claim, Commit, CommitCopy, Does, Done, EndBatch, FlushBegin}
use Rattle.fa_machine.specs.Step.{FlushState, Fold, Release, Replan, Reserve, ReserveCopy, ReserveFewer, ReserveHole, SpareIn, Step, Take}
use Rattle.fa_machine.specs.Step.{Window}
use Rattle.fa_machine.specs.Taking.{EndsJob, Handed, Takes, begins, begun, erase_ends, finished, read_ends, stays}
use Rattle.fa_machine.specs.Taking.{stepped_on, with_answer, without_stale_booking}
use Rattle.fa_machine.specs.Turning.{CommitsCopy, copying_to}
use Rattle.fa_machine.specs.Writing.{Abandons, Commits, Reserves, claimed_page, live_targets, target_on, without_page}
use Rattle.fa_machine.specs.declared.answers.Copied.{Copied}
use Rattle.fa_machine.specs.declared.answers.Copied.TheVariants.{Current, Late}
use Rattle.fa_machine.specs.declared.jobs.Flight.{Flight}
use Rattle.fa_machine.specs.declared.jobs.Flight.TheVariants.{Erase, Header, Move, Program, Read, Sync}
use Rattle.fa_machine.specs.declared.places.Copying.{Copying}
use Rattle.fa_types.specs.declared.kind.Kind.{Kind}
use Rattle.fa_machine.specs.declared.places.Target.{Target}
use Rattle.fa_machine.specs.declared.places.Used.{Used}
use Rattle.fa_machine.specs.declared.places.Used.TheVariants.{Held, Reserved, Stale}
use Rattle.fa_machine.specs.declared.places.Version.{Version}
use Rattle.fa_machine.specs.declared.refusals.AbandonRefused.{AbandonRefused}
use Rattle.fa_machine.specs.declared.refusals.ClaimRefused.TheVariants.{Claimed, NoMemory as ClaimNoMemory}
use Rattle.fa_machine.specs.declared.refusals.CommitCopyRefused.{CommitCopyRefused}
use Rattle.fa_machine.specs.declared.refusals.CommitCopyRefused.TheVariants.{Failed as CopyFailed, Pending as CopyPending}
use Rattle.fa_machine.specs.declared.refusals.CommitRefused.{CommitRefused}
use Rattle.fa_machine.specs.declared.refusals.FlushRefused.TheVariants.{Spent}
use Rattle.fa_machine.specs.declared.refusals.ReserveCopyRefused.TheVariants.{NoMemory as CopyNoMemory}
use Rattle.fa_machine.specs.declared.refusals.ReserveRefused.{ReserveRefused}
use Rattle.fa_machine.specs.declared.refusals.ReserveRefused.TheVariants.{NoMemory as ReserveNoMemory}
use Rattle.fa_machine.specs.declared.refusals.SpareRefused.TheVariants.{NotSpare}
use Rattle.fa_machine.specs.declared.refusals.WindowRefused.TheVariants.{Busy as WindowBusy, HasOne, NoMemory as WindowNoMemory}
use Rattle.fa_types.specs.declared.numbers.Seq.{Seq}
use Rattle.std.proofs.Common.{Bool, List, None, Option, Some, [], ap, cond, eqb-true, false, inl, inr, map, not, refl, subst, sym, true}
use Rattle.std.proofs.Common.{ℕ, ◌∙◌, ◌∷◌, ◌≡◌, ◌⊎◌}
use Rattle.std.proofs.lemmas.Bool.{and_parts, cases_Bool, false≢true, not-false, or_parts}
use Rattle.std.specs.FinMap.{FinMap, get, get-insert, insert, remove}
use Rattle.std.specs.Ordering.{eq_by_cmp}
use Rattle.std.specs.Prelude.{Err, Ok, Result, if◌then◌else◌, is_some, option_map, ◌&&◌, ◌==◌}

some_cond : (b : Bool) (x : Used) (o : Option Used) → is_some o ≡ true → is_some (cond b (Some x) o) ≡ true
some_cond true x o e = refl
some_cond false x o e = e

some_map : (f : Used → Used) (o : Option Used) → is_some o ≡ true → is_some (option_map f o) ≡ true
some_map f None e = e
some_map f (Some x) e = refl

used_insert : (used : FinMap place_cmp Used) (place : ℕ × ℕ) (x : Used) (at : ℕ × ℕ) → is_some (get used at) ≡ true
    → is_some (get (insert used place x) at) ≡ true
used_insert used place x at was =
    ap is_some (get-insert place_cmp_total used place x at) ∙ some_cond (eq_by_cmp place_cmp at place) x (get used at) was

used_all : (places : List (ℕ × ℕ)) (x : Used) (used : FinMap place_cmp Used) (at : ℕ × ℕ) → is_some (get used at) ≡ true
    → is_some (get (insert_all places x used) at) ≡ true
used_all places x used at was =
    elim (get-insert_all place_cmp_total place_same places x used at) [
      | inl same ↦ ap is_some same ∙ was
      | inr found ↦ ap is_some found.1
    ]

used_change : (f : ℕ × ℕ → Used → Used) (used : FinMap place_cmp Used) (at : ℕ × ℕ) → is_some (get used at) ≡ true
    → is_some (get (change f used) at) ≡ true
used_change f used at was = ap is_some (get-change place_cmp_total place_same f used at) ∙ some_map (f at) (get used at) was

abbrev places_of : List Target → List (ℕ × ℕ)
places_of ts = map (λ (t : Target). (t.die.0, t.slot.0)) ts

module _ (old : Core) (die slot : ℕ) (was : is_some (get old.page_map.used (die, slot)) ≡ true) where
  abbrev Used_in : Core → Type 0
  Used_in core = is_some (get core.page_map.used (die, slot)) ≡ true

  to_used : (x core : Core) → core ≡ x → Used_in x → Used_in core
  to_used x core e u = subst Used_in (sym e) u

  reserve_used : (claim least : ℕ) (kind : Kind) (payload : List ℕ) (answer : Result Seq ReserveRefused) (core : Core)
      → Reserves old claim least kind payload answer core → Used_in core
  reserve_used claim least kind payload (Ok seq) core d =
      to_used _ core d.2 (used_all (places_of (map (target_on old.page_map) (targets old.copies old.page_map (claimed_page old claim)))) Reserved old.page_map.used (die, slot) was)
  reserve_used claim least kind payload (Err ReserveNoMemory) core d = to_used old core d.1 was
  reserve_used claim least kind payload (Err refused) core d = to_used old core d.1 was

  commit_used : (claim seat : ℕ) (o : Option Reservation) (answer : Result Seq CommitRefused) (core : Core) → Commits old claim seat o answer core → Used_in core
  commit_used claim seat None answer core d = absurd d
  commit_used claim seat (Some r) (Ok seq) core d =
      to_used _ core d.2 (used_all (places_of (live_targets old r.targets)) _ (change (λ place used. without_page (claimed_page old claim) used) old.page_map.used) (die, slot)
      (used_change (λ place used. without_page (claimed_page old claim) used) old.page_map.used (die, slot) was))
  commit_used claim seat (Some r) (Err refused) core d = to_used old core d.1 was

  abandon_used : (claim : ℕ) (o : Option Reservation) (answer : Result (Unit {0}) AbandonRefused) (core : Core) → Abandons old claim o answer core → Used_in core
  abandon_used claim None answer core d = absurd d
  abandon_used claim (Some r) (Ok made) core d =
      to_used _ core d.1 (used_all (places_of (live_targets old r.targets)) Stale old.page_map.used (die, slot) was)
  abandon_used claim (Some r) (Err refused) core d = to_used old core d.1 was

  copy_used : (o : Option Copying) (answer : Result Copied CommitCopyRefused) (core : Core) → CommitsCopy old o answer core → Used_in core
  copy_used None answer core d = absurd d
  copy_used (Some k) (Ok Current) core d =
      to_used _ core d.2 (used_all (places_of (k.target ∷ [])) (Held k.page k.version) old.page_map.used (die, slot) was)
  copy_used (Some k) (Ok Late) core d = to_used _ core d.2 (used_all (places_of (k.target ∷ [])) Stale old.page_map.used (die, slot) was)
  copy_used (Some k) (Err CopyPending) core d = to_used old core d.1 was
  copy_used (Some k) (Err CopyFailed) core d = to_used _ core d.1 was

  copying_used : (page : ℕ) (payload : List ℕ) (v : Option Version) (d : Option ℕ) → Used_in (copying_to old page payload v d)
  copying_used page payload (Some v) (Some d) = used_all (places_of (target_on old.page_map d ∷ [])) Reserved old.page_map.used (die, slot) was
  copying_used page payload (Some v) None = was
  copying_used page payload None d = was

  begun_used : (d seat : ℕ) (flight : Flight) → IsUrgent old d flight → Used_in (begun d seat flight old)
  begun_used d seat (Header epoch live) u = was
  begun_used d seat (Move page version from to) u = used_insert old.page_map.used (d, to.0) Reserved (die, slot) was
  begun_used d seat (Erase block) u = was
  begun_used d seat (Read batch page version from) u = was
  begun_used d seat (Program page version from) u = absurd u
  begun_used d seat (Sync flushes) u = absurd u

  other_used : (d seat : ℕ) (job : Option Handed) → IsOther (without_stale_booking d old) d job → Used_in (begins d seat (without_stale_booking d old) job).1
  other_used d seat None u = was
  other_used d seat (Some job) u =
      elim u [
        | inl p ↦ subst (λ j. Used_in (begins d seat (without_stale_booking d old) (Some j)).1) (sym p.2) was
        | inr f ↦ subst (λ j. Used_in (begins d seat (without_stale_booking d old) (Some j)).1) (sym f.1) was
      ]

  take_used : (d seat : ℕ) (answer : Option Handed) (core : Core) → Takes old d seat answer core → Used_in core
  take_used d seat answer core e =
      subst (λ (pair : Option Handed × Core). Used_in pair.1) (sym e)
      (take_cases old d seat (λ (pair : Option Handed × Core). Used_in pair.1) was (λ flight idle u. begun_used d seat flight u) (λ job idle u. other_used d seat job u))

  abbrev over : ℕ → Core
  over d = record old { jobs = remove old.jobs d }

  drop_used : (d : ℕ) → is_live (drop_die d (over d)).page_map die ≡ true → Used_in (drop_die d (over d))
  drop_used d alive =
      let apart : die ≡ d → ⊥ = λ same. false≢true (sym (ap is_some (ap (get (remove old.page_map.live d)) same ∙ get-remove_same old.page_map.live d)) ∙ alive) in
      ap is_some ((dropped_other (over d) d die apart).used slot) ∙ was

  answer_used : (d batch page : ℕ) (bytes : List ℕ) (b : Option OpenBatch) → Used_in (with_answer batch page bytes b (over d))
  answer_used d batch page bytes None = was
  answer_used d batch page bytes (Some b) = was

  read_used : (d batch page : ℕ) (o : Option (List ℕ)) → is_live (read_ends d batch page o (over d)).page_map die ≡ true → Used_in (read_ends d batch page o (over d))
  read_used d batch page None alive = drop_used d alive
  read_used d batch page (Some bytes) alive = answer_used d batch page bytes (get old.batches batch)

  header_used : (b : Bool) (d : ℕ) → Used_in (if b then record (over d) { behind = remove old.behind d } else over d)
  header_used true d = was
  header_used false d = was

  erase_used : (d block : ℕ) → Used_in (stepped_on d (erase_ends d block (over d)))
      ⊎ ((d ≡ die) × (is_in_block old.page_map block slot ≡ true) × (is_reserved_slot (used_at old.page_map die slot) ≡ false))
  erase_used d block =
      let u = has_some (get old.page_map.used (die, slot)) was in
      elim (cases_Bool (stays old.page_map d block (die, slot) u.0)) [
        | inl kept ↦ inl (ap is_some (get-keep place_cmp_total place_same (stays old.page_map d block) old.page_map.used (die, slot)
            ∙ ap (passed (stays old.page_map d block (die, slot))) u.1) ∙ ap (λ b. is_some (if b then Some u.0 else None)) kept)
        | inr gone ↦
            let parts = or_parts (not (die == d && is_in_block old.page_map block slot)) (is_reserved_slot (Some u.0)) gone in
            let both = and_parts (die == d) (is_in_block old.page_map block slot) (not-false _ parts.0) in
            inr (sym (eqb-true die d both.0), both.1, ap is_reserved_slot u.1 ∙ parts.1)
      ]

  finished_used : (d : ℕ) (flight : Flight) (outcome : Outcome) → get old.jobs d ≡ Some flight
      → is_live (finished d flight outcome (over d)).page_map die ≡ true
      → Used_in (finished d flight outcome (over d)) ⊎ IsErased old (Done d outcome) die slot
  finished_used d (Read batch page version from) (DidRead cell) job alive = inl (read_used d batch.0 page.0 (payload_of page.0 version d from.0 cell) alive)
  finished_used d (Program page version from) DidProgram job alive = inl was
  finished_used d (Move page version from to) DidMove job alive =
      inl (used_insert (insert old.page_map.used (d, from.0) Stale) (d, to.0) _ (die, slot) (used_insert old.page_map.used (d, from.0) Stale (die, slot) was))
  finished_used d (Erase block) DidErase job alive =
      elim (erase_used d block.0) [
        | inl kept ↦ inl kept
        | inr gone ↦ inr (gone.0, (block, ap (get old.jobs) (sym gone.0) ∙ job, gone.1), gone.2)
      ]
  finished_used d (Header epoch live) DidWriteHeader job alive = inl (header_used (epoch == old.epoch) d)
  finished_used d (Sync flushes) DidSync job alive = inl was
  finished_used d flight (Fault call) job alive = inl (drop_used d alive)
  finished_used d flight Wrong job alive = inl (drop_used d alive)
  finished_used d flight outcome job alive = inl was

  done_used : (d : ℕ) (flight : Option Flight) (outcome : Outcome) (core : Core) → get old.jobs d ≡ flight → EndsJob old d flight outcome core
      → is_live core.page_map die ≡ true → Used_in core ⊎ IsErased old (Done d outcome) die slot
  done_used d None outcome core job e alive = absurd e
  done_used d (Some flight) outcome core job e alive =
      elim (finished_used d flight outcome job (ap (λ (k : Core). is_live k.page_map die) (sym e) ∙ alive)) [
        | inl kept ↦ inl (to_used _ core e kept)
        | inr gone ↦ inr gone
      ]

  event_used : (act : Act) (core : Core) → Does old act core → is_live core.page_map die ≡ true → Used_in core ⊎ IsErased old act die slot
  event_used (Claim page (Ok id)) core d alive = inl (to_used _ core d.2 was)
  event_used (Claim page (Err Claimed)) core d alive = inl (to_used _ core d.1 was)
  event_used (Claim page (Err ClaimNoMemory)) core d alive = inl (to_used _ core d.1 was)
  event_used (Release claim) core d alive = inl (to_used _ core d was)
  event_used (Reserve claim payload answer) core d alive = inl (reserve_used claim _ _ payload answer core d)
  event_used (ReserveHole claim answer) core d alive = inl (reserve_used claim _ _ _ answer core d)
  event_used (ReserveFewer claim payload answer) core d alive = inl (reserve_used claim _ _ payload answer core d)
  event_used (Commit claim seat answer) core d alive = inl (commit_used claim seat (reserved_under old claim) answer core d)
  event_used (Abandon claim answer) core d alive = inl (abandon_used claim (reserved_under old claim) answer core d)
  event_used (Admit pages (Ok admitted)) core d alive = inl (to_used _ core d.2 was)
  event_used (Admit pages (Err refused)) core d alive = inl (to_used _ core d.1 was)
  event_used (Replan batch (Ok planned)) core d alive = inl (to_used _ core d.1 was)
  event_used (Replan batch (Err refused)) core d alive = inl (to_used _ core d.1 was)
  event_used (EndBatch batch answer) core d alive = inl (to_used _ core d.1 was)
  event_used (Take out seat answer) core d alive = inl (take_used out seat answer core d)
  event_used (Done out outcome) core d alive = done_used out (get old.jobs out) outcome core refl d alive
  event_used (Window out count (Ok first)) core d alive = inl (to_used _ core d.3 was)
  event_used (Window out count (Err WindowBusy)) core d alive = inl (to_used _ core d.1 was)
  event_used (Window out count (Err HasOne)) core d alive = inl (to_used _ core d.2 was)
  event_used (Window out count (Err WindowNoMemory)) core d alive = inl (to_used _ core d.2 was)
  event_used (Advance (Ok round)) core d alive = inl (to_used _ core d.2 was)
  event_used (Advance (Err refused)) core d alive = inl (to_used _ core d.1 was)
  event_used (SpareIn out (Ok made)) core d alive = inl (to_used _ core d.1 was)
  event_used (SpareIn out (Err NotSpare)) core d alive = inl (to_used _ core d.1 was)
  event_used (ReserveCopy page seq payload (Ok made)) core d alive =
      inl (to_used _ core d.1 (copying_used page payload (get old.page_map.versions page) (copy_place old.copies old.page_map page)))
  event_used (ReserveCopy page seq payload (Err CopyNoMemory)) core d alive = inl (to_used _ core d.1 was)
  event_used (ReserveCopy page seq payload (Err refused)) core d alive = inl (to_used _ core d.1 was)
  event_used (CommitCopy answer) core d alive = inl (copy_used old.copying answer core d)
  event_used (FlushBegin (Ok flush)) core d alive = inl (to_used _ core d.3 was)
  event_used (FlushBegin (Err Spent)) core d alive = inl (to_used _ core d.1 was)
  event_used (FlushState flush answer) core d alive = inl (to_used _ core d.1 was)
  event_used Fold core d alive = inl (to_used _ core d was)

pub erased_by : (old new : Core) (act : Act) (die slot : ℕ) → Step old act new → is_live new.page_map die ≡ true
    → is_some (used_at old.page_map die slot) ≡ true → used_at new.page_map die slot ≡ None → IsErased old act die slot
erased_by old new act die slot step alive used gone =
    elim (event_used old die slot used act new step.does alive) [
      | inl kept ↦ absurd (false≢true (sym (ap is_some gone) ∙ kept))
      | inr erased ↦ erased
    ]
