-- What becomes of a write as its request makes an event.
use Rattle.fa_solo_job.proofs.Changes.{claims_after, claims_are, reservation_for}
use Rattle.fa_solo_laws.proofs.Due.{happens_plain}
use Rattle.fa_solo_laws.proofs.Given.{Gives, fresh_gives, run_gives}
use Rattle.fa_solo_laws.proofs.Listed.{IsOpen, admitted_open, open_gives, run_open}
use Rattle.fa_solo_laws.proofs.ReadBack.{reached_on}
use Rattle.fa_solo_laws.proofs.Reserved.{IsReservedFor, commit_writes, reserved_now, run_reserved}
use Rattle.fa_solo_laws.specs.Claimed.{KeepsClaim}
use Rattle.fa_solo_laws.specs.Unwritten.{EndsNoBatch, WritesNothing}
use Rattle.fa_solo_laws.proofs.Going.{Laws, SameCause, geometry_kept}
use Rattle.fa_solo_laws.proofs.Gone.{gone_lost, happens_gone}
use Rattle.fa_solo_laws.proofs.Owned.{IsOwned, claimed_now, owned_on, owned_page, owned_same}
use Rattle.fa_solo_laws.proofs.PlainBytes.{export_long}
use Rattle.fa_solo_laws.proofs.PutBytes.{put_sized}
use Rattle.fa_solo_laws.proofs.PutPage.{bytes_for, new_long, written_on}
use Rattle.fa_solo_laws.proofs.RangePages.{IsOf, page_of, upto}
use Rattle.fa_solo_laws.proofs.ReadStages.{Fits}
use Rattle.fa_solo_laws.specs.Asked.{LeavesClaim}
use Rattle.fa_laws.proofs.Answering.{reached_holds}
use Rattle.fa_machine.proofs.Lists.{among-filter, found_passes, none_passes}
use Rattle.fa_machine.specs.Among.{Among}
use Rattle.fa_machine.specs.Flushing.{flush_state}
use Rattle.fa_machine.specs.Conditions.{is_reserved}
use Rattle.fa_machine.specs.Copies.{is_lost}
use Rattle.fa_machine.specs.Placement.{copies_asked}
use Rattle.fa_machine.specs.Reading.{Admitted, batch_at as entry_at, is_late, left_of, results, zeros}
use Rattle.fa_machine.specs.Run.{Event, Happening, Happens, HappensEvent}
use Rattle.fa_machine.specs.State.{Core, OpenBatch, OpenClaim}
use Rattle.fa_machine.specs.Step.{Abandon, Act, Admit, Claim, Commit, EndBatch, FlushBegin, FlushState, Fold, Release, Replan, Reserve, ReserveFewer}
use Rattle.fa_machine.specs.Step.{ReserveHole}
use Rattle.fa_machine.specs.World.{World, plain_page}
use Rattle.fa_machine.specs.Writing.{claimed_page, reserve_refusal}
use Rattle.fa_machine.specs.declared.answers.Flush.{Flush}
use Rattle.fa_machine.specs.declared.answers.FlushState.TheVariants.{NoDie as FlushNoDie, Synced, Waiting}
use Rattle.fa_machine.specs.declared.answers.ReadState.TheVariants.{Ready}
use Rattle.fa_machine.specs.declared.refusals.AbandonRefused.TheVariants.{Pending as AbandonPending, Programmed}
use Rattle.fa_machine.specs.declared.refusals.AdmitRefused.TheVariants.{CalendarFull, Lost as PageLost, NoMemory as AdmitNoMemory, Spent as RoundsSpent}
use Rattle.fa_machine.specs.declared.refusals.ClaimRefused.TheVariants.{Claimed, NoMemory as ClaimNoMemory}
use Rattle.fa_machine.specs.declared.refusals.CommitRefused.TheVariants.{Failed, Pending as CommitPending}
use Rattle.fa_machine.specs.declared.refusals.FlushRefused.TheVariants.{Spent as FlushesSpent}
use Rattle.fa_machine.specs.declared.refusals.ReserveRefused.{ReserveRefused}
use Rattle.fa_machine.specs.declared.refusals.ReserveRefused.TheVariants.{NoDie as ReserveNoDie, NoMemory as ReserveNoMemory, NoRoom as ReserveNoRoom}
use Rattle.fa_machine.specs.declared.refusals.ReserveRefused.TheVariants.{Spent as NumbersSpent}
use Rattle.fa_shared_lock.specs.Founded.{IsFounded, may_collect}
use Rattle.fa_shared_lock.specs.Moves.{Moves}
use Rattle.fa_shared_steps.specs.Stages.{AfterReserve, after_pages, from_page, opened, with_fewer}
use Rattle.fa_shared_steps.specs.Ranges.{begins_at, bytes_in, covers, first_page, past_page}
use Rattle.fa_shared_steps.specs.declared.request.Task.{Task}
use Rattle.fa_shared_steps.specs.declared.stage.PageClaim.{PageClaim}
use Rattle.fa_shared_steps.specs.declared.stage.Purpose.TheVariants.{Merge}
use Rattle.fa_shared_steps.specs.declared.stage.Stage.{Stage}
use Rattle.fa_shared_steps.specs.declared.stage.Stage.TheVariants.{Abandoning, Asking, BeginningFlush, Claiming, Committing, Ended, Filling, Flushing, Leaving}
use Rattle.fa_shared_steps.specs.declared.stage.Stage.TheVariants.{Listing, Reading, Releasing, Reserving, Sorting}
use Rattle.fa_shared_steps.specs.declared.stage.Wish.{Wish}
use Rattle.fa_shared_steps.specs.declared.stage.Wish.TheVariants.{Data, Fewer, Hole}
use Rattle.fa_types.specs.Plain.{HasPages, export, put}
use Rattle.fa_types.specs.Store.{bytes_at, with_bytes}
use Rattle.fa_types.specs.declared.blocks.BlockFault.{BlockFault}
use Rattle.fa_types.specs.declared.blocks.BlockFault.TheVariants.{Lost, Spent}
use Rattle.fa_types.specs.declared.geometry.Geometry.{Geometry}
use Rattle.fa_types.specs.declared.kind.Kind.TheVariants.{Data as DataKind, Hole as HoleKind}
use Rattle.fa_types.specs.declared.numbers.Page.{Page}
use Rattle.fa_types.specs.declared.numbers.Seq.{Seq}
use Rattle.std.proofs.Common.{Bool, List, None, Option, Some, [], ap, arith, false, inl, inr, length, map, refl, replicate, subst, sym}
use Rattle.std.proofs.Common.{true, ℕ, ◌*◌, ◌+◌, ◌-◌, ◌^◌, ◌∙◌, ◌∷◌, ◌≡◌, ◌≤◌, ◌⊎◌}
use Rattle.std.proofs.lemmas.Bool.{cases_eq, false_from_ne_true, false≢true, ltb-false, ltb-true, true≢false}
use Rattle.std.specs.FinMap.{empty}
use Rattle.std.specs.Prelude.{Err, Ok, if◌then◌else◌, is_some, min, nat_lt, option_and_then, option_map, slice_index_or, unwrap_or}
use Rattle.std.specs.Prelude.{◌==◌}
use Rattle.fa_solo_laws.proofs.WriteWorlds.{refused_first, room_number, other_refusal, three_cases, Founds, Has, IsAt, IsMerging, IsReserving, IsWishFor, Wrote, payload_in, wrote_on}

module _ (A : Type 0) (laws : Laws) (t : Task) (seat : ℕ) (bytes : List ℕ) (first : World) (f : Fits first t.range)
    (long : length (bytes_for t.fill t.range bytes) ≡ t.range.to - t.range.from) (Cause : World → BlockFault → Type 0) (Knows : Flush → World → Type 0)
    (founds : Founds t.range first Cause Knows) where
  abbrev all : List ℕ
  all = bytes_for t.fill t.range bytes

  abbrev Done : ℕ → World → Type 0
  Done = Wrote t.range first all

  abbrev Own : PageClaim → World → Type 0
  Own = Has t.range first all

  -- behind the last page only a flush is refused
  abbrev pub EndsAt : ℕ → BlockFault → Type 0
  EndsAt page fault = IsAt t.range first all page ⊎ ((page ≡ past_page t.range) × (t.flush ≡ true) × ((fault ≡ Lost) ⊎ (fault ≡ Spent)))

  abbrev pub WritesAt : World → Stage A → Type 0
  WritesAt w (Claiming page) = IsAt t.range first all page.0 × Done page.0 w
  WritesAt w (Filling held fewer) = Own held w × (covers t.range held.page.0 ≡ true)
  WritesAt w (Listing (Merge held)) = Own held w
  WritesAt w (Asking (Merge held) pages) = Own held w × (map (λ (p : Page). p.0) pages ≡ held.page.0 ∷ [])
  WritesAt w (Reading (Merge held) batch) = Own held w × IsMerging t.range first all held.page.0 batch.0 w
  WritesAt w (Leaving (Merge held) batch fault) = Own held w × ((pages : List ℕ) × IsOpen batch.0 pages w.core.batches) × Cause w fault
  WritesAt w (Sorting (Merge held) answers) =
      Own held w × (is_lost first.core.page_map held.page.0 ≡ false)
      × (map {B = ℕ × List ℕ} (λ e. (e.0.0, e.1.items)) answers.items ≡ (held.page.0, plain_page w held.page.0) ∷ [])
  WritesAt w (Reserving held wish) = Own held w × IsWishFor t.range first all held.page.0 w wish
  WritesAt w (Committing held wish) = IsReserving t.range first all held w wish
  WritesAt w (Abandoning held wish) = IsReserving t.range first all held w wish
  WritesAt w (Releasing held None) =
      IsAt t.range first all held.page.0 × Done (held.page.0 + 1) w × IsOwned held.claim.0 held.page.0 w.core.claims
  WritesAt w (Releasing held (Some fault)) = Own held w × Cause w fault
  WritesAt w BeginningFlush = Done (past_page t.range) w × (t.flush ≡ true)
  WritesAt w (Flushing flush) = Done (past_page t.range) w × (t.flush ≡ true) × Knows flush w
  WritesAt w (Ended None) = Done (past_page t.range) w
  WritesAt w (Ended (Some fault)) = Cause w fault × ((page : ℕ) × Done page w × EndsAt page fault)
  WritesAt w stage = ⊥

  pub many : (w : World) (page : ℕ) → Done page w → length w.plain ≡ first.core.page_map.geometry.pages
  many w page k = (reached_holds w k.reached).plain ∙ ap (λ (geometry : Geometry). geometry.pages) k.geometry

  pub of_range : (page : ℕ) → IsAt t.range first all page → IsOf t.range page
  of_range page at = page_of first.core.page_map.geometry.pages t.range f.inside page at.from at.past

  pub done_on : (page : ℕ) (w after : World) → Done page w → (happening : Happening) → Happens w happening after → WritesNothing happening → Done page after
  done_on = wrote_on t.range first all laws

  pub own_on : (held : PageClaim) (w after : World) → Own held w → (happening : Happening) → Happens w happening after → WritesNothing happening
      → LeavesClaim held.claim.0 happening → Own held after
  own_on held w after k happening happens none leaves = record {
    at = k.at;
    wrote = done_on held.page.0 w after k.wrote happening happens none;
    owned = owned_on held.claim.0 held.page.0 w after happening k.owned happens leaves;
  }

  -- a page that is not lost now was not at the beginning
  there_at : (w : World) (page : ℕ) → Done page w → is_lost w.core.page_map page ≡ false → is_lost first.core.page_map page ≡ false
  there_at w page k there = false_from_ne_true _ (λ lost. elim (k.gone page lost) [
    | inl written ↦ absurd (let low = written.1 in omega (arith, low))
    | inr gone ↦ true≢false (sym (gone_lost page w.core gone) ∙ there)
  ])

  -- behind the pages of the range
  behind : (w : World) → Done (past_page t.range) w → WritesAt w (after_pages t)
  behind w k = by_flush t.flush refl
    where
      by_flush : (b : Bool) → t.flush ≡ b → WritesAt w (if b then BeginningFlush else Ended None)
      by_flush true is = (k, is)
      by_flush false is = k

  pub from_on : (w : World) (page : ℕ) → first_page t.range ≤ page → page ≤ past_page t.range → Done page w → WritesAt w (from_page t page)
  from_on w page low high k = by_past (nat_lt page (past_page t.range)) refl
    where
      by_past : (b : Bool) → nat_lt page (past_page t.range) ≡ b → WritesAt w (if b then Claiming (record { 0 = page }) else after_pages t)
      by_past true is = (record { from = low; past = ltb-true page (past_page t.range) is }, k)
      by_past false is =
          let past = ltb-false page (past_page t.range) is in
          behind w (subst (λ n. Done n w) (let same : page ≡ past_page t.range = omega (arith, past, high) in same) k)

  -- what a page is to hold stays so while nothing is written
  pub wish_on : (page : ℕ) (w after : World) (wish : Wish A) → Done page w → after.plain ≡ w.plain
      → after.core.page_map.geometry ≡ w.core.page_map.geometry → IsWishFor t.range first all page w wish → IsWishFor t.range first all page after wish
  wish_on page w after wish k same geometry is = record {
    for_page = record {
      is = payload_same wish ∙ is.for_page.is
          ∙ ap (λ (plain : List (List ℕ)). with_bytes (begins_at t.range page) (bytes_at (upto t.range page) (bytes_in t.range page) all) (slice_index_or plain page [])) (sym same);
      fit = is.for_page.fit;
    };
    hole = is.hole;
  }
    where
      payload_same : (wish : Wish A) → payload_in t.range first all after wish ≡ payload_in t.range first all w wish
      payload_same (Data payload) = refl
      payload_same (Fewer payload) = refl
      payload_same Hole = ap (λ (g : Geometry). replicate g.page_bytes 0) geometry

  payload_on : (w after : World) (wish : Wish A) → after.core.page_map.geometry ≡ w.core.page_map.geometry
      → payload_in t.range first all after wish ≡ payload_in t.range first all w wish
  payload_on w after (Data payload) same = refl
  payload_on w after (Fewer payload) same = refl
  payload_on w after Hole same = ap (λ (g : Geometry). replicate g.page_bytes 0) same

  pub reserving_on : (held : PageClaim) (w after : World) (wish : Wish A) → IsReserving t.range first all held w wish → (happening : Happening)
      → Happens w happening after → WritesNothing happening → KeepsClaim held.claim.0 happening → IsReserving t.range first all held after wish
  reserving_on held w after wish k happening happens none keeps =
      let geometry = geometry_kept laws.geometry w after happening happens in
      record {
        at = k.at;
        wrote = done_on held.page.0 w after k.wrote happening happens none;
        seq = k.seq;
        reserved = subst (λ payload. IsReservedFor held.claim.0 held.page.0 k.seq payload after) (sym (payload_on w after wish geometry))
            (run_reserved laws.falls held.claim.0 held.page.0 k.seq (payload_in t.range first all w wish) w (happening ∷ []) after k.reserved
            (after, happens, refl) (keeps, tt));
        wished = wish_on held.page.0 w after wish k.wrote (happens_plain w after happening none happens) geometry k.wished;
      }

  same_cause : (w after : World) → after.core ≡ w.core → SameCause w after
  same_cause w after same = record {
    page_map = ap (λ (c : Core). c.page_map) same;
    copies = ap (λ (c : Core). c.copies) same;
    last = ap (λ (c : Core). c.last) same;
    round = ap (λ (c : Core). c.calendar.round) same;
    flushes = ap (λ (c : Core). c.flushes) same;
  }

  opened_at : (w : World) (held : PageClaim) → Own held w → WritesAt w (opened t held)
  opened_at w held k = by_covers (covers t.range held.page.0) refl
    where
      by_covers : (b : Bool) → covers t.range held.page.0 ≡ b → WritesAt w (if b then Filling held false else Listing (Merge held))
      by_covers true is = (k, is)
      by_covers false is = k

  pub merging_on : (held : PageClaim) (batch : ℕ) (w after : World) → Own held w → IsMerging t.range first all held.page.0 batch w → (happening : Happening)
      → Happens w happening after → WritesNothing happening → EndsNoBatch batch happening → IsMerging t.range first all held.page.0 batch after
  merging_on held batch w after k m happening happens none unended = record {
    gives = subst (λ plain. Gives batch plain after) (sym (happens_plain w after happening none happens))
        (run_gives batch w.plain w (reached_holds w k.wrote.reached) (happening ∷ []) after m.gives (after, happens, refl) (none, tt)).1;
    opened = run_open batch (held.page.0 ∷ []) w (happening ∷ []) after m.opened (after, happens, refl) (unended, tt);
    there = m.there;
  }

  admitted_at : (held : PageClaim) (w after : World) (asked : List ℕ) (made : Admitted) → Own held w → asked ≡ held.page.0 ∷ []
      → HappensEvent w (Admit asked (Ok made)) after → IsMerging t.range first all held.page.0 made.batch.0 after
  admitted_at held w after asked made k same e =
      let h = reached_holds w k.wrote.reached in
      let fresh = fresh_gives w h made.batch.0 e.step.does.1 in
      record {
        gives = subst (λ plain. Gives made.batch.0 plain after) (sym (happens_plain w after (Event (Admit asked (Ok made))) tt e))
            (run_gives made.batch.0 w.plain w h (Event (Admit asked (Ok made)) ∷ []) after fresh (after, e, refl) (tt, tt)).1;
        opened = subst (λ pages. IsOpen made.batch.0 pages after.core.batches) same (admitted_open w after asked made e);
        there = there_at w held.page.0 k.wrote
            (none_passes (is_lost w.core.page_map) asked e.step.does.0.0 held.page.0 (subst (Among held.page.0) (sym same) (inl refl)));
      }

  one_page : (page p : ℕ) → Among p (page ∷ []) → page ≡ p
  one_page page p (inl same) = same
  one_page page p (inr rest) = absurd rest

  -- the page is lost, so that the write of it is refused
  lost_at : (held : PageClaim) (w after : World) → Own held after → after.core ≡ w.core → (p : ℕ) → Among p (held.page.0 ∷ []) → is_lost w.core.page_map p ≡ true
      → WritesAt after (Releasing held (Some Lost))
  lost_at held w after k same p i lost = (
    k,
    founds.lost_page after k.wrote.geometry held.page.0 (of_range held.page.0 k.at)
        (ap (λ (c : Core). is_lost c.page_map held.page.0) same ∙ ap (is_lost w.core.page_map) (one_page held.page.0 p i) ∙ lost),
  )

  left_page : (held : PageClaim) (batch : ℕ) (w : World) → IsMerging t.range first all held.page.0 batch w → (p : ℕ) → Among p (left_of w.core batch)
      → Among p (held.page.0 ∷ [])
  left_page held batch w m p i =
      subst (Among p) (ap (λ (o : Option OpenBatch). (unwrap_or o (record { pages = []; answers = empty })).pages) m.opened.found ∙ m.opened.lists)
      (among-filter _ p (entry_at w.core batch).pages i).0

  -- a Reserve that is refused
  refused_at : (held : PageClaim) (wish : Wish A) (w : World) (next : Stage A) (page least : ℕ) (refused : ReserveRefused) → WritesAt w (Reserving held wish)
      → refused ≡ unwrap_or (reserve_refusal w.core page least) ReserveNoMemory → AfterReserve held wish (Err refused) next
      → (refused ≡ ReserveNoRoom → next ≡ with_fewer held wish → WritesAt w (with_fewer held wish)) → WritesAt w next
  refused_at held wish w next page least ReserveNoRoom k why m fewer =
      elim m [
        | inl less ↦ subst (WritesAt w) (sym less) (fewer refl less)
        | inr stays ↦ subst (WritesAt w) (sym stays) k
      ]
  refused_at held wish w next page least ReserveNoDie k why m fewer =
      subst (WritesAt w) (sym m) (
        k.0,
        founds.no_die w k.0.wrote.reached
            ((three_cases _ _ _ ReserveNoDie (refused_first (reserve_refusal w.core page least) ReserveNoDie why (other_refusal ReserveNoDie (omega arith)))).0 refl),
      )
  refused_at held wish w next page least NumbersSpent k why m fewer =
      subst (WritesAt w) (sym m) (
        k.0,
        founds.no_number w
            ((three_cases _ _ _ NumbersSpent (refused_first (reserve_refusal w.core page least) NumbersSpent why (other_refusal NumbersSpent (omega arith)))).1 refl),
      )
  refused_at held wish w next page least ReserveNoMemory k why m fewer = subst (WritesAt w) (sym m) (k.0, founds.no_memory w)

  -- the state is the same where a Reserve was refused
  reserving_same : (held : PageClaim) (wish : Wish A) (w after : World) (act : Act) → WritesAt w (Reserving held wish) → HappensEvent w act after
      → WritesNothing (Event act) → claims_after w.core act ≡ w.core.claims → WritesAt after (Reserving held wish)
  reserving_same held wish w after act k e none same = (
    record {
      at = k.0.at;
      wrote = done_on held.page.0 w after k.0.wrote (Event act) e none;
      owned = owned_same held.claim.0 held.page.0 w after act k.0.owned e.step.does same;
    },
    wish_on held.page.0 w after wish k.0.wrote (happens_plain w after (Event act) none e) (geometry_kept laws.geometry w after (Event act) e) k.1,
  )

  reserved_at : (held : PageClaim) (wish : Wish A) (w after : World) (act : Act) (seq : Seq) → WritesAt w (Reserving held wish) → HappensEvent w act after
      → WritesNothing (Event act) → IsReservedFor held.claim.0 (claimed_page w.core held.claim.0) seq (payload_in t.range first all w wish) after
      → WritesAt after (Committing held wish)
  reserved_at held wish w after act seq k e none reserved =
      let geometry = geometry_kept laws.geometry w after (Event act) e in
      record {
        at = k.0.at;
        wrote = done_on held.page.0 w after k.0.wrote (Event act) e none;
        seq = seq;
        reserved = subst (λ payload. IsReservedFor held.claim.0 held.page.0 seq payload after) (sym (payload_on w after wish geometry))
            (subst (λ page. IsReservedFor held.claim.0 page seq (payload_in t.range first all w wish) after)
            (owned_page held.claim.0 held.page.0 w.core k.0.owned) reserved);
        wished = wish_on held.page.0 w after wish k.0.wrote (happens_plain w after (Event act) none e) geometry k.1;
      }

  -- a page is committed
  committed_at : (held : PageClaim) (wish : Wish A) (w after : World) (by : ℕ) (given : Seq) → IsReserving t.range first all held w wish
      → HappensEvent w (Commit held.claim.0 by (Ok given)) after → WritesAt after (Releasing held None)
  committed_at held wish w after by given k e =
      let page : ℕ = held.page.0 in
      let here = of_range page k.at in
      let payload : List ℕ = payload_in t.range first all w wish in
      let puts = (commit_writes laws.falls held.claim.0 page k.seq payload w after by given k.reserved e).1 in
      let count = many w page k.wrote in
      let pages : ℕ = first.core.page_map.geometry.pages in
      let size = new_long pages t.range f.inside all long w.plain k.wrote.sized count page here in
      let on_page : claimed_page w.core held.claim.0 ≡ page =
      ap (λ (o : Option OpenClaim). unwrap_or (option_map {T = OpenClaim} (λ c. c.page) o) 0) k.reserved.under.found ∙ k.reserved.under.is_for.on_page in
      let exported = export_long t.range.page_bytes first.plain f.sized in
      let same_many = ap (λ n. n * t.range.page_bytes) f.many in
      let order = f.inside.ordered in let inside = f.inside.inside in (
        k.at,
        record {
          reached = reached_on w k.wrote.reached (Event (Commit held.claim.0 by (Ok given)) ∷ []) after (after, e, refl);
          geometry = geometry_kept laws.geometry w after (Event (Commit held.claim.0 by (Ok given))) e ∙ k.wrote.geometry;
          sized = subst (HasPages t.range.page_bytes) (sym puts)
              (put_sized t.range.page_bytes w.plain k.wrote.sized page payload (ap length k.wished.for_page.is ∙ size));
          plain = ap export puts ∙ ap (λ x. export (put page x w.plain)) k.wished.for_page.is
              ∙ written_on pages t.range f.inside all long w.plain k.wrote.sized count (export first.plain) (omega (arith, exported, same_many, order, inside)) page here k.wrote.plain;
          gone = λ p lost. elim (cases_eq p page) [
            | inl same ↦ elim (k.wished.for_page.fit) [
              | inl covered ↦ inl (subst (IsOf t.range) (sym same) here, omega (arith, same), ap (covers t.range) same ∙ covered)
              | inr there ↦ absurd (true≢false (sym lost ∙ ap (is_lost first.core.page_map) same ∙ there))
            ]
            | inr apart ↦ elim (k.wrote.gone p lost) [
              | inl written ↦ inl (written.0, let low = written.1 in omega (arith, low), written.2)
              | inr gone ↦ inr (happens_gone laws.lives laws.spares laws.numbers p w (reached_holds w k.wrote.reached) gone
                  (Event (Commit held.claim.0 by (Ok given))) after e (λ same. apart (sym same ∙ on_page)))
            ]
          ];
          whole = λ p lost of_p low. elim (cases_eq p page) [
            | inl same ↦ elim (k.wished.for_page.fit) [
              | inl covered ↦ ap (covers t.range) same ∙ covered
              | inr there ↦ absurd (true≢false (sym lost ∙ ap (is_lost first.core.page_map) same ∙ there))
            ]
            | inr apart ↦ k.wrote.whole p lost of_p (omega (arith, low, apart))
          ];
        },
        subst (λ n. IsOwned held.claim.0 n after.core.claims) on_page
            (claimed_now w.core after.core (claimed_page w.core held.claim.0) held.claim.0
            (claims_are w.core (Commit held.claim.0 by (Ok given)) after.core e.step.does)),
      )

  abandoned_at : (held : PageClaim) (wish : Wish A) (w after : World) (done : Unit {0}) → IsReserving t.range first all held w wish
      → HappensEvent w (Abandon held.claim.0 (Ok done)) after → WritesAt after (Reserving held wish)
  abandoned_at held wish w after done k e =
      let on_page : claimed_page w.core held.claim.0 ≡ held.page.0 =
      ap (λ (o : Option OpenClaim). unwrap_or (option_map {T = OpenClaim} (λ c. c.page) o) 0) k.reserved.under.found ∙ k.reserved.under.is_for.on_page in (
        record {
          at = k.at;
          wrote = done_on held.page.0 w after k.wrote (Event (Abandon held.claim.0 (Ok done))) e tt;
          owned = subst (λ n. IsOwned held.claim.0 n after.core.claims) on_page
              (claimed_now w.core after.core (claimed_page w.core held.claim.0) held.claim.0
              (claims_are w.core (Abandon held.claim.0 (Ok done)) after.core e.step.does));
        },
        wish_on held.page.0 w after wish k.wrote (happens_plain w after (Event (Abandon held.claim.0 (Ok done))) tt e)
            (geometry_kept laws.geometry w after (Event (Abandon held.claim.0 (Ok done))) e) k.wished,
      )

  -- with fewer copies
  fewer_at : (held : PageClaim) (payload : List ℕ) (w : World) → WritesAt w (Reserving held (Data payload)) → WritesAt w (Reserving held (Fewer payload))
  fewer_at held payload w k = (k.0, record { for_page = k.1.for_page; hole = tt })

  -- nothing is reserved under a claim of which nothing is
  pub not_reserved : (held : PageClaim) (w : World) → IsOwned held.claim.0 held.page.0 w.core.claims → is_reserved w.core held.claim.0 ≡ false
  not_reserved held w k = ap is_some (ap (option_and_then {T = OpenClaim} (λ c. c.reserved)) k.found ∙ k.free)

  -- the request makes its event
  pub own : (w after : World) (stage : Stage A) (act : Act) (next : Stage A) → WritesAt w stage → HappensEvent w act after → Moves t seat stage act next
      → IsFounded w.core stage act next → WritesAt after next
  own w after (Claiming page) (Claim p (Ok id)) next k e m founded =
      subst (WritesAt after) (sym m.1) (opened_at after (record { page = page; claim = id }) (record {
        at = k.0;
        wrote = done_on page.0 w after k.1 (Event (Claim p (Ok id))) e tt;
        owned = subst (λ n. IsOwned id.0 n after.core.claims) m.0
            (claimed_now w.core after.core p id.0 (ap (λ (c : Core). c.claims) e.step.does.2));
      }))
  own w after (Claiming page) (Claim p (Err Claimed)) next k e m founded =
      subst (WritesAt after) (sym m.1) (k.0, done_on page.0 w after k.1 (Event (Claim p (Err Claimed))) e tt)
  own w after (Claiming page) (Claim p (Err ClaimNoMemory)) next k e m founded =
      subst (WritesAt after) (sym m.1)
      (founds.no_memory after, (page.0, done_on page.0 w after k.1 (Event (Claim p (Err ClaimNoMemory))) e tt, inl k.0))
  own w after (Claiming page) act next k e m founded = absurd m
  own w after (Asking (Merge held) pages) (Admit asked (Ok made)) next k e m founded =
      subst (WritesAt after) (sym m.1)
      (own_on held w after k.0 (Event (Admit asked (Ok made))) e tt tt, admitted_at held w after asked made k.0 (m.0 ∙ k.1) e)
  own w after (Asking (Merge held) pages) (Admit asked (Err (PageLost page))) next k e m founded =
      let still = own_on held w after k.0 (Event (Admit asked (Err (PageLost page)))) e tt tt in
      elim (m.1) [
        | inr stays ↦ subst (WritesAt after) (sym stays) (still, k.1)
        | inl stops ↦
            let found = found_passes (is_lost w.core.page_map) asked page.0 e.step.does.0 in
            subst (WritesAt after) (sym stops) (lost_at held w after still e.step.does.1 page.0 (subst (Among page.0) (m.0 ∙ k.1) found.1) found.0)
      ]
  own w after (Asking (Merge held) pages) (Admit asked (Err CalendarFull)) next k e m founded =
      subst (WritesAt after) (sym m.1) (own_on held w after k.0 (Event (Admit asked (Err CalendarFull))) e tt tt, k.1)
  own w after (Asking (Merge held) pages) (Admit asked (Err RoundsSpent)) next k e m founded =
      subst (WritesAt after) (sym m.1) (
        own_on held w after k.0 (Event (Admit asked (Err RoundsSpent))) e tt tt,
        founds.late after (ap (λ (c : Core). is_late c.calendar) e.step.does.1 ∙ e.step.does.0.1),
      )
  own w after (Asking (Merge held) pages) (Admit asked (Err AdmitNoMemory)) next k e m founded =
      subst (WritesAt after) (sym m.1) (own_on held w after k.0 (Event (Admit asked (Err AdmitNoMemory))) e tt tt, founds.no_memory after)
  own w after (Asking (Merge held) pages) act next k e m founded = absurd m
  own w after (Reading (Merge held) batch) (Replan b (Ok planned)) next k e m founded =
      subst (WritesAt after) (sym m.1) (
        own_on held w after k.0 (Event (Replan b (Ok planned))) e tt tt,
        merging_on held batch.0 w after k.0 k.1 (Event (Replan b (Ok planned))) e tt tt,
      )
  own w after (Reading (Merge held) batch) (Replan b (Err (PageLost page))) next k e m founded =
      let still = own_on held w after k.0 (Event (Replan b (Err (PageLost page)))) e tt tt in
      let merging = merging_on held batch.0 w after k.0 k.1 (Event (Replan b (Err (PageLost page)))) e tt tt in
      elim (m.1) [
        | inr stays ↦ subst (WritesAt after) (sym stays) (still, merging)
        | inl stops ↦
            let found = found_passes (is_lost w.core.page_map) (left_of w.core b) page.0 e.step.does.0 in
            let lost = lost_at held w after still e.step.does.1 page.0
            (left_page held batch.0 w k.1 page.0 (subst (λ x. Among page.0 (left_of w.core x)) m.0 found.1)) found.0 in
            subst (WritesAt after) (sym stops) (still, (held.page.0 ∷ [], merging.opened), lost.1)
      ]
  own w after (Reading (Merge held) batch) (Replan b (Err CalendarFull)) next k e m founded =
      subst (WritesAt after) (sym m.1) (
        own_on held w after k.0 (Event (Replan b (Err CalendarFull))) e tt tt,
        merging_on held batch.0 w after k.0 k.1 (Event (Replan b (Err CalendarFull))) e tt tt,
      )
  own w after (Reading (Merge held) batch) (Replan b (Err RoundsSpent)) next k e m founded =
      subst (WritesAt after) (sym m.1) (
        own_on held w after k.0 (Event (Replan b (Err RoundsSpent))) e tt tt,
        (held.page.0 ∷ [], (merging_on held batch.0 w after k.0 k.1 (Event (Replan b (Err RoundsSpent))) e tt tt).opened),
        founds.late after (ap (λ (c : Core). is_late c.calendar) e.step.does.1 ∙ e.step.does.0.1),
      )
  own w after (Reading (Merge held) batch) (Replan b (Err AdmitNoMemory)) next k e m founded =
      subst (WritesAt after) (sym m.1) (
        own_on held w after k.0 (Event (Replan b (Err AdmitNoMemory))) e tt tt,
        (held.page.0 ∷ [], (merging_on held batch.0 w after k.0 k.1 (Event (Replan b (Err AdmitNoMemory))) e tt tt).opened),
        founds.no_memory after,
      )
  own w after (Reading (Merge held) batch) (EndBatch b answers) (Sorting p given) k e m founded =
      subst (λ q. WritesAt after (Sorting q given)) (sym m.1.0) (
        own_on held w after k.0 (Event (EndBatch b answers)) e tt tt,
        k.1.there,
        sym m.1.1 ∙ open_gives batch.0 (held.page.0 ∷ []) w.plain w after answers (reached_holds w k.0.wrote.reached) k.1.gives k.1.opened
            (subst (λ x. results w.core x ≡ Ready) m.0 founded) (subst (λ x. HappensEvent w (EndBatch x answers) after) m.0 e)
            ∙ ap (λ (plain : List (List ℕ)). (held.page.0, slice_index_or plain held.page.0 []) ∷ []) (sym (happens_plain w after (Event (EndBatch b answers)) tt e)),
      )
  own w after (Reading (Merge held) batch) (EndBatch b answers) next k e m founded = absurd m.1
  own w after (Reading (Merge held) batch) act next k e m founded = absurd m
  own w after (Leaving (Merge held) batch fault) (EndBatch b answers) next k e m founded =
      subst (WritesAt after) (sym m.1) (
        own_on held w after k.0 (Event (EndBatch b answers)) e tt tt,
        founds.kept w after (record {
          page_map = ap (λ (c : Core). c.page_map) e.step.does.1;
          copies = ap (λ (c : Core). c.copies) e.step.does.1;
          last = ap (λ (c : Core). c.last) e.step.does.1;
          round = ap (λ (c : Core). c.calendar.round) e.step.does.1;
          flushes = ap (λ (c : Core). c.flushes) e.step.does.1;
        }) fault k.2,
      )
  own w after (Leaving (Merge held) batch fault) act next k e m founded = absurd m
  own w after (Reserving held (Data payload)) (Reserve claim b (Ok seq)) next k e m founded =
      let at : HappensEvent w (Reserve held.claim.0 payload (Ok seq)) after =
      subst (λ (z : ℕ × List ℕ). HappensEvent w (Reserve z.0 z.1 (Ok seq)) after) (λ i. (m.0 i, m.1 i)) e in
      subst (WritesAt after) (sym m.2) (reserved_at held (Data payload) w after (Reserve held.claim.0 payload (Ok seq)) seq k at tt
      (reserved_now w after held.claim.0 seq payload (reservation_for w.core held.claim.0 DataKind) at.step.does.1 refl
      (ap (λ (c : Core). c.last) at.step.does.2) (claims_are w.core (Reserve held.claim.0 payload (Ok seq)) after.core at.step.does)
      (ap (λ (v : World). v.payloads) at.follows)))
  own w after (Reserving held (Data payload)) (Reserve claim b (Err refused)) next k e m founded =
      let here = reserving_same held (Data payload) w after (Reserve claim b (Err refused)) k e tt refl in
      refused_at held (Data payload) after next (claimed_page w.core claim) (copies_asked w.core.copies w.core.page_map) refused here
      (subst (λ (c : Core). refused ≡ unwrap_or (reserve_refusal c (claimed_page w.core claim) (copies_asked w.core.copies w.core.page_map)) ReserveNoMemory)
      (sym e.step.does.1) e.step.does.0) m.2 (λ is less. fewer_at held payload after here)
  own w after (Reserving held (Data payload)) act next k e m founded = absurd m
  own w after (Reserving held (Fewer payload)) (ReserveFewer claim b (Ok seq)) next k e m founded =
      let at : HappensEvent w (ReserveFewer held.claim.0 payload (Ok seq)) after =
      subst (λ (z : ℕ × List ℕ). HappensEvent w (ReserveFewer z.0 z.1 (Ok seq)) after) (λ i. (m.0 i, m.1 i)) e in
      subst (WritesAt after) (sym m.2) (reserved_at held (Fewer payload) w after (ReserveFewer held.claim.0 payload (Ok seq)) seq k at tt
      (reserved_now w after held.claim.0 seq payload (reservation_for w.core held.claim.0 DataKind) at.step.does.1 refl
      (ap (λ (c : Core). c.last) at.step.does.2) (claims_are w.core (ReserveFewer held.claim.0 payload (Ok seq)) after.core at.step.does)
      (ap (λ (v : World). v.payloads) at.follows)))
  own w after (Reserving held (Fewer payload)) (ReserveFewer claim b (Err ReserveNoRoom)) next k e m founded =
      let here = reserving_same held (Fewer payload) w after (ReserveFewer claim b (Err ReserveNoRoom)) k e tt refl in
      elim (m.2) [
        | inr stays ↦ subst (WritesAt after) (sym stays) here
        | inl less ↦
            let none = subst (IsFounded w.core (Reserving held (Fewer payload)) (ReserveFewer claim b (Err ReserveNoRoom))) less founded in
            let why = subst (λ (c : Core). ReserveNoRoom ≡ unwrap_or (reserve_refusal c (claimed_page w.core claim) (min 1 (copies_asked c.copies c.page_map))) ReserveNoMemory)
            (sym e.step.does.1) e.step.does.0 in
            subst (WritesAt after) (sym less) (
              here.0,
              founds.no_room after here.0.wrote.reached (claimed_page w.core claim)
                  (refused_first (reserve_refusal after.core (claimed_page w.core claim) (min 1 (copies_asked after.core.copies after.core.page_map))) ReserveNoRoom why
                  (other_refusal ReserveNoRoom (omega arith)))
                  (ap (λ (c : Core). may_collect c.page_map) e.step.does.1 ∙ none),
            )
      ]
  own w after (Reserving held (Fewer payload)) (ReserveFewer claim b (Err refused)) next k e m founded =
      let here = reserving_same held (Fewer payload) w after (ReserveFewer claim b (Err refused)) k e tt refl in
      refused_at held (Fewer payload) after next (claimed_page w.core claim) (min 1 (copies_asked w.core.copies w.core.page_map)) refused here
      (subst (λ (c : Core). refused ≡ unwrap_or (reserve_refusal c (claimed_page w.core claim) (min 1 (copies_asked w.core.copies w.core.page_map))) ReserveNoMemory)
      (sym e.step.does.1) e.step.does.0) m.2 (λ is less. absurd (let n = ap room_number is in omega (arith, n)))
  own w after (Reserving held (Fewer payload)) act next k e m founded = absurd m
  own w after (Reserving held Hole) (ReserveHole claim (Ok seq)) next k e m founded =
      let at : HappensEvent w (ReserveHole held.claim.0 (Ok seq)) after = subst (λ c. HappensEvent w (ReserveHole c (Ok seq)) after) m.0 e in
      subst (WritesAt after) (sym m.1) (reserved_at held Hole w after (ReserveHole held.claim.0 (Ok seq)) seq k at tt
      (reserved_now w after held.claim.0 seq (zeros w.core.page_map) (reservation_for w.core held.claim.0 HoleKind) at.step.does.1 refl
      (ap (λ (c : Core). c.last) at.step.does.2) (claims_are w.core (ReserveHole held.claim.0 (Ok seq)) after.core at.step.does)
      (ap (λ (v : World). v.payloads) at.follows)))
  own w after (Reserving held Hole) (ReserveHole claim (Err refused)) next k e m founded =
      let here = reserving_same held Hole w after (ReserveHole claim (Err refused)) k e tt refl in
      refused_at held Hole after next (claimed_page w.core claim) (copies_asked w.core.copies w.core.page_map) refused here
      (subst (λ (c : Core). refused ≡ unwrap_or (reserve_refusal c (claimed_page w.core claim) (copies_asked w.core.copies w.core.page_map)) ReserveNoMemory)
      (sym e.step.does.1) e.step.does.0) m.1 (λ is less. (here.0, k.1.hole))
  own w after (Reserving held Hole) act next k e m founded = absurd m
  own w after (Committing held wish) (Commit claim by (Ok given)) next k e m founded =
      subst (WritesAt after) (sym m.2) (committed_at held wish w after by given k (subst (λ c. HappensEvent w (Commit c by (Ok given)) after) m.0 e))
  own w after (Committing held wish) (Commit claim by (Err CommitPending)) next k e m founded =
      subst (WritesAt after) (sym m.2) (reserving_on held w after wish k (Event (Commit claim by (Err CommitPending))) e tt tt)
  own w after (Committing held wish) (Commit claim by (Err Failed)) next k e m founded =
      subst (WritesAt after) (sym m.2) (reserving_on held w after wish k (Event (Commit claim by (Err Failed))) e tt tt)
  own w after (Committing held wish) act next k e m founded = absurd m
  own w after (Abandoning held wish) (Abandon claim (Ok made)) next k e m founded =
      subst (WritesAt after) (sym m.1) (abandoned_at held wish w after made k (subst (λ c. HappensEvent w (Abandon c (Ok made)) after) m.0 e))
  own w after (Abandoning held wish) (Abandon claim (Err AbandonPending)) next k e m founded =
      subst (WritesAt after) (sym m.1) (reserving_on held w after wish k (Event (Abandon claim (Err AbandonPending))) e tt tt)
  own w after (Abandoning held wish) (Abandon claim (Err Programmed)) next k e m founded =
      subst (WritesAt after) (sym m.1) (reserving_on held w after wish k (Event (Abandon claim (Err Programmed))) e tt tt)
  own w after (Abandoning held wish) act next k e m founded = absurd m
  own w after (Releasing held None) (Release claim) next k e m founded =
      let from = k.0.from in let past = k.0.past in
      subst (WritesAt after) (sym m.1) (from_on after (held.page.0 + 1) (omega (arith, from)) (omega (arith, past))
      (done_on (held.page.0 + 1) w after k.1 (Event (Release claim)) e tt))
  own w after (Releasing held None) (Abandon claim answer) next k e m founded =
      absurd (false≢true (sym (not_reserved held w k.2) ∙ ap (is_reserved w.core) (sym m.0) ∙ e.step.allows))
  own w after (Releasing held (Some fault)) (Release claim) next k e m founded =
      subst (WritesAt after) (sym m.1) (
        founds.kept w after (record {
          page_map = ap (λ (c : Core). c.page_map) e.step.does;
          copies = ap (λ (c : Core). c.copies) e.step.does;
          last = ap (λ (c : Core). c.last) e.step.does;
          round = ap (λ (c : Core). c.calendar.round) e.step.does;
          flushes = ap (λ (c : Core). c.flushes) e.step.does;
        }) fault k.1,
        (held.page.0, done_on held.page.0 w after k.0.wrote (Event (Release claim)) e tt, inl k.0.at),
      )
  own w after (Releasing held (Some fault)) (Abandon claim answer) next k e m founded =
      absurd (false≢true (sym (not_reserved held w k.0.owned) ∙ ap (is_reserved w.core) (sym m.0) ∙ e.step.allows))
  own w after (Releasing held fault) act next k e m founded = absurd m
  own w after BeginningFlush (FlushBegin (Ok flush)) next k e m founded =
      subst (WritesAt after) (sym m)
      (done_on (past_page t.range) w after k.0 (Event (FlushBegin (Ok flush))) e tt, k.1, founds.begun w after flush k.0.reached e)
  own w after BeginningFlush (FlushBegin (Err FlushesSpent)) next k e m founded =
      subst (WritesAt after) (sym m) (
        founds.no_flush after (ap (λ (c : Core). c.flushes == 2 ^ 62) e.step.does.1 ∙ e.step.does.0),
        (past_page t.range, done_on (past_page t.range) w after k.0 (Event (FlushBegin (Err FlushesSpent))) e tt, inr (refl, k.1, inr refl)),
      )
  own w after BeginningFlush act next k e m founded = absurd m
  own w after (Flushing flush) (FlushState b Waiting) next k e m founded =
      subst (WritesAt after) (sym m.1) (
        done_on (past_page t.range) w after k.0 (Event (FlushState b Waiting)) e tt,
        k.1,
        founds.knows w after flush (Event (FlushState b Waiting)) k.0.reached e tt k.2,
      )
  own w after (Flushing flush) (FlushState b Synced) next k e m founded =
      subst (WritesAt after) (sym m.1) (done_on (past_page t.range) w after k.0 (Event (FlushState b Synced)) e tt)
  own w after (Flushing flush) (FlushState b FlushNoDie) next k e m founded =
      let done = done_on (past_page t.range) w after k.0 (Event (FlushState b FlushNoDie)) e tt in
      subst (WritesAt after) (sym m.1) (
        founds.no_synced after flush done.reached (founds.knows w after flush (Event (FlushState b FlushNoDie)) k.0.reached e tt k.2)
            (ap (λ (c : Core). flush_state c flush) e.step.does.1 ∙ ap (flush_state w.core) (sym m.0) ∙ sym e.step.does.0),
        (past_page t.range, done, inr (refl, k.1, inl refl)),
      )
  own w after (Flushing flush) act next k e m founded = absurd m
  own w after (Filling held less) act next k e m founded = absurd m
  own w after (Listing (Merge held)) act next k e m founded = absurd m
  own w after (Sorting (Merge held) answers) act next k e m founded = absurd m
  own w after (Ended fault) act next k e m founded = absurd m
  own w after stage act next k e m founded = absurd k

  pub folded : (w after : World) → HappensEvent w Fold after → SameCause w after
  folded w after e = record {
    page_map = ap (λ (c : Core). c.page_map) e.step.does;
    copies = ap (λ (c : Core). c.copies) e.step.does;
    last = ap (λ (c : Core). c.last) e.step.does;
    round = ap (λ (c : Core). c.calendar.round) e.step.does;
    flushes = ap (λ (c : Core). c.flushes) e.step.does;
  }
