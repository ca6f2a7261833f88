-- Each event keeps what holds.
use Rattle.fa_laws.proofs.Admitting.{admit_holds, end_batch_holds}
use Rattle.fa_laws.proofs.Calls.{image_call_holds}
use Rattle.fa_laws.proofs.Claiming.{claim_holds, release_holds, reserve_holds}
use Rattle.fa_laws.proofs.Committing.{abandon_holds, commit_holds}
use Rattle.fa_laws.proofs.Copying.{copy_fails, copy_reserves, copy_settles}
use Rattle.fa_laws.proofs.Entering.{spare_holds}
use Rattle.fa_laws.proofs.Handing.{take_holds}
use Rattle.fa_laws.proofs.Invariant.{Holds, next, quiet, still}
use Rattle.fa_laws.proofs.JobEnds.{done_holds}
use Rattle.fa_machine.proofs.Lists.{among-contains, found_passes, no_refusal}
use Rattle.fa_machine.specs.Conditions.{claim_open, copy_open, reserved_under}
use Rattle.fa_machine.specs.Copies.{holds_page}
use Rattle.fa_machine.specs.History.{folded}
use Rattle.fa_machine.specs.Placement.{copy_place, has_room, is_thin, order_of}
use Rattle.fa_machine.specs.Reading.{booked, is_data, released, zeros}
use Rattle.fa_machine.specs.Run.{Event, Happening, Happens, ImageCall}
use Rattle.fa_machine.specs.State.{Core, Reservation, is_live}
use Rattle.fa_machine.specs.Step.{Abandon, Act, Admit, Advance, Claim, Commit, CommitCopy, Does, Done, EndBatch, FlushBegin}
use Rattle.fa_machine.specs.Step.{FlushState, Fold, Release, Replan, Reserve, ReserveCopy, ReserveFewer, ReserveHole, SpareIn, Take}
use Rattle.fa_machine.specs.Step.{Window, allowed, is_distinct, is_page}
use Rattle.fa_machine.specs.Turning.{CommitsCopy, copied_payload, copying_to, has_number}
use Rattle.fa_machine.specs.World.{IsTold, World, with_payload}
use Rattle.fa_machine.specs.Writing.{Abandons, Commits, Reserves, committed, reserved}
use Rattle.fa_machine.specs.declared.answers.Copied.{Copied}
use Rattle.fa_machine.specs.declared.answers.Copied.TheVariants.{Current, Late}
use Rattle.fa_machine.specs.declared.places.Copying.{Copying}
use Rattle.fa_types.specs.declared.kind.Kind.{Kind}
use Rattle.fa_types.specs.declared.kind.Kind.TheVariants.{Data, Hole}
use Rattle.fa_machine.specs.declared.places.Target.{Target}
use Rattle.fa_machine.specs.declared.places.Used.TheVariants.{Held, Stale}
use Rattle.fa_machine.specs.declared.places.Version.{Version}
use Rattle.fa_machine.specs.declared.refusals.AbandonRefused.{AbandonRefused}
use Rattle.fa_machine.specs.declared.refusals.ClaimRefused.TheVariants.{Claimed, NoMemory as ClaimNoMemory}
use Rattle.fa_machine.specs.declared.refusals.CommitCopyRefused.{CommitCopyRefused}
use Rattle.fa_machine.specs.declared.refusals.CommitCopyRefused.TheVariants.{Failed as CopyFailed, Pending as CopyPending}
use Rattle.fa_machine.specs.declared.refusals.CommitRefused.{CommitRefused}
use Rattle.fa_machine.specs.declared.refusals.FlushRefused.TheVariants.{Spent}
use Rattle.fa_machine.specs.declared.refusals.ReserveCopyRefused.TheVariants.{Gone}
use Rattle.fa_machine.specs.declared.refusals.ReserveRefused.{ReserveRefused}
use Rattle.fa_machine.specs.declared.refusals.SpareRefused.TheVariants.{NotSpare}
use Rattle.fa_machine.specs.declared.refusals.WindowRefused.TheVariants.{Busy as WindowBusy, HasOne, NoMemory as WindowNoMemory}
use Rattle.fa_types.specs.declared.numbers.Seq.{Seq}
use Rattle.std.proofs.Common.{Bool, List, None, Option, Some, [], ap, cond, eqb-true, false, inl, inr, not, refl, subst, suc, sym}
use Rattle.std.proofs.Common.{true, ℕ, ◌+◌, ◌<◌, ◌∙◌, ◌∷◌, ◌≡◌}
use Rattle.fa_machine.specs.Among.{Among}
use Rattle.std.specs.List.{list_all}
use Rattle.std.proofs.lemmas.Bool.{and_parts, false≢true, ltb-true, not-false, true≢false}
use Rattle.std.proofs.lemmas.Option.{none-some}
use Rattle.std.specs.FinMap.{empty, get, insert}
use Rattle.std.specs.Prelude.{Contains, Err, Ok, Result, is_none, ◌&&◌}

not_none_of : (a b : Bool) → not (a && b) ≡ false → (a ≡ true) × (b ≡ true)
not_none_of a b e = and_parts a b (not_false_true (a && b) e)
  where
    not_false_true : (c : Bool) → not c ≡ false → c ≡ true
    not_false_true true e = refl
    not_false_true false e = absurd (true≢false e)

-- a claim under three conditions, the first of which is that it is open
opened_of : (a b c : Bool) → (a && b && c) ≡ true → a ≡ true
opened_of true b c e = refl
opened_of false b c e = absurd (false≢true e)

programmed_then : (t : Target) (alive : Bool) → (alive && not t.programmed) ≡ false → alive ≡ true → t.programmed ≡ true
programmed_then t alive e is = not-false t.programmed (sym (ap (λ a. a && not t.programmed) is) ∙ e)

to_next : (w : World) (act : Act) (x core : Core) → core ≡ x → Holds (next act x w) → Holds (next act core w)
to_next w act x core e h = subst (λ (c : Core). Holds (next act c w)) (sym e) h

reserve_answer : (w : World) → Holds w → (claim least : ℕ) (kind : Kind) (payload : List ℕ) → claim_open w.core claim ≡ true
    → (kind ≡ Hole → payload ≡ zeros w.core.page_map) → (seq : Seq) (core : Core)
    → Reserves w.core claim least kind payload (Ok seq) core
    → Holds (record (with_payload claim seq.0 payload w) { core = core; moment = suc w.moment })
reserve_answer w h claim least kind payload opened hole seq core d =
    subst (λ (c : Core). Holds (record (with_payload claim seq.0 payload w) { core = c; moment = suc w.moment })) (sym d.2)
    (subst (λ (n : ℕ). Holds (record (with_payload claim n payload w) { core = reserved claim kind payload w.core; moment = suc w.moment })) (sym d.1)
    (reserve_holds w h claim kind payload opened hole))

reserve_refused : (w : World) → Holds w → (claim least : ℕ) (kind : Kind) (payload : List ℕ) (refused : ReserveRefused) (core : Core)
    → Reserves w.core claim least kind payload (Err refused) core → Holds (record w { core = core; moment = suc w.moment })
reserve_refused w h claim least kind payload refused core d = subst (λ (c : Core). Holds (record w { core = c; moment = suc w.moment })) (sym d.1) (still w h)

data_no_hole : (p q : List ℕ) → Data ≡ Hole → p ≡ q
data_no_hole p q e = absurd (true≢false (ap is_data e))

commit_case : (w : World) → Holds w → (claim seat : ℕ) (o : Option Reservation) → reserved_under w.core claim ≡ o → (answer : Result Seq CommitRefused) (core : Core)
    → Commits w.core claim seat o answer core → Holds (next (Commit claim seat answer) core w)
commit_case w h claim seat None is answer core d = absurd d
commit_case w h claim seat (Some r) is (Ok seq) core d = to_next w (Commit claim seat (Ok seq)) (committed claim seat r w.core) core d.2 (commit_holds w h claim r is seq seat d.0 d.1)
commit_case w h claim seat (Some r) is (Err refused) core d = to_next w (Commit claim seat (Err refused)) w.core core d.1 (still w h)

abandon_case : (w : World) → Holds w → (claim : ℕ) (o : Option Reservation) → reserved_under w.core claim ≡ o → (answer : Result (Unit {0}) AbandonRefused) (core : Core)
    → Abandons w.core claim o answer core → Holds (next (Abandon claim answer) core w)
abandon_case w h claim None is answer core d = absurd d
abandon_case w h claim (Some r) is (Ok made) core d = to_next w (Abandon claim (Ok made)) _ core d.1 (abandon_holds w h claim r is d.0)
abandon_case w h claim (Some r) is (Err refused) core d = to_next w (Abandon claim (Err refused)) w.core core d.1 (still w h)

copy_case : (w : World) → Holds w → (o : Option Copying) → w.core.copying ≡ o → (answer : Result Copied CommitCopyRefused) (core : Core)
    → CommitsCopy w.core o answer core → Holds (next (CommitCopy answer) core w)
copy_case w h None is answer core d = absurd d
copy_case w h (Some c) is (Ok Current) core d =
    let none = no_refusal (is_live w.core.page_map c.target.die.0 && not c.target.programmed) (not (is_live w.core.page_map c.target.die.0)) CopyPending CopyFailed d.0 in
    let alive = not-false (is_live w.core.page_map c.target.die.0) none.1 in
    to_next w (CommitCopy (Ok Current)) _ core d.2 (copy_settles w h c is (Held c.page c.version) alive (programmed_then c.target (is_live w.core.page_map c.target.die.0) none.0 alive) (inr refl))
copy_case w h (Some c) is (Ok Late) core d =
    let none = no_refusal (is_live w.core.page_map c.target.die.0 && not c.target.programmed) (not (is_live w.core.page_map c.target.die.0)) CopyPending CopyFailed d.0 in
    let alive = not-false (is_live w.core.page_map c.target.die.0) none.1 in
    to_next w (CommitCopy (Ok Late)) _ core d.2 (copy_settles w h c is Stale alive (programmed_then c.target (is_live w.core.page_map c.target.die.0) none.0 alive) (inl refl))
copy_case w h (Some c) is (Err CopyPending) core d = to_next w (CommitCopy (Err CopyPending)) w.core core d.1 (still w h)
copy_case w h (Some c) is (Err CopyFailed) core d = to_next w (CommitCopy (Err CopyFailed)) _ core d.1 (copy_fails w h c is)

reserve_copy_case : (w : World) → Holds w → (page seq : ℕ) (payload : List ℕ) → is_page w.core page ≡ true
    → Contains w.told (record { page = page; seq = seq; bytes = payload }) → (v : Option Version) → get w.core.page_map.versions page ≡ v
    → (die : Option ℕ) → copy_place w.core.copies w.core.page_map page ≡ die → has_number seq v ≡ true
    → Holds (record w { core = copying_to w.core page payload v die; moment = suc w.moment })
reserve_copy_case w h page seq payload within told None number die place numbered = absurd (false≢true numbered)
reserve_copy_case w h page seq payload within told (Some v) number None place numbered = still w h
reserve_copy_case w h page seq payload within told (Some v) number (Some die) place numbered =
    let found = found_passes (λ d. has_room w.core.page_map d && not (holds_page w.core.page_map page d)) (order_of w.core.copies w.core.page_map page) die place in
    let t = h.told (record { page = page; seq = seq; bytes = payload }) (among-contains (record { page = page; seq = seq; bytes = payload }) w.told told.0 told.1 told.2) in
    copy_reserves w h page die v payload (ltb-true page w.core.page_map.geometry.pages within) number
    (and_parts (has_room w.core.page_map die) (not (holds_page w.core.page_map page die)) found.0).0
    (copied v.kind (λ is. (h.sound.numbered page v number).hole is) (t.0 ∙ ap (w.payloads page) (sym (eqb-true v.seq.0 seq numbered))))
  where
    copied : (k : Kind) → (k ≡ Hole → w.payloads page v.seq.0 ≡ zeros w.core.page_map) → payload ≡ w.payloads page v.seq.0
        → copied_payload w.core.page_map k payload ≡ w.payloads page v.seq.0
    copied Data hole e = e
    copied Hole hole e = sym (hole refl)

pub first_refusal : {R : Type 0} (a b c : Bool) (x y z : R) → cond a (Some x) (cond b (Some y) (cond c (Some z) None)) ≡ None → a ≡ false
first_refusal true b c x y z e = absurd (none-some x (sym e))
first_refusal false b c x y z e = refl

pages_inside : (core : Core) (pages : List ℕ) → list_all (is_page core) pages ≡ true → (page : ℕ) → Among page pages → page < core.page_map.geometry.pages
pages_inside core [] e page among = absurd among
pages_inside core (p ∷ ps) e page (inl same) =
    subst (λ n. n < core.page_map.geometry.pages) same (ltb-true p core.page_map.geometry.pages (and_parts (is_page core p) (list_all (is_page core) ps) e).0)
pages_inside core (p ∷ ps) e page (inr rest) = pages_inside core ps (and_parts (is_page core p) (list_all (is_page core) ps) e).1 page rest

pub event_holds : (w : World) → Holds w → (act : Act) (core : Core) → allowed w.core act ≡ true → Does w.core act core → IsTold w act
    → Holds (next act core w)
event_holds w h (Claim page (Ok id)) core may d told = to_next w (Claim page (Ok id)) _ core d.2 (claim_holds w h page id.0 may)
event_holds w h (Claim page (Err Claimed)) core may d told = to_next w (Claim page (Err Claimed)) w.core core d.1 (still w h)
event_holds w h (Claim page (Err ClaimNoMemory)) core may d told = to_next w (Claim page (Err ClaimNoMemory)) w.core core d.1 (still w h)
event_holds w h (Release claim) core may d told = to_next w (Release claim) _ core d (release_holds w h claim)
event_holds w h (Reserve claim payload (Ok seq)) core may d told =
    reserve_answer w h claim _ Data payload (opened_of _ _ _ may) (data_no_hole payload (zeros w.core.page_map)) seq core d
event_holds w h (Reserve claim payload (Err refused)) core may d told = reserve_refused w h claim _ Data payload refused core d
event_holds w h (ReserveHole claim (Ok seq)) core may d told =
    reserve_answer w h claim _ Hole (zeros w.core.page_map) (and_parts (claim_open w.core claim) _ may).0 (λ is. refl) seq core d
event_holds w h (ReserveHole claim (Err refused)) core may d told = reserve_refused w h claim _ Hole (zeros w.core.page_map) refused core d
event_holds w h (ReserveFewer claim payload (Ok seq)) core may d told =
    reserve_answer w h claim _ Data payload (opened_of _ _ _ may) (data_no_hole payload (zeros w.core.page_map)) seq core d
event_holds w h (ReserveFewer claim payload (Err refused)) core may d told = reserve_refused w h claim _ Data payload refused core d
event_holds w h (Commit claim seat answer) core may d told = commit_case w h claim seat (reserved_under w.core claim) refl answer core d
event_holds w h (Abandon claim answer) core may d told = abandon_case w h claim (reserved_under w.core claim) refl answer core d
event_holds w h (Admit pages (Ok admitted)) core may d told = to_next w (Admit pages (Ok admitted)) _ core d.2 (admit_holds w h admitted.batch.0 pages _ d.1 (pages_inside w.core pages (and_parts (is_distinct pages) _ (and_parts (is_distinct pages && list_all (is_page w.core) pages) _ may).0).1))
event_holds w h (Admit pages (Err refused)) core may d told = to_next w (Admit pages (Err refused)) w.core core d.1 (still w h)
event_holds w h (Replan batch (Ok planned)) core may d told =
    to_next w (Replan batch (Ok planned)) _ core d.1
    (quiet w h (booked (record { 0 = batch }) planned.places (released batch w.core.calendar)) w.core.epoch w.core.behind w.core.stepped w.core.flushes w.core.asked w.core.synced w.core.base w.core.history)
event_holds w h (Replan batch (Err refused)) core may d told = to_next w (Replan batch (Err refused)) w.core core d.1 (still w h)
event_holds w h (EndBatch batch answer) core may d told = to_next w (EndBatch batch answer) _ core d.1 (end_batch_holds w h batch _)
event_holds w h (Take die seat answer) core may d told = take_holds w h die seat answer core d
event_holds w h (Done die outcome) core may d told = done_holds w h die outcome core may told d
event_holds w h (Window die count (Ok first)) core may d told =
    to_next w (Window die count (Ok first)) _ core d.3
    (quiet w h _ w.core.epoch w.core.behind w.core.stepped w.core.flushes w.core.asked w.core.synced w.core.base w.core.history)
event_holds w h (Window die count (Err WindowBusy)) core may d told = to_next w (Window die count (Err WindowBusy)) w.core core d.1 (still w h)
event_holds w h (Window die count (Err HasOne)) core may d told = to_next w (Window die count (Err HasOne)) w.core core d.2 (still w h)
event_holds w h (Window die count (Err WindowNoMemory)) core may d told = to_next w (Window die count (Err WindowNoMemory)) w.core core d.2 (still w h)
event_holds w h (Advance (Ok round)) core may d told =
    to_next w (Advance (Ok round)) _ core d.2
    (quiet w h _ w.core.epoch w.core.behind empty w.core.flushes w.core.asked w.core.synced w.core.base w.core.history)
event_holds w h (Advance (Err refused)) core may d told = to_next w (Advance (Err refused)) w.core core d.1 (still w h)
event_holds w h (SpareIn die (Ok made)) core may d told =
    to_next w (SpareIn die (Ok made)) _ core d.1 (spare_holds w h die d.0 (w.core.epoch + 1) (insert w.core.page_map.live die tt))
event_holds w h (SpareIn die (Err NotSpare)) core may d told = to_next w (SpareIn die (Err NotSpare)) w.core core d.1 (still w h)
event_holds w h (ReserveCopy page seq payload (Ok made)) core may d told =
    let refused = first_refusal (not (is_thin w.core.copies w.core.page_map page && has_number seq (get w.core.page_map.versions page))) (is_none (copy_place w.core.copies w.core.page_map page)) (copy_open w.core) Gone _ _ d.0 in
    to_next w (ReserveCopy page seq payload (Ok made)) _ core d.1
    (reserve_copy_case w h page seq payload (and_parts (is_page w.core page) _ may).0 told (get w.core.page_map.versions page) refl (copy_place w.core.copies w.core.page_map page) refl
    (not_none_of (is_thin w.core.copies w.core.page_map page) (has_number seq (get w.core.page_map.versions page)) refused).1)
event_holds w h (ReserveCopy page seq payload (Err refused)) core may d told = to_next w (ReserveCopy page seq payload (Err refused)) w.core core d.1 (still w h)
event_holds w h (CommitCopy answer) core may d told = copy_case w h w.core.copying refl answer core d
event_holds w h (FlushBegin (Ok flush)) core may d told =
    to_next w (FlushBegin (Ok flush)) _ core d.3
    (quiet w h w.core.calendar w.core.epoch w.core.behind w.core.stepped (w.core.flushes + 1) _ w.core.synced w.core.base w.core.history)
event_holds w h (FlushBegin (Err Spent)) core may d told = to_next w (FlushBegin (Err Spent)) w.core core d.1 (still w h)
event_holds w h (FlushState flush answer) core may d told = to_next w (FlushState flush answer) w.core core d.1 (still w h)
event_holds w h Fold core may d told =
    to_next w Fold _ core d
    (quiet w h w.core.calendar w.core.epoch w.core.behind w.core.stepped w.core.flushes w.core.asked w.core.synced (folded w.core.base w.core.history) [])

pub happens_holds : (before : World) (happening : Happening) (after : World) → Holds before → Happens before happening after → Holds after
happens_holds before (Event act) after h happens =
    subst Holds (sym happens.follows) (event_holds before h act after.core happens.step.allows happens.step.does happens.told)
happens_holds before (ImageCall die gave) after h happens = image_call_holds before h die gave after happens
