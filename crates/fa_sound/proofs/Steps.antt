-- Each event keeps the state sound.
use Rattle.fa_machine.proofs.Lists.{found_passes, no_refusal}
use Rattle.fa_machine.specs.Cells.{DidErase, DidMove, DidProgram, DidRead, DidSync, DidWriteHeader, Fault, Outcome, Wrong, payload_of}
use Rattle.fa_machine.specs.Conditions.{reserved_under}
use Rattle.fa_machine.specs.Copies.{copy_on, holds_page}
use Rattle.fa_machine.specs.Placement.{copy_place, has_room, order_of}
use Rattle.fa_machine.specs.State.{Core, OpenBatch, OpenClaim, Reservation, is_live}
use Rattle.fa_machine.specs.Step.{Abandon, Act, Admit, Advance, Claim, Commit, CommitCopy, Does, Done, EndBatch, FlushBegin, FlushState, Fold, Release, Replan, Reserve, ReserveCopy, ReserveFewer, ReserveHole, SpareIn, Take, Window, allowed, is_page}
use Rattle.fa_machine.specs.Taking.{EndsJob, finished, read_ends, with_answer}
use Rattle.fa_machine.specs.Turning.{CommitsCopy, copying_to, commit_copy_refusal, has_number}
use Rattle.fa_machine.specs.Writing.{Abandons, Commits, Reserves, is_claimed}
use Rattle.fa_machine.specs.declared.answers.Copied.{Copied}
use Rattle.fa_machine.specs.declared.answers.Copied.TheVariants.{Current, Late}
use Rattle.fa_machine.specs.declared.jobs.Flight.{Flight}
use Rattle.fa_machine.specs.declared.jobs.Flight.TheVariants.{Erase, Header, Move, Program, Read, Sync}
use Rattle.fa_machine.specs.declared.places.Copying.{Copying}
use Rattle.fa_machine.specs.declared.places.Version.{Version}
use Rattle.fa_machine.specs.declared.refusals.AbandonRefused.{AbandonRefused}
use Rattle.fa_machine.specs.declared.refusals.ClaimRefused.TheVariants.{Claimed, NoMemory as ClaimNoMemory}
use Rattle.fa_machine.specs.declared.refusals.CommitCopyRefused.{CommitCopyRefused}
use Rattle.fa_machine.specs.declared.refusals.CommitCopyRefused.TheVariants.{Failed as CopyFailed, Pending as CopyPending}
use Rattle.fa_machine.specs.declared.refusals.CommitRefused.{CommitRefused}
use Rattle.fa_machine.specs.declared.refusals.FlushRefused.TheVariants.{Spent}
use Rattle.fa_machine.specs.declared.refusals.ReserveRefused.{ReserveRefused}
use Rattle.fa_machine.specs.declared.refusals.SpareRefused.TheVariants.{NotSpare}
use Rattle.fa_machine.specs.declared.refusals.WindowRefused.TheVariants.{Busy as WindowBusy, HasOne, NoMemory as WindowNoMemory}
use Rattle.fa_sound.proofs.Beginning.{copy_reserves, spare_sound}
use Rattle.fa_sound.proofs.Committing.{abandon_sound, commit_sound, current_sound, late_sound}
use Rattle.fa_sound.proofs.Ending.{dropped_sound, erased_sound, moved_sound, over_sound}
use Rattle.fa_sound.proofs.Fewer.{fewer_sound}
use Rattle.fa_sound.proofs.Marking.{marked_sound}
use Rattle.fa_sound.proofs.Owning.{claim_inserted, claim_removed, own_insert, own_remove, unclaimed}
use Rattle.fa_sound.proofs.Reserving.{claim_reserves}
use Rattle.fa_sound.proofs.Taking.{take_sound}
use Rattle.fa_sound.specs.Owners.{Owned, owned_of}
use Rattle.fa_sound.specs.Sound.{IsSound}
use Rattle.fa_types.specs.declared.kind.Kind.{Kind}
use Rattle.fa_types.specs.declared.numbers.Seq.{Seq}
use Rattle.std.proofs.Common.{Bool, List, None, Option, Some, [], ap, eqb-true, false, inl, inr, not, refl, subst, sym, true, ℕ, ◌<◌, ◌∙◌, ◌∷◌, ◌≡◌}
use Rattle.std.proofs.lemmas.Bool.{and_parts, false≢true, ltb-true, not-false}
use Rattle.std.proofs.lemmas.Option.{none-some}
use Rattle.std.specs.FinMap.{get, insert, remove}
use Rattle.std.specs.Prelude.{Err, Ok, Result, if◌then◌else◌, is_some, option_and_then, option_map, ◌&&◌, ◌==◌}

open_of : (o : Option OpenClaim) (r : Reservation) → option_and_then {T = OpenClaim} (λ c. c.reserved) o ≡ Some r → is_some o ≡ true
open_of None r e = absurd (none-some r e)
open_of (Some c) r e = refl

none_of : {X : Type 0} (o : Option X) → not (is_some o) ≡ true → o ≡ None
none_of None e = refl
none_of (Some x) e = absurd (false≢true e)

module _ (core : Core) (h : IsSound core) where
  kept : (new x : Core) → new ≡ x → IsSound x → IsSound new
  kept new x e s = subst IsSound (sym e) s

  claim_made : (page id : ℕ) → is_page core page ≡ true → is_claimed core page ≡ false
      → IsSound (record core { claims = insert core.claims id (record { page = page; reserved = None }) })
  claim_made page id inside free = fewer_sound core h core.copying (insert core.claims id (record { page = page; reserved = None }))
      (λ q x e. elim (own_insert core.copying core.claims id (record { page = page; reserved = None }) q x e) [
        | inl new ↦ absurd (none-some x new.1)
        | inr was ↦ was.0
      ])
      (record {
        inside = λ j p e. elim (claim_inserted core.claims id (record { page = page; reserved = None }) j p e) [
          | inl new ↦ subst (λ n. n < core.page_map.geometry.pages) new.1 (ltb-true page core.page_map.geometry.pages inside)
          | inr was ↦ h.claims.inside j p was
        ];
        once = λ j k p e f. elim (claim_inserted core.claims id (record { page = page; reserved = None }) j p e) [
          | inl a ↦ elim (claim_inserted core.claims id (record { page = page; reserved = None }) k p f) [
            | inl b ↦ a.0 ∙ sym b.0
            | inr b ↦ absurd (unclaimed core.claims page k free (b ∙ ap Some (sym a.1)))
          ]
          | inr a ↦ elim (claim_inserted core.claims id (record { page = page; reserved = None }) k p f) [
            | inl b ↦ absurd (unclaimed core.claims page j free (a ∙ ap Some (sym b.1)))
            | inr b ↦ h.claims.once j k p a b
          ]
        ];
      })

  claim_released : (id : ℕ) → IsSound (record core { claims = remove core.claims id })
  claim_released id = fewer_sound core h core.copying (remove core.claims id) (λ q x e. own_remove core.copying core.claims id q x e)
      (record {
        inside = λ j p e. h.claims.inside j p (claim_removed core.claims id j p e);
        once = λ j k p e f. h.claims.once j k p (claim_removed core.claims id j p e) (claim_removed core.claims id k p f);
      })

  reserves : (claim least : ℕ) (kind : Kind) (payload : List ℕ) (answer : Result Seq ReserveRefused) (new : Core) → is_some (get core.claims claim) ≡ true
      → Reserves core claim least kind payload answer new → IsSound new
  reserves claim least kind payload (Ok seq) new opened d = kept new _ d.2 (claim_reserves core h claim kind opened)
  reserves claim least kind payload (Err refused) new opened d = kept new core d.1 h

  commits : (claim seat : ℕ) (r : Option Reservation) (answer : Result Seq CommitRefused) (new : Core) → reserved_under core claim ≡ r
      → Commits core claim seat r answer new → IsSound new
  commits claim seat None answer new is d = absurd d
  commits claim seat (Some r) (Ok seq) new is d = kept new _ d.2 (commit_sound core h claim r is d.0)
  commits claim seat (Some r) (Err refused) new is d = kept new core d.1 h

  abandons : (claim : ℕ) (r : Option Reservation) (answer : Result (Unit {0}) AbandonRefused) (new : Core) → reserved_under core claim ≡ r
      → Abandons core claim r answer new → IsSound new
  abandons claim None answer new is d = absurd d
  abandons claim (Some r) (Ok done) new is d = kept new _ d.1 (abandon_sound core h claim r is)
  abandons claim (Some r) (Err refused) new is d = kept new core d.1 h

  answers : (die batch page : ℕ) (bytes : List ℕ) (b : Option OpenBatch) → IsSound (with_answer batch page bytes b (record core { jobs = remove core.jobs die }))
  answers die batch page bytes None = over_sound core h die
  answers die batch page bytes (Some b) = over_sound core h die

  reads : (die batch page : ℕ) (o : Option (List ℕ)) → IsSound (read_ends die batch page o (record core { jobs = remove core.jobs die }))
  reads die batch page None = dropped_sound (record core { jobs = remove core.jobs die }) (over_sound core h die) die
  reads die batch page (Some bytes) = answers die batch page bytes (get core.batches batch)

  header_if : (b : Bool) (die : ℕ) → IsSound (if b then record core { jobs = remove core.jobs die; behind = remove core.behind die } else record core { jobs = remove core.jobs die })
  header_if true die = over_sound core h die
  header_if false die = over_sound core h die

  done : (die : ℕ) (flight : Flight) (outcome : Outcome) → get core.jobs die ≡ Some flight
      → IsSound (finished die flight outcome (record core { jobs = remove core.jobs die }))
  done die (Read batch page version slot) (DidRead cell) e = reads die batch.0 page.0 (payload_of page.0 version die slot.0 cell)
  done die (Program page version slot) DidProgram e = marked_sound core h die page.0 slot.0
  done die (Move page version from to) DidMove e =
      let j = h.jobs die (Move page version from to) e in moved_sound core h die page version from.0 to.0 j.on_live j.fits
  done die (Erase block) DidErase e = erased_sound core h die block.0
  done die (Header epoch live) DidWriteHeader e = header_if (epoch == core.epoch) die
  done die (Sync flushes) DidSync e = over_sound core h die
  done die flight (Fault call) e = dropped_sound (record core { jobs = remove core.jobs die }) (over_sound core h die) die
  done die flight Wrong e = dropped_sound (record core { jobs = remove core.jobs die }) (over_sound core h die) die
  done die flight outcome e = over_sound core h die

  ends : (die : ℕ) (flight : Option Flight) (outcome : Outcome) (new : Core) → get core.jobs die ≡ flight → EndsJob core die flight outcome new → IsSound new
  ends die None outcome new is d = absurd d
  ends die (Some flight) outcome new is d = kept new _ d (done die flight outcome is)

  copies : (page : ℕ) (payload : List ℕ) (version : Option Version) (die : Option ℕ) → get core.page_map.versions page ≡ version
      → copy_place core.copies core.page_map page ≡ die → IsSound (copying_to core page payload version die)
  copies page payload None die is place = h
  copies page payload (Some version) None is place = h
  copies page payload (Some version) (Some die) is place =
      let both = and_parts (has_room core.page_map die) _ (found_passes (λ d. has_room core.page_map d && not (holds_page core.page_map page d)) (order_of core.copies core.page_map page) die place).0 in
      copy_reserves core h page die version is both.0 (none_of (copy_on core.page_map page die) both.1)

  version_of : (page : ℕ) (version : Version) (o : Option Version) → get core.page_map.versions page ≡ o → has_number version.seq.0 o ≡ true
      → ((u : Version) → get core.page_map.versions page ≡ Some u → u.seq.0 ≡ version.seq.0 → u ≡ version) → get core.page_map.versions page ≡ Some version
  version_of page version None is e same = absurd (false≢true e)
  version_of page version (Some u) is e same = is ∙ ap Some (same u is (eqb-true u.seq.0 version.seq.0 e))

  copy_over : (c : Copying) → core.copying ≡ Some c → IsSound (record core { copying = None })
  copy_over c is = fewer_sound core h None core.claims (λ q x e. none_left q x e) h.claims
    where
      none_left : (q : Option ℕ) (x : Owned) → owned_of None core.claims q ≡ Some x → owned_of core.copying core.claims q ≡ Some x
      none_left None x e = absurd (none-some x e)
      none_left (Some id) x e = e

  marked : (c : Copying) → commit_copy_refusal core c ≡ None → (is_live core.page_map c.target.die.0 ≡ true) × (c.target.programmed ≡ true)
  marked c e =
      let none = no_refusal (is_live core.page_map c.target.die.0 && not c.target.programmed) (not (is_live core.page_map c.target.die.0)) CopyPending CopyFailed e in
      let on = not-false (is_live core.page_map c.target.die.0) none.1 in
      (on, not-false c.target.programmed (ap (λ b. b && not c.target.programmed) (sym on) ∙ none.0))

  copy_ends : (c : Option Copying) (answer : Result Copied CommitCopyRefused) (new : Core) → core.copying ≡ c → CommitsCopy core c answer new → IsSound new
  copy_ends None answer new is d = absurd d
  copy_ends (Some c) (Ok Current) new is d =
      let m = marked c d.0 in
      let o = h.old _ (ap (option_map {T = Copying} (λ c. record { page = c.page.0; version = c.version; targets = c.target ∷ [] })) is) in
      kept new _ d.2 (current_sound core h c is m.0 m.1 (version_of c.page.0 c.version _ refl d.1 o.same))
  copy_ends (Some c) (Ok Late) new is d = kept new _ d.2 (late_sound core h c is (marked c d.0).0)
  copy_ends (Some c) (Err CopyPending) new is d = kept new core d.1 h
  copy_ends (Some c) (Err CopyFailed) new is d = kept new _ d.1 (copy_over c is)

  pub event : (act : Act) (new : Core) → allowed core act ≡ true → Does core act new → IsSound new
  event (Claim page (Ok id)) new a d = kept new _ d.2 (claim_made page id.0 a d.0)
  event (Claim page (Err Claimed)) new a d = kept new core d.1 h
  event (Claim page (Err ClaimNoMemory)) new a d = kept new core d.1 h
  event (Release claim) new a d = kept new _ d (claim_released claim)
  event (Reserve claim payload answer) new a d = reserves claim _ _ payload answer new (and_parts _ _ (and_parts _ _ a).0).0 d
  event (ReserveHole claim answer) new a d = reserves claim _ _ _ answer new (and_parts _ _ a).0 d
  event (ReserveFewer claim payload answer) new a d = reserves claim _ _ payload answer new (and_parts _ _ (and_parts _ _ a).0).0 d
  event (Commit claim seat answer) new a d = commits claim seat (reserved_under core claim) answer new refl d
  event (Abandon claim answer) new a d = abandons claim (reserved_under core claim) answer new refl d
  event (Admit pages (Ok admitted)) new a d = kept new _ d.2 h
  event (Admit pages (Err refused)) new a d = kept new core d.1 h
  event (Replan batch (Ok planned)) new a d = kept new _ d.1 h
  event (Replan batch (Err refused)) new a d = kept new core d.1 h
  event (EndBatch batch answer) new a d = kept new _ d.1 h
  event (Take die seat answer) new a d = take_sound core h die seat answer new d
  event (Done die outcome) new a d = ends die (get core.jobs die) outcome new refl d
  event (Window die count (Ok first)) new a d = kept new _ d.3 h
  event (Window die count (Err WindowBusy)) new a d = kept new core d.1 h
  event (Window die count (Err HasOne)) new a d = kept new core d.2 h
  event (Window die count (Err WindowNoMemory)) new a d = kept new core d.2 h
  event (Advance (Ok round)) new a d = kept new _ d.2 h
  event (Advance (Err refused)) new a d = kept new core d.1 h
  event (SpareIn die (Ok made)) new a d = kept new _ d.1 (spare_sound core h die d.0)
  event (SpareIn die (Err NotSpare)) new a d = kept new core d.1 h
  event (ReserveCopy page seq payload (Ok made)) new a d =
      kept new _ d.1 (copies page payload (get core.page_map.versions page) (copy_place core.copies core.page_map page) refl refl)
  event (ReserveCopy page seq payload (Err refused)) new a d = kept new core d.1 h
  event (CommitCopy answer) new a d = copy_ends core.copying answer new refl d
  event (FlushBegin (Ok flush)) new a d = kept new _ d.3 h
  event (FlushBegin (Err Spent)) new a d = kept new core d.1 h
  event (FlushState flush answer) new a d = kept new core d.1 h
  event Fold new a d = kept new _ d h
