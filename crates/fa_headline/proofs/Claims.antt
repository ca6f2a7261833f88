-- What an event does to an open claim: it is claimed, something is reserved under it, or it keeps its page and what is reserved.
use Rattle.fa_headline.specs.Writes.{IsReserve}
use Rattle.fa_machine.proofs.Maps.{get-change, get-insert_cases, get-remove_some, nat_same}
use Rattle.fa_machine.proofs.Takes.{take_cases}
use Rattle.fa_machine.specs.Cells.{DidErase, DidMove, DidProgram, DidRead, DidSync, DidWriteHeader, Fault, Outcome, Wrong, payload_of}
use Rattle.fa_machine.specs.Conditions.{claim_open, reserved_under}
use Rattle.fa_machine.specs.Placement.{copy_place}
use Rattle.fa_machine.specs.Reading.{zeros}
use Rattle.fa_machine.specs.State.{Core, OpenBatch, OpenClaim, Reservation}
use Rattle.fa_machine.specs.Step.{Abandon, Act, Admit, Advance, Claim, Commit, CommitCopy, Does, Done, EndBatch, FlushBegin}
use Rattle.fa_machine.specs.Step.{FlushState, Fold, Release, Replan, Reserve, ReserveCopy, ReserveFewer, ReserveHole, SpareIn, Take}
use Rattle.fa_machine.specs.Step.{Window, allowed}
use Rattle.fa_machine.specs.Taking.{EndsJob, Handed, begins, begun, finished, mark, mark_claim, program_ends, read_ends, taken, with_answer, without_stale_booking}
use Rattle.fa_machine.specs.Turning.{CommitsCopy, copying_to}
use Rattle.fa_machine.specs.Writing.{Abandons, Commits, Reserves, claimed_page}
use Rattle.fa_machine.specs.declared.answers.Copied.{Copied}
use Rattle.fa_machine.specs.declared.answers.Copied.TheVariants.{Current, Late}
use Rattle.fa_machine.specs.declared.ids.ClaimId.{ClaimId}
use Rattle.fa_machine.specs.declared.jobs.Flight.{Flight}
use Rattle.fa_machine.specs.declared.jobs.Flight.TheVariants.{Erase, Header, Move, Program, Read, Sync}
use Rattle.fa_machine.specs.declared.places.Copying.{Copying}
use Rattle.fa_machine.specs.declared.places.Version.{Version}
use Rattle.fa_machine.specs.declared.refusals.AbandonRefused.{AbandonRefused}
use Rattle.fa_machine.specs.declared.refusals.ClaimRefused.TheVariants.{Claimed, NoMemory as ClaimNoMemory}
use Rattle.fa_machine.specs.declared.refusals.CommitCopyRefused.{CommitCopyRefused}
use Rattle.fa_machine.specs.declared.refusals.CommitCopyRefused.TheVariants.{Failed as CopyFailed, Pending as CopyPending}
use Rattle.fa_machine.specs.declared.refusals.CommitRefused.{CommitRefused}
use Rattle.fa_machine.specs.declared.refusals.FlushRefused.TheVariants.{Spent}
use Rattle.fa_machine.specs.declared.refusals.ReserveCopyRefused.TheVariants.{NoMemory as CopyNoMemory}
use Rattle.fa_machine.specs.declared.refusals.ReserveRefused.{ReserveRefused}
use Rattle.fa_machine.specs.declared.refusals.ReserveRefused.TheVariants.{NoMemory as ReserveNoMemory}
use Rattle.fa_machine.specs.declared.refusals.SpareRefused.TheVariants.{NotSpare}
use Rattle.fa_machine.specs.declared.refusals.WindowRefused.TheVariants.{Busy as WindowBusy, HasOne, NoMemory as WindowNoMemory}
use Rattle.fa_types.specs.declared.kind.Kind.{Kind}
use Rattle.fa_types.specs.declared.kind.Kind.TheVariants.{Data, Hole}
use Rattle.fa_types.specs.declared.numbers.Seq.{Seq}
use Rattle.std.proofs.Common.{Bool, List, None, Option, Some, ap, false, inl, inr, refl, subst, sym, true, ℕ, ◌+◌, ◌∙◌, ◌≡◌, ◌⊎◌}
use Rattle.std.proofs.lemmas.Bool.{and_parts, false≢true}
use Rattle.std.proofs.lemmas.Option.{none-some, same_Some}
use Rattle.std.specs.Cmp.{nat_cmp_total}
use Rattle.std.specs.FinMap.{FinMap, get, insert, remove}
use Rattle.std.specs.Ordering.{nat_cmp}
use Rattle.std.specs.Prelude.{Err, Ok, Result, if◌then◌else◌, is_some, map, option_and_then, option_map, unwrap_or, ◌&&◌, ◌==◌}

-- a claim of one page, under which nothing else is reserved than under the other
pub record Stays (was c : OpenClaim) : Type 0 where
  pub page : c.page ≡ was.page
  pub reserved : (r : Reservation) → c.reserved ≡ Some r → (r_was : Reservation) × (was.reserved ≡ Some r_was) × (r.version ≡ r_was.version)

pub record ClaimStays (old : Core) (id : ℕ) (c : OpenClaim) : Type 0 where
  pub was : OpenClaim
  pub opened : get old.claims id ≡ Some was
  pub stays : Stays was c

pub record IsClaimedBy (act : Act) (id : ℕ) (c : OpenClaim) : Type 0 where
  pub given : ClaimId
  pub act_is : act ≡ Claim c.page (Ok given)
  pub given_is : given.0 ≡ id
  pub nothing : c.reserved ≡ None

-- Something is reserved by this event: these bytes, under the next number.
pub record IsReservedBy (old : Core) (act : Act) (id : ℕ) (c : OpenClaim) : Type 0 where
  pub was : OpenClaim
  pub opened : get old.claims id ≡ Some was
  pub page : c.page ≡ was.page
  pub bytes : List ℕ
  pub reserves : IsReserve id (old.last + 1) (zeros old.page_map) bytes act
  pub number : (r : Reservation) → c.reserved ≡ Some r → r.version.seq.0 ≡ old.last + 1

abbrev pub ClaimWas : Core → Act → ℕ → OpenClaim → Type 0
ClaimWas old act id c = ClaimStays old id c ⊎ (IsClaimedBy act id c ⊎ IsReservedBy old act id c)

claimed_is : (old : Core) (claim : ℕ) (was : OpenClaim) → get old.claims claim ≡ Some was → claimed_page old claim ≡ was.page
claimed_is old claim was is = ap (λ o. unwrap_or (option_map {T = OpenClaim} (λ c. c.page) o) 0) is

-- an open claim
found : (o : Option OpenClaim) → is_some o ≡ true → (was : OpenClaim) × (o ≡ Some was)
found None e = absurd (false≢true e)
found (Some was) e = (was, refl)

first_of : (a b c : Bool) → (a && b && c) ≡ true → a ≡ true
first_of true b c e = refl
first_of false b c e = absurd (false≢true e)

module _ (old : Core) (id : ℕ) (c : OpenClaim) where
  itself : (was : OpenClaim) → get old.claims id ≡ Some was → was ≡ c → ClaimStays old id c
  itself was opened e = record {
    was = was;
    opened = opened;
    stays = record { page = sym (ap (λ (x : OpenClaim). x.page) e); reserved = λ r is. (r, ap (λ (x : OpenClaim). x.reserved) e ∙ is, refl) };
  }

  -- where an event leaves the claims as they were
  same : (new : Core) → new.claims ≡ old.claims → get new.claims id ≡ Some c → ClaimStays old id c
  same new e is = itself c (sym (ap (λ (m : FinMap nat_cmp OpenClaim). get m id) e) ∙ is) refl

  -- a claim under which nothing is reserved any more
  emptied : (claim : ℕ) (was : OpenClaim) → get old.claims claim ≡ Some was → (new : Core)
      → new.claims ≡ insert old.claims claim (record { page = claimed_page old claim; reserved = None }) → get new.claims id ≡ Some c → ClaimStays old id c
  emptied claim was opened new e is =
      elim (get-insert_cases old.claims claim (record { page = claimed_page old claim; reserved = None }) id c
      (sym (ap (λ (m : FinMap nat_cmp OpenClaim). get m id) e) ∙ is)) [
        | inr other ↦ itself c other.0 refl
        | inl made ↦ record {
          was = was;
          opened = ap (get old.claims) made.0 ∙ opened;
          stays = record {
            page = sym (ap (λ (x : OpenClaim). x.page) made.1) ∙ claimed_is old claim was opened;
            reserved = λ r some. absurd (none-some r (ap (λ (x : OpenClaim). x.reserved) made.1 ∙ some));
          };
        }
      ]

  reserve_was : (act : Act) (claim least : ℕ) (kind : Kind) (payload : List ℕ) (seq : Seq) (new : Core) → claim_open old claim ≡ true
      → (seq.0 ≡ old.last + 1 → IsReserve claim (old.last + 1) (zeros old.page_map) payload act) → Reserves old claim least kind payload (Ok seq) new
      → get new.claims id ≡ Some c → ClaimWas old act id c
  reserve_was act claim least kind payload seq new opened reserves d is =
      let version : Version = record { seq = record { 0 = old.last + 1 }; kind = kind } in
      let was = found (get old.claims claim) opened in
      elim (get-insert_cases old.claims claim _ id c (sym (ap (λ (x : Core). get x.claims id) d.2) ∙ is)) [
        | inr other ↦ inl (itself c other.0 refl)
        | inl made ↦ inr (inr (record {
          was = was.0;
          opened = ap (get old.claims) made.0 ∙ was.1;
          page = sym (ap (λ (x : OpenClaim). x.page) made.1) ∙ claimed_is old claim was.0 was.1;
          bytes = payload;
          reserves = subst (λ (n : ℕ). IsReserve n (old.last + 1) (zeros old.page_map) payload act) (sym made.0) (reserves d.1);
          number = λ r some. sym (ap (λ (x : Reservation). x.version.seq.0) (same_Some _ r (ap (λ (x : OpenClaim). x.reserved) made.1 ∙ some)));
        }))
      ]

  refused_same : (claim least : ℕ) (kind : Kind) (payload : List ℕ) (refused : ReserveRefused) (new : Core)
      → Reserves old claim least kind payload (Err refused) new → new.claims ≡ old.claims
  refused_same claim least kind payload ReserveNoMemory new d = ap (λ (x : Core). x.claims) d.1
  refused_same claim least kind payload refused new d = ap (λ (x : Core). x.claims) d.1

  commit_was : (claim seat : ℕ) (o : Option Reservation) → reserved_under old claim ≡ o → (answer : Result Seq CommitRefused) (new : Core)
      → Commits old claim seat o answer new → get new.claims id ≡ Some c → ClaimStays old id c
  commit_was claim seat None under answer new d is = absurd d
  commit_was claim seat (Some r) under (Ok seq) new d is =
      let was = of_reserved (get old.claims claim) under in emptied claim was.0 was.1 new (ap (λ (x : Core). x.claims) d.2) is
    where
      of_reserved : (o : Option OpenClaim) → option_and_then (λ x. x.reserved) o ≡ Some r → (was : OpenClaim) × (o ≡ Some was)
      of_reserved None e = absurd (none-some r e)
      of_reserved (Some was) e = (was, refl)
  commit_was claim seat (Some r) under (Err refused) new d is = same new (ap (λ (x : Core). x.claims) d.1) is

  abandon_was : (claim : ℕ) (o : Option Reservation) → reserved_under old claim ≡ o → (answer : Result (Unit {0}) AbandonRefused) (new : Core)
      → Abandons old claim o answer new → get new.claims id ≡ Some c → ClaimStays old id c
  abandon_was claim None under answer new d is = absurd d
  abandon_was claim (Some r) under (Ok made) new d is =
      let was = of_reserved (get old.claims claim) under in emptied claim was.0 was.1 new (ap (λ (x : Core). x.claims) d.1) is
    where
      of_reserved : (o : Option OpenClaim) → option_and_then (λ x. x.reserved) o ≡ Some r → (was : OpenClaim) × (o ≡ Some was)
      of_reserved None e = absurd (none-some r e)
      of_reserved (Some was) e = (was, refl)
  abandon_was claim (Some r) under (Err refused) new d is = same new (ap (λ (x : Core). x.claims) d.1) is

  copying_claims : (page : ℕ) (payload : List ℕ) (v : Option Version) (die : Option ℕ) → (copying_to old page payload v die).claims ≡ old.claims
  copying_claims page payload (Some v) (Some die) = refl
  copying_claims page payload (Some v) None = refl
  copying_claims page payload None die = refl

  copy_claims : (o : Option Copying) (answer : Result Copied CommitCopyRefused) (new : Core) → CommitsCopy old o answer new → new.claims ≡ old.claims
  copy_claims None answer new d = absurd d
  copy_claims (Some o) (Ok Current) new d = ap (λ (x : Core). x.claims) d.2
  copy_claims (Some o) (Ok Late) new d = ap (λ (x : Core). x.claims) d.2
  copy_claims (Some o) (Err CopyPending) new d = ap (λ (x : Core). x.claims) d.1
  copy_claims (Some o) (Err CopyFailed) new d = ap (λ (x : Core). x.claims) d.1

  taken_claims : (die seat : ℕ) → (taken old die seat).1.claims ≡ old.claims
  taken_claims die seat =
      take_cases old die seat (λ (pair : Option Handed × Core). pair.1.claims ≡ old.claims) refl (λ flight idle u. of_flight flight old) (λ job idle u. of_other job)
    where
      of_flight : (flight : Flight) (core : Core) → (begun die seat flight core).claims ≡ core.claims
      of_flight (Header epoch live) core = refl
      of_flight (Move page version from to) core = refl
      of_flight (Erase block) core = refl
      of_flight (Read k page version slot) core = refl
      of_flight (Program page version slot) core = refl
      of_flight (Sync flushes) core = refl

      of_other : (job : Option Handed) → (begins die seat (without_stale_booking die old) job).1.claims ≡ old.claims
      of_other None = refl
      of_other (Some job) = of_flight job.flight (without_stale_booking die old)

  abbrev over : ℕ → Core
  over die = record old { jobs = remove old.jobs die }

  abbrev Kept : Core → Type 0
  Kept new = get new.claims id ≡ Some c → ClaimStays old id c

  -- a copy that was programmed is marked
  marked : (die slot : ℕ) (b : Bool) (was : OpenClaim) → Stays was (if b then mark_claim die slot was else was)
  marked die slot false was = record { page = refl; reserved = λ r some. (r, some, refl) }
  marked die slot true was = record { page = refl; reserved = λ r some. of_marked was.reserved r some }
    where
      of_marked : (o : Option Reservation) (r : Reservation) → option_map {T = Reservation} (λ r. record r { targets = map (mark die slot) r.targets }) o ≡ Some r
          → (r_was : Reservation) × (o ≡ Some r_was) × (r.version ≡ r_was.version)
      of_marked None r e = absurd (none-some r e)
      of_marked (Some x) r e = (x, refl, sym (ap (λ (y : Reservation). y.version) (same_Some _ r e)))

  program_kept : (page die slot : ℕ) (new : Core)
      → ((o : Option OpenClaim) → get old.claims id ≡ o
      → get new.claims id ≡ option_map {T = OpenClaim} (λ x. if x.page == page then mark_claim die slot x else x) o) → Kept new
  program_kept page die slot new changed is = of_found (get old.claims id) refl
    where
      of_found : (o : Option OpenClaim) → get old.claims id ≡ o → ClaimStays old id c
      of_found None e = absurd (none-some c (sym (changed None e) ∙ is))
      of_found (Some was) e = record {
        was = was;
        opened = e;
        stays = subst (Stays was) (same_Some _ c (sym (changed (Some was) e) ∙ is)) (marked die slot (was.page == page) was);
      }

  answer_kept : (die batch page : ℕ) (bytes : List ℕ) (o : Option OpenBatch) → Kept (with_answer batch page bytes o (over die))
  answer_kept die batch page bytes None is = itself c is refl
  answer_kept die batch page bytes (Some b) is = itself c is refl

  read_kept : (die batch page : ℕ) (o : Option (List ℕ)) → Kept (read_ends die batch page o (over die))
  read_kept die batch page None is = itself c is refl
  read_kept die batch page (Some bytes) is = answer_kept die batch page bytes (get old.batches batch) is

  header_kept : (b : Bool) (die : ℕ) → Kept (if b then record (over die) { behind = remove old.behind die } else over die)
  header_kept true die is = itself c is refl
  header_kept false die is = itself c is refl

  finished_kept : (die : ℕ) (flight : Flight) (outcome : Outcome) → Kept (finished die flight outcome (over die))
  finished_kept die (Read batch page version slot) (DidRead cell) = read_kept die batch.0 page.0 (payload_of page.0 version die slot.0 cell)
  finished_kept die (Program page version slot) DidProgram =
      program_kept page.0 die slot.0 (program_ends page.0 die slot.0 (over die)) (λ o e. get-change nat_cmp_total nat_same (λ q x. if x.page == page.0 then mark_claim die slot.0 x else x) old.claims id
      ∙ ap (option_map {T = OpenClaim} (λ x. if x.page == page.0 then mark_claim die slot.0 x else x)) e)
  finished_kept die (Move page version from to) DidMove = λ is. itself c is refl
  finished_kept die (Erase block) DidErase = λ is. itself c is refl
  finished_kept die (Header epoch live) DidWriteHeader = header_kept (epoch == old.epoch) die
  finished_kept die (Sync flushes) DidSync = λ is. itself c is refl
  finished_kept die flight (Fault call) = λ is. itself c is refl
  finished_kept die flight Wrong = λ is. itself c is refl
  finished_kept die flight outcome = λ is. itself c is refl

  done_kept : (die : ℕ) (flight : Option Flight) (outcome : Outcome) (new : Core) → EndsJob old die flight outcome new → Kept new
  done_kept die None outcome new e = absurd e
  done_kept die (Some flight) outcome new e = subst Kept (sym e) (finished_kept die flight outcome)

  claim_given : (page : ℕ) (given : ClaimId) (new : Core) → new.claims ≡ insert old.claims given.0 (record { page = page; reserved = None })
      → get new.claims id ≡ Some c → ClaimWas old (Claim page (Ok given)) id c
  claim_given page given new e is =
      elim (get-insert_cases old.claims given.0 (record { page = page; reserved = None }) id c (sym (ap (λ (m : FinMap nat_cmp OpenClaim). get m id) e) ∙ is)) [
        | inl made ↦ inr (inl (record {
          given = given;
          act_is = ap (λ (x : OpenClaim). Claim x.page (Ok given)) made.1;
          given_is = sym made.0;
          nothing = sym (ap (λ (x : OpenClaim). x.reserved) made.1);
        }))
        | inr other ↦ inl (itself c other.0 refl)
      ]

  pub claim_was : (act : Act) (new : Core) → allowed old act ≡ true → Does old act new → get new.claims id ≡ Some c → ClaimWas old act id c
  claim_was (Claim page (Ok given)) new may d is = claim_given page given new (ap (λ (x : Core). x.claims) d.2) is
  claim_was (Claim page (Err Claimed)) new may d is = inl (same new (ap (λ (x : Core). x.claims) d.1) is)
  claim_was (Claim page (Err ClaimNoMemory)) new may d is = inl (same new (ap (λ (x : Core). x.claims) d.1) is)
  claim_was (Release claim) new may d is =
      inl (itself c (get-remove_some old.claims claim id c (sym (ap (λ (x : Core). get x.claims id) d) ∙ is)).0 refl)
  claim_was (Reserve claim payload (Ok seq)) new may d is =
      reserve_was (Reserve claim payload (Ok seq)) claim _ _ payload seq new (first_of _ _ _ may) (λ e. (refl, e, refl)) d is
  claim_was (Reserve claim payload (Err refused)) new may d is = inl (same new (refused_same claim _ Data payload refused new d) is)
  claim_was (ReserveHole claim (Ok seq)) new may d is =
      reserve_was (ReserveHole claim (Ok seq)) claim _ _ (zeros old.page_map) seq new (and_parts (claim_open old claim) _ may).0 (λ e. (refl, e, refl)) d is
  claim_was (ReserveHole claim (Err refused)) new may d is = inl (same new (refused_same claim _ Hole (zeros old.page_map) refused new d) is)
  claim_was (ReserveFewer claim payload (Ok seq)) new may d is =
      reserve_was (ReserveFewer claim payload (Ok seq)) claim _ _ payload seq new (first_of _ _ _ may) (λ e. (refl, e, refl)) d is
  claim_was (ReserveFewer claim payload (Err refused)) new may d is = inl (same new (refused_same claim _ Data payload refused new d) is)
  claim_was (Commit claim seat answer) new may d is = inl (commit_was claim seat (reserved_under old claim) refl answer new d is)
  claim_was (Abandon claim answer) new may d is = inl (abandon_was claim (reserved_under old claim) refl answer new d is)
  claim_was (Admit pages (Ok admitted)) new may d is = inl (same new (ap (λ (x : Core). x.claims) d.2) is)
  claim_was (Admit pages (Err refused)) new may d is = inl (same new (ap (λ (x : Core). x.claims) d.1) is)
  claim_was (Replan batch (Ok planned)) new may d is = inl (same new (ap (λ (x : Core). x.claims) d.1) is)
  claim_was (Replan batch (Err refused)) new may d is = inl (same new (ap (λ (x : Core). x.claims) d.1) is)
  claim_was (EndBatch batch answer) new may d is = inl (same new (ap (λ (x : Core). x.claims) d.1) is)
  claim_was (Take die seat answer) new may d is = inl (same new (ap (λ (pair : Option Handed × Core). pair.1.claims) d ∙ taken_claims die seat) is)
  claim_was (Done die outcome) new may d is = inl (done_kept die (get old.jobs die) outcome new d is)
  claim_was (Window die count (Ok first)) new may d is = inl (same new (ap (λ (x : Core). x.claims) d.3) is)
  claim_was (Window die count (Err WindowBusy)) new may d is = inl (same new (ap (λ (x : Core). x.claims) d.1) is)
  claim_was (Window die count (Err HasOne)) new may d is = inl (same new (ap (λ (x : Core). x.claims) d.2) is)
  claim_was (Window die count (Err WindowNoMemory)) new may d is = inl (same new (ap (λ (x : Core). x.claims) d.2) is)
  claim_was (Advance (Ok round)) new may d is = inl (same new (ap (λ (x : Core). x.claims) d.2) is)
  claim_was (Advance (Err refused)) new may d is = inl (same new (ap (λ (x : Core). x.claims) d.1) is)
  claim_was (SpareIn die (Ok made)) new may d is = inl (same new (ap (λ (x : Core). x.claims) d.1) is)
  claim_was (SpareIn die (Err NotSpare)) new may d is = inl (same new (ap (λ (x : Core). x.claims) d.1) is)
  claim_was (ReserveCopy page seq payload (Ok made)) new may d is =
      inl (same new (ap (λ (x : Core). x.claims) d.1 ∙ copying_claims page payload (get old.page_map.versions page) (copy_place old.copies old.page_map page)) is)
  claim_was (ReserveCopy page seq payload (Err CopyNoMemory)) new may d is = inl (same new (ap (λ (x : Core). x.claims) d.1) is)
  claim_was (ReserveCopy page seq payload (Err refused)) new may d is = inl (same new (ap (λ (x : Core). x.claims) d.1) is)
  claim_was (CommitCopy answer) new may d is = inl (same new (copy_claims old.copying answer new d) is)
  claim_was (FlushBegin (Ok flush)) new may d is = inl (same new (ap (λ (x : Core). x.claims) d.3) is)
  claim_was (FlushBegin (Err Spent)) new may d is = inl (same new (ap (λ (x : Core). x.claims) d.1) is)
  claim_was (FlushState flush answer) new may d is = inl (same new (ap (λ (x : Core). x.claims) d.1) is)
  claim_was Fold new may d is = inl (same new (ap (λ (x : Core). x.claims) d) is)
