-- What is known of cells holds over every run, and says of an array that has nothing open that each good cell is of a last write or older.
use Rattle.fa_mount_close_laws.proofs.Calls.{call_known}
use Rattle.fa_mount_close_laws.proofs.Ends.{done_known, take_known}
use Rattle.fa_mount_close_laws.proofs.Reserving.{claim_known, release_known, reserve_copy_known, reserve_known, spare_known}
use Rattle.fa_mount_close_laws.proofs.Settling.{abandon_known, commit_known, copy_known}
use Rattle.fa_mount_close_laws.proofs.Sights.{Known, has_failed, sight_of}
use Rattle.fa_mount_close_laws.specs.LastCells.{AreOfLast}
use Rattle.fa_laws.proofs.Invariant.{Holds, next, owned_claim}
use Rattle.fa_laws.proofs.Ranged.{HoldsRanged, calls_core, happens_ranged}
use Rattle.fa_laws.proofs.Runs.{run_keeps}
use Rattle.fa_laws.proofs.Starts.{beginning_holds}
use Rattle.fa_machine.proofs.Lists.{no_refusal}
use Rattle.fa_machine.specs.Among.{Among}
use Rattle.fa_machine.specs.Beginning.{IsBeginning, StandsAt}
use Rattle.fa_machine.specs.Looks.{is_busy}
use Rattle.fa_machine.specs.Cells.{Cell, Empty}
use Rattle.fa_machine.specs.Conditions.{copy_open, is_reserved, reserved_under}
use Rattle.fa_machine.specs.Run.{Event, Happening, Happens, ImageCall, Run}
use Rattle.fa_machine.specs.State.{Core, OpenClaim, Reservation, is_live, used_at}
use Rattle.fa_machine.specs.Step.{Abandon, Act, Admit, Advance, Claim, Commit, CommitCopy, Does, Done, EndBatch, FlushBegin}
use Rattle.fa_machine.specs.Step.{FlushState, Fold, Release, Replan, Reserve, ReserveCopy, ReserveFewer, ReserveHole, SpareIn, Step, Take}
use Rattle.fa_machine.specs.Step.{Window, allowed}
use Rattle.fa_machine.specs.Reading.{zeros}
use Rattle.fa_machine.specs.Placement.{copy_place, is_thin}
use Rattle.fa_machine.specs.Turning.{CommitsCopy, has_number}
use Rattle.fa_machine.specs.World.{IsTold, Work, World, with_payload}
use Rattle.fa_machine.specs.Writing.{Abandons, Commits, Reserves, committed, reserved}
use Rattle.fa_machine.specs.declared.answers.Copied.{Copied}
use Rattle.fa_machine.specs.declared.answers.Copied.TheVariants.{Current, Late}
use Rattle.fa_machine.specs.declared.jobs.Flight.{Flight}
use Rattle.fa_machine.specs.declared.places.Copying.{Copying}
use Rattle.fa_machine.specs.declared.places.Used.{Used}
use Rattle.fa_machine.specs.declared.refusals.AbandonRefused.{AbandonRefused}
use Rattle.fa_machine.specs.declared.refusals.ClaimRefused.TheVariants.{Claimed, NoMemory as ClaimNoMemory}
use Rattle.fa_machine.specs.declared.refusals.CommitCopyRefused.{CommitCopyRefused}
use Rattle.fa_machine.specs.declared.refusals.CommitCopyRefused.TheVariants.{Failed as CopyFailed, Pending as CopyPending}
use Rattle.fa_machine.specs.declared.refusals.CommitRefused.{CommitRefused}
use Rattle.fa_machine.specs.declared.refusals.FlushRefused.TheVariants.{Spent}
use Rattle.fa_machine.specs.declared.refusals.ReserveCopyRefused.TheVariants.{Busy as CopyBusy, Gone, NoRoom}
use Rattle.fa_machine.specs.declared.refusals.ReserveRefused.{ReserveRefused}
use Rattle.fa_types.specs.declared.kind.Kind.TheVariants.{Data, Hole}
use Rattle.fa_machine.specs.declared.refusals.SpareRefused.TheVariants.{NotSpare}
use Rattle.fa_machine.specs.declared.refusals.WindowRefused.TheVariants.{Busy as WindowBusy, HasOne, NoMemory as WindowNoMemory}
use Rattle.fa_sound.specs.Sound.{IsSound}
use Rattle.fa_types.specs.declared.kind.Kind.{Kind}
use Rattle.fa_types.specs.declared.numbers.Seq.{Seq}
use Rattle.std.proofs.Common.{Bool, List, None, Option, Some, ap, arith, cond, false, inl, inr, not, refl, subst, suc, sym, true, ℕ, ◌+◌, ◌∙◌}
use Rattle.std.proofs.Common.{◌≡◌, ◌≤◌, nat_lt}
use Rattle.std.proofs.lemmas.Bool.{and_parts, false≢true, ltb-false, not-true, or_cases, or_left, or_parts}
use Rattle.std.proofs.lemmas.Option.{none-some}
use Rattle.std.specs.FinMap.{FinMap, contains_key, empty, empty_of_len, get, get-empty, insert, len}
use Rattle.std.specs.Ordering.{nat_cmp}
use Rattle.std.specs.Prelude.{Err, Ok, Result, is_none, is_some, option_and_then, option_map, ◌&&◌}

-- what holds of each world that a run leads to
pub record Kept (w : World) : Type 0 where
  pub held : HoldsRanged w
  pub sound : IsSound w.core
  pub known : Known (sight_of w)

abbrev pub SoundLaw : Type 0
SoundLaw = (old new : Core) (act : Act) → Step old act new → IsSound old → IsSound new

abbrev pub BeginsSound : Type 0
BeginsSound = (w : World) → IsBeginning w → IsSound w.core

abbrev KnownNext : World → Act → Core → Type 0
KnownNext w act core = Known (sight_of (next act core w))

to_next : (w : World) (act : Act) (x core : Core) → core ≡ x → KnownNext w act x → KnownNext w act core
to_next w act x core e known = subst (λ (c : Core). KnownNext w act c) (sym e) known

unreserved : (a b c : Bool) → (a && not b && c) ≡ true → b ≡ false
unreserved true false c e = refl
unreserved true true c e = absurd (false≢true e)
unreserved false b c e = absurd (false≢true e)

third_refusal : {R : Type 0} (a b c : Bool) (x y z : R) → cond a (Some x) (cond b (Some y) (cond c (Some z) None)) ≡ None → c ≡ false
third_refusal true b c x y z e = absurd (none-some x (sym e))
third_refusal false true c x y z e = absurd (none-some y (sym e))
third_refusal false false true x y z e = absurd (none-some z (sym e))
third_refusal false false false x y z e = refl

programmed_then : (alive programmed : Bool) → (alive && not programmed) ≡ false → not alive ≡ false → programmed ≡ true
programmed_then true true e f = refl
programmed_then true false e f = absurd (false≢true (sym e))
programmed_then false programmed e f = absurd (false≢true (sym f))

module _ (w : World) (h : Holds w) (s : IsSound w.core) (k : Known (sight_of w)) where
  reserves : (claim least : ℕ) (kind : Kind) (payload : List ℕ) → is_reserved w.core claim ≡ false → (seq : Seq) (core : Core)
      → Reserves w.core claim least kind payload (Ok seq) core
      → Known (sight_of (record (with_payload claim seq.0 payload w) { core = core; moment = suc w.moment }))
  reserves claim least kind payload free seq core d =
      subst (λ (c : Core). Known (sight_of (record (with_payload claim seq.0 payload w) { core = c; moment = suc w.moment }))) (sym d.2)
      (subst (λ (n : ℕ). Known (sight_of (record (with_payload claim n payload w) { core = reserved claim kind payload w.core; moment = suc w.moment }))) (sym d.1)
      (reserve_known w h k claim kind payload free))

  reserve_refused : (claim least : ℕ) (kind : Kind) (payload : List ℕ) (refused : ReserveRefused) (core : Core)
      → Reserves w.core claim least kind payload (Err refused) core → Known (sight_of (record w { core = core; moment = suc w.moment }))
  reserve_refused claim least kind payload refused core d = subst (λ (c : Core). Known (sight_of (record w { core = c; moment = suc w.moment }))) (sym d.1) k

  commits : (claim seat : ℕ) (o : Option Reservation) → reserved_under w.core claim ≡ o → (answer : Result Seq CommitRefused) (core : Core)
      → Commits w.core claim seat o answer core → KnownNext w (Commit claim seat answer) core
  commits claim seat None is answer core d = absurd d
  commits claim seat (Some r) is (Ok seq) core d =
      to_next w (Commit claim seat (Ok seq)) (committed claim seat r w.core) core d.2 (commit_known w h s k claim r is seat d.0)
  commits claim seat (Some r) is (Err refused) core d = to_next w (Commit claim seat (Err refused)) w.core core d.1 k

  abandons : (claim : ℕ) (o : Option Reservation) → reserved_under w.core claim ≡ o → (answer : Result (Unit {0}) AbandonRefused) (core : Core)
      → Abandons w.core claim o answer core → KnownNext w (Abandon claim answer) core
  abandons claim None is answer core d = absurd d
  abandons claim (Some r) is (Ok made) core d = to_next w (Abandon claim (Ok made)) _ core d.1 (abandon_known w h s k claim r is d.0)
  abandons claim (Some r) is (Err refused) core d = to_next w (Abandon claim (Err refused)) w.core core d.1 k

  copies : (o : Option Copying) → w.core.copying ≡ o → (answer : Result Copied CommitCopyRefused) (core : Core) → CommitsCopy w.core o answer core
      → KnownNext w (CommitCopy answer) core
  copies None is answer core d = absurd d
  copies (Some c) is (Ok Current) core d =
      let none = no_refusal (is_live w.core.page_map c.target.die.0 && not c.target.programmed) (not (is_live w.core.page_map c.target.die.0)) CopyPending CopyFailed d.0 in
      to_next w (CommitCopy (Ok Current)) _ core d.2
      (copy_known w h s k c is (inl (programmed_then (is_live w.core.page_map c.target.die.0) c.target.programmed none.0 none.1)))
  copies (Some c) is (Ok Late) core d =
      let none = no_refusal (is_live w.core.page_map c.target.die.0 && not c.target.programmed) (not (is_live w.core.page_map c.target.die.0)) CopyPending CopyFailed d.0 in
      to_next w (CommitCopy (Ok Late)) _ core d.2
      (copy_known w h s k c is (inl (programmed_then (is_live w.core.page_map c.target.die.0) c.target.programmed none.0 none.1)))
  copies (Some c) is (Err CopyPending) core d = to_next w (CommitCopy (Err CopyPending)) w.core core d.1 k
  copies (Some c) is (Err CopyFailed) core d =
      to_next w (CommitCopy (Err CopyFailed)) _ core d.1
      (copy_known w h s k c is (inr (failed (is_live w.core.page_map c.target.die.0) c.target.programmed d.0)))
    where
      failed : (alive programmed : Bool) → cond (alive && not programmed) (Some CopyPending) (cond (not alive) (Some CopyFailed) None) ≡ Some CopyFailed → alive ≡ false
      failed false programmed e = refl
      failed true true e = absurd (none-some CopyFailed e)
      failed true false e = absurd (false≢true (ap is_failed e))
        where
          is_failed : Option CommitCopyRefused → Bool
          is_failed (Some CopyFailed) = true
          is_failed refused = false

  event_known : (act : Act) (core : Core) → allowed w.core act ≡ true → Does w.core act core → IsTold w act → KnownNext w act core
  event_known (Claim page (Ok id)) core may d told = to_next w (Claim page (Ok id)) _ core d.2 (claim_known w k page id.0 d.1)
  event_known (Claim page (Err Claimed)) core may d told = to_next w (Claim page (Err Claimed)) w.core core d.1 k
  event_known (Claim page (Err ClaimNoMemory)) core may d told = to_next w (Claim page (Err ClaimNoMemory)) w.core core d.1 k
  event_known (Release claim) core may d told =
      to_next w (Release claim) _ core d (release_known w k claim (not-true (is_reserved w.core claim) (and_parts (contains_key w.core.claims claim) _ may).1))
  event_known (Reserve claim payload (Ok seq)) core may d told = reserves claim _ _ payload (unreserved _ (is_reserved w.core claim) _ may) seq core d
  event_known (Reserve claim payload (Err refused)) core may d told = reserve_refused claim _ Data payload refused core d
  event_known (ReserveHole claim (Ok seq)) core may d told =
      reserves claim _ _ (zeros w.core.page_map) (not-true (is_reserved w.core claim) (and_parts (contains_key w.core.claims claim) _ may).1) seq core d
  event_known (ReserveHole claim (Err refused)) core may d told = reserve_refused claim _ Hole (zeros w.core.page_map) refused core d
  event_known (ReserveFewer claim payload (Ok seq)) core may d told = reserves claim _ _ payload (unreserved _ (is_reserved w.core claim) _ may) seq core d
  event_known (ReserveFewer claim payload (Err refused)) core may d told = reserve_refused claim _ Data payload refused core d
  event_known (Commit claim seat answer) core may d told = commits claim seat (reserved_under w.core claim) refl answer core d
  event_known (Abandon claim answer) core may d told = abandons claim (reserved_under w.core claim) refl answer core d
  event_known (Admit pages (Ok admitted)) core may d told = to_next w (Admit pages (Ok admitted)) _ core d.2 k
  event_known (Admit pages (Err refused)) core may d told = to_next w (Admit pages (Err refused)) w.core core d.1 k
  event_known (Replan batch (Ok planned)) core may d told = to_next w (Replan batch (Ok planned)) _ core d.1 k
  event_known (Replan batch (Err refused)) core may d told = to_next w (Replan batch (Err refused)) w.core core d.1 k
  event_known (EndBatch batch answer) core may d told = to_next w (EndBatch batch answer) _ core d.1 k
  event_known (Take die seat answer) core may d told = take_known w h k die seat answer core d
  event_known (Done die outcome) core may d told = done_known w h s k die outcome core may told d
  event_known (Window die count (Ok first)) core may d told = to_next w (Window die count (Ok first)) _ core d.3 k
  event_known (Window die count (Err WindowBusy)) core may d told = to_next w (Window die count (Err WindowBusy)) w.core core d.1 k
  event_known (Window die count (Err HasOne)) core may d told = to_next w (Window die count (Err HasOne)) w.core core d.2 k
  event_known (Window die count (Err WindowNoMemory)) core may d told = to_next w (Window die count (Err WindowNoMemory)) w.core core d.2 k
  event_known (Advance (Ok round)) core may d told = to_next w (Advance (Ok round)) _ core d.2 k
  event_known (Advance (Err refused)) core may d told = to_next w (Advance (Err refused)) w.core core d.1 k
  event_known (SpareIn die (Ok made)) core may d told =
      to_next w (SpareIn die (Ok made)) _ core d.1 (spare_known w h k die d.0 (w.core.epoch + 1) (insert w.core.page_map.live die tt))
  event_known (SpareIn die (Err NotSpare)) core may d told = to_next w (SpareIn die (Err NotSpare)) w.core core d.1 k
  event_known (ReserveCopy page seq payload (Ok made)) core may d told =
      to_next w (ReserveCopy page seq payload (Ok made)) _ core d.1
      (reserve_copy_known w h k page payload _ _ (third_refusal (not (is_thin w.core.copies w.core.page_map page && has_number seq (get w.core.page_map.versions page)))
      (is_none (copy_place w.core.copies w.core.page_map page)) (copy_open w.core) Gone NoRoom CopyBusy d.0))
  event_known (ReserveCopy page seq payload (Err refused)) core may d told = to_next w (ReserveCopy page seq payload (Err refused)) w.core core d.1 k
  event_known (CommitCopy answer) core may d told = copies w.core.copying refl answer core d
  event_known (FlushBegin (Ok flush)) core may d told = to_next w (FlushBegin (Ok flush)) _ core d.3 k
  event_known (FlushBegin (Err Spent)) core may d told = to_next w (FlushBegin (Err Spent)) w.core core d.1 k
  event_known (FlushState flush answer) core may d told = to_next w (FlushState flush answer) w.core core d.1 k
  event_known Fold core may d told = to_next w Fold _ core d k

pub happens_kept : SoundLaw → (before : World) (happening : Happening) (after : World) → Kept before → Happens before happening after → Kept after
happens_kept law before (Event act) after kept happens = record {
  held = happens_ranged before (Event act) after kept.held happens;
  sound = law before.core after.core act happens.step kept.sound;
  known = subst (λ (v : World). Known (sight_of v)) (sym happens.follows)
      (event_known before kept.held.holds kept.sound kept.known act after.core happens.step.allows happens.step.does happens.told);
}
happens_kept law before (ImageCall die gave) after kept happens = record {
  held = happens_ranged before (ImageCall die gave) after kept.held happens;
  sound = subst IsSound (sym (calls_core before after die (before.works die) gave happens)) kept.sound;
  known = call_known before kept.held.holds kept.held.ranged kept.sound kept.known die gave after happens;
}

abbrev is_empty_cell : Cell → Bool
is_empty_cell Empty = true
is_empty_cell cell = false

-- At a beginning a spare is erased, so a good cell is one of a live die.
beginning_known : (w : World) → IsBeginning w → AreOfLast w → Known (sight_of w)
beginning_known w b last = record {
  cells = λ page die slot version payload low there inside fine cell.
      elim (or_cases (is_live w.core.page_map die) (contains_key w.core.spares die) there) [
        | inl alive ↦ inl (last page die slot version payload low alive (record { inside = inside; sealed = cell }))
        | inr spare ↦ absurd (false≢true (ap is_empty_cell (sym cell
            ∙ subst (StandsAt w die slot) (unused die slot spare) (b.stands die slot there inside))))
      ];
  waits = λ p among. absurd (subst (Among p) (ap (λ (c : Core). c.waiting) b.fresh) among);
  programs = λ die work page version slot e flight. absurd (none-some work (sym (b.idle die) ∙ e));
}
  where
    unused : (die slot : ℕ) → contains_key w.core.spares die ≡ true → used_at w.core.page_map die slot ≡ None
    unused die slot spare = none_used (used_at w.core.page_map die slot) refl
      where
        none_used : (u : Option Used) → used_at w.core.page_map die slot ≡ u → u ≡ None
        none_used None e = refl
        none_used (Some u) e = absurd (false≢true (sym (b.spares die spare).1 ∙ (b.used die slot (ap is_some e)).0))

pub beginning_kept : BeginsSound → (w : World) → IsBeginning w → AreOfLast w → Kept w
beginning_kept law w b last = record {
  held = record { holds = beginning_holds w b; ranged = λ d k u e. (b.used d k (ap is_some e)).1 };
  sound = law w b;
  known = beginning_known w b last;
}

pub run_kept : BeginsSound → SoundLaw → (first w : World) (happenings : List Happening) → IsBeginning first → AreOfLast first → Run first happenings w → Kept w
run_kept begins law first w happenings b last run =
    run_keeps Kept (happens_kept law) first happenings w (beginning_kept begins first b last) run

no_work : (o : Option Work) → option_map {T = Work} (λ k. k.job.flight) o ≡ None → has_failed o ≡ false
no_work None e = refl
no_work (Some k) e = absurd (none-some k.job.flight (sym e))

-- where nothing is open no write is coming
pub open_nothing : (w : World) → Kept w → is_busy w.core ≡ false → AreOfLast w
open_nothing w kept busy page die slot version payload low alive cell =
    elim (kept.known.cells page die slot version payload low (or_left (is_live w.core.page_map die) (contains_key w.core.spares die) alive)
    cell.inside fine cell.sealed) [
      | inl last ↦ last
      | inr c ↦ absurd (none-some c.owned (sym (ap (option_and_then owned_claim) (ap (λ (m : FinMap nat_cmp OpenClaim). get m c.claim) no_claims
          ∙ get-empty nat_cmp c.claim)) ∙ c.at.owns))
    ]
  where
    none : len w.core.jobs + len w.core.claims + len w.core.batches ≤ 0
    none = ltb-false 0 _ (or_parts (nat_lt 0 (len w.core.jobs + len w.core.claims + len w.core.batches)) (copy_open w.core) busy).0

    no_claims : w.core.claims ≡ empty
    no_claims = empty_of_len w.core.claims (omega (arith, none))

    no_jobs : w.core.jobs ≡ empty
    no_jobs = empty_of_len w.core.jobs (omega (arith, none))

    fine : has_failed (w.works die) ≡ false
    fine = no_work (w.works die)
        (sym (kept.held.holds.jobs die) ∙ ap (λ (m : FinMap nat_cmp Flight). get m die) no_jobs ∙ get-empty nat_cmp die)
