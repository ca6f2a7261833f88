-- The events of the array with their answers, the conditions under which callers may make them, and what each does.
use Rattle.std.specs.Prelude.{◌≡◌, ℕ, min, Bool, true, false, not, ◌==◌, ◌&&◌, nat_lt, nat_le}
use Rattle.std.specs.Prelude.{IsTrue, List, [], ◌∷◌, length, Option, Result}
use Rattle.std.specs.Option.{option_map_or}
use Rattle.std.specs.List.{list_all}
use Rattle.std.specs.FinMap.{get, remove}
use Rattle.fa_types.specs.declared.numbers.Round.{Round}
use Rattle.fa_types.specs.declared.numbers.Seq.{Seq}
use Rattle.fa_machine.specs.declared.answers.Copied.{Copied}
use Rattle.fa_machine.specs.declared.answers.Flush.{Flush}
use Rattle.fa_machine.specs.declared.answers.FlushState.{FlushState as StateOfFlush}
use Rattle.fa_machine.specs.declared.ids.ClaimId.{ClaimId}
use Rattle.fa_types.specs.declared.kind.Kind.TheVariants.{Data, Hole}
use Rattle.fa_machine.specs.declared.refusals.AbandonRefused.{AbandonRefused}
use Rattle.fa_machine.specs.declared.refusals.AdmitRefused.{AdmitRefused}
use Rattle.fa_machine.specs.declared.refusals.AdvanceRefused.{AdvanceRefused}
use Rattle.fa_machine.specs.declared.refusals.ClaimRefused.{ClaimRefused}
use Rattle.fa_machine.specs.declared.refusals.CommitCopyRefused.{CommitCopyRefused}
use Rattle.fa_machine.specs.declared.refusals.CommitRefused.{CommitRefused}
use Rattle.fa_machine.specs.declared.refusals.FlushRefused.{FlushRefused}
use Rattle.fa_machine.specs.declared.refusals.ReserveCopyRefused.{ReserveCopyRefused}
use Rattle.fa_machine.specs.declared.refusals.ReserveRefused.{ReserveRefused}
use Rattle.fa_machine.specs.declared.refusals.SpareRefused.{SpareRefused}
use Rattle.fa_machine.specs.declared.refusals.WindowRefused.{WindowRefused}
use Rattle.fa_machine.specs.Cells.{Sealed, Outcome, DidRead, is_of_kind}
use Rattle.fa_machine.specs.Conditions.{claim_open, is_reserved, reserved_under, batch_open, copy_open, history_full}
use Rattle.fa_machine.specs.Flushing.{BeginsFlush, flush_state, Folds}
use Rattle.fa_machine.specs.Maps.{is_one_of}
use Rattle.fa_machine.specs.Reading.{Admitted, Planned, Admits, Replans, EndsBatch, zeros}
use Rattle.fa_machine.specs.State.{Core}
use Rattle.fa_machine.specs.Placement.{copies_asked}
use Rattle.fa_machine.specs.Taking.{Handed, Takes, EndsJob}
use Rattle.fa_machine.specs.Turning.{TakesWindow, Advances, BringsIn, ReservesCopy, CommitsCopy}
use Rattle.fa_machine.specs.Writing.{Claims, Reserves, Commits, Abandons}

-- an event, with its arguments and its answer
pub data Act : Type 0 where
  Claim : (page : ℕ) (answer : Result ClaimId ClaimRefused) → Act
  Release : (claim : ℕ) → Act
  Reserve : (claim : ℕ) (payload : List ℕ) (answer : Result Seq ReserveRefused) → Act
  ReserveHole : (claim : ℕ) (answer : Result Seq ReserveRefused) → Act
  ReserveFewer : (claim : ℕ) (payload : List ℕ) (answer : Result Seq ReserveRefused) → Act
  Commit : (claim seat : ℕ) (answer : Result Seq CommitRefused) → Act
  Abandon : (claim : ℕ) (answer : Result (Unit {0}) AbandonRefused) → Act
  Admit : (pages : List ℕ) (answer : Result Admitted AdmitRefused) → Act
  Replan : (batch : ℕ) (answer : Result Planned AdmitRefused) → Act
  EndBatch : (batch : ℕ) (answer : List (ℕ × List ℕ)) → Act
  Take : (die seat : ℕ) (answer : Option Handed) → Act
  Done : (die : ℕ) (outcome : Outcome) → Act
  Window : (die count : ℕ) (answer : Result Round WindowRefused) → Act
  Advance : (answer : Result Round AdvanceRefused) → Act
  SpareIn : (die : ℕ) (answer : Result (Unit {0}) SpareRefused) → Act
  ReserveCopy : (page seq : ℕ) (payload : List ℕ) (answer : Result (Unit {0}) ReserveCopyRefused) → Act
  CommitCopy : (answer : Result Copied CommitCopyRefused) → Act
  FlushBegin : (answer : Result Flush FlushRefused) → Act
  FlushState : (flush : Flush) (answer : StateOfFlush) → Act
  Fold : Act

abbrev pub is_page : Core → ℕ → Bool
is_page core page = nat_lt page core.page_map.geometry.pages

abbrev pub is_die : Core → ℕ → Bool
is_die core die = nat_lt die core.page_map.geometry.dies

-- as many bytes as a page has
abbrev pub is_sized : Core → List ℕ → Bool
is_sized core payload = length payload == core.page_map.geometry.page_bytes

abbrev pub is_distinct : List ℕ → Bool
is_distinct [] = true
is_distinct (n ∷ ns) = not (is_one_of ns n) && is_distinct ns

abbrev pub is_sized_read : Core → Outcome → Bool
is_sized_read core (DidRead (Sealed page version die slot payload)) = is_sized core payload
is_sized_read core outcome = true

-- The conditions of each event, which a caller can test. Those that are not named have none. A Done has an outcome of
-- the kind of the job in flight.
abbrev pub allowed : Core → Act → Bool
allowed core (Claim page answer) = is_page core page
allowed core (Release claim) = claim_open core claim && not (is_reserved core claim)
allowed core (Reserve claim payload answer) = claim_open core claim && not (is_reserved core claim) && is_sized core payload
allowed core (ReserveHole claim answer) = claim_open core claim && not (is_reserved core claim)
allowed core (ReserveFewer claim payload answer) = claim_open core claim && not (is_reserved core claim) && is_sized core payload
allowed core (Commit claim seat answer) = is_reserved core claim && not (history_full core)
allowed core (Abandon claim answer) = is_reserved core claim
allowed core (Admit pages answer) = is_distinct pages && list_all (is_page core) pages && nat_le (length pages) 1024
allowed core (Replan batch answer) = batch_open core batch
allowed core (EndBatch batch answer) = batch_open core batch
allowed core (Take die seat answer) = is_die core die && not (history_full core)
allowed core (Done die outcome) = option_map_or (λ job. is_of_kind job outcome) (get core.jobs die) false && is_sized_read core outcome
allowed core (Window die count answer) = is_die core die && nat_le 1 count && nat_le count 64
allowed core (SpareIn die answer) = is_die core die
allowed core (ReserveCopy page seq payload answer) = is_page core page && is_sized core payload
allowed core (CommitCopy answer) = copy_open core
allowed core act = true

-- What each event does: which answers it may have, and the state after. A write wants a slot on each die that it asks for; on
-- fewer dies one is enough, where a die is live.
abbrev pub Does : Core → Act → Core → Type 0
Does old (Claim page answer) new = Claims old page answer new
Does old (Release claim) new = new ≡ record old { claims = remove old.claims claim }
Does old (Reserve claim payload answer) new = Reserves old claim (copies_asked old.copies old.page_map) Data payload answer new
Does old (ReserveHole claim answer) new = Reserves old claim (copies_asked old.copies old.page_map) Hole (zeros old.page_map) answer new
Does old (ReserveFewer claim payload answer) new = Reserves old claim (min 1 (copies_asked old.copies old.page_map)) Data payload answer new
Does old (Commit claim seat answer) new = Commits old claim seat (reserved_under old claim) answer new
Does old (Abandon claim answer) new = Abandons old claim (reserved_under old claim) answer new
Does old (Admit pages answer) new = Admits old pages answer new
Does old (Replan batch answer) new = Replans old batch answer new
Does old (EndBatch batch answer) new = EndsBatch old batch answer new
Does old (Take die seat answer) new = Takes old die seat answer new
Does old (Done die outcome) new = EndsJob old die (get old.jobs die) outcome new
Does old (Window die count answer) new = TakesWindow old die count answer new
Does old (Advance answer) new = Advances old answer new
Does old (SpareIn die answer) new = BringsIn old die answer new
Does old (ReserveCopy page seq payload answer) new = ReservesCopy old page seq payload answer new
Does old (CommitCopy answer) new = CommitsCopy old old.copying answer new
Does old (FlushBegin answer) new = BeginsFlush old answer new
Does old (FlushState flush answer) new = (answer ≡ flush_state old flush) × (new ≡ old)
Does old Fold new = Folds old new

pub record Step (old : Core) (act : Act) (new : Core) : Type 0 where
  pub allows : IsTrue (allowed old act)
  pub does : Does old act new
