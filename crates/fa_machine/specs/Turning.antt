-- The events of the collector and the round, Window and Advance, and those of the rebuilder, SpareIn, ReserveCopy and
-- CommitCopy.
use Rattle.std.specs.Option.{option_map_or}
use Rattle.std.specs.Prelude.{◌≡◌, ℕ, ◌+◌, ◌-◌, ◌^◌, Bool, true, false, not, ◌==◌, ◌&&◌, ◌||◌, nat_lt, List, [], ◌∷◌, ◌++◌}
use Rattle.std.specs.Prelude.{Option, Some, None, is_none, is_some, Result, Ok, Err}
use Rattle.std.specs.List.{list_any}
use Rattle.std.specs.FinMap.{empty, insert, remove, contains_key, get, len}
use Rattle.fa_types.specs.declared.kind.Kind.{Kind}
use Rattle.fa_types.specs.declared.kind.Kind.TheVariants.{Data, Hole}
use Rattle.fa_types.specs.declared.numbers.Round.{Round}
use Rattle.fa_types.specs.Windows.{is_in_window, IsFirstWindow, IsFull}
use Rattle.fa_machine.specs.declared.answers.Copied.{Copied}
use Rattle.fa_machine.specs.declared.answers.Copied.TheVariants.{Current, Late}
use Rattle.fa_machine.specs.declared.jobs.Flight.{Flight}
use Rattle.fa_machine.specs.declared.jobs.Flight.TheVariants.{Move, Erase, Read}
use Rattle.fa_machine.specs.declared.places.Booking.{Booking}
use Rattle.fa_machine.specs.declared.places.Copying.{Copying}
use Rattle.fa_machine.specs.declared.places.Used.TheVariants.{Reserved, Held, Stale}
use Rattle.fa_machine.specs.declared.places.Version.{Version}
use Rattle.fa_machine.specs.declared.refusals.AdvanceRefused.{AdvanceRefused}
use Rattle.fa_machine.specs.declared.refusals.AdvanceRefused.TheVariants.{Pending as AdvancePending, Idle, Spent}
use Rattle.fa_machine.specs.declared.refusals.CommitCopyRefused.{CommitCopyRefused}
use Rattle.fa_machine.specs.declared.refusals.CommitCopyRefused.TheVariants.{Pending as CopyPending, Failed}
use Rattle.fa_machine.specs.declared.refusals.ReserveCopyRefused.{ReserveCopyRefused}
use Rattle.fa_machine.specs.declared.refusals.ReserveCopyRefused.TheVariants.{Gone, NoRoom, Busy as CopyBusy, NoMemory as CopyNoMemory}
use Rattle.fa_machine.specs.declared.refusals.SpareRefused.{SpareRefused}
use Rattle.fa_machine.specs.declared.refusals.SpareRefused.TheVariants.{NotSpare}
use Rattle.fa_machine.specs.declared.refusals.WindowRefused.{WindowRefused}
use Rattle.fa_machine.specs.declared.refusals.WindowRefused.TheVariants.{Busy as WindowBusy, HasOne, NoMemory as WindowNoMemory}
use Rattle.fa_machine.specs.Collecting.{victim}
use Rattle.fa_machine.specs.Conditions.{copy_open, first_that, Refuses}
use Rattle.fa_machine.specs.Maps.{keep}
use Rattle.fa_machine.specs.Placement.{copy_place, is_thin}
use Rattle.fa_machine.specs.Reading.{is_late, zeros}
use Rattle.fa_machine.specs.Rounds.{is_closed, is_taken, HasRoomFor}
use Rattle.fa_machine.specs.State.{Core, MapState, is_live, dies_of}
use Rattle.fa_machine.specs.Writing.{program_at, target_on, with_targets}

-- A die may have a window of so many rounds: it is live, rounds are left, and its calendar has room for them.
pub record MayHaveWindow (core : Core) (die count : ℕ) : Type 0 where
  pub live : is_live core.page_map die ≡ true
  pub early : is_late core.calendar ≡ false
  pub room : HasRoomFor core.calendar die count

-- Window: the first run of so many open rounds after the current one is the die's window. It is Busy where the die may have
-- none, and HasOne where one of the die has not passed.
abbrev pub TakesWindow : Core → ℕ → ℕ → Result Round WindowRefused → Core → Type 0
TakesWindow old die count (Ok first) new =
    MayHaveWindow old die count × (contains_key old.calendar.windows die ≡ false)
    × IsFirstWindow old.calendar.round (is_closed old.page_map old.calendar die) count first.0
    × (new ≡ record old {
      calendar = record (old.calendar) {
        windows = insert old.calendar.windows die (record { first = first; last = record { 0 = first.0 + count - 1 } });
      };
    })
TakesWindow old die count (Err WindowBusy) new =
    (is_live old.page_map die ≡ true → is_late old.calendar ≡ false → IsFull old.calendar.round (is_taken old.calendar die) count)
    × (new ≡ old)
TakesWindow old die count (Err HasOne) new =
    MayHaveWindow old die count × (contains_key old.calendar.windows die ≡ true) × (new ≡ old)
TakesWindow old die count (Err WindowNoMemory) new =
    MayHaveWindow old die count × (contains_key old.calendar.windows die ≡ false) × (new ≡ old)

abbrev pub is_reading : Option Flight → Bool
is_reading (Some (Read batch page version slot)) = true
is_reading flight = false

abbrev pub is_collecting : Option Flight → Bool
is_collecting (Some (Move page version from to)) = true
is_collecting (Some (Erase block)) = true
is_collecting flight = false

-- whether the read of a booking of this round has not ended, at a die with this job
abbrev pub is_read_pending : Option Flight → Option Booking → Bool
is_read_pending flight booking = option_map_or (λ b. not b.started || is_reading flight) booking false

-- whether the collector's step of this round is in flight, or is not done while there is one, as there is where there is a victim
abbrev pub is_step_pending : Core → ℕ → Bool
is_step_pending core die =
    is_in_window (get core.calendar.windows die) core.calendar.round
    && (is_collecting (get core.jobs die) || (not (contains_key core.stepped die) && is_some (victim core.page_map die)))

abbrev pub is_round_pending : Core → ℕ → Bool
is_round_pending core die =
    is_read_pending (get core.jobs die) (get core.calendar.bookings (die, core.calendar.round)) || is_step_pending core die

abbrev pub advance_refusal : Core → Option AdvanceRefused
advance_refusal core = first_that ((list_any (is_round_pending core) (dies_of core.page_map), AdvancePending)
    ∷ (len core.calendar.bookings == 0 && len core.calendar.windows == 0, Idle)
    ∷ (core.calendar.round == 2 ^ 56, Spent) ∷ [])

-- Advance: the round rises by 1. The bookings of the round that has passed go, and the windows that ended in it.
abbrev pub Advances : Core → Result Round AdvanceRefused → Core → Type 0
Advances old (Ok round) new =
    (advance_refusal old ≡ None) × (round.0 ≡ old.calendar.round + 1) × (new ≡ record old {
      calendar = record {
        round = old.calendar.round + 1;
        bookings = keep (λ place b. nat_lt old.calendar.round place.1) old.calendar.bookings;
        windows = keep (λ die window. nat_lt old.calendar.round window.last.0) old.calendar.windows;
      };
      stepped = empty;
    })
Advances old (Err refused) new = (advance_refusal old ≡ Some refused) × (new ≡ old)

-- SpareIn: a spare is live, and each live header is behind, its own among them.
abbrev pub BringsIn : Core → ℕ → Result (Unit {0}) SpareRefused → Core → Type 0
BringsIn old die (Ok done) new =
    (contains_key old.spares die ≡ true) × (new ≡ record old {
      page_map = record (old.page_map) { live = insert old.page_map.live die tt };
      epoch = old.epoch + 1;
      behind = insert old.page_map.live die tt;
      spares = remove old.spares die;
    })
BringsIn old die (Err NotSpare) new = (contains_key old.spares die ≡ false) × (new ≡ old)

abbrev pub has_number : ℕ → Option Version → Bool
has_number seq version = option_map_or (λ v. v.seq.0 == seq) version false

abbrev pub reserve_copy_refusal : Core → ℕ → ℕ → Option ReserveCopyRefused
reserve_copy_refusal core page seq = first_that (
    (not (is_thin core.copies core.page_map page && has_number seq (get core.page_map.versions page)), Gone)
    ∷ (is_none (copy_place core.copies core.page_map page), NoRoom)
    ∷ (copy_open core, CopyBusy) ∷ [])

-- what a copy of a write programs: a hole's is zeros
abbrev pub copied_payload : MapState → Kind → List ℕ → List ℕ
copied_payload m Data payload = payload
copied_payload m Hole payload = zeros m

-- the state in which one more copy of a page is under way to a die
abbrev pub copying_to : Core → ℕ → List ℕ → Option Version → Option ℕ → Core
copying_to core page payload (Some version) (Some die) =
    let t = target_on core.page_map die in record core {
      page_map = with_targets Reserved (t ∷ []) core.page_map;
      waiting = core.waiting ++ program_at page version (copied_payload core.page_map version.kind payload) t ∷ [];
      copying = Some (record { page = record { 0 = page }; version = version; target = t });
    }
copying_to core page payload version die = core

-- ReserveCopy: a slot for one more copy of a thin page, and its program.
abbrev pub ReservesCopy : Core → ℕ → ℕ → List ℕ → Result (Unit {0}) ReserveCopyRefused → Core → Type 0
ReservesCopy old page seq payload (Ok done) new =
    (reserve_copy_refusal old page seq ≡ None)
    × (new ≡ copying_to old page payload (get old.page_map.versions page) (copy_place old.copies old.page_map page))
ReservesCopy old page seq payload (Err refused) new = Refuses (reserve_copy_refusal old page seq) CopyNoMemory refused × (new ≡ old)

abbrev pub commit_copy_refusal : Core → Copying → Option CommitCopyRefused
commit_copy_refusal core c = first_that ((is_live core.page_map c.target.die.0 && not c.target.programmed, CopyPending)
    ∷ (not (is_live core.page_map c.target.die.0), Failed) ∷ [])

-- CommitCopy: the copy is current, or stale where the page has another number now. One whose die went out is over.
abbrev pub CommitsCopy : Core → Option Copying → Result Copied CommitCopyRefused → Core → Type 0
CommitsCopy old None answer new = ⊥
CommitsCopy old (Some c) (Ok Current) new =
    (commit_copy_refusal old c ≡ None) × (has_number c.version.seq.0 (get old.page_map.versions c.page.0) ≡ true)
    × (new ≡ record old { copying = None; page_map = with_targets (Held c.page c.version) (c.target ∷ []) old.page_map })
CommitsCopy old (Some c) (Ok Late) new =
    (commit_copy_refusal old c ≡ None) × (has_number c.version.seq.0 (get old.page_map.versions c.page.0) ≡ false)
    × (new ≡ record old { copying = None; page_map = with_targets Stale (c.target ∷ []) old.page_map })
CommitsCopy old (Some c) (Err CopyPending) new = (commit_copy_refusal old c ≡ Some CopyPending) × (new ≡ old)
CommitsCopy old (Some c) (Err Failed) new = (commit_copy_refusal old c ≡ Some Failed) × (new ≡ record old { copying = None })
