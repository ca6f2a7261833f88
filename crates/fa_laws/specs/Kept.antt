-- What single events keep, for the laws: how a die may go out, and which events change the live dies, the numbers of
-- pages and the plain array.
use Rattle.std.specs.Prelude.{◌≡◌, ◌⊎◌, ◌+◌, ◌-◌, ℕ, Option, Some, None, Ok, nat_lt}
use Rattle.std.specs.FinMap.{insert, remove}
use Rattle.fa_machine.specs.Maps.{keep}
use Rattle.fa_machine.specs.declared.jobs.Flight.{Flight}
use Rattle.fa_machine.specs.declared.jobs.Flight.TheVariants.{Read}
use Rattle.fa_machine.specs.Cells.{Outcome, DidRead, Fault, Wrong, payload_of}
use Rattle.fa_machine.specs.State.{Core}
use Rattle.fa_machine.specs.Step.{Act, Advance, Commit, Done, SpareIn, Window}
use Rattle.fa_machine.specs.World.{World}

-- An outcome that takes a die out: a fault, a move's wrong slot, or a read that gave anything but the page asked for.
abbrev pub IsFatal : ℕ → Option Flight → Outcome → Type 0
IsFatal die flight (Fault call) = Unit {0}
IsFatal die flight Wrong = Unit {0}
IsFatal die (Some (Read batch page version slot)) (DidRead cell) = payload_of page.0 version die slot.0 cell ≡ None
IsFatal die flight outcome = ⊥

-- no event but Done and SpareIn changes which dies are live
abbrev pub KeepsLive : Core → Act → Core → Type 0
KeepsLive old (Done die outcome) new = Unit {0}
KeepsLive old (SpareIn die answer) new = Unit {0}
KeepsLive old act new = new.page_map.live ≡ old.page_map.live

-- none but SpareIn changes which spares there are
abbrev pub KeepsSpares : Core → Act → Core → Type 0
KeepsSpares old (SpareIn die answer) new = Unit {0}
KeepsSpares old act new = new.spares ≡ old.spares

-- none but Commit changes the number of a page
abbrev pub KeepsNumbers : Core → Act → Core → Type 0
KeepsNumbers old (Commit claim seat answer) new = Unit {0}
KeepsNumbers old act new = new.page_map.versions ≡ old.page_map.versions

-- none but Commit changes the plain array
abbrev pub KeepsPlain : World → Act → World → Type 0
KeepsPlain before (Commit claim seat answer) after = Unit {0}
KeepsPlain before act after = after.plain ≡ before.plain

-- A window comes by Window alone, and goes by an Advance past its last round, or with its die.
abbrev pub KeepsWindows : Core → Act → Core → Type 0
KeepsWindows old (Window die count (Ok first)) new =
    new.calendar.windows ≡ insert old.calendar.windows die (record { first = first; last = record { 0 = first.0 + count - 1 } })
KeepsWindows old (Advance (Ok round)) new =
    new.calendar.windows ≡ keep (λ die window. nat_lt old.calendar.round window.last.0) old.calendar.windows
KeepsWindows old (Done die outcome) new =
    (new.calendar.windows ≡ old.calendar.windows)
    ⊎ ((new.calendar.windows ≡ remove old.calendar.windows die) × (new.page_map.live ≡ remove old.page_map.live die))
KeepsWindows old act new = new.calendar.windows ≡ old.calendar.windows

-- none but Advance changes the round
abbrev pub KeepsRound : Core → Act → Core → Type 0
KeepsRound old (Advance (Ok round)) new = (round.0 ≡ old.calendar.round + 1) × (new.calendar.round ≡ round.0)
KeepsRound old act new = new.calendar.round ≡ old.calendar.round
