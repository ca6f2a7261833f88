use Rattle.std.proofs.Common.{ℕ, ◌≡◌, ◌&&◌, ◌||◌, not, refl, ap, ◌∙◌, arith}
use Rattle.fa_calendar.specs.Dies.{closed_by, is_at, KeepsDies}
use Rattle.fa_calendar.proofs.Places.{keeps_trans}
use Rattle.fa_calendar.proofs.Sound.{exchanged_sound, exchanged_booked, exchanged_full, free_once, full_then, restored_closed, restored_room, same_sound, same_booked}
use Rattle.fa_calendar.proofs.Idle.{idle_exchanged, idle_same}
use Rattle.fa_calendar.proofs.calendar.Calendar.exchange.Given.{Over}
use Rattle.fa_calendar.proofs.calendar.Calendar.exchange.Goals as goal
use Rattle.fa_calendar.proofs.calendar.Calendar.exchange.Goals.{After-restore_all, In_default, In-Err}

pub book_all-requires-clause-free : goal.book_all-requires-clause-free
book_all-requires-clause-free g c =
    free_once c.args.self.now.current c.args.self.now.dies.items c.args.self.now.sound c.args.old.now c.args.new.now c.requires.booked c.requires.opens c.open_all.new.dies.items c.open_all.ensures.opened

-- refused, what was released is closed as before
released : (g : Over) (c : In-Err g) → (die round : ℕ) → closed_by c.book_all.new.dies.items die round ≡ (closed_by c.args.self.now.dies.items die round && not (is_at c.args.old.now die round))
released g c die round = c.in-Err.ensures.err die round ∙ c.open_all.ensures.opened die round

back : (g : Over) (c : After-restore_all g) → (die round : ℕ) → closed_by c.restore_all.new.dies.items die round ≡ closed_by c.args.self.now.dies.items die round
back g c = restored_closed c.args.self.now.current c.args.self.now.dies.items c.args.self.now.sound c.args.old.now c.args.new.now c.requires.booked c.requires.opens c.restore_all.new.dies.items
    (λ die round. c.restore_all.ensures.closed die round ∙ ap (λ b. b || is_at c.args.old.now die round) (c.in-Err.ensures.err die round ∙ c.open_all.ensures.opened die round))

keeps_back : (g : Over) (c : After-restore_all g) → KeepsDies c.args.self.now.dies.items c.restore_all.new.dies.items
keeps_back g c =
    keeps_trans c.args.self.now.dies.items c.book_all.new.dies.items c.restore_all.new.dies.items
    (keeps_trans c.args.self.now.dies.items c.open_all.new.dies.items c.book_all.new.dies.items c.open_all.ensures.kept c.book_all.ensures.kept) c.restore_all.ensures.kept

keeps_on : (g : Over) (c : In_default g) → KeepsDies c.args.self.now.dies.items c.book_all.new.dies.items
keeps_on g c = keeps_trans c.args.self.now.dies.items c.open_all.new.dies.items c.book_all.new.dies.items c.open_all.ensures.kept c.book_all.ensures.kept

pub restore_all-requires-clause-room : goal.restore_all-requires-clause-room
restore_all-requires-clause-room g c =
    restored_room c.args.self.now.current c.args.self.now.dies.items c.args.self.now.sound c.args.old.now c.args.new.now c.requires.booked c.requires.opens c.book_all.new.dies.items
    (λ die. let one = c.open_all.ensures.kept.rooms die in let two = c.book_all.ensures.kept.rooms die in omega (arith, one, two))
    (released g (goal.at.restore_all-requires-clause-room g c).In-Err)

pub invariant_of-self : goal.invariant_of-self
invariant_of-self g c =
    let at = (goal.at.invariant_of-self g c).After-restore_all in
    record {
      sound = same_sound c.args.self.now.current c.args.self.now.dies.items c.restore_all.new.dies.items c.args.self.now.sound
          (keeps_back g at) (back g at);
      idle = idle_same c.args.self.now.busy c.enter_all.new.busy c.args.self.now.dies.items
          c.restore_all.new.dies.items c.args.self.now.idle c.enter_all.ensures.kept (keeps_back g at) (back g at);
    }

pub returns-in-Err-clause-full : goal.returns-in-Err-clause-full
returns-in-Err-clause-full g c = λ is.
    let over = c.in-Err.ensures.full is in
    let many = full_then c.args.old.now c.args.new.now c.args.self.now.dies.items c.open_all.new.dies.items c.open_all.ensures.opened over.0 over.1 over.2 in
    (over.0, exchanged_full c.args.self.now.current c.args.self.now.dies.items c.args.self.now.sound c.args.old.now c.args.new.now c.requires.booked c.requires.opens over.0 over.1 many)

pub returns-in-Err-clause-err : goal.returns-in-Err-clause-err
returns-in-Err-clause-err g c =
    let at = (goal.at.returns-in-Err-clause-err g c).After-restore_all in
    let keeps = keeps_back g at in
    record { current = refl; booked = same_booked c.args.self.now.dies.items c.restore_all.new.dies.items keeps (back g at); windows = keeps.windows }

-- accepted, the places are exchanged
exchanged : (g : Over) (c : In_default g) → (die round : ℕ) → closed_by c.book_all.new.dies.items die round
    ≡ ((closed_by c.args.self.now.dies.items die round && not (is_at c.args.old.now die round)) || is_at c.args.new.now die round)
exchanged g c die round = c.in_default.ensures.ok die round ∙ ap (λ b. b || is_at c.args.new.now die round) (c.open_all.ensures.opened die round)

pub invariant_of-self-in_default : goal.invariant_of-self-in_default
invariant_of-self-in_default g c =
    let at = (goal.at.invariant_of-self-in_default g c).In_default in
    record {
      sound = exchanged_sound c.args.self.now.current c.args.self.now.dies.items c.args.self.now.sound c.args.old.now c.args.new.now
          c.requires.booked c.requires.opens c.book_all.new.dies.items (keeps_on g at) (exchanged g at);
      idle = idle_exchanged c.args.self.now.busy c.enter_all.new.busy c.args.self.now.dies.items
          c.book_all.new.dies.items c.args.old.now c.args.new.now c.args.self.now.idle c.enter_all.ensures.kept (keeps_on g at)
          (exchanged g at) c.enter_all.ensures.entered;
    }

pub returns-clause-ok : goal.returns-clause-ok
returns-clause-ok g c =
    let at = (goal.at.returns-clause-ok g c).In_default in
    exchanged_booked c.args.self.now.current c.args.self.now.dies.items c.args.self.now.sound c.args.old.now c.args.new.now c.requires.booked c.requires.opens c.book_all.new.dies.items (keeps_on g at) (exchanged g at)
