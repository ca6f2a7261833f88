use Rattle.std.proofs.Common.{ℕ, ◌≡◌, ◌&&◌, ◌||◌, not, [], refl, sym, ◌∙◌}
use Rattle.fa_calendar.specs.Dies.{booked_by, closed_by, is_at}
use Rattle.fa_calendar.proofs.Cases.{or_none}
use Rattle.fa_calendar.proofs.Sound.{exchanged_sound, exchanged_booked}
use Rattle.fa_calendar.proofs.Idle.{idle_exchanged}
use Rattle.fa_calendar.proofs.calendar.Calendar.release_all.Given.{Over}
use Rattle.fa_calendar.proofs.calendar.Calendar.release_all.Goals as goal
use Rattle.fa_calendar.proofs.calendar.Calendar.release_all.Goals.{After-open_all}

-- the places are exchanged for none
same : (g : Over) (c : After-open_all g) → (d r : ℕ) → closed_by c.open_all.new.dies.items d r ≡ ((closed_by c.args.self.now.dies.items d r && not (is_at c.args.places.now d r)) || is_at [] d r)
same g c d r = c.open_all.ensures.opened d r ∙ or_none (closed_by c.args.self.now.dies.items d r && not (is_at c.args.places.now d r))

pub invariant_of-self : goal.invariant_of-self
invariant_of-self g c =
    let at = (goal.at.invariant_of-self g c).After-open_all in
    record {
      sound = exchanged_sound c.args.self.now.current c.args.self.now.dies.items c.args.self.now.sound c.args.places.now []
          c.requires tt c.open_all.new.dies.items c.open_all.ensures.kept (same g at);
      idle = idle_exchanged c.args.self.now.busy c.args.self.now.busy c.args.self.now.dies.items
          c.open_all.new.dies.items c.args.places.now [] c.args.self.now.idle (λ die off. off) c.open_all.ensures.kept (same g at)
          (λ die round off. refl);
    }

pub returns-clause-booked : goal.returns-clause-booked
returns-clause-booked g c =
    let at = (goal.at.returns-clause-booked g c).After-open_all in
    λ d r. exchanged_booked c.args.self.now.current c.args.self.now.dies.items c.args.self.now.sound c.args.places.now [] c.requires tt c.open_all.new.dies.items c.open_all.ensures.kept (same g at) d r
    ∙ sym (or_none (booked_by c.args.self.now.dies.items d r && not (is_at c.args.places.now d r)))
