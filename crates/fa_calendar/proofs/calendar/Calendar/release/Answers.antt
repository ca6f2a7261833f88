use Rattle.std.proofs.Common.{ℕ, ◌≡◌, ◌&&◌, ◌||◌, not, nat_eq, [], ◌∷◌, refl, sym, ◌∙◌}
use Rattle.fa_batch_terms.specs.declared.place.Place.{Place}
use Rattle.fa_calendar.specs.Dies.{booked_by, closed_by, is_at}
use Rattle.fa_calendar.proofs.Cases.{one_is}
use Rattle.fa_calendar.proofs.Sound.{exchanged_sound, exchanged_booked}
use Rattle.fa_calendar.proofs.Idle.{idle_exchanged}
use Rattle.fa_calendar.proofs.calendar.Calendar.release.Given.{Over}
use Rattle.fa_calendar.proofs.calendar.Calendar.release.Goals as goal
use Rattle.fa_calendar.proofs.calendar.Calendar.release.Goals.{After-open_one}

-- the round as a place that is released
place : (g : Over) → After-open_one g → Place
place g c = record { page = record { 0 = 0 }; die = c.args.die; round = c.args.round }

same : (g : Over) (c : After-open_one g) → (d r : ℕ) → closed_by c.open_one.new.dies.items d r ≡ ((closed_by c.args.self.now.dies.items d r && not (is_at (place g c ∷ []) d r)) || is_at [] d r)
unfolding place
same g c d r = c.open_one.ensures.opened d r ∙ one_is (closed_by c.args.self.now.dies.items d r) (nat_eq c.args.die.0 d && nat_eq c.args.round.0 r)

pub invariant_of-self : goal.invariant_of-self
unfolding place
invariant_of-self g c =
    let at = (goal.at.invariant_of-self g c).After-open_one in
    record {
      sound = exchanged_sound c.args.self.now.current c.args.self.now.dies.items c.args.self.now.sound (place g at ∷ []) []
          (c.requires, tt) tt c.open_one.new.dies.items c.open_one.ensures.kept (same g at);
      idle = idle_exchanged c.args.self.now.busy c.args.self.now.busy c.args.self.now.dies.items
          c.open_one.new.dies.items (place g at ∷ []) [] c.args.self.now.idle (λ die off. off) c.open_one.ensures.kept (same g at)
          (λ die round off. refl);
    }

pub returns-clause-booked : goal.returns-clause-booked
unfolding place
returns-clause-booked g c =
    let at = (goal.at.returns-clause-booked g c).After-open_one in
    λ d r. exchanged_booked c.args.self.now.current c.args.self.now.dies.items c.args.self.now.sound (place g at ∷ []) [] (c.requires, tt) tt c.open_one.new.dies.items c.open_one.ensures.kept (same g at) d r
    ∙ sym (one_is (booked_by c.args.self.now.dies.items d r) (nat_eq c.args.die.0 d && nat_eq c.args.round.0 r))
