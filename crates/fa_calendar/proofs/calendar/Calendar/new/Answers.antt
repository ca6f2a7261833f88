use Rattle.std.proofs.Common.{ℕ, ◌≡◌, ◌≤◌, true, ap, not}
use Rattle.std.proofs.lemmas.Bool.{and_left}
use Rattle.fa_calendar.specs.Dies.{closed_by, window_by}
use Rattle.fa_types.specs.Windows.{is_in_window}
use Rattle.fa_calendar.proofs.Sound.{few_taken}
use Rattle.fa_calendar.proofs.calendar.Calendar.new.Goals as goal

pub invariant_of-result : goal.invariant_of-result
invariant_of-result g c =
    let held : (die round : ℕ) → c.args.round.0 ≤ round → is_in_window (window_by c.in_ok-dies.dies.items die) round ≡ true → closed_by c.in_ok-dies.dies.items die round ≡ true =
    λ die round late inside. let none = ap (λ v. is_in_window v round) (c.in_ok-dies.ensures.windows die) in let no : ⊥ = cc in absurd no in
    record {
      sound = record {
        long = c.in_ok-dies.ensures.long;
        roomy = c.in_ok-dies.ensures.roomy;
        past = λ die round early. c.in_ok-dies.ensures.closed die round;
        held = held;
        few = few_taken c.args.round.0 c.in_ok-dies.dies.items c.in_ok-dies.ensures.roomy held;
      };
      idle = record {
        closed = λ die round off. c.in_ok-dies.ensures.closed die round;
        windows = λ die off. c.in_ok-dies.ensures.windows die;
      };
    }

pub returns-clause-booked : goal.returns-clause-booked
returns-clause-booked g c die r =
    and_left (closed_by c.in_ok-dies.dies.items die r) (not (is_in_window (window_by c.in_ok-dies.dies.items die) r))
    (c.in_ok-dies.ensures.closed die r)
