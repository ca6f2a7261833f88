use Rattle.std.proofs.Common.{◌≡◌, ℕ, ◌+◌, ◌<◌, get_or, set, take, count_by, refl, sym, ap, ◌∙◌, subst, rules}
use Rattle.std.proofs.lemmas.List.{length-set}
use Rattle.fa_types.specs.Open.{IsNthOpen}
use Rattle.fa_batch_terms.specs.declared.place.Place.{Place}
use Rattle.fa_batch_terms.proofs.Counting.{get_or-replicate_default}
use Rattle.fa_plan.specs.declared.layout.Seat.{Seat}
use Rattle.fa_plan.specs.Layout.{IsLaidOut, is_at_die}
use Rattle.fa_plan.proofs.Laid.{laid_more, laid_none, taken_more}
use Rattle.fa_plan.proofs.layout.lay_out.Goals as goal

pub loop-seat-init : goal.loop-seat-init
loop-seat-init g c = record {
  long = refl;
  taken = λ die known. get_or-replicate_default 256 die 0 ∙ sym (ap (λ v. count_by (is_at_die die) v) c.requires.empty);
  laid = subst (λ v. IsLaidOut (g.R.Rounds.current c.args.calendar.now) (g.R.Rounds.closed c.args.calendar.now) _ v) (sym c.requires.empty) (laid_none (g.R.Rounds.current c.args.calendar.now) (g.R.Rounds.closed c.args.calendar.now) c.args.seats.now);
}

pub loop-seat-preserved : goal.loop-seat-preserved
loop-seat-preserved g c =
    let d : Seat = record { page = record { 0 = 0 }; die = record { 0 = 0 } } in
    let seat = get_or c.args.seats.now c.loop-seat.seat-index d in
    let y : Place = record { page = seat.page; die = seat.die; round = c.nth_open-round.result } in
    let i = c.loop-seat.invariant in
    let known : seat.die.0 < 256 = search rules in
    let turn : get_or c.loop-seat.taken seat.die.0 0 ≡ count_by (is_at_die seat.die.0) c.loop-seat.places = i.taken seat.die.0 known in
    record {
      long = length-set c.loop-seat.taken seat.die.0 (get_or c.loop-seat.taken seat.die.0 0 + 1) ∙ i.long;
      taken = subst (λ v. (die : ℕ) → die < 256 → get_or (set c.loop-seat.taken seat.die.0 (get_or c.loop-seat.taken seat.die.0 0 + 1)) die 0 ≡ count_by (is_at_die die) v) (sym c.in_ok-push.ensures.ok)
          (taken_more c.loop-seat.taken c.loop-seat.places y i.long known i.taken);
      laid = subst (λ v. IsLaidOut (g.R.Rounds.current c.args.calendar.now) (g.R.Rounds.closed c.args.calendar.now) (take (c.loop-seat.seat-index + 1) c.args.seats.now) v) (sym c.in_ok-push.ensures.ok)
          (laid_more (g.R.Rounds.current c.args.calendar.now) (g.R.Rounds.closed c.args.calendar.now) c.args.seats.now c.loop-seat.seat-index d c.loop-seat-test.true c.requires.rising c.loop-seat.places y refl known i.laid
          (subst (λ n. IsNthOpen (g.R.Rounds.current c.args.calendar.now) (g.R.Rounds.closed c.args.calendar.now) seat.die.0 (n + 1) c.nth_open-round.result.0) turn c.nth_open-round.ensures));
    }
