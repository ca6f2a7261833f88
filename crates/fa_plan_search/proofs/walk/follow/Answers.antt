use Rattle.std.proofs.Common.{◌≡◌, ℕ, ◌<◌, ◌≤◌, ◌+◌, true, take, rules, arith, get_or, slice_index, sym, ap, ◌∙◌, subst}
use Rattle.std.proofs.lemmas.List.{take_all}
use Rattle.fa_batch_terms.specs.Batch.{is_among}
use Rattle.fa_plan_search.specs.Reading.{load_of, no_die}
use Rattle.fa_plan_search.specs.Search.{IsWalk, AreFull, GoesOn, IsReached, has_reached, with_die}
use Rattle.fa_plan_search.proofs.Walks.{room_in_order, added_goes_on, added_reached, added_is_walk, added_is_full, then, holders_are, among_at, among_more}
use Rattle.fa_plan_search.proofs.walk.follow.Goals as goal
use Rattle.fa_plan_search.proofs.walk.follow.Goals.{then-not-walk-number+else-load-tables, else-not-walk-number}

pub add-requires-clause-place : goal.add-requires-clause-place
add-requires-clause-place g c =
    room_in_order c.args.batch.now c.args.given.now c.loop-die.walk c.loop-die.invariant.walk (get_or c.holders_at-die-items.result.now c.loop-die.die-index no_die).0 0 0 (search rules) c.if-not-walk-number.true

pub add-requires-then-not-walk-number-clause-place : goal.add-requires-then-not-walk-number-clause-place
add-requires-then-not-walk-number-clause-place g c =
    room_in_order c.args.batch.now c.args.given.now c.loop-die.walk c.loop-die.invariant.walk (get_or c.holders_at-die-items.result.now c.loop-die.die-index no_die).0 0 0 (search rules) c.if-not-walk-number.true

pub returns-then-load-tables : goal.returns-then-load-tables
returns-then-load-tables g c =
    let die = (get_or c.holders_at-die-items.result.now c.loop-die.die-index no_die).0 in
    let held = ap (λ dies. is_among dies die) (holders_are c.args.batch.now c.args.page c.holders_at-die-items.result.now (omega arith) c.holders_at-die-items.ensures) ∙ among_at c.holders_at-die-items.result.now c.loop-die.die-index c.loop-die-test.true in
    let there : IsReached c.args.given.now c.loop-die.walk c.args.page = record { within = c.requires.reached.within; taken = λ below. c.loop-die.invariant.goes.reached _ (c.requires.reached.taken below) } in
    record {
      walk = subst (λ w. IsWalk c.args.batch.now c.args.given.now w) (sym c.add.ensures)
          (added_is_walk c.args.batch.now c.args.given.now c.loop-die.walk c.loop-die.invariant.walk die c.args.page 0 (search rules) c.if-not-walk-number.true held there (omega arith));
      goes = search rules;
      found = search rules;
      full = tt;
      followed = tt;
    }

pub loop-die-preserved : goal.loop-die-preserved
loop-die-preserved g c =
    let die = (get_or c.holders_at-die-items.result.now c.loop-die.die-index no_die).0 in
    let so_far = c.loop-die.invariant in
    elim c.if-not-walk-number.branch [
      | then-not-walk-number+else-load-tables w ↦
          (let held = ap (λ dies. is_among dies die) (holders_are c.args.batch.now c.args.page c.holders_at-die-items.result.now (omega arith) c.holders_at-die-items.ensures) ∙ among_at c.holders_at-die-items.result.now c.loop-die.die-index c.loop-die-test.true in
          let there : IsReached c.args.given.now c.loop-die.walk c.args.page = record { within = c.requires.reached.within; taken = λ below. so_far.goes.reached _ (c.requires.reached.taken below) } in
          let known : die < 256 = search rules in
          let load : slice_index c.args.tables.now.loads die ≡ load_of c.args.given.now die = c.requires.searching.loads die known in
          let room : slice_index c.args.tables.now.open_counts die ≤ slice_index c.args.tables.now.loads die = w.if-load-tables.false in
          let is = w.walk-is ∙ w.add-then-not-walk-number.ensures in
          let after = with_die c.loop-die.walk die c.args.page (slice_index c.args.tables.now.loads die) in
          let on = added_goes_on c.args.batch.now c.args.given.now c.loop-die.walk so_far.walk die c.args.page (slice_index c.args.tables.now.loads die) known w.if-not-walk-number.true in
          record {
            walk = subst (λ v. IsWalk c.args.batch.now c.args.given.now v) (sym is) (added_is_walk c.args.batch.now c.args.given.now c.loop-die.walk so_far.walk die c.args.page (slice_index c.args.tables.now.loads die) known w.if-not-walk-number.true held there (omega arith));
            full = subst (λ v. AreFull c.args.given.now c.args.tables.now.open_counts v) (sym is) (added_is_full c.args.batch.now c.args.given.now c.loop-die.walk so_far.walk die c.args.page (slice_index c.args.tables.now.loads die) known w.if-not-walk-number.true held there c.args.tables.now.open_counts so_far.full (omega arith));
            goes = subst (λ v. GoesOn c.args.walk.now v) (sym is) (then c.args.walk.now c.loop-die.walk after so_far.goes on);
            reached = subst (λ v. (x : ℕ) → is_among (take (c.loop-die.die-index + 1) c.holders_at-die-items.result.now) x ≡ true → has_reached v x ≡ true) (sym is)
                (among_more after c.holders_at-die-items.result.now c.loop-die.die-index c.loop-die-test.true (λ x among. on.reached x (so_far.reached x among)) (added_reached c.args.batch.now c.args.given.now c.loop-die.walk so_far.walk die c.args.page (slice_index c.args.tables.now.loads die) known w.if-not-walk-number.true));
          })
      | else-not-walk-number w ↦
          (let at : has_reached c.loop-die.walk die ≡ true = w.if-not-walk-number.false in
          record {
            walk = subst (λ v. IsWalk c.args.batch.now c.args.given.now v) (sym w.walk-is) so_far.walk;
            full = subst (λ v. AreFull c.args.given.now c.args.tables.now.open_counts v) (sym w.walk-is) so_far.full;
            goes = subst (λ v. GoesOn c.args.walk.now v) (sym w.walk-is) so_far.goes;
            reached = subst (λ v. (x : ℕ) → is_among (take (c.loop-die.die-index + 1) c.holders_at-die-items.result.now) x ≡ true → has_reached v x ≡ true) (sym w.walk-is)
                (among_more c.loop-die.walk c.holders_at-die-items.result.now c.loop-die.die-index c.loop-die-test.true so_far.reached at);
          })
    ]

pub returns : goal.returns
returns g c = record {
  walk = c.loop-die.invariant.walk;
  goes = c.loop-die.invariant.goes;
  found = tt;
  full = c.loop-die.invariant.full;
  followed = λ die reads.
      c.loop-die.invariant.reached die
      (ap (λ dies. is_among dies die) (take_all c.loop-die.die-index c.holders_at-die-items.result.now (omega arith)
      ∙ sym (holders_are c.args.batch.now c.args.page c.holders_at-die-items.result.now (omega arith) c.holders_at-die-items.ensures)) ∙ reads);
}
