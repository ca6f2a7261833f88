use Rattle.fa_batch_terms.proofs.Counting.{get_or-replicate_default}
use Rattle.fa_core_upkeep.proofs.Dies.{asked_more, inserted_all, marked_all, marked_more}
use Rattle.fa_core_upkeep.proofs.flushing.ask_live_dies.Goals as goal
use Rattle.fa_machine.specs.State.{is_live}
use Rattle.fa_core_tables.specs.Dies.{by_die}
use Rattle.fa_types.specs.declared.geometry.Geometry.{Geometry}
use Rattle.std.proofs.Common.{◌≡◌, ◌∙◌, ap, arith, false, refl}

pub loop-die-init : goal.loop-die-init
loop-die-init g c = record {
  long = refl;
  marked = λ k low. absurd (omega (arith, low));
  unmarked = λ k past. get_or-replicate_default 64 k false;
  bound = refl;
  asked = λ k low. absurd (omega (arith, low));
  kept = λ k past. refl;
}

pub loop-die-preserved : goal.loop-die-preserved
loop-die-preserved g c =
    let m = g.M.Map.view c.args.page_map.now in
    let die = c.loop-die.die in
    let before = by_die c.args.asked.now in
    let after = by_die c.loop-die.asked in
    let found = by_die c.ask_if_live.new.asked in
    let number = c.args.number in
    let so_far = c.loop-die.invariant in
    let asks = c.ask_if_live.ensures in
    let low = c.loop-die-test.true in
    let few = c.geometry-die-end.result.within.dies_fit.most in
    let marks = marked_more (is_live m) c.loop-die.live die c.ask_if_live.result so_far.long (omega (arith, low, few)) asks.live
    so_far.marked so_far.unmarked in
    let more = asked_more (is_live m) before after number die c.ask_if_live.result asks.live so_far.asked so_far.kept found asks.asked in
    record {
      long = marks.0;
      marked = marks.1.0;
      unmarked = marks.1.1;
      bound = asks.bound ∙ so_far.bound;
      asked = more.0;
      kept = more.1;
    }

pub returns-clause-asked : goal.returns-clause-asked
returns-clause-asked g c =
    let m = g.M.Map.view c.args.page_map.now in
    let so_far = c.loop-die.invariant in
    let same : c.loop-die.die ≡ m.geometry.dies =
    (let low = c.loop-die.auto.die-end in let high = c.loop-die-test.false in omega (arith, low, high))
    ∙ ap (λ (k : Geometry). k.dies) c.geometry-die-end.ensures in
    inserted_all m (g.met.M.Map.whole c.args.page_map.now) (by_die c.args.asked.now) (by_die c.loop-die.asked) c.args.number
    (λ k low. so_far.asked k (omega (arith, low, same))) (λ k past. so_far.kept k (omega (arith, past, same)))

pub returns-clause-live : goal.returns-clause-live
returns-clause-live g c =
    let m = g.M.Map.view c.args.page_map.now in
    let so_far = c.loop-die.invariant in
    let same : c.loop-die.die ≡ m.geometry.dies =
    (let low = c.loop-die.auto.die-end in let high = c.loop-die-test.false in omega (arith, low, high))
    ∙ ap (λ (k : Geometry). k.dies) c.geometry-die-end.ensures in
    marked_all m (g.met.M.Map.whole c.args.page_map.now) c.loop-die.live 64 so_far.long
    (λ k low. so_far.marked k (omega (arith, low, same))) (λ k past. so_far.unmarked k (omega (arith, past, same)))
