use Rattle.std.proofs.Common.{◌≡◌, ◌<◌, ◌^◌, ◌==◌, ◌&&◌, not, ℕ, ap, arith, length, rules, subst, sym, ◌∙◌}
use Rattle.std.specs.FinMap.{len}
use Rattle.fa_core.specs.Array.{number_of, state_of}
use Rattle.fa_mount_headers.specs.Rules.{is_in}
use Rattle.fa_machine.specs.State.{is_live}
use Rattle.fa_mount.proofs.Bits.{count_less, fits_below, in_below}
use Rattle.fa_mount.proofs.Ended.{called_at_first, called_then, closed_clean, epoch_fits, have_still, left_at_first, left_then, lost_at, none_live}
use Rattle.fa_mount.specs.Closing.{AreLeft}
use Rattle.fa_set.specs.Members.{members}
use Rattle.fa_types.specs.declared.geometry.Geometry.{Geometry}
use Rattle.fa_mount.proofs.closing.close_idle.Goals as goal

pub loop-page-init : goal.loop-page-init
loop-page-init g c =
    let core = state_of g.M.Map.view c.args.array.now in
    let mask = c.live_mask.result in
    let room = c.requires.whole.fitted.epoch in
    let first = c.requires.whole.ready.epoch in
    let dies_same = ap (λ (x : Geometry). x.dies) c.geometry.ensures in
    let below = (g.met.M.Map.whole c.args.array.now.state.page_map).live in
    let number : length c.array_id.result ≡ 16 = search rules in record {
      shape = c.geometry.ensures;
      number = c.array_id.ensures;
      left = subst (λ e. AreLeft core e mask) (sym c.epoch.ensures) (left_at_first core mask c.live_mask.ensures.live);
      told = record {
        first = omega (arith, first, c.epoch.ensures);
        most = omega (arith, room, c.epoch.ensures);
        inside = fits_below c.geometry.result.dies mask
            (λ die is. let low = below die (sym (c.live_mask.ensures.live die) ∙ is) in omega (arith, low, dies_same));
        number = number;
      };
      images = called_at_first g.I.Image.made core (number_of c.args.array.now) c.args.dies.now c.args.images.now c.epoch.result mask 0
          c.live_mask.ensures.live;
    }

pub take_turn-requires-clause-have : goal.take_turn-requires-clause-have
take_turn-requires-clause-have g c =
    have_still c.args.dies.now (is_live (state_of g.M.Map.view c.args.array.now).page_map) (is_in c.loop-page.told.mask) c.args.images.now
    c.loop-page.images c.loop-page.invariant.images.as_many c.loop-page.invariant.left.live c.requires.have

pub returns-in-Closed : goal.returns-in-Closed
returns-in-Closed g c =
    let core = state_of g.M.Map.view c.args.array.now in
    closed_clean g.I.Image.made core (number_of c.args.array.now) c.args.dies.now c.args.images.now c.loop-page.told
    c.loop-page.marked c.loop-page.images c.take_turn.new.images c.loop-page.invariant.left c.loop-page.invariant.images
    c.loop-page.invariant.shape c.loop-page.invariant.number c.in-Closed.ensures.0 c.in-Closed.ensures.1 c.in-Closed.ensures.2

pub returns-in-PageLost : goal.returns-in-PageLost
returns-in-PageLost g c =
    let core = state_of g.M.Map.view c.args.array.now in
    lost_at g.I.Image.made core (number_of c.args.array.now) c.args.dies.now c.args.images.now c.loop-page.told
    c.loop-page.marked c.loop-page.images c.take_turn.new.images c.loop-page.invariant.left c.loop-page.invariant.images
    c.loop-page.invariant.shape c.loop-page.invariant.number c.in-PageLost.page.0 c.in-PageLost.ensures.0 c.in-PageLost.ensures.1

pub returns-in-NoDie : goal.returns-in-NoDie
returns-in-NoDie g c =
    let core = state_of g.M.Map.view c.args.array.now in
    none_live g.I.Image.made core (number_of c.args.array.now) c.args.dies.now c.args.images.now c.loop-page.told
    c.loop-page.marked c.loop-page.images c.take_turn.new.images c.loop-page.invariant.left c.loop-page.invariant.images
    c.in-NoDie.ensures.0 c.in-NoDie.ensures.1 c.in-NoDie.ensures.2

pub without-requires : goal.without-requires
without-requires g c =
    let told = c.loop-page.told in
    let low = in_below told.mask told.geometry.dies c.in-DieOut.die.0 c.loop-page.invariant.told.inside c.in-DieOut.ensures.was_left in
    let most = told.geometry.within.dies_fit.most in
    omega (arith, low, most, c.from.ensures)

pub loop-page-smaller : goal.loop-page-smaller
loop-page-smaller g c =
    let told = c.loop-page.told in
    let out = c.in-DieOut.die.0 in
    let is = c.in-DieOut.ensures.was_left in
    let fewer = count_less (is_in told.mask) (is_in c.without.result) out told.geometry.dies
    (in_below told.mask told.geometry.dies out c.loop-page.invariant.told.inside is) is
    (λ d. c.without.ensures.others d ∙ ap (λ n. not (d == n) && is_in told.mask d) c.from.ensures) in
    omega (arith, fewer)

pub loop-page-preserved : goal.loop-page-preserved
loop-page-preserved g c =
    let core = state_of g.M.Map.view c.args.array.now in
    let told = c.loop-page.told in
    let rest = c.without.result in
    let out = c.in-DieOut.die.0 in
    let cut = c.in-DieOut.ensures in
    let left = c.loop-page.invariant.left in
    let dies_same = ap (λ (x : Geometry). x.dies) c.loop-page.invariant.shape in
    let inside : told.mask < 2 ^ core.page_map.geometry.dies =
    subst (λ n. told.mask < 2 ^ n) dies_same c.loop-page.invariant.told.inside in
    let less : (d : ℕ) → is_in rest d ≡ (not (d == out) && is_in told.mask d) =
    λ d. c.without.ensures.others d ∙ ap (λ n. not (d == n) && is_in told.mask d) c.from.ensures in
    let fewer = count_less (is_in told.mask) (is_in rest) out core.page_map.geometry.dies
    (in_below told.mask core.page_map.geometry.dies out inside cut.was_left) cut.was_left less in
    let fits = epoch_fits core told.epoch told.mask (len (members c.args.array.now.state.spares)) left c.requires.whole.fitted.epoch in
    record {
      shape = c.loop-page.invariant.shape;
      number = c.loop-page.invariant.number;
      left = left_then core told.epoch told.mask rest out inside left cut.was_left less;
      told = record {
        first = omega arith;
        most = omega (arith, fewer, fits);
        inside = omega (arith, c.without.ensures.less, c.loop-page.invariant.told.inside);
        number = c.loop-page.invariant.told.number;
      };
      images = called_then g.I.Image.made core (number_of c.args.array.now) c.args.dies.now c.args.images.now told
          c.loop-page.marked c.loop-page.images c.take_turn.new.images left c.loop-page.invariant.images c.loop-page.invariant.shape
          c.loop-page.invariant.number rest c.take_turn.new.marked out less cut;
    }
