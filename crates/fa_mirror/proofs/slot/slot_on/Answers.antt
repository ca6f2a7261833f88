use Rattle.fa_mirror.proofs.Slots.{lowest_fits, writers_lowest}
use Rattle.fa_mirror.proofs.slot.slot_on.Goals as goal
use Rattle.std.proofs.Common.{sym, ◌∙◌}

pub returns-in-Some-clause-free : goal.returns-in-Some-clause-free
returns-in-Some-clause-free g c = record {
  inside = c.requires.inside;
  live = c.requires.live;
  fits = lowest_fits (g.M.Map.view c.args.page_map.now) c.args.die.0 c.in-Some.slot.0
      (sym (writers_lowest (g.M.Map.view c.args.page_map.now) c.args.die.0 c.requires.room) ∙ sym c.in-Some.ensures);
}
