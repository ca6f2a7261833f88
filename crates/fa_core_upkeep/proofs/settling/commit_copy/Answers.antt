use Rattle.fa_core_state.specs.Core.{core_of}
use Rattle.fa_core_upkeep.proofs.Copied.{live_unless, may_keep, page_inside, slot_inside}
use Rattle.std.proofs.Common.{sym}
use Rattle.fa_core_upkeep.proofs.settling.commit_copy.Goals as goal

pub settle-requires-clause-page : goal.settle-requires-clause-page
settle-requires-clause-page g c =
    page_inside (core_of g.M.Map.view c.args.state.now) c.requires.sound c.in-Some.copying c.in-Some.is
    (g.met.M.Map.whole c.args.state.now.page_map)

pub settle-requires-clause-slot : goal.settle-requires-clause-slot
settle-requires-clause-slot g c =
    slot_inside (core_of g.M.Map.view c.args.state.now) c.requires.sound c.in-Some.copying c.in-Some.is
    (live_unless _ _ (sym c.in-None-refusal.ensures))

pub settle-requires-clause-keeps : goal.settle-requires-clause-keeps
settle-requires-clause-keeps g c =
    may_keep (core_of g.M.Map.view c.args.state.now) c.requires.sound c.in-Some.copying c.in-Some.is
    (g.met.M.Map.whole c.args.state.now.page_map) (live_unless _ _ (sym c.in-None-refusal.ensures))
