use Rattle.std.proofs.Common.{length, List, subst, sym}
use Rattle.fa_core.specs.Array.{number_of, state_of}
use Rattle.fa_mount.proofs.Same.{ended_leaves, sync_honest, sync_slots, write_honest, write_slots}
use Rattle.fa_mount_headers.specs.declared.judging.Standing.{Standing}
use Rattle.fa_machine.specs.State.{is_live}
use Rattle.fa_mount.specs.Standings.{AreApart, HaveImages}
use Rattle.fa_mount.proofs.closing.close_clean.Goals as goal

pub close_idle-requires-clause-apart : goal.close_idle-requires-clause-apart
close_idle-requires-clause-apart g c = subst (λ (l : List Standing). AreApart l) (sym c.as_slice.ensures.value) c.requires.apart

pub close_idle-requires-clause-have : goal.close_idle-requires-clause-have
close_idle-requires-clause-have g c =
    let live = is_live (state_of g.M.Map.view c.args.mounted.now.array).page_map in
    subst (λ (l : List Standing). HaveImages l live (length c.args.images.now)) (sym c.as_slice.ensures.value) c.requires.have

pub returns-clause-slots : goal.returns-clause-slots
returns-clause-slots g c =
    ended_leaves (λ image. (g.I.Image.view image).slots) g.I.Image.made
    (sync_slots g.I.Image.view g.I.Image.honest g.I.Image.made g.met.I.Image.meets)
    (write_slots g.I.Image.view g.I.Image.honest g.I.Image.made g.met.I.Image.meets) (state_of g.M.Map.view c.args.mounted.now.array)
    (number_of c.args.mounted.now.array) c.as_slice.result.now c.args.images.now c.close_idle.new.images c.close_idle.result c.close_idle.ensures

pub returns-clause-honest : goal.returns-clause-honest
returns-clause-honest g c =
    ended_leaves (λ image. g.I.Image.honest image) g.I.Image.made
    (sync_honest g.I.Image.view g.I.Image.honest g.I.Image.made g.met.I.Image.meets)
    (write_honest g.I.Image.view g.I.Image.honest g.I.Image.made g.met.I.Image.meets) (state_of g.M.Map.view c.args.mounted.now.array)
    (number_of c.args.mounted.now.array) c.as_slice.result.now c.args.images.now c.close_idle.new.images c.close_idle.result c.close_idle.ensures
