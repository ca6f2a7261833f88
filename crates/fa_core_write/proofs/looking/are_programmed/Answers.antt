use Rattle.std.proofs.Common.{◌∙◌}
use Rattle.fa_machine.specs.declared.places.Target.{Target}
use Rattle.fa_core_write.proofs.Live.{any_live}
use Rattle.fa_core_write.proofs.looking.are_programmed.Goals as goal

pub returns : goal.returns
returns g c = c.is_any_programmed.ensures ∙ any_live (g.M.Map.view c.args.page_map.now) (λ (t : Target). t.programmed) c.args.slots.now
