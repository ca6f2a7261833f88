use Rattle.std.proofs.Common.{◌==◌, if◌then◌else◌, ap, ◌∙◌}
use Rattle.std.specs.FinMap.{contains_key}
use Rattle.fa_machine.specs.Maps.{Numbers}
use Rattle.fa_set.specs.Members.{members}
use Rattle.fa_map.specs.Sets.{Sets}
use Rattle.fa_map.proofs.Few.{member_put}
use Rattle.fa_map.proofs.finder.Finder.put_slot.Goals as goal

pub returns-then-from-to-clause-slots : goal.returns-then-from-to-clause-slots
returns-then-from-to-clause-slots g c = λ k.
    ap (λ (m : Numbers). contains_key m k) c.set_member.ensures.members ∙ member_put (members c.self.inside.erased) c.args.index k c.args.to
    ∙ ap (λ (v : Sets). if k == c.args.index then c.args.to else contains_key v.slots k) c.self.view_is
