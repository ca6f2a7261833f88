use Rattle.std.proofs.Common.{◌∙◌}
use Rattle.fa_map.specs.Entries.{copies_in}
use Rattle.fa_map.proofs.Few.{few_copies, few_found}
use Rattle.fa_map.proofs.tables.Tables.next_with.Goals as goal

pub returns : goal.returns
returns g c =
    let s = c.args.self.now in
    c.lowest_from.ensures
    ∙ few_found s.geometry.pages (copies_in s.slots.entries s.geometry) s.few (few_copies s.geometry s.slots.entries s.few s.counted)
    c.args.count c.args.from c.requires.0 c.requires.1
