use Rattle.std.proofs.Common.{None, length, refl, sym, ◌∙◌, arith}
use Rattle.std.proofs.lemmas.List.{get_or_past, get_or_read_under}
use Rattle.fa_core_tables.proofs.Tables.{get_table}
use Rattle.fa_core_tables.proofs.by_die.ByDie.get.Goals as goal

pub returns-then-index-len : goal.returns-then-index-len
returns-then-index-len g c =
    let s = c.args.self.now in
    let items = s.values.items in
    get_or_read_under items c.args.die.0 (length items) c.index.result.now None c.index.ensures (omega (arith, s.values.ok.0)) refl
    ∙ sym (get_table items c.args.die.0)

pub returns-else-index-len : goal.returns-else-index-len
returns-else-index-len g c =
    let s = c.args.self.now in
    let items = s.values.items in
    sym (get_table items c.args.die.0 ∙ get_or_past items c.args.die.0 None (omega (arith, s.values.ok.0)))
