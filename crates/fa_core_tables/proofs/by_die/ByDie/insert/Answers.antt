use Rattle.std.proofs.Common.{◌+◌, None, not, false, true, ap, length, refl, sym, ◌∙◌, arith}
use Rattle.std.specs.Prelude.{is_some}
use Rattle.std.proofs.lemmas.List.{get_or_read_under}
use Rattle.fa_core_tables.proofs.Tables.{table_insert, table_len_insert, table_room}
use Rattle.fa_core_tables.proofs.by_die.ByDie.insert.Goals.{then-is_none, else-is_none}
use Rattle.fa_core_tables.proofs.by_die.ByDie.insert.Goals as goal

pub overflow_add-self : goal.overflow_add-self
overflow_add-self g c =
    let s = c.args.self.now in
    let items = s.values.items in
    let read = get_or_read_under items c.args.die.0 (length items) c.index.result.now None c.index.ensures c.requires refl in
    let free = ap is_some (sym read) ∙ c.is_none.ensures ∙ ap not c.if-is_none.true in
    let room = table_room items c.args.die.0 c.args.value c.requires free in
    omega (arith, room, s.counted, s.values.ok.0)

pub invariant_of-self : goal.invariant_of-self
invariant_of-self g c =
    let s = c.args.self.now in
    let items = s.values.items in
    let read = get_or_read_under items c.args.die.0 (length items) c.index.result.now None c.index.ensures c.requires refl in
    let some = ap is_some (sym read) ∙ c.is_none.ensures in
    record {
      counted = elim c.if-is_none.branch [
        | then-is_none w ↦
            ap (λ v. v.1.1.0) w.self-is ∙ ap (λ n. n + 1) s.counted
            ∙ sym (table_len_insert items c.args.die.0 c.args.value false c.requires (some ∙ ap not w.if-is_none.true))
        | else-is_none w ↦
            ap (λ v. v.1.1.0) w.self-is ∙ s.counted
            ∙ sym (table_len_insert items c.args.die.0 c.args.value true c.requires (some ∙ ap not w.if-is_none.false))
      ];
    }

pub returns-clause-inserted : goal.returns-clause-inserted
returns-clause-inserted g c = table_insert c.args.self.now.values.items c.args.die.0 c.args.value c.requires
