use Rattle.std.proofs.Common.{◌<◌, ◌-◌, None, false, true, ap, length, refl, sym, ◌∙◌, arith}
use Rattle.std.specs.Prelude.{is_some}
use Rattle.std.proofs.lemmas.List.{get_or_read_under}
use Rattle.fa_core_tables.proofs.Tables.{table_absent, table_len_remove, table_remove, table_some}
use Rattle.fa_core_tables.proofs.by_die.ByDie.remove.Goals.{then-is_some, else-is_some}
use Rattle.fa_core_tables.proofs.by_die.ByDie.remove.Goals as goal

pub overflow_sub-self : goal.overflow_sub-self
overflow_sub-self g c =
    let s = c.args.self.now in
    let items = s.values.items in
    let within : c.args.die.0 < length items = omega (arith, s.values.ok.0) in
    let read = get_or_read_under items c.args.die.0 (length items) c.index.result.now None c.index.ensures within refl in
    let some = table_some items c.args.die.0 (ap is_some (sym read) ∙ sym c.is_some.ensures ∙ c.if-is_some.true) in
    omega (arith, some, s.counted)

pub invariant_of-self : goal.invariant_of-self
invariant_of-self g c =
    let s = c.args.self.now in
    let items = s.values.items in
    let within : c.args.die.0 < length items = omega (arith, s.values.ok.0) in
    let read = get_or_read_under items c.args.die.0 (length items) c.index.result.now None c.index.ensures within refl in
    let h = c.is_some.ensures in
    record {
      counted = elim c.if-is_some.branch [
        | then-is_some w ↦
            ap (λ v. v.1.1.0) w.self-is ∙ ap (λ n. n - 1) s.counted
            ∙ sym (table_len_remove items c.args.die.0 true within (ap is_some (sym read) ∙ sym c.is_some.ensures ∙ w.if-is_some.true))
        | else-is_some w ↦
            ap (λ v. v.1.1.0) w.self-is ∙ s.counted
            ∙ sym (table_len_remove items c.args.die.0 false within (ap is_some (sym read) ∙ sym c.is_some.ensures ∙ w.if-is_some.false))
      ];
    }

pub returns-after-is_some-clause-removed : goal.returns-after-is_some-clause-removed
returns-after-is_some-clause-removed g c =
    let s = c.args.self.now in
    table_remove s.values.items c.args.die.0 (omega (arith, s.values.ok.0))

pub returns-else-index-len-clause-removed : goal.returns-else-index-len-clause-removed
returns-else-index-len-clause-removed g c =
    let s = c.args.self.now in
    table_absent s.values.items c.args.die.0 (omega (arith, s.values.ok.0))
