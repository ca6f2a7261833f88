use Rattle.std.proofs.Common.{◌-◌, take, length-set, ap, sym, ◌∙◌, arith, subst}
use Rattle.fa_batch.specs.declared.batch.HeldPage.{HeldPage}
use Rattle.fa_batch_terms.specs.Batch.{with_holder}
use Rattle.fa_batch.specs.Index.{AreRising, IsIndexOf}
use Rattle.fa_batch.proofs.Held.{one_held, same_length}
use Rattle.fa_batch.proofs.batch.Batch.hold.Goals as goal

pub invariant_of-self-2 : goal.invariant_of-self-2
invariant_of-self-2 g c =
    let held = c.self.inside.entries.items in
    let size = same_length c.args.self.now held c.self.inside.holders.items c.self.view_is in
    let h : HeldPage = record { page = c.index_mut.result.now.page; end = c.len.result } in
    let at = one_held held c.self.inside.holders.items c.push.new.self.items c.args.die (c.len-last.result - 1) h c.index_mut.result.now c.self.invariant.ends
    c.in_ok-push.ensures.items (omega arith) (ap (λ (v : HeldPage). v.page) c.index_mut.ensures.value) (omega arith) in
    record {
      ends = at.0;
      within = omega (arith, c.self.invariant.within, length-set held (c.len-last.result - 1) h);
      rise = subst (λ v. AreRising (take c.self.inside.rising v)) (sym at.2) c.self.invariant.rise;
      index = subst (λ v. IsIndexOf v c.self.inside.rising c.self.inside.first) (sym at.2) c.self.invariant.index;
    }

pub returns-clause-ok : goal.returns-clause-ok
returns-clause-ok g c =
    let held = c.self.inside.entries.items in
    let size = same_length c.args.self.now held c.self.inside.holders.items c.self.view_is in
    let h : HeldPage = record { page = c.index_mut.result.now.page; end = c.len.result } in
    let at = one_held held c.self.inside.holders.items c.push.new.self.items c.args.die (c.len-last.result - 1) h c.index_mut.result.now c.self.invariant.ends
    c.in_ok-push.ensures.items (omega arith) (ap (λ (v : HeldPage). v.page) c.index_mut.ensures.value) (omega arith) in
    at.1 ∙ ap (λ b. with_holder b c.args.die) c.self.view_is
