use Rattle.std.proofs.Common.{◌≡◌, IfSome, arith, sym, ap, ◌∙◌, subst}
use Rattle.std.specs.List.{slice_get}
use Rattle.fa_batch.specs.declared.batch.HeldPage.{HeldPage}
use Rattle.fa_batch_terms.specs.Batch.{Entry}
use Rattle.fa_batch.proofs.Held.{entry_from, same_length}
use Rattle.fa_batch.proofs.batch.Batch.page.Goals as goal

pub index-requires : goal.index-requires
index-requires g c =
    let size = same_length c.args.self.now c.self.inside.entries.items c.self.inside.holders.items c.self.view_is in
    omega arith

pub returns : goal.returns
returns g c =
    let held = c.self.inside.entries.items in
    let h = c.index.result.now in
    let size = same_length c.args.self.now held c.self.inside.holders.items c.self.view_is in
    let there = sym (ap (λ v. slice_get v c.args.index) c.self.view_is) ∙ entry_from 0 held c.self.inside.holders.items c.args.index h (omega arith) in
    subst (λ o. IfSome o (λ (e : Entry). e.page ≡ h.page)) (sym there) (ap (λ (v : HeldPage). v.page) (sym c.index.ensures))
