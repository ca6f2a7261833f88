use Rattle.fa_core_batches.proofs.Opened.{answered_at, listed_at, open_at, opened_at, opened_is}
use Rattle.fa_machine.specs.State.{OpenBatch}
use Rattle.fa_types.specs.declared.numbers.Page.{Page}
use Rattle.std.proofs.Common.{None, ap, map, sym, ◌∙◌}
use Rattle.fa_core_batches.proofs.batches.Batches.pages.Goals as goal

pub returns-in-Some-clause-pages : goal.returns-in-Some-clause-pages
returns-in-Some-clause-pages g c =
    ap (map (λ (page : Page). page.0)) c.deref.ensures.value
    ∙ sym (ap (λ (b : OpenBatch). b.pages) (opened_is c.args.self.now.lists.entries c.args.self.now.pages.entries c.args.batch.0
    c.in-Some.list.now (sym c.in-Some.ensures.value)))

pub returns-in-Some-clause-there : goal.returns-in-Some-clause-there
returns-in-Some-clause-there g c p = listed_at _ _ _ _ c.args.self.now.whole c.args.batch.0 p c.requires

pub returns-in-None-clause-pages : goal.returns-in-None-clause-pages
returns-in-None-clause-pages g c =
    sym (ap (λ (b : OpenBatch). b.pages) (opened_at c.args.self.now.lists.entries c.args.self.now.pages.entries c.args.batch.0
    None (sym c.in-None.ensures.value)))

pub returns-in-None-clause-there : goal.returns-in-None-clause-there
returns-in-None-clause-there g c p = listed_at _ _ _ _ c.args.self.now.whole c.args.batch.0 p c.requires

pub returns-in-Some-clause-answers : goal.returns-in-Some-clause-answers
returns-in-Some-clause-answers g c p = answered_at _ _ _ _ c.args.self.now.whole c.args.batch.0 p

pub returns-in-Some-clause-older : goal.returns-in-Some-clause-older
returns-in-Some-clause-older g c =
    c.args.self.now.whole.below c.args.batch.0
    (open_at c.args.self.now.lists.entries c.args.self.now.pages.entries c.args.batch.0 ∙ c.requires)

pub returns-in-None-clause-answers : goal.returns-in-None-clause-answers
returns-in-None-clause-answers g c p = answered_at _ _ _ _ c.args.self.now.whole c.args.batch.0 p

pub returns-in-None-clause-older : goal.returns-in-None-clause-older
returns-in-None-clause-older g c =
    c.args.self.now.whole.below c.args.batch.0
    (open_at c.args.self.now.lists.entries c.args.self.now.pages.entries c.args.batch.0 ∙ c.requires)
