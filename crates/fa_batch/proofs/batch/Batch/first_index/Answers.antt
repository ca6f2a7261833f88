use Rattle.std.proofs.Common.{◌≡◌, ℕ, List, take, subst, sym, ap, ◌∙◌}
use Rattle.std.proofs.lemmas.List.{take-map}
use Rattle.fa_batch.specs.declared.batch.HeldPage.{HeldPage}
use Rattle.fa_batch.specs.Index.{pages_of, index_among, AreRising}
use Rattle.fa_batch.proofs.Held.{index-batch}
use Rattle.fa_batch.proofs.Indexed.{among-take, index-first}
use Rattle.fa_batch.proofs.batch.Batch.first_index.Goals as goal

-- the first pages, as the code reads them
first_pages : (held read : List HeldPage) (rising : ℕ) → read ≡ held → pages_of (take rising read) ≡ take rising (pages_of held)
first_pages held read rising is = sym (take-map (λ (h : HeldPage). h.page.0) rising read) ∙ ap (λ v. take rising (pages_of v)) is

pub rising_index-requires : goal.rising_index-requires
rising_index-requires g c =
    subst (λ v. AreRising v) (sym (first_pages c.self.inside.entries.items c.deref.result.now c.self.inside.rising c.deref.ensures.value)) c.self.invariant.rise

pub returns-in-Some : goal.returns-in-Some
returns-in-Some g c =
    let held = c.self.inside.entries.items in
    let page = c.args.page.0 in
    let found = ap (λ v. index_among v page) (sym (first_pages held c.deref.result.now c.self.inside.rising c.deref.ensures.value)) ∙ sym c.rising_index.ensures ∙ c.in-Some.is in
    sym (among-take (pages_of held) c.self.inside.rising page c.in-Some.index found) ∙ index-batch c.args.self.now held c.self.inside.holders.items page c.self.view_is

pub returns-in-None : goal.returns-in-None
returns-in-None g c =
    let held = c.self.inside.entries.items in
    let page = c.args.page.0 in
    let none = ap (λ v. index_among v page) (sym (first_pages held c.deref.result.now c.self.inside.rising c.deref.ensures.value)) ∙ sym c.rising_index.ensures ∙ c.in-None.is in
    c.copied.ensures ∙ c.get.ensures.value ∙ index-first (pages_of held) c.self.inside.rising c.self.inside.first page c.self.invariant.index none
    ∙ index-batch c.args.self.now held c.self.inside.holders.items page c.self.view_is
