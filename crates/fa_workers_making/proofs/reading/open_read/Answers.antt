use Rattle.std.proofs.Common.{refl, slice_index_or, subst, sym, List, ℕ, ◌<◌}
use Rattle.std.specs.Prelude.{IfSome}
use Rattle.fa_core_outcome.specs.declared.outcome.Outcome.{Outcome}
use Rattle.fa_core_outcome.specs.declared.outcome.Outcome.TheVariants.{Read}
use Rattle.fa_tag.specs.SlotGrammar.{IsOpened}
use Rattle.fa_tag.specs.declared.tag.Opened.{Opened}
use Rattle.fa_workers_making.specs.Begun.{OpensRead}
use Rattle.fa_workers_making.proofs.reading.open_read.Goals as goal

pub opened_at-opened-requires : goal.opened_at-opened-requires
opened_at-opened-requires g c =
    let Together : List ℕ → Type 0 =
    λ bytes. IfSome c.args.together (λ all. (d : Opened) → c.args.index < 8 → IsOpened bytes (slice_index_or all.now c.args.index d)) in
    subst Together (sym c.as_slice.ensures.value) c.requires

pub returns-in-Read : goal.returns-in-Read
returns-in-Read g c =
    let opened = c.opened_at-opened.result in
    let Is : List ℕ → Type 0 = λ bytes. IsOpened bytes opened in
    let Opens : Outcome → Type 0 = λ before. OpensRead c.args.memory.now before c.hand_out.new.memory (Read opened) in
    subst Opens (sym c.in-Read.is)
    (λ room. (opened, subst Is c.as_slice.ensures.value c.opened_at-opened.ensures, refl, c.hand_out.ensures room))
