-- What a slot that was read is opened to.
use Rattle.std.specs.Prelude.{◌≡◌, ℕ, List, take}
use Rattle.fa_core_outcome.specs.declared.outcome.Outcome.{Outcome as JobOutcome}
use Rattle.fa_core_outcome.specs.declared.outcome.Outcome.TheVariants.{Read as WasRead}
use Rattle.fa_tag.specs.SlotGrammar.{IsOpened}
use Rattle.fa_tag.specs.declared.tag.Opened.{Opened}

-- A slot's bytes are opened, and the first of them, as many as a page has, are handed out.
abbrev pub Opens : List ℕ → ℕ → JobOutcome → List ℕ → Type 0
Opens bytes count outcome page = (opened : Opened) × IsOpened bytes opened × (outcome ≡ WasRead opened) × (page ≡ take count bytes)
