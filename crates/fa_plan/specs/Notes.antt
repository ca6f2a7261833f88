-- What contracts see of plans that are kept.
use Rattle.std.specs.Prelude.{◌≡◌, ℕ, ◌+◌, ◌-◌, ◌^◌, min, List}
use Rattle.fa_types.specs.declared.numbers.Page.{Page}
use Rattle.fa_batch_terms.specs.Batch.{Entry}
use Rattle.fa_batch_terms.specs.declared.place.Place.{Place}
use Rattle.fa_batch_terms.specs.Certificate.{IsCertificate}
use Rattle.fa_closed.specs.Closed.{current_of, is_closed}
use Rattle.fa_closed.specs.Runs.{any_closes}
use Rattle.fa_plan.specs.declared.entry.PlanEntry.{PlanEntry}
use Rattle.fa_plan.specs.declared.note.PlanNote.{PlanNote}

-- a round from another one on, which is told as 1, at most the greatest number
abbrev pub told_from : ℕ → ℕ → ℕ
told_from now round = min (round - now + 1) (2 ^ 64 - 1)

-- a place with this round told as 1
abbrev pub place_from : ℕ → Place → Place
place_from now x = record { page = x.page; die = x.die; round = record { 0 = told_from now x.round.0 } }

module _ {A : Type 0} where
  -- the pages of a plan that was noted, each with its holders
  abbrev pub batch_of : PlanNote A → List Entry
  batch_of note = note.batch

  -- how many rounds it takes
  abbrev pub rounds_of : PlanNote A → ℕ
  rounds_of note = note.plan.rounds

  -- where each page is read, told in its own rounds
  abbrev pub places_of : PlanNote A → List Place
  places_of note = note.plan.places

  -- the pages that show that no plan has fewer rounds
  abbrev pub shortage_of : PlanNote A → List Page
  shortage_of note = note.shortage

  -- A plan that the check of certificates accepts, in rounds from 1 on, with the runs of closed rounds that are told of it.
  pub record IsAccepted (entry : PlanEntry A) : Type 0 where
    pub now : current_of entry.calendar ≡ 1
    pub closed : (die round : ℕ) → is_closed entry.calendar die round ≡ any_closes entry.runs.items die round
    pub certificate : IsCertificate entry.batch 1 (is_closed entry.calendar) entry.plan.rounds entry.plan.places entry.shortage
