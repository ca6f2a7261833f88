-- A certificate against a calendar is one against the array's closed rounds, since holders are live.
use Rattle.fa_batch_terms.specs.Batch.{holds}
use Rattle.fa_batch_terms.specs.Certificate.{IsCertificate}
use Rattle.fa_batch_terms.specs.Plan.{AreFirstRounds}
use Rattle.fa_machine.specs.Reading.{IsPlanned, Planned, entries_for}
use Rattle.fa_machine.specs.Rounds.{is_closed, is_taken}
use Rattle.fa_machine.specs.State.{CalendarState, MapState}
use Rattle.fa_core_read.proofs.Same.{certificate_same, first_same}
use Rattle.fa_core_read.proofs.Sound.{holder_live}
use Rattle.std.proofs.Common.{Bool, List, ap, sym, true, ℕ, ◌≤◌, ◌∙◌, ◌≡◌}
use Rattle.std.specs.Prelude.{not, ◌||◌}

module _ (m : MapState) (calendar : CalendarState) (pages : List ℕ) (closed : ℕ → ℕ → Bool)
    (same : (die round : ℕ) → calendar.round ≤ round → closed die round ≡ is_taken calendar die round) where
  on_holders : (page die round : ℕ) → holds (entries_for m pages) page die ≡ true → calendar.round ≤ round
      → closed die round ≡ is_closed m calendar die round
  on_holders page die round held up =
      same die round up ∙ sym (ap (λ b. not b || is_taken calendar die round) (holder_live m pages page die held))

  pub planned_against : (planned : Planned)
      → IsCertificate (entries_for m pages) calendar.round closed planned.rounds planned.places planned.shortage
      → AreFirstRounds calendar.round closed planned.places → IsPlanned m calendar pages planned
  planned_against planned certificate first = record {
    certificate = certificate_same (entries_for m pages) calendar.round closed
        (is_closed m calendar) on_holders planned.rounds planned.places
        planned.shortage certificate;
    first = first_same (entries_for m pages) calendar.round closed
        (is_closed m calendar) on_holders planned.places certificate.plan.held first;
  }
