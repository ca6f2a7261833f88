use Rattle.fa_batch_terms.specs.Batch.{IsSound}
use Rattle.fa_batch_terms.specs.Certificate.{IsCertificate}
use Rattle.fa_batch_terms.specs.Plan.{AreFirstRounds}
use Rattle.fa_core_bookings.specs.Bookings.{calendar_of}
use Rattle.fa_machine.proofs.Lists.{among-filter, none_passes}
use Rattle.fa_machine.specs.Copies.{is_lost}
use Rattle.fa_machine.specs.Reading.{IsPlanned, has_data, to_read}
use Rattle.fa_machine.specs.Rounds.{is_taken}
use Rattle.fa_machine.specs.declared.places.Version.{Version}
use Rattle.fa_plan.specs.declared.planner.Planned.{Planned}
use Rattle.fa_core_read.proofs.Answered.{ok_both}
use Rattle.fa_core_read.proofs.Handed.{handed_out}
use Rattle.fa_core_read.proofs.Planned.{planned_against}
use Rattle.fa_core_read.proofs.Sound.{sound_of}
use Rattle.fa_core_read.proofs.planning.plan_written.Goals as goal
use Rattle.fa_core_calls.specs.Answers.{planned_of}
use Rattle.fa_types.specs.declared.numbers.Page.{Page}
use Rattle.std.proofs.Common.{None, Option, Some, ap, length, map, refl, subst, sym, true, ◌∙◌, ◌≡◌}
use Rattle.std.proofs.lemmas.Bool.{false≢true}
use Rattle.std.proofs.lemmas.List.{length-map}
use Rattle.std.specs.FinMap.{get}
use Rattle.std.specs.Prelude.{is_some, ◌≤◌}

with_data : (version : Option Version) → has_data version ≡ true → is_some version ≡ true
with_data None is = absurd (false≢true is)
with_data (Some version) is = refl

pub plan_in-requires-clause-sound : goal.plan_in-requires-clause-sound
plan_in-requires-clause-sound g c =
    let m = g.M.Map.view c.args.state.now.page_map in
    let pages = map (λ (page : Page). page.0) c.args.pages.now in
    subst IsSound (sym c.in_ok-list_written.ensures)
    (sound_of m (λ page. has_data (get m.versions page)) pages c.requires.distinct
    (subst (λ n. n ≤ 1024) (sym (length-map c.args.pages.now (λ (page : Page). page.0))) c.requires.few)
    (λ page is. with_data (get m.versions page) is)
    (λ page among. none_passes (is_lost m) pages c.requires.held page (among-filter _ page pages among).0))

pub returns : goal.returns
returns g c =
    let m = g.M.Map.view c.args.state.now.page_map in
    let calendar = calendar_of c.args.state.now.bookings in
    let pages = to_read m (map (λ (page : Page). page.0) c.args.pages.now) in
    record {
      planned = ok_both
          (λ (planned : Planned g.row.A.Denot).
          IsCertificate c.list_written.new.batch calendar.round (is_taken calendar) planned.rounds planned.plan.places planned.shortage)
          (λ planned. AreFirstRounds calendar.round (is_taken calendar) planned.plan.places)
          (λ planned. IsPlanned m calendar pages (planned_of planned))
          (λ planned certificate first. planned_against m calendar pages (is_taken calendar) (λ die round up. refl) (planned_of planned)
          (subst (λ entries. IsCertificate entries calendar.round (is_taken calendar) planned.rounds planned.plan.places planned.shortage)
          c.in_ok-list_written.ensures certificate) first)
          c.plan_in.result c.plan_in.ensures.certificate c.plan_in.ensures.first;
      handed = handed_out (length c.list_written.new.batch) (length pages) (ap length c.in_ok-list_written.ensures ∙ length-map pages _)
          c.plan_in.result c.plan_in.ensures.rounds c.plan_in.ensures.counted c.plan_in.ensures.most c.plan_in.ensures.looks;
    }
