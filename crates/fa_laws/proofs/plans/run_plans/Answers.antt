use Rattle.fa_batch_terms.specs.Batch.{Entry}
use Rattle.fa_batch_terms.specs.Certificate.{IsCertificate, IsLeast}
use Rattle.fa_batch_terms.specs.declared.place.Place.{Place}
use Rattle.fa_laws.specs.Least.{IsLeastPlan, PlansLeast}
use Rattle.fa_machine.specs.Reading.{IsPlanned, Planned}
use Rattle.fa_machine.specs.State.{CalendarState, Core, MapState}
use Rattle.fa_machine.specs.Step.{Act, Admit, Does, Replan}
use Rattle.fa_types.specs.declared.numbers.Page.{Page}
use Rattle.std.proofs.Common.{Bool, List, ℕ}
use Rattle.std.specs.Prelude.{Ok}
use Rattle.fa_laws.proofs.plans.run_plans.Goals as goal

-- what `certificate_is_least` says
abbrev CertificateLaw : Type 0
CertificateLaw = (batch : List Entry) (current : ℕ) (closed : ℕ → ℕ → Bool) (rounds : ℕ) (places : List Place) (pages : List Page)
    → IsCertificate batch current closed rounds places pages → IsLeast batch current closed rounds

least : CertificateLaw → (m : MapState) (calendar : CalendarState) (pages : List ℕ) (planned : Planned) → IsPlanned m calendar pages planned
    → IsLeastPlan m calendar pages planned
least law m calendar pages planned is = record { certificate = is.certificate; least = law _ _ _ _ _ _ is.certificate }

plans_least : CertificateLaw → (core : Core) (act : Act) (new : Core) → Does core act new → PlansLeast core act
plans_least law core (Admit pages (Ok admitted)) new d = least law core.page_map core.calendar _ admitted.planned d.0.2
plans_least law core (Replan batch (Ok planned)) new d = least law core.page_map _ _ planned d.0.2
plans_least law core act new d = tt

pub returns : goal.returns
returns c w after act reached happens = plans_least c.certificate_is_least.ensures w.core act after.core happens.step.does
