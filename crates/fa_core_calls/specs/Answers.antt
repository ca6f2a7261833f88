-- What contracts see of a plan, and of a batch that was admitted: the machine's own.
use Rattle.std.specs.Prelude.{◌≡◌, ℕ, ◌+◌, ◌*◌, ◌≤◌, Result, Ok, Err}
use Rattle.fa_machine.specs.Reading.{Admitted as AdmittedBatch, Planned as PlannedBatch}
use Rattle.fa_machine.specs.declared.refusals.AdmitRefused.{AdmitRefused}
use Rattle.fa_plan.specs.declared.planner.Planned.{Planned}
use Rattle.fa_core_calls.specs.declared.admitted.Admitted.{Admitted}

module _ {A : Type 0} where
  abbrev pub planned_of : Planned A → PlannedBatch
  planned_of planned = record { rounds = planned.rounds; places = planned.plan.places; shortage = planned.shortage }

  -- A plan of so many pages as it is handed out: it tells its own number of rounds, and how many searches and looks it took.
  pub record IsHandedOut (pages : ℕ) (planned : Planned A) : Type 0 where
    pub rounds : planned.plan.rounds ≡ planned.rounds
    pub counted : pages ≤ planned.searches
    pub searches : planned.searches ≤ pages + planned.rounds
    pub looks : planned.looks ≤ planned.searches * pages

  abbrev pub admitted_of : Admitted A → AdmittedBatch
  admitted_of admitted = record { batch = admitted.batch; planned = planned_of admitted.planned }

  -- the same, or the refusal
  abbrev pub plan_answer : Result (Planned A) AdmitRefused → Result PlannedBatch AdmitRefused
  plan_answer (Ok planned) = Ok (planned_of planned)
  plan_answer (Err refused) = Err refused

  abbrev pub admit_answer : Result (Admitted A) AdmitRefused → Result AdmittedBatch AdmitRefused
  admit_answer (Ok admitted) = Ok (admitted_of admitted)
  admit_answer (Err refused) = Err refused
