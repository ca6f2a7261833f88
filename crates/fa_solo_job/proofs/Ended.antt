-- The outcome that a job's own calls gave is one of the job's kind.
use Rattle.std.proofs.Common.{◌≡◌, ◌∙◌, ℕ, Bool, true, false, List, [], ◌∷◌, Some, None, ap, cond, is_some, refl, sym}
use Rattle.std.proofs.lemmas.Option.{none-some, same_Some}
use Rattle.fa_image.specs.Image.{ImageAnswer, ImageCall}
use Rattle.fa_machine.specs.Cells.{Cell, DidErase, DidProgram, Outcome, Wrong, is_of_kind, moved_payload}
use Rattle.fa_machine.specs.Taking.{Handed}
use Rattle.fa_machine.specs.World.{Accepted, Gave, GaveCell, JobCall, Refused, call_behind, next_call, outcome_of, second_call}
use Rattle.fa_machine.specs.declared.jobs.Flight.{Flight}
use Rattle.fa_machine.specs.declared.jobs.Flight.TheVariants.{Header, Move, Erase, Read, Program, Sync}
use Rattle.fa_types.specs.declared.geometry.Geometry.{Geometry}
use Rattle.fa_jobs.specs.Made.{MakesCalls, Ran}

given : (flight : Flight) (outcome wanted : Outcome) → Some wanted ≡ Some outcome → is_of_kind flight wanted ≡ true
    → is_of_kind flight outcome ≡ true
given flight outcome wanted e kind = ap (is_of_kind flight) (sym (same_Some wanted outcome e)) ∙ kind

none : (flight : Flight) (outcome : Outcome) → None ≡ Some outcome → is_of_kind flight outcome ≡ true
none flight outcome e = absurd (none-some outcome e)

cond_none : (b : Bool) (flight : Flight) (wanted outcome : Outcome) → cond b None (Some wanted) ≡ Some outcome → is_of_kind flight wanted ≡ true
    → is_of_kind flight outcome ≡ true
cond_none true flight wanted outcome e kind = absurd (none-some outcome e)
cond_none false flight wanted outcome e kind = given flight outcome wanted e kind

-- one call
by_one : (die : ℕ) (flight : Flight) (payload : List ℕ) (lasting : Bool) (g : Gave) (outcome : Outcome)
    → outcome_of die (record { flight = flight; payload = payload; lasting = lasting }) (g ∷ []) ≡ Some outcome → is_of_kind flight outcome ≡ true
by_one die flight payload lasting Refused outcome e = given flight outcome _ e refl
by_one die (Header epoch live) payload lasting Accepted outcome e = given (Header epoch live) outcome _ e refl
by_one die (Move page version from to) payload lasting Accepted outcome e = none (Move page version from to) outcome e
by_one die (Erase block) payload lasting Accepted outcome e = none (Erase block) outcome e
by_one die (Read batch page version slot) payload lasting Accepted outcome e = none (Read batch page version slot) outcome e
by_one die (Program page version slot) payload lasting Accepted outcome e =
    cond_none (is_some (call_behind (Program page version slot) lasting)) (Program page version slot) DidProgram outcome e refl
by_one die (Sync flushes) payload lasting Accepted outcome e = given (Sync flushes) outcome _ e refl
by_one die (Header epoch live) payload lasting (GaveCell cell) outcome e = none (Header epoch live) outcome e
by_one die (Move page version from to) payload lasting (GaveCell cell) outcome e =
    cond_none (is_some (moved_payload page.0 version die from.0 cell)) (Move page version from to) Wrong outcome e refl
by_one die (Erase block) payload lasting (GaveCell cell) outcome e = none (Erase block) outcome e
by_one die (Read batch page version slot) payload lasting (GaveCell cell) outcome e = given (Read batch page version slot) outcome _ e refl
by_one die (Program page version slot) payload lasting (GaveCell cell) outcome e = none (Program page version slot) outcome e
by_one die (Sync flushes) payload lasting (GaveCell cell) outcome e = none (Sync flushes) outcome e

-- the second call of a move
by_two : (die : ℕ) (flight : Flight) (payload : List ℕ) (lasting : Bool) (cell : Cell) (g : Gave) (call : JobCall) (outcome : Outcome)
    → second_call die flight cell ≡ Some call
    → outcome_of die (record { flight = flight; payload = payload; lasting = lasting }) (GaveCell cell ∷ g ∷ []) ≡ Some outcome
    → is_of_kind flight outcome ≡ true
by_two die (Move page version from to) payload lasting cell Accepted call outcome second e = given (Move page version from to) outcome _ e refl
by_two die (Move page version from to) payload lasting cell Refused call outcome second e = given (Move page version from to) outcome _ e refl
by_two die (Move page version from to) payload lasting cell (GaveCell other) call outcome second e = none (Move page version from to) outcome e
by_two die (Header epoch live) payload lasting cell g call outcome second e = absurd (none-some call second)
by_two die (Erase block) payload lasting cell g call outcome second e = absurd (none-some call second)
by_two die (Read batch page version slot) payload lasting cell g call outcome second e = absurd (none-some call second)
by_two die (Program page version slot) payload lasting cell g call outcome second e = absurd (none-some call second)
by_two die (Sync flushes) payload lasting cell g call outcome second e = absurd (none-some call second)

-- the erase behind a sync, and the sync behind a lasting program
by_behind : (die : ℕ) (flight : Flight) (payload : List ℕ) (lasting : Bool) (g : Gave) (call : JobCall) (outcome : Outcome)
    → call_behind flight lasting ≡ Some call
    → outcome_of die (record { flight = flight; payload = payload; lasting = lasting }) (Accepted ∷ g ∷ []) ≡ Some outcome
    → is_of_kind flight outcome ≡ true
by_behind die (Erase block) payload lasting Accepted call outcome behind e = given (Erase block) outcome DidErase e refl
by_behind die (Erase block) payload lasting Refused call outcome behind e = given (Erase block) outcome _ e refl
by_behind die (Erase block) payload lasting (GaveCell cell) call outcome behind e = none (Erase block) outcome e
by_behind die (Program page version slot) payload true Accepted call outcome behind e = given (Program page version slot) outcome DidProgram e refl
by_behind die (Program page version slot) payload true Refused call outcome behind e = given (Program page version slot) outcome _ e refl
by_behind die (Program page version slot) payload true (GaveCell cell) call outcome behind e = none (Program page version slot) outcome e
by_behind die (Program page version slot) payload false g call outcome behind e = absurd (none-some call behind)
by_behind die (Header epoch live) payload lasting g call outcome behind e = absurd (none-some call behind)
by_behind die (Move page version from to) payload lasting g call outcome behind e = absurd (none-some call behind)
by_behind die (Read batch page version slot) payload lasting g call outcome behind e = absurd (none-some call behind)
by_behind die (Sync flushes) payload lasting g call outcome behind e = absurd (none-some call behind)

by_next : (die : ℕ) (job : Handed) (first second : Gave) (call : JobCall) (outcome : Outcome) → next_call die job (first ∷ []) ≡ Some call
    → outcome_of die job (first ∷ second ∷ []) ≡ Some outcome → is_of_kind job.flight outcome ≡ true
by_next die job (GaveCell cell) second call outcome next e = by_two die job.flight job.payload job.lasting cell second call outcome next e
by_next die job Accepted second call outcome next e = by_behind die job.flight job.payload job.lasting second call outcome next e
by_next die job Refused second call outcome next e = absurd (none-some call next)

no_third : (die : ℕ) (job : Handed) (first second : Gave) (call : JobCall) → next_call die job (first ∷ second ∷ []) ≡ Some call → ⊥
no_third die job (GaveCell cell) second call e = none-some call e
no_third die job Accepted second call e = none-some call e
no_third die job Refused second call e = none-some call e

module _ {I : Type 0} (made : I → ImageCall → ImageAnswer → I → Type 0) (geometry : Geometry) (array : List ℕ) (die : ℕ) where
  by_calls : (job : Handed) (outcome : Outcome) (gave : List Gave) (before after : I)
      → MakesCalls made geometry array die job [] gave before after
      → outcome_of die job gave ≡ Some outcome → is_of_kind job.flight outcome ≡ true
  by_calls job outcome [] before after calls e = none job.flight outcome e
  by_calls job outcome (first ∷ []) before after calls e = by_one die job.flight job.payload job.lasting first outcome e
  by_calls job outcome (first ∷ second ∷ []) before after (call, next, middle, makes, (other, then, m, more, same)) e =
      by_next die job first second other outcome then e
  by_calls job outcome (first ∷ second ∷ third ∷ rest) before after (call, next, middle, makes, (other, then, m, more, (last, is, k, third_makes, left))) e =
      absurd (no_third die job first second last is)

  pub ran_kind : (job : Handed) (outcome : Outcome) (before after : I) → Ran made geometry array die job outcome before after
      → is_of_kind job.flight outcome ≡ true
  ran_kind job outcome before after ran = by_calls job outcome ran.gave before after ran.calls ran.ends
