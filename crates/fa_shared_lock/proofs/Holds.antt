-- What one event leaves for the next of the same hold.
use Rattle.std.proofs.Common.{◌≡◌, ◌∙◌, ap, refl}
use Rattle.fa_machine.specs.State.{Core}
use Rattle.fa_shared_lock.specs.Locked.{LockedState}
use Rattle.fa_shared_lock.specs.declared.seat.Seat.{Seat}
use Rattle.fa_shared_lock.specs.Rest.{LeavesRest}

-- one after the other
pub join_rest : {L : Type 0} {a b c : LockedState} {s t u : Seat L} → LeavesRest a s b t → LeavesRest b t c u → LeavesRest a s c u
join_rest {a = a} {b = b} {c = c} one two = record {
  rest = two.rest ∙ ap (λ (l : LockedState). record l { core = c.core }) one.rest;
  commits = two.commits ∙ one.commits;
  number = two.number ∙ one.number;
}

-- where nothing has changed
pub rest_same : {L : Type 0} (a : LockedState) (s : Seat L) → LeavesRest a s a s
rest_same a s = record { rest = refl; commits = refl; number = refl }

-- where the state has not, nothing has
pub all_same : {L : Type 0} {a b : LockedState} {s t : Seat L} → LeavesRest a s b t → b.core ≡ a.core → b ≡ a
all_same {a = a} rest same = rest.rest ∙ ap (λ (c : Core). record a { core = c }) same
