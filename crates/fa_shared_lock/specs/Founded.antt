-- What a turn tells beside its move: what an event that is made is founded on, and which condition fails where none can be made.
use Rattle.std.specs.Prelude.{◌≡◌, ℕ, Bool, true, false, not, ◌&&◌, nat_le, length, map, is_some, Err}
use Rattle.std.specs.List.{list_all, list_any}
use Rattle.fa_machine.specs.Collecting.{victim}
use Rattle.fa_machine.specs.Conditions.{claim_open, is_reserved}
use Rattle.fa_machine.specs.Placement.{has_room}
use Rattle.fa_machine.specs.Reading.{results}
use Rattle.fa_machine.specs.State.{Core, MapState, dies_of, is_live}
use Rattle.fa_machine.specs.Step.{Act, EndBatch, Replan, ReserveFewer, is_distinct, is_page, is_sized}
use Rattle.fa_machine.specs.declared.answers.ReadState.TheVariants.{Ready, Torn}
use Rattle.fa_machine.specs.declared.refusals.ReserveRefused.TheVariants.{NoRoom}
use Rattle.fa_shared_steps.specs.declared.stage.Stage.{Stage}
use Rattle.fa_shared_steps.specs.declared.stage.Stage.TheVariants.{Asking, Reading, Releasing, Reserving}
use Rattle.fa_shared_steps.specs.declared.stage.Wish.{Wish}
use Rattle.fa_shared_steps.specs.declared.stage.Wish.TheVariants.{Data, Fewer, Hole}

-- whether a die without room has a block to collect
abbrev pub may_free : MapState → ℕ → Bool
may_free m die = is_live m die && not (has_room m die) && is_some (victim m die)

-- whether some die has
abbrev pub may_collect : MapState → Bool
may_collect m = list_any (may_free m) (dies_of m)

module _ {A : Type 0} where
  -- A batch that is read is ended as it is ready, and planned anew where it is torn. A write is refused for want of room where nothing can
  -- be collected.
  abbrev pub IsFounded : Core → Stage A → Act → Stage A → Type 0
  IsFounded core (Reading purpose batch) (EndBatch b answers) next = results core b ≡ Ready
  IsFounded core (Reading purpose batch) (Replan b answer) next = results core b ≡ Torn
  IsFounded core (Reserving held (Fewer payload)) (ReserveFewer claim bytes (Err NoRoom)) (Releasing h fault) = may_collect core.page_map
      ≡ false
  IsFounded core stage act next = Unit {0}

  abbrev pub fits : Core → Wish A → Bool
  fits core (Data payload) = is_sized core payload
  fits core (Fewer payload) = is_sized core payload
  fits core Hole = true

  -- A condition of the event of a stage does not hold, where it is not told of what the request comes to then.
  abbrev pub IsBarred : Core → Stage A → Type 0
  IsBarred core (Asking purpose pages) =
      (is_distinct (map (λ page. page.0) pages) && list_all (is_page core) (map (λ page. page.0) pages)
      && nat_le (length (map (λ page. page.0) pages)) 1024) ≡ false
  IsBarred core (Reserving held wish) = (claim_open core held.claim.0 && not (is_reserved core held.claim.0) && fits core wish) ≡ false
  IsBarred core stage = Unit {0}
