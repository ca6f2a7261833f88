use Rattle.std.proofs.Common.{◌≡◌, map, take}
use Rattle.fa_plan.specs.Notes.{place_from}
use Rattle.fa_plan.proofs.note.copy_places.Given as goal

abbrev pub invariant-loop-place : goal.invariant-loop-place
invariant-loop-place g l = l.told ≡ map (place_from l.now) (take l.place-index l.places)
