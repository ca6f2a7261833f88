-- What is true of the dies that a write goes to.
use Rattle.std.specs.Prelude.{◌≡◌, ℕ, ◌*◌, ◌<◌, ◌≤◌, true, ◌==◌, List}
use Rattle.fa_machine.specs.Among.{tally}
use Rattle.fa_machine.specs.Placement.{has_room}
use Rattle.fa_machine.specs.State.{MapState, is_live}
use Rattle.fa_machine.specs.declared.places.Target.{Target}

-- a die that a copy may be written to
pub record TakesWrites (m : MapState) (die : ℕ) : Type 0 where
  pub inside : die < m.geometry.dies
  pub live : is_live m die ≡ true
  pub room : has_room m die ≡ true

-- a slot of a live die, which is one of the geometry
pub record MayReserve (m : MapState) (target : Target) : Type 0 where
  pub inside : target.die.0 < m.geometry.dies
  pub live : is_live m target.die.0 ≡ true
  pub fits : target.slot.0 < m.geometry.blocks * m.geometry.slots

-- no number stands in the list twice
abbrev pub AreApart : List ℕ → Type 0
AreApart numbers = (n : ℕ) → tally (λ x. x == n) numbers ≤ 1
