-- Spares beside live dies.
use Rattle.std.specs.FinMap.{contains_key}
use Rattle.std.specs.Prelude.{◌≡◌, ℕ, true, false}
use Rattle.fa_machine.specs.Maps.{Numbers}
use Rattle.fa_machine.specs.State.{MapState, is_live}

-- no spare is live
abbrev pub AreApart : MapState → Numbers → Type 0
AreApart m spares = (die : ℕ) → contains_key spares die ≡ true → is_live m die ≡ false
