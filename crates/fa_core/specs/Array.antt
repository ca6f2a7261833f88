-- What contracts see of an array, and what is true of one at any time.
use Rattle.std.specs.Prelude.{◌≡◌, ℕ, List}
use Rattle.fa_core.specs.declared.array.Array.{Array}
use Rattle.fa_laws.specs.Counted.{HasHistory}
use Rattle.fa_machine.specs.Reading.{zeros}
use Rattle.fa_machine.specs.State.{Core, MapState}
use Rattle.fa_sound.specs.Ready.{AreReady}
use Rattle.fa_sound.specs.Sound.{IsSound}
use Rattle.fa_core_state.specs.Core.{core_of}
use Rattle.fa_core_state.specs.Fitted.{IsFitted}

module _ {M A : Type 0} (view : M → MapState) where
  -- the array's state: the machine's own
  abbrev pub state_of : Array M A → Core
  state_of array = core_of view array.state

  -- The state is sound, each program that waits can be made by its die, the containers fit the state, its history is the one of
  -- its pages, and the page of zeros that the copies of holes share is one.
  pub record IsWhole (array : Array M A) : Type 0 where
    pub sound : IsSound (state_of array)
    pub ready : AreReady (state_of array)
    pub fitted : IsFitted view array.state
    pub history : HasHistory (state_of array)
    pub zeros : array.zeros ≡ zeros (view array.state.page_map)

-- the number of the array
abbrev pub number_of : {M A : Type 0} → Array M A → List ℕ
number_of array = array.array
