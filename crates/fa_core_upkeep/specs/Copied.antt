-- A copy that begins.
use Rattle.std.specs.Prelude.{ℕ, List, [], ◌∷◌, ◌++◌, Some}
use Rattle.fa_machine.specs.State.{Core}
use Rattle.fa_machine.specs.Writing.{program_at, target_on, with_targets}
use Rattle.fa_machine.specs.declared.places.Used.TheVariants.{Reserved}
use Rattle.fa_machine.specs.declared.places.Version.{Version}

-- the state in which these bytes are under way to a die, as a copy of a write of the page
abbrev pub copying_on : Core → ℕ → Version → List ℕ → ℕ → Core
copying_on core page version bytes die =
    let t = target_on core.page_map die in record core {
      page_map = with_targets Reserved (t ∷ []) core.page_map;
      waiting = core.waiting ++ program_at page version bytes t ∷ [];
      copying = Some (record { page = record { 0 = page }; version = version; target = t });
    }
