-- What the dies can do next.
use Rattle.std.specs.Prelude.{◌≡◌, ℕ, ◌*◌, ◌<◌, ◌≤◌, List, length, replicate}
use Rattle.fa_machine.specs.Among.{Among}
use Rattle.fa_machine.specs.State.{Core, WaitingProgram}
use Rattle.fa_machine.specs.declared.places.Version.{Version}
use Rattle.fa_types.specs.declared.geometry.Geometry.{Geometry}
use Rattle.fa_types.specs.declared.kind.Kind.TheVariants.{Hole}

-- A program writes a page of the array, with a number that was given, into a slot of the die, and has a page's bytes: zeros for a hole.
pub record IsProgram (g : Geometry) (last page : ℕ) (version : Version) (slot : ℕ) (payload : List ℕ) : Type 0 where
  pub inside : page < g.pages
  pub given : 1 ≤ version.seq.0
  pub below : version.seq.0 ≤ last
  pub on_die : slot < g.blocks * g.slots
  pub sized : length payload ≡ g.page_bytes
  pub zeros : version.kind ≡ Hole → payload ≡ replicate g.page_bytes 0

-- Each program that waits is one, and the epoch is one that a header may have.
pub record AreReadyOf (g : Geometry) (last changes : ℕ) (waiting : List WaitingProgram) : Type 0 where
  pub programs : (p : WaitingProgram) → Among p waiting → IsProgram g last p.page p.version p.slot p.payload
  pub epoch : 1 ≤ changes

-- whatever is handed out next can be done
abbrev pub AreReady : Core → Type 0
AreReady core = AreReadyOf core.page_map.geometry core.last core.epoch core.waiting
