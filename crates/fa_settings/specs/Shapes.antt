-- The numbers that shape an array, before they are judged together: words for private functions.
use Rattle.std.specs.Prelude.{◌≡◌, ℕ, List, [], ◌∷◌}
use Rattle.std.specs.List.{AllByRecursion}
use Rattle.toml.specs.Data.{Members}
use Rattle.fa_types.specs.Geometry.{IsGeometry, AreCopies, IsFirstFault as IsGeometryFault}
use Rattle.fa_types.specs.declared.geometry.Geometry.{Geometry}
use Rattle.fa_types.specs.declared.geometry.GeometryFault.{GeometryFault}
use Rattle.fa_types.specs.declared.geometry.GeometryFault.TheVariants as geometry
use Rattle.fa_settings.specs.Faults.{IsFine}
use Rattle.fa_settings.specs.Settings.{number_at}
use Rattle.fa_settings.specs.declared.key.Key.{Key}
use Rattle.fa_settings.specs.declared.key.Key.TheVariants.{Dies, Spares, Blocks, Slots, PageBytes, Pages}
use Rattle.fa_settings.specs.declared.shape.Shape.{Shape}

-- the keys of the numbers
abbrev pub shape_keys : List Key
shape_keys = Dies ∷ Spares ∷ Blocks ∷ Slots ∷ PageBytes ∷ Pages ∷ []

-- these are the numbers of a document
pub record IsShape (document : Members) (shape : Shape) : Type 0 where
  pub fine : AllByRecursion (IsFine document) shape_keys
  pub dies : shape.dies ≡ number_at document Dies
  pub spares : shape.spares ≡ number_at document Spares
  pub blocks : shape.blocks ≡ number_at document Blocks
  pub slots : shape.slots ≡ number_at document Slots
  pub page_bytes : shape.page_bytes ≡ number_at document PageBytes
  pub pages : shape.pages ≡ number_at document Pages

-- the geometry has these numbers
pub record HasShape (found : Geometry) (shape : Shape) : Type 0 where
  pub dies : found.dies ≡ shape.dies
  pub spares : found.spares ≡ shape.spares
  pub blocks : found.blocks ≡ shape.blocks
  pub slots : found.slots ≡ shape.slots
  pub page_bytes : found.page_bytes ≡ shape.page_bytes
  pub pages : found.pages ≡ shape.pages

-- why the numbers do not go together
abbrev pub IsShapeFault : Shape → ℕ → GeometryFault → Type 0
IsShapeFault shape copies geometry.Copies =
    IsGeometry shape.dies shape.spares shape.blocks shape.slots shape.page_bytes shape.pages
    × (¬ (AreCopies copies shape.dies shape.spares shape.blocks shape.slots shape.pages))
IsShapeFault shape copies fault =
    IsGeometryFault shape.dies shape.spares shape.blocks shape.slots shape.page_bytes shape.pages fault
