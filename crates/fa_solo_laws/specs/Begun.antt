-- Where a request begins.
use Rattle.std.specs.Prelude.{◌≡◌, ◌*◌, ◌≤◌, [], Some, true}
use Rattle.fa_solo_laws.specs.Asked.{Moment}
use Rattle.fa_laws.specs.Reached.{IsReached}
use Rattle.fa_machine.specs.Copies.{is_lost}
use Rattle.fa_machine.specs.World.{World}
use Rattle.fa_machine.specs.declared.places.Copying.{Copying}
use Rattle.fa_shared_steps.specs.Stages.{beginning}
use Rattle.fa_shared_steps.specs.Tasks.{end_of, task_of}
use Rattle.fa_shared_steps.specs.declared.request.Request.{Request}

-- no copy of a page that is lost is under way
abbrev pub IsCalm : World → Type 0
IsCalm w = (copying : Copying) → w.core.copying ≡ Some copying → is_lost w.core.page_map copying.page.0 ≡ true → ⊥

-- A request as it begins, over a world that runs lead to. The request lies within the array.
pub record HasBegun {A : Type 0} (request : Request) (m : Moment A) : Type 0 where
  pub reached : IsReached m.world
  pub calm : IsCalm m.world
  pub inside : end_of request ≤ m.world.core.page_map.geometry.pages * m.world.core.page_map.geometry.page_bytes
  pub stage : m.stage ≡ beginning (task_of m.world.core.page_map.geometry.page_bytes request)
  pub answer : m.answer ≡ []
