-- Deeds of the store lead from a world that its array and images are of to another one, by the run that they drive.
use Rattle.fa_solo_laws.proofs.DrivenDeeds.{deeds_drive}
use Rattle.fa_solo_laws.specs.Driving.{IsDeedOf, IsPlain, StandsFor, image_on}
use Rattle.fa_mount_headers.specs.declared.judging.Standing.{Standing}
use Rattle.fa_image.specs.Image.{ImageAnswer, ImageCall, ImageMeets, ImageState, IsImage, slot_at}
use Rattle.fa_laws.proofs.Within.{GeometryLaw}
use Rattle.fa_machine.specs.Run.{Happening, HappensEvent, Run}
use Rattle.fa_machine.specs.State.{Core}
use Rattle.fa_machine.specs.Step.{Act, Step}
use Rattle.fa_machine.specs.World.{DieImage, IsTold, Told, Work, World, followed}
use Rattle.fa_mount.specs.Standings.{AreApart}
use Rattle.fa_mount_close_laws.proofs.DrivenRuns.{Follows, driven, honest_before}
use Rattle.fa_mount_close_laws.proofs.Following.{images_follow}
use Rattle.fa_mount_close_laws.specs.Drives.{AreHonest, AreImages, Drive, Driven, Drives, acts_of, events_of}
use Rattle.fa_mount_scan.specs.ContentCells.{IsCellOf}
use Rattle.fa_solo_job.specs.Deeds.{Goes}
use Rattle.fa_solo_job.specs.House.{House}
use Rattle.fa_types.specs.declared.geometry.Geometry.{Geometry}
use Rattle.std.proofs.Common.{Bool, List, None, Option, [], ap, refl, subst, suc, sym, ℕ, ◌*◌, ◌<◌, ◌∙◌, ◌≡◌}
use Rattle.std.specs.List.{AllByRecursion}

-- a world of an array with its images, of which no job is in flight
pub record Stands {I : Type 0} (view : I → ImageState) (dies : List Standing) (house : House I) (w : World) : Type 0 where
  pub core : w.core ≡ house.core
  pub images : AreImages view w (image_on dies house.images)
  pub idle : (die : ℕ) → w.works die ≡ None

-- the images of another world of the same shape
pub images_kept : {I : Type 0} (view : I → ImageState) (w v : World) (images : ℕ → Option I) → v.images ≡ w.images → v.core.page_map.geometry ≡ w.core.page_map.geometry
    → AreImages view w images → AreImages view v images
images_kept view w v images same shape are die image is =
    let one = are die image is in record {
      shape = one.shape ∙ sym shape;
      cells = λ slot within.
          subst (λ (i : ℕ → DieImage). IsCellOf (slot_at slot (view image)) ((i die).seen slot)) (sym same)
          (one.cells slot (subst (λ (g : Geometry). slot < g.blocks * g.slots) shape within));
    }

-- behind an event that no job takes part in
module _ {I : Type 0} (view : I → ImageState) (dies : List Standing) (law : GeometryLaw) (w : World) (old new : House I) (act : Act)
    (stands : Stands view dies old w) (step : Step old.core act new.core) (images : new.images ≡ old.images) (told : IsTold w act)
    (works : (followed act w).works ≡ w.works) where
  abbrev pub next : World
  next = record (followed act w) { core = new.core; moment = suc w.moment }

  its_step : Step w.core act new.core
  its_step = subst (λ (c : Core). Step c act new.core) (sym stands.core) step

  pub happens : HappensEvent w act next
  happens = record { step = its_step; told = told; follows = refl }

  pub stands_next : Stands view dies new next
  stands_next = record {
    core = refl;
    images = subst (λ (l : List I). AreImages view next (image_on dies l)) (sym images)
        (images_kept view w next (image_on dies old.images) (images_follow act w) (law w.core new.core act its_step) stands.images);
    idle = λ die. ap (λ (f : ℕ → Option Work). f die) works ∙ stands.idle die;
  }

-- an array with its images as what drives one, where nothing is under way
abbrev first : {I : Type 0} → List Standing → List Told → House I → Driven I
first dies told house = record { core = house.core; images = image_on dies house.images; works = λ die. None; told = told }

module _ {I : Type 0} (view : I → ImageState) (honest : I → Bool) (made : I → ImageCall → ImageAnswer → I → Type 0)
    (whole : (image : I) → IsImage (view image))
    (meets : (before after : I) (call : ImageCall) (answer : ImageAnswer) → made before call answer after
    → ImageMeets (view before) (honest before) call answer (view after) (honest after)) (array : List ℕ) (dies : List Standing) (seat : ℕ)
    (law : GeometryLaw) (apart : AreApart dies) (P : Act → Type 0) (plain : (act : Act) → P act → IsPlain act) where
  module _ (old new : House I) (goes : Goes made array dies seat P old new) (fair : AreHonest honest (image_on dies new.images)) where
    led : (told : List Told) → (drives : List Drive) × (last : Driven I) × Drives made array (first dies told old) drives last
        × StandsFor dies new last × AllByRecursion (IsDeedOf P) (acts_of drives)
    led told = deeds_drive made array dies seat P law plain apart old new (first dies told old)
        (record { core = refl; images = λ die. refl; works = λ die. refl }) goes

    fair_last : (told : List Told) → AreHonest honest ((led told).1).images
    fair_last told die image is = fair die image (sym ((led told).3.images die) ∙ is)

    -- images that return what was written behind the deeds did so before
    pub fair_before : AreHonest honest (image_on dies old.images)
    fair_before = honest_before view honest made whole meets array (first dies [] old) (led []).1 (led []).0 (led []).2 (fair_last [])

  -- the run to which deeds lead
  pub record Led (w : World) (new : House I) : Type 0 where
    pub last : World
    pub happenings : List Happening
    pub run : Run w happenings last
    pub events : AllByRecursion (IsDeedOf P) (events_of happenings)
    pub stands : Stands view dies new last

  pub deeds_led : (old new : House I) → Goes made array dies seat P old new → AreHonest honest (image_on dies new.images) → (w : World)
      → Stands view dies old w → Led w new
  deeds_led old new goes fair w stands =
      let drove = led old new goes fair w.told in
      let follows : Follows view honest made whole meets array w (first dies w.told old) =
      record { core = stands.core; told = refl; works = stands.idle; given = λ die. tt; images = stands.images } in
      let run = driven view honest made whole meets array law drove.0 (first dies w.told old) drove.1 w follows drove.2
      (fair_last old new goes fair w.told) in
      record {
        last = run.1;
        happenings = run.0;
        run = run.2;
        events = subst (AllByRecursion (IsDeedOf P)) (sym run.4) drove.4;
        stands = record {
          core = run.3.core ∙ drove.3.core;
          images = λ die image is. run.3.images die image (drove.3.images die ∙ is);
          idle = λ die. run.3.works die ∙ drove.3.works die;
        };
      }
