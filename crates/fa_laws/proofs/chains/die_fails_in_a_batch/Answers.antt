use Rattle.fa_laws.proofs.EightBegin.{begins}
use Rattle.fa_laws.proofs.MendedBatch as mended
use Rattle.fa_laws.proofs.TornBatch as torn
use Rattle.fa_laws.proofs.Tabled.{at}
use Rattle.fa_laws.specs.EightPages.{HasThreeDies}
use Rattle.fa_laws.specs.FailingDie.{BatchOutlastsDie, admission}
use Rattle.fa_machine.specs.Run.{Run}
use Rattle.fa_types.specs.Geometry.{IsGeometry}
use Rattle.fa_types.specs.declared.geometry.Geometry.{Geometry}
use Rattle.std.proofs.Common.{List, arith, length, refl, subst, sym, ℕ, ◌≡◌}
use Rattle.fa_laws.proofs.chains.die_fails_in_a_batch.Goals as goal

module _ (size : ℕ) (within : IsGeometry 3 0 16 8 size 64) (bytes : ℕ → List ℕ) (sized : (page : ℕ) → length (bytes page) ≡ size) where
  abbrev g : Geometry
  g = torn.g size within bytes sized

  told : BatchOutlastsDie g bytes
  told = record {
    begins = begins size within bytes sized;
    pairs = torn.first_pairs size within bytes sized;
    admitted = at g (torn.t10 size within bytes sized) (torn.v10 size within bytes sized);
    admits = subst (λ w. Run w admission (at g (torn.t10 size within bytes sized) (torn.v10 size within bytes sized)))
        (sym (torn.as_listed size within bytes sized)) (torn.admitting size within bytes sized);
    least = (refl, torn.least_first size within bytes sized);
    torn = at g (torn.t29 size within bytes sized) (torn.v29 size within bytes sized);
    fails = torn.failing size within bytes sized;
    left = torn.live_left size within bytes sized;
    epoch = refl;
    is_torn = torn.is_torn_there size within bytes sized;
    planned = at g (mended.t36 size within bytes sized) (mended.v36 size within bytes sized);
    plans = mended.planning size within bytes sized;
    least_anew = (refl, mended.least_second size within bytes sized);
    ready = at g (mended.t47 size within bytes sized) (mended.v47 size within bytes sized);
    reads = mended.reading size within bytes sized;
    is_ready = mended.is_ready_there size within bytes sized;
    last = at g (mended.t48 size within bytes sized) (mended.v48 size within bytes sized);
    ends = mended.ending size within bytes sized;
    later = mended.later_targets size within bytes sized;
    writing = at g (mended.t50 size within bytes sized) (mended.v50 size within bytes sized);
    writes = mended.rewriting size within bytes sized;
    reserved = mended.reserved_there size within bytes sized;
  }

-- with pages of 512 bytes
some_geometry : (geometry : Geometry) × HasThreeDies geometry × (geometry.page_bytes ≡ 512)
some_geometry = (
  record {
    dies = 3;
    spares = 0;
    blocks = 16;
    slots = 8;
    page_bytes = 512;
    pages = 64;
    within = record {
      dies_fit = record { least = omega arith; most = omega arith; two_in_use = omega arith };
      blocks_fit = (omega arith, omega arith);
      slots_fit = (omega arith, omega arith);
      page_fits = refl;
      pages_fit = record { least = omega arith; most = omega arith; fit_twice = omega arith };
    };
  },
  record { dies = refl; spares = refl; blocks = refl; slots = refl; pages = refl },
  refl,
)

pub returns : goal.returns
returns c = record {
  some = some_geometry;
  told = λ geometry bytes three sized.
      subst (λ (x : ℕ × ℕ × ℕ × ℕ × ℕ). (within : IsGeometry x.0 x.1 x.2 x.3 geometry.page_bytes x.4)
      → BatchOutlastsDie (record { dies = x.0; spares = x.1; blocks = x.2; slots = x.3; page_bytes = geometry.page_bytes; pages = x.4; within = within }) bytes)
      (sym (λ i. (three.dies i, three.spares i, three.blocks i, three.slots i, three.pages i)))
      (λ within. told geometry.page_bytes within bytes sized) geometry.within;
}
