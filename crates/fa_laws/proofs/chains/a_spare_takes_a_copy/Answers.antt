use Rattle.fa_laws.proofs.DieLost as lost
use Rattle.fa_laws.proofs.SpareBegin.{begins}
use Rattle.fa_laws.proofs.SpareTaken as taken
use Rattle.fa_laws.proofs.Tabled.{at}
use Rattle.fa_laws.specs.SpareComesIn.{HasFiveDies, SpareTakesACopy, writing_thrice}
use Rattle.fa_machine.specs.Run.{Run}
use Rattle.fa_types.specs.Geometry.{IsGeometry}
use Rattle.fa_types.specs.declared.geometry.Geometry.{Geometry}
use Rattle.std.proofs.Common.{List, arith, length, refl, subst, sym, ℕ, ◌≡◌}
use Rattle.fa_laws.proofs.chains.a_spare_takes_a_copy.Goals as goal

module _ (size : ℕ) (within : IsGeometry 5 1 4 4 size 8) (bytes : ℕ → List ℕ) (sized : (page : ℕ) → length (bytes page) ≡ size) where
  abbrev g : Geometry
  g = lost.g size within bytes sized

  told : SpareTakesACopy g bytes
  told = record {
    begins = begins size within;
    written = at g (lost.t25 size within bytes sized) (lost.v25 size within bytes sized);
    writes = subst (λ w. Run w (writing_thrice bytes) (at g (lost.t25 size within bytes sized) (lost.v25 size within bytes sized)))
        (sym (lost.as_listed size within bytes sized)) (lost.writing_it size within bytes sized);
    three = lost.three size within bytes sized;
    torn = at g (lost.t29 size within bytes sized) (lost.v29 size within bytes sized);
    loses = lost.losing_it size within bytes sized;
    two = lost.two size within bytes sized;
    is_torn = lost.is_torn size within bytes sized;
    mended = at g (taken.t42 size within bytes sized) (taken.v42 size within bytes sized);
    mends = taken.mending_it size within bytes sized;
    answered = at g (taken.t47 size within bytes sized) (taken.v47 size within bytes sized);
    reads = taken.answering_it size within bytes sized;
    copied = at g (taken.t52 size within bytes sized) (taken.v52 size within bytes sized);
    copies = taken.copying_it size within bytes sized;
    again = taken.again size within bytes sized;
    given_up = at g (taken.t56 size within bytes sized) (taken.v56 size within bytes sized);
    gives_up = taken.giving_it_up size within bytes sized;
    stale = taken.stale size within bytes sized;
    erased = at g (taken.t61 size within bytes sized) (taken.v61 size within bytes sized);
    erases = taken.erasing_it size within bytes sized;
    is_erased = taken.is_erased size within bytes sized;
    folded = at g (taken.t62 size within bytes sized) (taken.v62 size within bytes sized);
    folds = taken.folding_it size within bytes sized;
    none = refl;
    counted = refl;
    last = at g (taken.t67 size within bytes sized) (taken.v67 size within bytes sized);
    reads_again = taken.reading_it size within bytes sized;
  }

-- with pages of 512 bytes
some_geometry : (geometry : Geometry) × HasFiveDies geometry × (geometry.page_bytes ≡ 512)
some_geometry = (
  record {
    dies = 5;
    spares = 1;
    blocks = 4;
    slots = 4;
    page_bytes = 512;
    pages = 8;
    within = record {
      dies_fit = record { least = omega arith; most = omega arith; two_in_use = omega arith };
      blocks_fit = (omega arith, omega arith);
      slots_fit = (omega arith, omega arith);
      page_fits = refl;
      pages_fit = record { least = omega arith; most = omega arith; fit_twice = omega arith };
    };
  },
  record { dies = refl; spares = refl; blocks = refl; slots = refl; pages = refl },
  refl,
)

pub returns : goal.returns
returns c = record {
  some = some_geometry;
  told = λ geometry bytes five sized.
      subst (λ (x : ℕ × ℕ × ℕ × ℕ × ℕ). (within : IsGeometry x.0 x.1 x.2 x.3 geometry.page_bytes x.4)
      → SpareTakesACopy (record { dies = x.0; spares = x.1; blocks = x.2; slots = x.3; page_bytes = geometry.page_bytes; pages = x.4; within = within }) bytes)
      (sym (λ i. (five.dies i, five.spares i, five.blocks i, five.slots i, five.pages i)))
      (λ within. told geometry.page_bytes within bytes sized) geometry.within;
}
