use Rattle.fa_laws.proofs.HoleRead as read
use Rattle.fa_laws.proofs.HoleWritten as written
use Rattle.fa_laws.proofs.Tabled.{at}
use Rattle.fa_laws.specs.HoleAndMove.{HasTwoDies, ReadsAHoleAndAMovedPage, writing}
use Rattle.fa_laws.specs.Formatted.{formatted}
use Rattle.fa_machine.specs.Beginning.{IsBeginning}
use Rattle.fa_machine.specs.Run.{Run}
use Rattle.fa_types.specs.Geometry.{IsGeometry}
use Rattle.fa_types.specs.declared.geometry.Geometry.{Geometry}
use Rattle.std.proofs.Common.{List, arith, length, refl, subst, sym, ℕ, ◌≡◌}
use Rattle.fa_laws.proofs.chains.a_hole_a_move_and_a_flush.Goals as goal

module _ (size : ℕ) (within : IsGeometry 2 0 4 4 size 8) (bytes : ℕ → List ℕ) (sized : (page : ℕ) → length (bytes page) ≡ size) where
  abbrev g : Geometry
  g = written.g size within bytes sized

  told : IsBeginning (formatted g) → ReadsAHoleAndAMovedPage g bytes
  told begins = record {
    begins = begins;
    written = at g (written.t36 size within bytes sized) (written.v36 size within bytes sized);
    writes = subst (λ w. Run w (writing bytes) (at g (written.t36 size within bytes sized) (written.v36 size within bytes sized)))
        (sym (written.as_listed size within bytes sized)) (written.writing_three size within bytes sized);
    content = refl;
    holed = at g (written.t46 size within bytes sized) (written.v46 size within bytes sized);
    makes_a_hole = written.making_it size within bytes sized;
    is_hole = written.is_a_hole size within bytes sized;
    is_zeros = refl;
    windowed = at g (read.t48 size within bytes sized) (read.v48 size within bytes sized);
    opens_a_window = read.opening size within bytes sized;
    admitted = at g (read.t49 size within bytes sized) (read.v49 size within bytes sized);
    admits = read.admitting size within bytes sized;
    at_once = read.at_once size within bytes sized;
    booked = read.booked size within bytes sized;
    before = read.before size within bytes sized;
    moved = at g (read.t53 size within bytes sized) (read.v53 size within bytes sized);
    moves = read.moving_it size within bytes sized;
    after = read.after size within bytes sized;
    ready = at g (read.t60 size within bytes sized) (read.v60 size within bytes sized);
    reads = read.reading_both size within bytes sized;
    answered = at g (read.t61 size within bytes sized) (read.v61 size within bytes sized);
    ends = read.ending size within bytes sized;
    last = at g (read.t70 size within bytes sized) (read.v71 size within bytes sized);
    flushes = read.flushing_both size within bytes sized;
  }

-- with pages of 512 bytes
some_geometry : (geometry : Geometry) × HasTwoDies geometry × (geometry.page_bytes ≡ 512)
some_geometry = (
  record {
    dies = 2;
    spares = 0;
    blocks = 4;
    slots = 4;
    page_bytes = 512;
    pages = 8;
    within = record {
      dies_fit = record { least = omega arith; most = omega arith; two_in_use = omega arith };
      blocks_fit = (omega arith, omega arith);
      slots_fit = (omega arith, omega arith);
      page_fits = refl;
      pages_fit = record { least = omega arith; most = omega arith; fit_twice = omega arith };
    };
  },
  record { dies = refl; spares = refl; blocks = refl; slots = refl; pages = refl },
  refl,
)

pub returns : goal.returns
returns c = record {
  some = some_geometry;
  told = λ geometry bytes two sized.
      subst (λ (x : ℕ × ℕ × ℕ × ℕ × ℕ). (within : IsGeometry x.0 x.1 x.2 x.3 geometry.page_bytes x.4)
      → IsBeginning (formatted (record { dies = x.0; spares = x.1; blocks = x.2; slots = x.3; page_bytes = geometry.page_bytes; pages = x.4; within = within }))
      → ReadsAHoleAndAMovedPage
      (record { dies = x.0; spares = x.1; blocks = x.2; slots = x.3; page_bytes = geometry.page_bytes; pages = x.4; within = within }) bytes)
      (sym (λ i. (two.dies i, two.spares i, two.blocks i, two.slots i, two.pages i)))
      (λ within begins. told geometry.page_bytes within bytes sized begins) geometry.within
      (c.a_formatted_array_is_a_beginning.ensures geometry two.dies two.spares);
}
