-- The dies that are left, turn by turn, and what closing ends with.
use Rattle.std.proofs.Common.{◌≡◌, ◌∙◌, ◌==◌, ◌&&◌, ◌+◌, ◌*◌, ◌<◌, ◌^◌, not, ℕ, Bool, true, false, List, Some, None, length, ap, inl, inr, sym, subst, arith}
use Rattle.std.proofs.lemmas.Bool.{and_parts}
use Rattle.std.specs.FinMap.{len}
use Rattle.fa_mount_headers.specs.Rules.{is_in}
use Rattle.fa_mount_headers.specs.declared.judging.Standing.{Standing}
use Rattle.fa_image.specs.Image.{ImageCall, Syncing, ImageAnswer}
use Rattle.fa_machine.specs.State.{Core, is_live}
use Rattle.fa_mount.proofs.Become.{Become, begun_by, cut_by, done_by, lost_by, none_by}
use Rattle.fa_mount.proofs.Bits.{count_at_most, count_less, count_same, in_below, none_in_zero}
use Rattle.fa_mount.proofs.Images.{after_that, unchanged, weaker}
use Rattle.fa_mount.specs.Closing.{AreLeft, HasBecome, IsClosed, IsClosedClean, IsEarlier, IsLostAt, IsNoneLive, IsUnmarked, how_many, lowest_lost, writing_in}
use Rattle.fa_mount.specs.Phases.{ByDie}
use Rattle.fa_mount.specs.Standings.{HaveImages}
use Rattle.fa_mount.specs.Told.{writing}
use Rattle.fa_mount.specs.Turns.{AreCut, AreDone, AreUnmarked, IsCalled, IsCut, IsOfTurn}
use Rattle.fa_mount.specs.declared.telling.Told.{Told}
use Rattle.fa_types.specs.declared.geometry.Geometry.{Geometry}

-- ## The dies that are left

pub left_at_first : (core : Core) (mask : ℕ) → ((die : ℕ) → is_in mask die ≡ is_live core.page_map die) → AreLeft core core.epoch mask
left_at_first core mask same = record {
  live = λ die is. sym (same die) ∙ is;
  rose = ap (λ n. core.epoch + n) (count_same core.page_map.geometry.dies (is_in mask) (is_live core.page_map) same);
}

pub left_then : (core : Core) (epoch mask rest out : ℕ) → mask < 2 ^ core.page_map.geometry.dies → AreLeft core epoch mask
    → is_in mask out ≡ true → ((die : ℕ) → is_in rest die ≡ (not (die == out) && is_in mask die)) → AreLeft core (epoch + 1) rest
left_then core epoch mask rest out fits left is less =
    let dies = core.page_map.geometry.dies in
    let fewer = count_less (is_in mask) (is_in rest) out dies (in_below mask dies out fits is) is less in
    let rose = left.rose in record {
      live = λ die in_rest. left.live die (and_parts (not (die == out)) (is_in mask die) (sym (less die) ∙ in_rest)).1;
      rose = omega (arith, fewer, rose);
    }

-- the epoch stays within what there is room for
pub epoch_fits : (core : Core) (epoch mask spares : ℕ) → AreLeft core epoch mask → core.epoch + len core.page_map.live + 2 * spares < 2 ^ 62
    → epoch + how_many core.page_map.geometry.dies (is_in mask) < 2 ^ 62
epoch_fits core epoch mask spares left room =
    let few = count_at_most core.page_map.geometry.dies core.page_map.live in
    let rose = left.rose in
    omega (arith, few, rose, room)

pub have_still : {I : Type 0} (dies : List Standing) (live these : ℕ → Bool) (before after : List I) → length after ≡ length before
    → ((die : ℕ) → these die ≡ true → live die ≡ true) → HaveImages dies live (length before) → HaveImages dies these (length after)
have_still dies live these before after long inside have die is =
    let had = have die (inside die is) in (had.0, had.1, omega (arith, had.2, long))

-- ## The images

-- syncs are earlier calls, and so is what was earlier before
later : (geometry : Geometry) (array : List ℕ) (epoch die : ℕ) (call : ImageCall) → IsEarlier geometry array epoch die call
    → IsEarlier geometry array (epoch + 1) die call
later geometry array epoch die call (inl sync) = inl sync
later geometry array epoch die call (inr x) = inr (x.0, x.1, omega (arith, x.2), x.3)

module _ {I : Type 0} (made : I → ImageCall → ImageAnswer → I → Type 0) (core : Core) (array : List ℕ) (dies : List Standing)
    (xs : List I) where
  abbrev Earlier : ℕ → ℕ → ImageCall → Type 0
  Earlier = IsEarlier core.page_map.geometry array

  -- the image of a die that is left was called, and is marked or not
  abbrev StillCalled : ℕ → ℕ → ℕ → ℕ → I → I → Type 0
  StillCalled epoch mask marked die =
      Become made (Earlier epoch die) (is_live core.page_map die) (is_in mask die) (IsCalled made (Earlier epoch die) (is_in marked die))

  -- since closing began
  abbrev pub AreCalled : ℕ → ℕ → ℕ → List I → Type 0
  AreCalled epoch mask marked = ByDie dies (StillCalled epoch mask marked) xs

  syncs : (epoch die : ℕ) (call : ImageCall) → call ≡ Syncing → Earlier epoch die call
  syncs epoch die call is = inl is

  pub called_at_first : (epoch mask marked : ℕ) → ((die : ℕ) → is_in mask die ≡ is_live core.page_map die) → AreCalled epoch mask marked xs
  called_at_first epoch mask marked same =
      unchanged dies (StillCalled epoch mask marked) xs
      (λ die x. begun_by made (Earlier epoch die) (syncs epoch die) (is_live core.page_map die) (is_in mask die) (is_in marked die) x (same die))

  module _ (told : Told) (marked : ℕ) (ys zs : List I) (left : AreLeft core told.epoch told.mask)
      (before : AreCalled told.epoch told.mask marked ys) where
    pub none_live : lowest_lost core.page_map told.mask ≡ None → told.mask ≡ 0 → zs ≡ ys → IsNoneLive made core array dies xs zs
    none_live none zero same = record {
      epoch = told.epoch;
      left = subst (λ n. AreLeft core told.epoch n) zero left;
      none_lost = ap (lowest_lost core.page_map) (sym zero) ∙ none;
      images =
          subst (λ l. ByDie dies (HasBecome made core array dies xs zs told.epoch 0 (λ kind d a w. ⊥)) xs l) (sym same)
          (weaker dies (StillCalled told.epoch told.mask marked) (HasBecome made core array dies xs zs told.epoch 0 (λ kind d a w. ⊥)) xs ys
          before
          (λ die x y. none_by made (Earlier told.epoch die) (syncs told.epoch die) (is_live core.page_map die) (is_in told.mask die) (is_in 0 die)
          (is_in marked die) x y (ap (λ n. is_in n die) zero ∙ none_in_zero die) (none_in_zero die)));
    }

    module _ (shape : told.geometry ≡ core.page_map.geometry) (number : told.array ≡ array) where
      same_call : (clean : Bool) (die : ℕ) → writing told clean die ≡ writing_in core.page_map.geometry array told.epoch told.mask clean die
      same_call clean die =
          ap (λ (g : Geometry). writing_in g told.array told.epoch told.mask clean die) shape
          ∙ ap (λ (a : List ℕ). writing_in core.page_map.geometry a told.epoch told.mask clean die) number

      of_turn : (die : ℕ) (call : ImageCall) → IsOfTurn told die call → Earlier (told.epoch + 1) die call
      of_turn die call (inl sync) = inl sync
      of_turn die call (inr write) = inr (told.epoch, told.mask, omega arith, write ∙ same_call true die)

      pub called_then : (rest marked_then out : ℕ) → ((die : ℕ) → is_in rest die ≡ (not (die == out) && is_in told.mask die))
          → AreCut made dies told marked marked_then ys zs out → AreCalled (told.epoch + 1) rest marked_then zs
      called_then rest marked_then out less cut =
          after_that dies (StillCalled told.epoch told.mask marked) (IsCut made told marked_then out)
          (StillCalled (told.epoch + 1) rest marked_then) xs ys zs before cut.images
          (λ die x y z was turn.
          let kind = Earlier (told.epoch + 1) die in
          subst (λ b. Become made kind (is_live core.page_map die) b (IsCalled made kind (is_in marked_then die)) x z) (sym (less die))
          (cut_by made (Earlier told.epoch die) (IsOfTurn told die) kind (syncs (told.epoch + 1) die)
          (later core.page_map.geometry array told.epoch die) (of_turn die) (syncs told.epoch die) (is_live core.page_map die)
          (is_in told.mask die) (die == out) (is_in marked die) (is_in marked_then die) x y z (left.live die) (cut.marks die) was turn))

      -- a relation of images under a call, under the same call
      along : (P : ImageCall → ℕ → I → I → Type 0) (clean : Bool)
          → ByDie dies (λ die. P (writing told clean die) die) xs zs
          → ByDie dies (λ die. P (writing_in core.page_map.geometry array told.epoch told.mask clean die) die) xs zs
      along P clean by =
          weaker dies (λ die. P (writing told clean die) die)
          (λ die. P (writing_in core.page_map.geometry array told.epoch told.mask clean die) die) xs zs by
          (λ die x y so. subst (λ call. P call die x y) (same_call clean die) so)

      pub closed_clean : lowest_lost core.page_map told.mask ≡ None → 0 < told.mask
          → AreDone made dies told marked marked ys zs → IsClosedClean made core array dies xs zs told.mask
      closed_clean none some done = record {
        epoch = told.epoch;
        left = left;
        some = some;
        none_lost = none;
        images =
            along (λ call. HasBecome made core array dies xs zs told.epoch told.mask (λ kind d. IsClosed made kind call)) true
            (after_that dies (StillCalled told.epoch told.mask marked) _ _ xs ys zs before done
            (λ die x y z was turn. done_by made (Earlier told.epoch die) (syncs told.epoch die) (writing told true die) (is_live core.page_map die)
            (is_in told.mask die) (is_in marked die) x y z (left.live die) was turn));
      }

      pub lost_at : (page : ℕ) → lowest_lost core.page_map told.mask ≡ Some page
          → AreUnmarked made dies told marked marked ys zs → IsLostAt made core array dies xs zs page
      lost_at page lowest unmarked = record {
        epoch = told.epoch;
        mask = told.mask;
        left = left;
        lowest = lowest;
        images =
            along (λ call. HasBecome made core array dies xs zs told.epoch told.mask (λ kind d. IsUnmarked made kind call)) false
            (after_that dies (StillCalled told.epoch told.mask marked) _ _ xs ys zs before unmarked
            (λ die x y z was turn. lost_by made (Earlier told.epoch die) (syncs told.epoch die) (writing told false die)
            (is_live core.page_map die) (is_in told.mask die) (is_in marked die) x y z (left.live die) was turn));
      }
