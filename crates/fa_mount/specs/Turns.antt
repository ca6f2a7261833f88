-- One turn of closing: the dies that are left are synced, told, and synced again, up to the first that refuses.
use Rattle.std.specs.Prelude.{◌≡◌, ◌⊎◌, ℕ, ◌<◌, ◌==◌, ◌&&◌, Bool, true, false, MatchBool, List, [], ◌∷◌, Some, None, Result, Ok, Err}
use Rattle.fa_mount_headers.specs.declared.judging.Standing.{Standing}
use Rattle.fa_mount_headers.specs.Rules.{is_in}
use Rattle.fa_image.specs.Image.{ImageCall, Syncing, ImageAnswer}
use Rattle.fa_machine.specs.State.{MapState}
use Rattle.fa_mount.specs.Closing.{AreAccepted, IsOut, Took, lowest_lost}
use Rattle.fa_mount.specs.Phases.{ByDie}
use Rattle.fa_mount.specs.Told.{writing}
use Rattle.fa_mount.specs.declared.closing.Turn.{Turn}
use Rattle.fa_mount.specs.declared.closing.Turn.TheVariants.{Closed, DieOut, PageLost, NoDie}
use Rattle.fa_mount.specs.declared.telling.Told.{Told}
use Rattle.fa_types.specs.declared.numbers.Die.{Die}

-- a call that a turn makes of a die's image where no page is lost
abbrev pub IsOfTurn : Told → ℕ → ImageCall → Type 0
IsOfTurn told die call = (call ≡ Syncing) ⊎ (call ≡ writing told true die)

module _ {I : Type 0} (made : I → ImageCall → ImageAnswer → I → Type 0) where
  -- calls of this kind were accepted, and syncs alone where the die is not marked
  abbrev pub IsCalled : (ImageCall → Type 0) → Bool → I → I → Type 0
  IsCalled kind true = Took made kind
  IsCalled kind false = Took made (λ call. call ≡ Syncing)

  -- what a turn makes of an image where that die refused
  abbrev pub IsCut : Told → ℕ → ℕ → ℕ → I → I → Type 0
  IsCut told marked out die before after =
      MatchBool (is_in told.mask die)
      (MatchBool (die == out) (IsOut made (IsOfTurn told die) before after) (IsCalled (IsOfTurn told die) (is_in marked die) before after))
      (after ≡ before)

  module _ (dies : List Standing) (told : Told) (marked marked_then : ℕ) (before after : List I) where
    -- all dies that are left were told
    abbrev pub AreDone : Type 0
    AreDone = ByDie dies (λ die x y. MatchBool (is_in told.mask die)
        (AreAccepted made (Syncing ∷ writing told true die ∷ Syncing ∷ []) x y) (y ≡ x)) before after

    -- that die refused; those that were marked before are marked still
    pub record AreCut (out : ℕ) : Type 0 where
      pub was_left : is_in told.mask out ≡ true
      pub marks : (die : ℕ) → is_in marked die ≡ true → is_in marked_then die ≡ true
      pub images : ByDie dies (IsCut told marked_then out) before after

    -- the headers that were marked were written without the mark
    abbrev pub AreUnmarked : Type 0
    AreUnmarked = ByDie dies (λ die x y. MatchBool (is_in told.mask die && is_in marked die)
        ((answer : ImageAnswer) × made x (writing told false die) answer y) (y ≡ x)) before after

    -- what the calls of a turn come to, where the error is the die that refused
    abbrev pub IsToldAll : Result (Unit {0}) Die → Type 0
    IsToldAll (Ok done) = AreDone
    IsToldAll (Err die) = AreCut die.0

    -- what a turn comes to
    abbrev pub IsTurn : MapState → Turn → Type 0
    IsTurn m Closed = (lowest_lost m told.mask ≡ None) × (0 < told.mask) × AreDone
    IsTurn m (DieOut die) = AreCut die.0
    IsTurn m (PageLost page) = (lowest_lost m told.mask ≡ Some page.0) × AreUnmarked
    IsTurn m NoDie = (lowest_lost m told.mask ≡ None) × (told.mask ≡ 0) × (after ≡ before)
