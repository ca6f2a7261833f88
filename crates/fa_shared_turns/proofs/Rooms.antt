-- Which dies may be collected, from what is asked of each.
use Rattle.std.proofs.Common.{◌≡◌, ◌∙◌, ◌+◌, ◌<◌, ◌≤◌, ℕ, Bool, false, suc, true, zero, List, None, Option, Result, Some, ap, arith, not, refl, sym}
use Rattle.std.proofs.lemmas.Bool.{and_from, and_left, and_right, eqb-false, lt-ltb, not_from_true, or_from}
use Rattle.std.specs.List.{list_any, range_with_len}
use Rattle.std.specs.Prelude.{◌&&◌, ◌==◌, Err, is_some, nat_lt, option_map}
use Rattle.fa_machine.specs.Collecting.{victim}
use Rattle.fa_machine.specs.Placement.{has_room, room}
use Rattle.fa_machine.specs.State.{Core, MapState, is_live}
use Rattle.fa_machine.specs.Step.{ReserveFewer}
use Rattle.fa_machine.specs.declared.ids.Block.{Block}
use Rattle.fa_machine.specs.declared.refusals.ReserveRefused.{ReserveRefused}
use Rattle.fa_machine.specs.declared.refusals.ReserveRefused.TheVariants.{NoRoom}
use Rattle.fa_shared_lock.specs.Founded.{IsFounded, may_collect, may_free}
use Rattle.fa_shared_steps.specs.declared.stage.PageClaim.{PageClaim}
use Rattle.fa_shared_steps.specs.declared.stage.Stage.{Stage}
use Rattle.fa_shared_steps.specs.declared.stage.Stage.TheVariants.{Releasing, Reserving}
use Rattle.fa_shared_steps.specs.declared.stage.Wish.TheVariants.{Fewer}
use Rattle.fa_types.specs.declared.numbers.Seq.{Seq}

-- what is true of none of some numbers
pub none_among : (f : ℕ → Bool) (first n : ℕ) → ((k : ℕ) → first ≤ k → k < first + n → f k ≡ false) → list_any f (range_with_len first n) ≡ false
none_among f first zero none = refl
none_among f first (suc n) none =
    or_from (f first) (list_any f (range_with_len (first + 1) n)) (none first (omega arith) (omega arith))
    (none_among f (first + 1) n (λ k low high. none k (omega (arith, low)) (omega (arith, high))))

-- a die that is not live
pub gone_may_not : (m : MapState) (die : ℕ) → is_live m die ≡ false → may_free m die ≡ false
gone_may_not m die gone =
    and_left (is_live m die && not (has_room m die)) (is_some (victim m die)) (and_left (is_live m die) (not (has_room m die)) gone)

-- one that is live and has room
pub roomy_may_not : (m : MapState) (die slots : ℕ) → is_live m die ≡ true → slots ≡ room m die → (slots == 0) ≡ false → may_free m die ≡ false
roomy_may_not m die slots live is some =
    let none : room m die ≡ 0 → ⊥ = λ no. eqb-false slots 0 some (is ∙ no) in
    let has : has_room m die ≡ true = and_from (is_live m die) (nat_lt 0 (room m die)) live (lt-ltb 0 (room m die) (omega (arith, none))) in
    and_left (is_live m die && not (has_room m die)) (is_some (victim m die))
    (and_right (is_live m die) (not (has_room m die)) (not_from_true (has_room m die) has))

some_block : (o : Option Block) → is_some (option_map (λ (block : Block). block.0) o) ≡ is_some o
some_block None = refl
some_block (Some block) = refl

-- one without a victim
pub spared_may_not : (m : MapState) (die : ℕ) (o : Option Block) → option_map (λ (block : Block). block.0) o ≡ victim m die → is_some o ≡ false
    → may_free m die ≡ false
spared_may_not m die o is none =
    and_right (is_live m die && not (has_room m die)) (is_some (victim m die)) (ap is_some (sym is) ∙ some_block o ∙ none)

-- A write on fewer dies is refused for want of room where it was asked before whether it may get room.
pub founded_fewer : {A : Type 0} (core : Core) (held : PageClaim) (payload : List ℕ) (claim : ℕ) (bytes : List ℕ)
    (answer : Result Seq ReserveRefused) (waits : Bool) (next : Stage A) → (waits ≡ false → may_collect core.page_map ≡ false)
    → (answer ≡ Err NoRoom → waits ≡ true → next ≡ Reserving held (Fewer payload))
    → IsFounded core (Reserving held (Fewer payload)) (ReserveFewer claim bytes answer) next
founded_fewer core held payload claim bytes (Err NoRoom) false (Releasing h fault) none stays = none refl
founded_fewer core held payload claim bytes (Err NoRoom) true (Releasing h fault) none stays = let same = stays refl refl in cc
founded_fewer core held payload claim bytes answer waits next none stays = tt
