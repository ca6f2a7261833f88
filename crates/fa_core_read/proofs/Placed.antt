-- How pages stand once places are booked for them.
use Rattle.fa_batch_terms.specs.declared.place.Place.{Place}
use Rattle.fa_core_batches.specs.declared.page.PageState.{PageState}
use Rattle.fa_core_batches.specs.declared.page.PageState.TheVariants.{Answered, Booked, InFlight, Torn}
use Rattle.fa_core_batches.specs.Pages.{is_answered}
use Rattle.fa_core_read_pages.specs.Left.{is_left}
use Rattle.fa_core_read.specs.Opened.{placed_state}
use Rattle.std.proofs.Common.{Bool, List, None, Option, Some, [], ap, cond, eq-eqb, false, refl, true, ℕ, ◌<◌, ◌∙◌, ◌∷◌}
use Rattle.std.proofs.Common.{◌≡◌}
use Rattle.std.proofs.lemmas.Bool.{false≢true}
use Rattle.std.proofs.lemmas.List.Elements.{All-from_recursion}
use Rattle.std.specs.List.{AllByRecursion}
use Rattle.std.specs.Option.{option_map_or}
use Rattle.std.specs.Prelude.{if◌then◌else◌, is_some, length, slice_index_or, take, ◌==◌}

-- a page that was left to be read is so still
pub placed_left : (places : List Place) (page : ℕ) (before : Option PageState) → is_left before ≡ true
    → is_left (placed_state places page before) ≡ true
placed_left [] page before is = is
placed_left (x ∷ places) page before is = go (x.page.0 == page) (placed_left places page before is) (placed_left places page (Some
    (Booked x.die x.round)) refl)
  where
    go : (b : Bool) → is_left (placed_state places page before) ≡ true → is_left (placed_state places page (Some (Booked x.die x.round)))
        ≡ true
        → is_left (placed_state places page (cond b (Some (Booked x.die x.round)) before)) ≡ true
    go true same placed = placed
    go false same placed = same

pub left_there : (state : Option PageState) → is_left state ≡ true → is_some state ≡ true
left_there None is = absurd (false≢true is)
left_there (Some state) is = refl

pub left_open : (state : Option PageState) → is_left state ≡ true → option_map_or is_answered state false ≡ false
left_open None is = absurd (false≢true is)
left_open (Some Answered) is = absurd (false≢true is)
left_open (Some (Booked die round)) is = refl
left_open (Some (InFlight die)) is = refl
left_open (Some Torn) is = refl

-- the page of the next place, once those before it are booked
pub next_left : (state : ℕ → Option PageState) (places : List Place) (i batch : ℕ) (d : Place) (now : Option PageState) → i < length places
    → AllByRecursion (λ (x : Place). is_left (state x.page.0) ≡ true) places
    → now ≡ (if batch == batch then placed_state (take i places) (slice_index_or places i d).page.0 (state
    (slice_index_or places i d).page.0)
    else state (slice_index_or places i d).page.0)
    → is_left now ≡ true
next_left state places i batch d now low left is =
    let page = (slice_index_or places i d).page.0 in
    ap is_left (is ∙ ap (λ b. if b then placed_state (take i places) page (state page) else state page) (eq-eqb batch batch refl))
    ∙ placed_left (take i places) page (state page) (All-from_recursion (λ (x : Place). is_left (state x.page.0)
    ≡ true) places left i d low)
