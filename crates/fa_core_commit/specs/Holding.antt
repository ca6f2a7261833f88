-- Slots of live dies, and which of them may come to hold a page's last write.
use Rattle.std.specs.Prelude.{◌≡◌, ℕ, ◌*◌, ◌<◌, List, Some, filter, length, slice_index_or, false, true}
use Rattle.std.specs.FinMap.{get}
use Rattle.std.specs.List.{All}
use Rattle.fa_machine.specs.Copies.{holds_page, is_held_slot}
use Rattle.fa_machine.specs.State.{MapState, is_live, used_at}
use Rattle.fa_machine.specs.declared.places.Target.{Target}
use Rattle.fa_machine.specs.declared.places.Version.{Version}
use Rattle.fa_types.specs.declared.numbers.Page.{Page}

-- those that are on live dies
abbrev pub live_of : MapState → List Target → List Target
live_of m slots = filter (λ (slot : Target). is_live m slot.die.0) slots

-- a slot that is one of its die's, where the die is live
abbrev pub FitsLive : MapState → Target → Type 0
FitsLive m target = is_live m target.die.0 ≡ true → target.slot.0 < m.geometry.blocks * m.geometry.slots

-- a slot of a live die holds nothing so far
abbrev pub IsFree : MapState → Target → Type 0
IsFree m target = is_live m target.die.0 ≡ true → is_held_slot (used_at m target.die.0 target.slot.0) ≡ false

-- The write is the page's last, no die holds the page, and the slots are on different dies.
pub record MayHoldAll (m : MapState) (page : Page) (version : Version) (slots : List Target) : Type 0 where
  pub page_fits : page.0 < m.geometry.pages
  pub last : get m.versions page.0 ≡ Some version
  pub fits : All (FitsLive m) slots
  pub free : All (IsFree m) slots
  pub once : (die : ℕ) → holds_page m page.0 die ≡ false
  pub apart : (j k : ℕ) (d : Target) → j < k → k < length slots → (slice_index_or slots j d).die.0 ≡ (slice_index_or slots k d).die.0 → ⊥
