-- A number that is none of a page's has no copy.
use Rattle.fa_machine.specs.Copies.{holders, holds_last, holds_page, is_current}
use Rattle.fa_machine.specs.Placement.{copies_asked, is_thin}
use Rattle.fa_machine.specs.State.{MapState, is_live, used_at}
use Rattle.fa_machine.specs.declared.places.Version.{Version}
use Rattle.fa_map_calls.proofs.Holders.{holders_counted}
use Rattle.fa_map_calls.proofs.Ranges.{count_same, find_none}
use Rattle.fa_map_calls.specs.Slots.{IsPageMap}
use Rattle.std.proofs.Common.{None, Option, Some, ap, arith, false, length, refl, ℕ, ◌*◌, ◌∙◌, ◌≡◌, ◌≤◌}
use Rattle.std.proofs.lemmas.Bool.{and_left, and_right, le-ltb}
use Rattle.std.specs.FinMap.{get}
use Rattle.std.specs.Prelude.{is_some, nat_lt}

module _ (m : MapState) (whole : IsPageMap m) (page : ℕ) (past : m.geometry.pages ≤ page) where
  none_if : (version : Option Version) → get m.versions page ≡ version → get m.versions page ≡ None
  none_if None is = is
  none_if (Some version) is = let low = whole.written page (ap is_some is) in absurd (omega (arith, low, past))

  not_current : (die slot : ℕ) → is_current m page die slot ≡ false
  not_current die slot =
      and_right (is_live m die) (holds_last page (get m.versions page) (used_at m die slot))
      (ap (λ version. holds_last page version (used_at m die slot)) (none_if (get m.versions page) refl))

  pub not_held : (die : ℕ) → holds_page m page die ≡ false
  not_held die =
      ap is_some (find_none (is_current m page die) 0 (m.geometry.blocks * m.geometry.slots) (λ slot low high. not_current die slot))

  no_holders : length (holders m page) ≡ 0
  no_holders = holders_counted m page ∙ count_same (holds_page m page) false 0 m.geometry.dies not_held

  pub not_thin : (copies : ℕ) → is_thin copies m page ≡ false
  not_thin copies =
      let none = no_holders in
      let held : ℕ = length (holders m page) in
      and_left (nat_lt 0 held) (nat_lt held (copies_asked copies m)) (le-ltb 0 held (omega (arith, none)))
