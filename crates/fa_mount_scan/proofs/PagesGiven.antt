-- Which pages of a page map are given as written, and which places of a page.
use Rattle.std.proofs.Common.{◌≡◌, ℕ, ◌-◌, ◌*◌, ◌<◌, ◌≤◌, inl, inr, true, List, Option, Some, None, length, option_map, sym, ap, ◌∙◌}
use Rattle.std.proofs.Common.{arith, eqb-true}
use Rattle.std.proofs.lemmas.Bool.{and_parts, cases_Bool, false≢true}
use Rattle.std.proofs.lemmas.Option.{none-some, same_Some}
use Rattle.std.specs.FinMap.{get}
use Rattle.std.specs.List.{AllPairs, Contains}
use Rattle.std.specs.Prelude.{count_by, is_some}
use Rattle.fa_types.specs.declared.numbers.Die.{Die}
use Rattle.fa_types.specs.declared.numbers.Slot.{Slot}
use Rattle.fa_machine.specs.declared.places.Used.{Used}
use Rattle.fa_machine.specs.declared.places.Used.TheVariants.{Reserved, Held, Stale}
use Rattle.fa_machine.specs.declared.places.Version.{Version}
use Rattle.fa_machine.specs.Copies.{copy_on, holds_last, is_current}
use Rattle.fa_machine.specs.State.{MapState, is_live, slots_of, used_at}
use Rattle.fa_map_calls.specs.Plain.{holds}
use Rattle.fa_map_calls.specs.Slots.{IsPageMap}
use Rattle.fa_map_calls.proofs.Holders.{current_holds, still_some}
use Rattle.fa_map_calls.proofs.Ranges.{find_some}
use Rattle.fa_machine.specs.Maps.{below}
use Rattle.fa_mount_scan.specs.Reported.{is_written}
use Rattle.fa_mount_scan.specs.Pages.{Written, place_at, place_on, places_from, places_of, written_at, written_from, written_pages}
use Rattle.fa_mount_scan.proofs.GivenNumbers.{given_by, given_counted, given_few, given_in_order, gives}
use Rattle.fa_mount_scan.proofs.Merging.{found_passes}

-- ## Places

place_told : (k : ℕ) (o : Option ℕ) (die : Die) (slot : Slot) → option_map (place_at k) o ≡ Some (die, slot)
    → (k ≡ die.0) × (o ≡ Some slot.0)
place_told k None die slot e = absurd (none-some (die, slot) e)
place_told k (Some s) die slot e =
    let same : place_at k s ≡ (die, slot) = same_Some (place_at k s) (die, slot) e in
    (ap (λ (p : Die × Slot). p.0.0) same, ap (λ (p : Die × Slot). Some p.1.0) same)

held_by : (page : ℕ) (used : Option Used) → holds page used ≡ true → (version : Version) × (used ≡ Some (Held (record { 0 = page }) version))
held_by page None e = absurd (false≢true e)
held_by page (Some Reserved) e = absurd (false≢true e)
held_by page (Some Stale) e = absurd (false≢true e)
held_by page (Some (Held p version)) e = (version, ap (λ n. Some (Held (record { 0 = n }) version)) (eqb-true p.0 page e))

module _ (m : MapState) (whole : IsPageMap m) (page : ℕ) where
  current_held : (die slot : ℕ) → is_current m page die slot ≡ true
      → (version : Version) × (used_at m die slot ≡ Some (Held (record { 0 = page }) version))
  current_held die slot is = held_by page (used_at m die slot) (sym (current_holds m whole page die slot) ∙ is)

  -- a die has one current copy of a page
  one_current : (die slot other : ℕ) → is_current m page die slot ≡ true → is_current m page die other ≡ true → slot ≡ other
  one_current die slot other is also =
      let this = current_held die slot is in
      let that = current_held die other also in
      let last = whole.last die slot (record { 0 = page }) this.0 this.1 in
      let of_other = whole.last die other (record { 0 = page }) that.0 that.1 in
      let same : that.0 ≡ this.0 = same_Some that.0 this.0 (sym of_other ∙ last) in
      whole.once die slot other (record { 0 = page }) this.0 this.1 (that.1 ∙ ap (λ (v : Version). Some (Held (record { 0 = page }) v)) same)

  current_found : (die slot : ℕ) → is_current m page die slot ≡ true → copy_on m page die ≡ Some slot
  current_found die slot is =
      let within = (whole.used die slot (ap is_some (current_held die slot is).1)).1 in
      find_some (is_current m page die) 0 (m.geometry.blocks * m.geometry.slots) slot (omega arith) (omega (arith, within)) is
      (λ k low below. elim (cases_Bool (is_current m page die k)) [
        | inl also ↦ absurd (let same = one_current die k slot also is in omega (arith, same, below))
        | inr not_so ↦ not_so
      ])

  pub place_is_current : (die : Die) (slot : Slot) → Contains (places_of m page) (die, slot) → is_current m page die.0 slot.0 ≡ true
  place_is_current die slot has =
      let at = given_by (place_on m page) 0 m.geometry.dies (die, slot) has in
      let told = place_told at.0 (copy_on m page at.0) die slot at.3 in
      found_passes (is_current m page die.0) (slots_of m) slot.0 (ap (copy_on m page) (sym told.0) ∙ told.1)

  pub current_is_place : (die : Die) (slot : Slot) → is_current m page die.0 slot.0 ≡ true → Contains (places_of m page) (die, slot)
  current_is_place die slot is =
      let live = (and_parts (is_live m die.0) (holds_last page (get m.versions page) (used_at m die.0 slot.0)) is).0 in
      let below = whole.live die.0 live in
      gives (place_on m page) 0 m.geometry.dies die.0 (die, slot) (omega arith) (omega (arith, below))
      (ap (option_map (place_at die.0)) (current_found die.0 slot.0 is))

pub dies_rise : (m : MapState) (page : ℕ) → AllPairs (λ a b. a.0.0 < b.0.0) (places_of m page)
dies_rise m page =
    given_in_order (place_on m page) (λ a b. a.0.0 < b.0.0)
    (λ k j x y is_x is_y below.
    let one = (place_told k (copy_on m page k) x.0 x.1 is_x).0 in
    let other = (place_told j (copy_on m page j) y.0 y.1 is_y).0 in
    omega (arith, one, other, below))
    0 m.geometry.dies

-- ## Pages

module _ (m : MapState) where
  abbrev written_as : ℕ → Version → Written
  written_as page version = record { page = record { 0 = page }; version = version; places = places_of m page }

  written_told : (k : ℕ) (o : Option Version) (page : Written) → option_map (written_as k) o ≡ Some page
      → (k ≡ page.page.0) × (o ≡ Some page.version) × (page.places ≡ places_of m k)
  written_told k None page e = absurd (none-some page e)
  written_told k (Some version) page e =
      let same : written_as k version ≡ page = same_Some (written_as k version) page e in
      (ap (λ (w : Written). w.page.0) same, ap (λ (w : Written). Some w.version) same, sym (ap (λ (w : Written). w.places) same))

  pub given_is_written : (page : Written) → Contains (written_pages m) page
      → (get m.versions page.page.0 ≡ Some page.version) × (page.places ≡ places_of m page.page.0)
  given_is_written page has =
      let at = given_by (written_at m) 0 m.geometry.pages page has in
      let told = written_told at.0 (get m.versions at.0) page at.3 in
      (ap (get m.versions) (sym told.0) ∙ told.1, told.2 ∙ ap (places_of m) told.0)

  pub written_is_given : IsPageMap m → (page : Written) → get m.versions page.page.0 ≡ Some page.version → page.places ≡ places_of m page.page.0
      → Contains (written_pages m) page
  written_is_given whole page number places =
      let below = whole.written page.page.0 (ap is_some number) in
      gives (written_at m) 0 m.geometry.pages page.page.0 page (omega arith) (omega (arith, below))
      (ap (option_map (written_as page.page.0)) number
      ∙ ap (λ (l : List (Die × Slot)). Some (record { page = page.page; version = page.version; places = l })) (sym places))

  pub pages_rise : AllPairs (λ a b. a.page.0 < b.page.0) (written_pages m)
  pages_rise =
      given_in_order (written_at m) (λ a b. a.page.0 < b.page.0)
      (λ k j x y is_x is_y below.
      let one = (written_told k (get m.versions k) x is_x).0 in
      let other = (written_told j (get m.versions j) y is_y).0 in
      omega (arith, one, other, below))
      0 m.geometry.pages

  -- there are as many as the report of the array counts
  pub all_counted : length (written_pages m) ≡ count_by (is_written m) (below m.geometry.pages)
  all_counted =
      given_counted (written_at m) (is_written m) (λ page. still_some (written_as page) (get m.versions page)) 0 m.geometry.pages

  -- no array has more pages, nor more dies
  pub few_pages : length (written_from m 0) ≤ 1048576
  few_pages = let most = m.geometry.within.pages_fit.most in omega (arith, given_few (written_at m) 0 (m.geometry.pages - 0), most)

  pub few_places : (page : ℕ) → length (places_from m page 0) ≤ 64
  few_places page = let most = m.geometry.within.dies_fit.most in omega (arith, given_few (place_on m page) 0 (m.geometry.dies - 0), most)
