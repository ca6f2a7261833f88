-- A plan: an injective map from the pages of a batch to open places, a place being a die that holds the page
-- and a round. It is given as the list of its places.
use Rattle.std.specs.Prelude.{◌≡◌, ℕ, ◌+◌, ◌-◌, ◌≤◌, max, Bool, ◌&&◌, ◌==◌, nat_lt, IsTrue, List, [], ◌∷◌, count_by, All}
use Rattle.fa_types.specs.Open.{IsOpen, open_among}
use Rattle.fa_batch_terms.specs.Batch.{Entry, holds}
use Rattle.fa_batch_terms.specs.declared.place.Place.{Place}

-- in how many places a plan puts a page
abbrev pub times_placed : List Place → ℕ → ℕ
times_placed places page = count_by (λ x. x.page.0 == page) places

-- how many pages a plan puts at a die in a round
abbrev pub pages_at : List Place → ℕ → ℕ → ℕ
pages_at places die round = count_by (λ x. x.die.0 == die && x.round.0 == round) places

-- each page of the batch has a place
abbrev pub ArePlaced : List Entry → List Place → Type 0
ArePlaced batch places = All (λ e. 1 ≤ times_placed places e.page.0) batch

-- no page has two
abbrev pub ArePlacedOnce : List Place → Type 0
ArePlacedOnce places = (page : ℕ) → times_placed places page ≤ 1

-- each die holds the page that is read there, so no page is outside the batch
abbrev pub AreHeld : List Entry → List Place → Type 0
AreHeld batch places = All (λ x. IsTrue (holds batch x.page.0 x.die.0)) places

-- each place is open
abbrev pub AreOpen : ℕ → (ℕ → ℕ → Bool) → List Place → Type 0
AreOpen current closed places = All (λ x. IsOpen current closed x.die.0 x.round.0) places

-- no place is taken by two pages
abbrev pub AreApart : List Place → Type 0
AreApart places = (die round : ℕ) → pages_at places die round ≤ 1

-- each page of the batch has one place, at a die that holds it and is open then, and no two share one
pub record IsPlan (batch : List Entry) (current : ℕ) (closed : ℕ → ℕ → Bool) (places : List Place) : Type 0 where
  pub each : ArePlaced batch places
  pub once : ArePlacedOnce places
  pub held : AreHeld batch places
  pub opens : AreOpen current closed places
  pub apart : AreApart places

-- the number of rounds from the current one up to the last in which a page is read, and 0 for no page
abbrev pub rounds_of : ℕ → List Place → ℕ
rounds_of current [] = 0
rounds_of current (x ∷ places) = max (x.round.0 + 1 - current) (rounds_of current places)

-- whether a plan has the other page on the same die, and lower
abbrev pub is_earlier_page : Place → Place → Bool
is_earlier_page x other = other.die.0 == x.die.0 && nat_lt other.page.0 x.page.0

-- The pages of one die take its first open rounds, by rising page.
abbrev pub AreFirstRounds : ℕ → (ℕ → ℕ → Bool) → List Place → Type 0
AreFirstRounds current closed places =
    All (λ x. open_among current closed x.die.0 (x.round.0 - current) ≡ count_by (is_earlier_page x) places) places
