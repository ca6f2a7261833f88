-- The chains of copies: from each page to the first die that holds it, and from each copy to the next die that does.
use Rattle.std.specs.Prelude.{◌≡◌, ℕ, ◌+◌, ◌*◌, ◌<◌, ◌≤◌, Bool, true, false, nat_lt}
use Rattle.std.specs.Prelude.{List, Option, Some, None, is_some, length, slice_index_or}
use Rattle.fa_map.specs.declared.entries.Entry.{Entry}
use Rattle.fa_map.specs.declared.entries.Entry.TheVariants.{Erased, Current}
use Rattle.fa_map.specs.declared.entries.Link.{Link}
use Rattle.fa_map.specs.declared.entries.Second.{Second}

-- the entry of a slot that stands in a list
abbrev pub entry_at : List Entry → ℕ → Entry
entry_at entries index = slice_index_or entries index Erased

-- the entry of a slot of a die, which has n slots
abbrev pub entry_of : List Entry → ℕ → ℕ → ℕ → Entry
entry_of entries n die slot = entry_at entries (die * n + slot)

-- the place that a link leads to
abbrev pub place_of : Option ℕ → ℕ → Option (ℕ × ℕ)
place_of None slot = None
place_of (Some die) slot = Some (die, slot)

abbrev pub target : Link → Option (ℕ × ℕ)
target link = place_of link.die link.slot

abbrev pub no_link : Link
no_link = record { die = None; slot = 0 }

abbrev pub link_at : List Link → ℕ → Option (ℕ × ℕ)
link_at links index = target (slice_index_or links index no_link)

abbrev pub link_from : List Link → ℕ → ℕ → ℕ → Option (ℕ × ℕ)
link_from links n die slot = link_at links (die * n + slot)

-- the place to which the link of a place's slot leads; none behind none
abbrev pub follower : List Link → ℕ → Option (ℕ × ℕ) → Option (ℕ × ℕ)
follower links n None = None
follower links n (Some place) = link_from links n place.0 place.1

-- that a page has no second copy
abbrev pub no_second : Second
no_second = record { place = no_link; more = false }

abbrev pub second_at : List Second → ℕ → Second
second_at seconds page = slice_index_or seconds page no_second

-- whether a die comes before the place
abbrev pub is_before : ℕ → Option (ℕ × ℕ) → Bool
is_before die None = true
is_before die (Some place) = nat_lt die place.0

-- the first die behind a place
abbrev pub behind : Option (ℕ × ℕ) → ℕ
behind None = 0
behind (Some place) = place.0 + 1

-- the place, if there is one, is on one of so many dies, which have n slots
abbrev pub IsInside : ℕ → ℕ → Option (ℕ × ℕ) → Type 0
IsInside dies n place = (die slot : ℕ) → place ≡ Some (die, slot) → (die < dies) × (slot < n)

-- each link leads to such a place, or to none
abbrev pub AreInside : ℕ → ℕ → List Link → Type 0
AreInside dies n links = (index : ℕ) → IsInside dies n (link_at links index)

-- the first place from a die on that holds the page
pub record IsNext (entries : ℕ → ℕ → Entry) (n dies page from : ℕ) (next : Option (ℕ × ℕ)) : Type 0 where
  pub found : (die slot : ℕ) → next ≡ Some (die, slot) → (from ≤ die) × (die < dies) × (slot < n) × (entries die slot ≡ Current page)
  pub between : (die slot : ℕ) → from ≤ die → slot < n → is_before die next ≡ true → entries die slot ≡ Current page → ⊥

-- The place behind which a die's copy of a page stands in its chain, and the place that comes next there.
pub record IsSeam (entries : ℕ → ℕ → Entry) (n dies page die : ℕ) (last next : Option (ℕ × ℕ)) : Type 0 where
  pub found : (d s : ℕ) → last ≡ Some (d, s) → (d < die) × (d < dies) × (s < n) × (entries d s ≡ Current page)
  pub follows : IsNext entries n dies page (behind last) next
  pub late : (d s : ℕ) → next ≡ Some (d, s) → die ≤ d

-- Each page leads to the first place that holds it, and each copy to the next one.
pub record IsChained (entries : ℕ → ℕ → Entry) (head : ℕ → Option (ℕ × ℕ)) (link : ℕ → ℕ → Option (ℕ × ℕ))
    (n dies pages : ℕ) : Type 0 where
  pub fits : (die slot page : ℕ) → slot < n → entries die slot ≡ Current page → (die < dies) × (page < pages)
  pub once : (die slot other page : ℕ) → slot < n → other < n → entries die slot ≡ Current page
      → entries die other ≡ Current page → slot ≡ other
  pub heads : (page : ℕ) → page < pages → IsNext entries n dies page 0 (head page)
  pub links : (die slot page : ℕ) → slot < n → entries die slot ≡ Current page → IsNext entries n dies page (die + 1) (link die slot)

-- A page's second place is the one behind its first, and there are more if one stands behind the second.
pub record IsSecond (links : List Link) (n : ℕ) (first : Option (ℕ × ℕ)) (second : Second) : Type 0 where
  pub place : target second.place ≡ follower links n first
  pub more : second.more ≡ is_some (follower links n (target second.place))

-- What is kept of each page's second place is true.
pub record AreSeconds (links heads : List Link) (seconds : List Second) (n pages : ℕ) : Type 0 where
  pub long : length seconds ≡ pages
  pub behind : (page : ℕ) → page < pages → IsSecond links n (link_at heads page) (second_at seconds page)

-- What is kept of one page's second place is true, and what is kept of the others is as it was.
pub record IsRenewed (links heads : List Link) (seconds seconds' : List Second) (n page : ℕ) : Type 0 where
  pub long : length seconds' ≡ length seconds
  pub here : IsSecond links n (link_at heads page) (second_at seconds' page)
  pub others : (p : ℕ) → (p ≡ page → ⊥) → second_at seconds' p ≡ second_at seconds p

-- The links of each page with more than two copies are written in the rows of the slots that hold it.
pub record AreWritten (entries : List Entry) (links written : List Link) (seconds : List Second) (n : ℕ) : Type 0 where
  pub long : length written ≡ length links
  pub same : (page die slot : ℕ) → slot < n → entry_of entries n die slot ≡ Current page → (second_at seconds page).more ≡ true
      → link_from written n die slot ≡ link_from links n die slot
