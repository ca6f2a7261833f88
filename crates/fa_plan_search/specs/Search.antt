-- A walk from a page that is to be given a die. It reaches dies that hold the page; where such a die has no room, the pages that
-- it reads could be handed on, so the dies that hold any of these are reached too, and so on.
use Rattle.std.specs.Prelude.{◌≡◌, ℕ, ◌+◌, ◌<◌, ◌≤◌, Bool, true, false, List, length, count_by}
use Rattle.std.specs.Prelude.{slice_index, slice_index_or, slice_set, Option, IfSome, IfNone}
use Rattle.fa_types.specs.declared.numbers.Die.{Die}
use Rattle.fa_batch_terms.specs.Batch.{Entry}
use Rattle.fa_plan_search.specs.declared.walk.Tables.{Tables}
use Rattle.fa_plan_search.specs.declared.walk.Walk.{Walk}
use Rattle.fa_plan_search.specs.Reading.{AreLoads, can_read, die_of, load_of}

-- whether a walk reached a die
abbrev pub has_reached : Walk → ℕ → Bool
has_reached w die = slice_index_or w.seen die false

-- the page by which a die was reached, and the die's place in the order
abbrev pub way_to : Walk → ℕ → ℕ
way_to w die = slice_index w.via die

abbrev pub rank_of : Walk → ℕ → ℕ
rank_of w die = slice_index w.rank die

-- how many pages were given to dies that a walk reached
abbrev pub pages_reached : List Die → Walk → ℕ
pages_reached given w = count_by (λ d. has_reached w d.0) given

-- a walk reached a page: the one that it began from, which is the first with no die, or one of a die that it reached
pub record IsReached (given : List Die) (w : Walk) (page : ℕ) : Type 0 where
  pub within : page ≤ length given
  pub taken : page < length given → has_reached w (die_of given page) ≡ true

-- a walk came to a die by a page that the die holds, and to the page by a die that it reached earlier
pub record IsStep (batch : List Entry) (given : List Die) (w : Walk) (die : ℕ) : Type 0 where
  pub known : die < 256
  pub ranked : rank_of w die < w.count
  pub ordered : slice_index w.order (rank_of w die) ≡ die
  pub held : can_read batch (way_to w die) die ≡ true
  pub reached : IsReached given w (way_to w die)
  pub earlier : way_to w die < length given → rank_of w (die_of given (way_to w die)) < rank_of w die

-- what a walk keeps
pub record IsWalk (batch : List Entry) (given : List Die) (w : Walk) : Type 0 where
  pub tables : (length w.seen ≡ 256) × (length w.order ≡ 256) × (length w.rank ≡ 256) × (length w.via ≡ 256)
  pub steps : (die : ℕ) → has_reached w die ≡ true → IsStep batch given w die
  pub ordered : (k : ℕ) → k < w.count → has_reached w (slice_index w.order k) ≡ true
  pub counted : w.count ≡ count_by (λ b. b) w.seen
  pub looks : w.looks ≤ 1 + pages_reached given w

-- the dies that a walk reached have no room
abbrev pub AreFull : List Die → List ℕ → Walk → Type 0
AreFull given open_counts w = (die : ℕ) → has_reached w die ≡ true → slice_index open_counts die ≤ load_of given die

-- a walk reached each die that holds a page
abbrev pub IsFollowed : List Entry → Walk → ℕ → Type 0
IsFollowed batch w page = (die : ℕ) → can_read batch page die ≡ true → has_reached w die ≡ true

-- a walk goes on from another: what was reached stays so, at its place in the order
pub record GoesOn (before after : Walk) : Type 0 where
  pub reached : (die : ℕ) → has_reached before die ≡ true → has_reached after die ≡ true
  pub ordered : (k : ℕ) → k < before.count → slice_index after.order k ≡ slice_index before.order k
  pub longer : before.count ≤ after.count

-- a walk found a die with room
pub record HasFound (given : List Die) (open_counts : List ℕ) (w : Walk) (die : ℕ) : Type 0 where
  pub reached : has_reached w die ≡ true
  pub room : load_of given die < slice_index open_counts die

-- a search is under way: a page wants a die, and no die that the walk reached has room
pub record IsSearching (batch : List Entry) (given : List Die) (tables : Tables) (w : Walk) : Type 0 where
  pub small : length batch ≤ 1024
  pub next : length given < length batch
  pub loads : AreLoads given tables.loads
  pub walk : IsWalk batch given w
  pub full : AreFull given tables.open_counts w

-- a walk went on and found a die with room, or else what was to be followed is followed
pub record HasGoneOn (batch : List Entry) (given : List Die) (tables : Tables) (before after : Walk) (free : Option Die)
    (AreFollowed : Type 0) : Type 0 where
  pub walk : IsWalk batch given after
  pub goes : GoesOn before after
  pub found : IfSome free (λ die. HasFound given tables.open_counts after die.0)
  pub full : IfNone free (AreFull given tables.open_counts after)
  pub followed : IfNone free AreFollowed

-- a walk cannot go on and found no room
pub record IsAtItsEnd (batch : List Entry) (given : List Die) (open_counts : List ℕ) (w : Walk) : Type 0 where
  pub full : AreFull given open_counts w
  pub followed : (page : ℕ) → IsReached given w page → IsFollowed batch w page

-- a walk that comes to a die by a page, with so many more looks
abbrev pub with_die : Walk → ℕ → ℕ → ℕ → Walk
with_die w die page looks = record w {
  seen = slice_set w.seen die true;
  order = slice_set w.order w.count die;
  count = w.count + 1;
  rank = slice_set w.rank die w.count;
  via = slice_set w.via die page;
  looks = w.looks + looks;
}
