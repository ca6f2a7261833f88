-- A batch: the pages that are to be read together, each with the dies that hold it.
use Rattle.std.specs.Prelude.{◌≡◌, ◌≢◌, ℕ, ◌<◌, ◌≤◌, Bool, ◌&&◌, ◌==◌, List, [], ◌∷◌, ◌++◌, length, count_by, All}
use Rattle.std.specs.List.{list_any}
use Rattle.fa_types.specs.declared.numbers.Die.{Die}
use Rattle.fa_types.specs.declared.numbers.Page.{Page}
use Rattle.fa_batch_terms.specs.declared.unsound.Unsound.{Unsound}
use Rattle.fa_batch_terms.specs.declared.unsound.Unsound.TheVariants.{NoHolder, Twice}

-- a page of a batch, and the dies that hold it
pub record Entry : Type 0 where
  pub page : Page
  pub holders : List Die

-- a batch whose last entry has one more holder, the last
abbrev pub with_holder : List Entry → Die → List Entry
with_holder [] die = []
with_holder (e ∷ []) die = record { page = e.page; holders = e.holders ++ die ∷ [] } ∷ []
with_holder (e ∷ next ∷ rest) die = e ∷ with_holder (next ∷ rest) die

-- how often a batch names a page
abbrev pub times_named : List Entry → ℕ → ℕ
times_named batch page = count_by (λ e. e.page.0 == page) batch

-- whether a die is one of these
abbrev pub is_among : List Die → ℕ → Bool
is_among dies die = list_any (λ d. d.0 == die) dies

-- whether a batch has a die among the holders of a page
abbrev pub holds : List Entry → ℕ → ℕ → Bool
holds batch page die = list_any (λ e. e.page.0 == page && is_among e.holders die) batch

-- each page has a holder, and none is named twice
pub record AreFine (batch : List Entry) : Type 0 where
  pub held : All (λ e. 0 < length e.holders) batch
  pub once : (page : ℕ) → times_named batch page ≤ 1

-- What a batch has to be: at most 1,024 pages, each with a holder, none named twice.
pub record IsSound (batch : List Entry) : Type 0 where
  pub few : length batch ≤ 1024
  pub fine : AreFine batch

-- what is wrong with an entry behind these: it has no holder, or else its page was named before
abbrev pub IsWrongBehind : List Entry → Entry → Unsound → Type 0
IsWrongBehind before e (NoHolder page) = (e.page ≡ page) × (e.holders ≡ [])
IsWrongBehind before e (Twice page) = (e.page ≡ page) × (e.holders ≢ []) × (1 ≤ times_named before page.0)

-- the first entry that is wrong
pub record IsFirstWrong (batch : List Entry) (unsound : Unsound) : Type 0 where
  pub before : List Entry
  pub entry : Entry
  pub after : List Entry
  pub whole : batch ≡ before ++ entry ∷ after
  pub fine : AreFine before
  pub wrong : IsWrongBehind before entry unsound
