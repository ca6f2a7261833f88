-- The text of a batch: `batch`, a line for each page, a line for each run of closed rounds, `end`.
use Rattle.std.specs.Prelude.{◌≡◌, ◌≢◌, ℕ, ◌+◌, ◌≤◌, List, [], ◌∷◌, ◌++◌, length, map, codes, All}
use Rattle.std.specs.Fmt.{decimal}
use Rattle.std.specs.List.Sorted.{IsStrictlyIncreasing}
use Rattle.fa_closed.specs.declared.closed.Run.{Run}
use Rattle.fa_texts.specs.declared.batch_text.BatchLine.{BatchLine}
use Rattle.fa_texts.specs.declared.batch_text.BatchLine.TheVariants.{Page as PageLine, Closed as ClosedLine, End, Other}
use Rattle.fa_texts.specs.declared.batch_text.BatchText.{BatchText}
use Rattle.fa_batch_terms.specs.Batch.{Entry}
use Rattle.fa_closed.specs.Closed.{current_of, is_closed}
use Rattle.fa_closed.specs.Runs.{any_closes}
use Rattle.fa_io.specs.Lines.{lines_of}
use Rattle.fa_texts.specs.Text.{words_of}

-- the words of a page's line, `page P on D D ..`
abbrev pub page_line : Entry → List (List ℕ)
page_line e = codes "page" ∷ decimal e.page.0 ∷ codes "on" ∷ map (λ d. decimal d.0) e.holders

-- the words of a run's line, `closed D FIRST LAST`
abbrev pub closed_line : Run → List (List ℕ)
closed_line run = codes "closed" ∷ decimal run.die.0 ∷ decimal run.first.0 ∷ decimal run.last.0 ∷ []

-- the word of the last line
abbrev pub end_line : List (List ℕ)
end_line = codes "end" ∷ []

-- the words of each line of a batch text
abbrev pub batch_lines : List Entry → List Run → List (List (List ℕ))
batch_lines entries runs = (codes "batch" ∷ []) ∷ map page_line entries ++ map closed_line runs ++ end_line ∷ []

-- a page that may have a line, with holders that rise
pub record HasPageLine (e : Entry) : Type 0 where
  pub page : e.page.0 ≤ 1048575
  pub dies : All (λ d. d.0 ≤ 63) e.holders
  pub rising : IsStrictlyIncreasing (map (λ d. d.0) e.holders)

-- a run that may have a line
pub record HasClosedLine (run : Run) : Type 0 where
  pub die : run.die.0 ≤ 63
  pub begins : 1 ≤ run.first.0
  pub forward : run.first.0 ≤ run.last.0
  pub ends : run.last.0 ≤ 1000000

-- the text of a batch of these pages, with these runs of closed rounds
pub record IsBatchText (lines : List (List (List ℕ))) (entries : List Entry) (runs : List Run) : Type 0 where
  pub spelled : lines ≡ batch_lines entries runs
  pub few : length entries ≤ 1024
  pub few_runs : length runs ≤ 4096
  pub pages : All HasPageLine entries
  pub closed : All HasClosedLine runs

-- a batch that has a text, with these runs of closed rounds
pub record HasBatchText (entries : List Entry) (runs : List Run) : Type 0 where
  pub few : length entries ≤ 1024
  pub few_runs : length runs ≤ 4096
  pub pages : All HasPageLine entries
  pub closed : All HasClosedLine runs

-- a batch text, with anything behind it
abbrev pub StartsWithBatch : List (List (List ℕ)) → Type 0
StartsWithBatch lines =
    (text rest : List (List (List ℕ))) × (entries : List Entry) × (runs : List Run)
    × (lines ≡ text ++ rest) × IsBatchText text entries runs

-- What is read of an input that begins with a batch text: the batch, the closed rounds from round 1 on, and
-- what is left with the number of its first line.
pub record IsRead {A : Type 0} (input : List ℕ) (found : BatchText A) : Type 0 where
  pub text : List (List ℕ)
  pub runs : List Run
  pub parts : lines_of input ≡ text ++ lines_of found.rest.now
  pub is : IsBatchText (map words_of text) found.batch runs
  pub current : current_of found.closed ≡ 1
  pub closes : (die round : ℕ) → is_closed found.closed die round ≡ any_closes runs die round
  pub number : found.line ≡ 1 + length text

-- What a line behind the first says by its words, if it may stand in a batch text at all.
module _ {A : Type 0} where
  abbrev pub SaysOfBatch : List (List ℕ) → BatchLine A → Type 0
  SaysOfBatch words (PageLine page holders) =
      (words ≡ page_line (record { page = page; holders = holders.items })) × HasPageLine (record { page = page; holders = holders.items })
  SaysOfBatch words (ClosedLine run) = (words ≡ closed_line run) × HasClosedLine run
  SaysOfBatch words End = words ≡ end_line
  SaysOfBatch words Other =
      ((e : Entry) → HasPageLine e → words ≢ page_line e)
      × ((run : Run) → HasClosedLine run → words ≢ closed_line run) × (words ≢ end_line)
