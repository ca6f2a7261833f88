-- Texts by their lines and words, and the first line that is wrong.
use Rattle.std.specs.Prelude.{◌≡◌, ℕ, ◌+◌, ◌<◌, ◌==◌, List, [], ◌∷◌, ◌++◌, length, map, All, Option, Some, None}
use Rattle.std.specs.List.{slice_split}
use Rattle.std.specs.Borrow.{Bor}
use Rattle.fa_io.specs.Lines.{lines_of}
use Rattle.fa_texts.specs.declared.text_error.TextError.{TextError}
use Rattle.fa_texts.specs.declared.text_error.TextError.TheVariants.{Line, NoMemory}

-- a word has no space, and no line feed
abbrev pub IsWord : List ℕ → Type 0
IsWord word = All (λ b. 32 < b) word

-- the words of a line, with one space between each and the next
abbrev pub words_of : List ℕ → List (List ℕ)
words_of line = slice_split (λ b. b == 32) line

-- the words of what is left of a line, if anything is
abbrev pub words_left : Option (Bor (List ℕ)) → List (List ℕ)
words_left None = []
words_left (Some line) = words_of line.now

-- the words of each line of an input
abbrev pub words_by_line : List ℕ → List (List (List ℕ))
words_by_line input = map words_of (lines_of input)

-- Lines were printed behind an old text. What is printed behind them begins a new line.
pub record PrintsLines (old new : List ℕ) (lines : List (List (List ℕ))) : Type 0 where
  pub text : List ℕ
  pub behind : new ≡ old ++ text
  pub spelled : (more : List ℕ) → words_by_line (text ++ more) ≡ lines ++ words_by_line more

-- some text begins with these lines
abbrev pub Begins : (List (List (List ℕ)) → Type 0) → List (List (List ℕ)) → Type 0
Begins IsText lines = (more : List (List (List ℕ))) × IsText (lines ++ more)

-- no text has these lines and goes on as the input does: with no line more, or with such a line
abbrev pub GoesWrong : (List (List (List ℕ)) → Type 0) → List (List (List ℕ)) → List (List (List ℕ)) → Type 0
GoesWrong IsText before [] = ¬ (IsText before)
GoesWrong IsText before (line ∷ after) = ¬ (Begins IsText (before ++ line ∷ []))

-- The first wrong line of an input, of which the first line has a given number. Where the input ends too
-- soon it is the line after its last.
pub record IsFirstWrongLine (IsText : List (List (List ℕ)) → Type 0) (first : ℕ) (lines : List (List (List ℕ))) (number : ℕ) : Type 0 where
  pub before : List (List (List ℕ))
  pub after : List (List (List ℕ))
  pub whole : lines ≡ before ++ after
  pub begins : Begins IsText before
  pub wrong : GoesWrong IsText before after
  pub number_is : number ≡ first + length before

-- why a text is not read: its first wrong line, or out of memory
abbrev pub IsTextError : (List (List (List ℕ)) → Type 0) → ℕ → List (List (List ℕ)) → TextError → Type 0
IsTextError IsText first lines (Line number) = IsFirstWrongLine IsText first lines number
IsTextError IsText first lines NoMemory = Unit {0}
