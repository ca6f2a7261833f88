-- How it is told how an array is.
use Rattle.std.specs.Prelude.{ℕ, List, [], ◌∷◌, ◌++◌, codes}
use Rattle.std.specs.Fmt.{decimal}
use Rattle.fa_prog_status.specs.declared.status.DieState.{DieState}
use Rattle.fa_prog_status.specs.declared.status.DieState.TheVariants.{Live, Spare, Out, Missing}

-- how a die stands, in a word
abbrev pub state_name : DieState → List ℕ
state_name Live = codes "live"
state_name Spare = codes "spare"
state_name Out = codes "out"
state_name Missing = codes "missing"

-- a sample of a metric: its name, its labels in braces, and its value
abbrev pub sample_line : List ℕ → List ℕ → ℕ → List ℕ
sample_line name labels value = name ++ labels ++ codes " " ++ decimal value ++ 10 ∷ []

-- what stands before the samples of a metric
abbrev pub head_lines : List ℕ → List ℕ → List ℕ → List ℕ
head_lines name kind help = codes "# HELP " ++ name ++ codes " " ++ help ++ 10 ∷ codes "# TYPE " ++ name ++ codes " " ++ kind ++ 10 ∷ []

-- a label by a name and a word
abbrev pub word_label : List ℕ → List ℕ → List ℕ
word_label name word = name ++ codes "=" ++ 34 ∷ word ++ 34 ∷ []

-- labels as they stand behind the name of a metric
abbrev pub braces : List ℕ → List ℕ
braces labels = 123 ∷ labels ++ 125 ∷ []
