-- Which request gets which answer.
use Rattle.std.specs.Prelude.{ℕ, Bool, if◌then◌else◌, ◌||◌, List, codes}
use Rattle.std.specs.Str.{bytes_eq}
use Rattle.fa_prog_looks.specs.declared.answers.Answer.{Answer}
use Rattle.fa_prog_looks.specs.declared.answers.Answer.TheVariants.{Page, NoPath, NoMethod, Text as Found}
use Rattle.fa_prog_looks.specs.declared.shown.Text.TheVariants.{Lines, Metrics, Document}

-- whether a method only looks
abbrev pub is_look : List ℕ → Bool
is_look method = bytes_eq method (codes "GET") || bytes_eq method (codes "HEAD")

-- the answer to a look at a path; who wants lines gets them for the page
abbrev pub look_at : List ℕ → Bool → Answer
look_at path lines =
    if bytes_eq path (codes "/") then (if lines then Found Lines else Page) else if bytes_eq path (codes "/metrics") then Found Metrics
    else if bytes_eq path (codes "/status.json") then Found Document else NoPath

abbrev pub answer_for : List ℕ → List ℕ → Bool → Answer
answer_for method path lines = if is_look method then look_at path lines else NoMethod
