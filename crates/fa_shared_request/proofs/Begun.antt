-- The tally of a request at its beginning.
use Rattle.std.proofs.Common.{◌≡◌, ◌∙◌, ◌-◌, ℕ, Option, Some, None, ap, arith}
use Rattle.std.proofs.lemmas.Bool.Decides.{nat_tests}
use Rattle.fa_shared_steps.specs.Stages.{from_page}
use Rattle.fa_shared_steps.specs.Stages.{beginning, beginning_by}
use Rattle.fa_shared_steps.specs.Ranges.{first_page, past_page}
use Rattle.fa_shared_request.specs.Tallies.{Tally, left, pages_by, pages_in, refusals, tally_at}
use Rattle.fa_shared_steps.specs.declared.request.Fill.{Fill}
use Rattle.fa_shared_steps.specs.declared.request.Task.{Task}
use Rattle.fa_shared_steps.specs.declared.stage.Stage.{Stage}

-- the next page of the range is claimed where there is one
pub none_refused : (A : Type 0) (t : Task) (page : ℕ) → refusals (from_page {A = A} t page) ≡ 0
none_refused A t page = grind (arith, nat_tests)

pub left_from : (A : Type 0) (t : Task) (page : ℕ) → left t (from_page {A = A} t page) ≡ past_page t.range - page
left_from A t page = grind (arith, nat_tests)

no_fill_refused : (A : Type 0) (t : Task) → refusals (beginning_by {A = A} t None) ≡ 0
no_fill_refused A t = grind (arith, nat_tests)

no_fill_left : (A : Type 0) (t : Task) → left t (beginning_by {A = A} t None) ≡ 0
no_fill_left A t = grind (arith, nat_tests)

abbrev tally_with : ℕ → ℕ → ℕ → Tally
tally_with commits left refused = record { commits = commits; left = left; refused = refused }

-- At its beginning a request has all its pages before it.
begun_refusals : (A : Type 0) (t : Task) (fill : Option Fill) → refusals (beginning_by {A = A} t fill) ≡ 0
begun_refusals A t (Some fill) = none_refused A t (first_page t.range)
begun_refusals A t None = no_fill_refused A t

begun_left : (A : Type 0) (t : Task) (fill : Option Fill) → left t (beginning_by {A = A} t fill) ≡ pages_by fill t.range
begun_left A t (Some fill) = left_from A t (first_page t.range)
begun_left A t None = no_fill_left A t

pub begun : {A : Type 0} (commits : ℕ) (t u : Task) (stage : Stage A) → t ≡ u → stage ≡ beginning t
    → tally_at commits t stage ≡ record { commits = commits; left = pages_in u; refused = 0 }
begun {A = A} commits t u stage e begins =
    let lefts : left t stage ≡ pages_in u = ap (left t) begins ∙ (begun_left A t t.fill ∙ ap pages_in e) in
    let none : refusals stage ≡ 0 = ap refusals begins ∙ begun_refusals A t t.fill in
    ap (λ n. tally_with commits n (refusals stage)) lefts ∙ ap (tally_with commits (pages_in u)) none
