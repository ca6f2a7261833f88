-- How far lines are a batch text, and what line may come next.
use Rattle.std.proofs.Common.{◌≡◌, ◌≢◌, ◌⊎◌, ℕ, ◌-◌, ◌<◌, ◌≤◌, inl, inr, List, [], ◌∷◌, ◌++◌, length, map, codes, All, refl, sym, ap, ◌∙◌, subst, arith, append_assoc, length-append}
use Rattle.std.proofs.lemmas.List.{append-nil, map-append}
use Rattle.std.proofs.lemmas.List.Elements.{All-nil, All-push, All-head, All-tail, All-weaker}
use Rattle.fa_types.specs.Open.{max_closed}
use Rattle.fa_closed.specs.declared.closed.Run.{Run}
use Rattle.fa_batch_terms.specs.Batch.{Entry}
use Rattle.fa_texts.specs.BatchText.{page_line, closed_line, end_line, batch_lines, HasPageLine, HasClosedLine, IsBatchText, StartsWithBatch}
use Rattle.fa_texts.specs.Text.{Begins}
use Rattle.fa_texts.proofs.LinesRead.{other_word}
use Rattle.fa_batch_terms.proofs.Parts.{first_same, rest_same, some_left}

-- the lines up to those of these pages and runs, with more behind them
abbrev pub front : List Entry → List Run → List (List (List ℕ)) → List (List (List ℕ))
front entries runs tail = (codes "batch" ∷ []) ∷ (map page_line entries ++ (map closed_line runs ++ tail))

-- Lines that are a batch text so far.
pub record IsSoFar (entries : List Entry) (runs : List Run) (lines : List (List (List ℕ))) : Type 0 where
  pub spelled : (tail : List (List (List ℕ))) → lines ++ tail ≡ front entries runs tail
  pub few : length entries ≤ 1024
  pub few_runs : length runs ≤ 4096
  pub pages : All HasPageLine entries
  pub closed : All HasClosedLine runs

text_front : (entries : List Entry) (runs : List Run) (rest : List (List (List ℕ))) → batch_lines entries runs ++ rest ≡ front entries runs (end_line ∷ rest)
text_front entries runs rest =
    append_assoc ((codes "batch" ∷ []) ∷ (map page_line entries ++ map closed_line runs)) (end_line ∷ []) rest
    ∙ ap (λ v. (codes "batch" ∷ []) ∷ v) (append_assoc (map page_line entries) (map closed_line runs) (end_line ∷ rest))

module _ {entries' : List Entry} {runs' : List Run} {words : List (List ℕ)} where
  pub starts : entries' ≡ [] → runs' ≡ [] → words ≡ codes "batch" ∷ [] → IsSoFar entries' runs' (words ∷ [])
  starts no_entries no_runs is = subst (λ v. IsSoFar v runs' (words ∷ [])) (sym no_entries) (subst (λ v. IsSoFar [] v (words ∷ [])) (sym no_runs) (record {
    spelled = λ tail. ap (λ v. v ∷ tail) is;
    few = omega arith;
    few_runs = omega arith;
    pages = All-nil HasPageLine;
    closed = All-nil HasClosedLine;
  }))

  pub page_more : {entries : List Entry} {runs : List Run} {lines : List (List (List ℕ))} {e : Entry} → IsSoFar entries runs lines → runs ≡ [] → length entries < 1024
      → words ≡ page_line e → HasPageLine e → entries' ≡ entries ++ e ∷ [] → runs' ≡ runs → IsSoFar entries' runs' (lines ++ words ∷ [])
  page_more {entries} {runs} {lines} {e} so_far none room is fine entries_are runs_are =
      let size = length-append entries (e ∷ []) in
      let front_is = subst (λ v. IsSoFar entries v lines) none so_far in
      subst (λ v. IsSoFar v runs' (lines ++ words ∷ [])) (sym entries_are) (subst (λ v. IsSoFar (entries ++ e ∷ []) v (lines ++ words ∷ [])) (sym (runs_are ∙ none)) (record {
        spelled = λ tail.
            append_assoc lines (words ∷ []) tail ∙ front_is.spelled (words ∷ tail) ∙ ap (λ w. front entries [] (w ∷ tail)) is
            ∙ ap (λ v. (codes "batch" ∷ []) ∷ v) (sym (ap (λ v. v ++ tail) (map-append page_line entries (e ∷ [])) ∙ append_assoc (map page_line entries) (page_line e ∷ []) tail));
        few = omega (arith, size, room);
        few_runs = front_is.few_runs;
        pages = All-push HasPageLine entries e so_far.pages fine;
        closed = front_is.closed;
      }))

  pub closed_more : {entries : List Entry} {runs : List Run} {lines : List (List (List ℕ))} {run : Run} → IsSoFar entries runs lines → length runs < 4096
      → words ≡ closed_line run → HasClosedLine run → entries' ≡ entries → runs' ≡ runs ++ run ∷ [] → IsSoFar entries' runs' (lines ++ words ∷ [])
  closed_more {entries} {runs} {lines} {run} so_far room is fine entries_are runs_are =
      let size = length-append runs (run ∷ []) in
      subst (λ v. IsSoFar v runs' (lines ++ words ∷ [])) (sym entries_are) (subst (λ v. IsSoFar entries v (lines ++ words ∷ [])) (sym runs_are) (record {
        spelled = λ tail.
            append_assoc lines (words ∷ []) tail ∙ so_far.spelled (words ∷ tail) ∙ ap (λ w. front entries runs (w ∷ tail)) is
            ∙ ap (λ v. (codes "batch" ∷ []) ∷ (map page_line entries ++ v)) (sym (ap (λ v. v ++ tail) (map-append closed_line runs (run ∷ [])) ∙ append_assoc (map closed_line runs) (closed_line run ∷ []) tail));
        few = so_far.few;
        few_runs = omega (arith, size, room);
        pages = so_far.pages;
        closed = All-push HasClosedLine runs run so_far.closed fine;
      }))

-- with the last line it is whole
pub ends : {entries : List Entry} {runs : List Run} {lines : List (List (List ℕ))} {words : List (List ℕ)} → IsSoFar entries runs lines → words ≡ end_line → IsBatchText (lines ++ words ∷ []) entries runs
ends {entries} {runs} {lines} so_far is = record {
  spelled = ap (λ w. lines ++ w ∷ []) is ∙ so_far.spelled (end_line ∷ []) ∙ sym (text_front entries runs []) ∙ append-nil (batch_lines entries runs);
  few = so_far.few;
  few_runs = so_far.few_runs;
  pages = so_far.pages;
  closed = so_far.closed;
}

-- and a text begins so
pub begins : {entries : List Entry} {runs : List Run} {lines : List (List (List ℕ))} → IsSoFar entries runs lines → Begins StartsWithBatch lines
begins {entries} {runs} {lines} so_far = (end_line ∷ [], (lines ++ end_line ∷ [], [], entries, runs, sym (append-nil (lines ++ end_line ∷ [])), ends so_far refl))

-- What a batch text has behind these runs.
closed_next : (runs runs' : List Run) (tail rest : List (List (List ℕ))) → All HasClosedLine runs' → map closed_line runs ++ tail ≡ map closed_line runs' ++ end_line ∷ rest
    → ((run : Run) × (more : List (List (List ℕ))) × (tail ≡ closed_line run ∷ more) × HasClosedLine run × (length runs < length runs')) ⊎ ((more : List (List (List ℕ))) × (tail ≡ end_line ∷ more))
closed_next [] [] tail rest fine is = inr (rest, is)
closed_next [] (run ∷ runs') tail rest fine is = inl (run, map closed_line runs' ++ end_line ∷ rest, is, All-head HasClosedLine run runs' fine, omega arith)
closed_next (run ∷ runs) [] tail rest fine is = absurd (other_word _ _ _ _ refl (first_same is))
closed_next (run ∷ runs) (run' ∷ runs') tail rest fine is =
    elim (closed_next runs runs' tail rest (All-tail HasClosedLine run' runs' fine) (rest_same is)) [
      | inl next ↦ inl (next.0, next.1, next.2, next.3, (let less = next.4 in omega (arith, less)))
      | inr end ↦ inr end
    ]

-- What a batch text has behind these pages and runs: a page while there is no run, a run, or its end.
pub record IsPageNext (entries entries' : List Entry) (runs : List Run) (tail : List (List (List ℕ))) : Type 0 where
  pub entry : Entry
  pub more : List (List (List ℕ))
  pub is : tail ≡ page_line entry ∷ more
  pub fine : HasPageLine entry
  pub none : runs ≡ []
  pub less : length entries < length entries'

pub record IsRunNext (runs runs' : List Run) (tail : List (List (List ℕ))) : Type 0 where
  pub run : Run
  pub more : List (List (List ℕ))
  pub is : tail ≡ closed_line run ∷ more
  pub fine : HasClosedLine run
  pub less : length runs < length runs'

pub next_line : (entries entries' : List Entry) (runs runs' : List Run) (tail rest : List (List (List ℕ))) → All HasPageLine entries' → All HasClosedLine runs'
    → map page_line entries ++ (map closed_line runs ++ tail) ≡ map page_line entries' ++ (map closed_line runs' ++ end_line ∷ rest)
    → IsPageNext entries entries' runs tail ⊎ (IsRunNext runs runs' tail ⊎ ((more : List (List (List ℕ))) × (tail ≡ end_line ∷ more)))
next_line [] [] runs runs' tail rest fine fine' is =
    elim (closed_next runs runs' tail rest fine' is) [
      | inl next ↦ inr (inl (record { run = next.0; more = next.1; is = next.2; fine = next.3; less = next.4 }))
      | inr end ↦ inr (inr end)
    ]
next_line [] (e ∷ entries') [] runs' tail rest fine fine' is =
    inl (record {
      entry = e;
      more = map page_line entries' ++ (map closed_line runs' ++ end_line ∷ rest);
      is = is;
      fine = All-head HasPageLine e entries' fine;
      none = refl;
      less = omega arith;
    })
next_line [] (e ∷ entries') (run ∷ runs) runs' tail rest fine fine' is = absurd (other_word _ _ _ _ refl (sym (first_same is)))
next_line (e ∷ entries) [] runs [] tail rest fine fine' is = absurd (other_word _ _ _ _ refl (first_same is))
next_line (e ∷ entries) [] runs (run ∷ runs') tail rest fine fine' is = absurd (other_word _ _ _ _ refl (first_same is))
next_line (e ∷ entries) (e' ∷ entries') runs runs' tail rest fine fine' is =
    elim (next_line entries entries' runs runs' tail rest (All-tail HasPageLine e' entries' fine) fine' (rest_same is)) [
      | inl page ↦ inl (record { entry = page.entry; more = page.more; is = page.is; fine = page.fine; none = page.none; less = (let less = page.less in omega (arith, less)) })
      | inr other ↦ inr other
    ]

-- Why a line may not come next.
pub record IsNoNext (entries : List Entry) (runs : List Run) (words : List (List ℕ)) : Type 0 where
  pub no_page : (e : Entry) → HasPageLine e → words ≡ page_line e → runs ≡ [] → length entries < 1024 → ⊥
  pub no_run : (run : Run) → HasClosedLine run → words ≡ closed_line run → length runs < 4096 → ⊥
  pub no_end : words ≢ end_line

-- behind the lines so far comes what may come next
next_of : (entries : List Entry) (runs : List Run) (lines tail : List (List (List ℕ))) → IsSoFar entries runs lines → StartsWithBatch (lines ++ tail)
    → (words : List (List ℕ)) × (more : List (List (List ℕ))) × (tail ≡ words ∷ more) × (IsNoNext entries runs words → ⊥)
next_of entries runs lines tail so_far (text, rest, entries', runs', parts, batch) =
    let front_is = sym (so_far.spelled tail) ∙ parts ∙ ap (λ v. v ++ rest) batch.spelled ∙ text_front entries' runs' rest in
    elim (next_line entries entries' runs runs' tail rest batch.pages batch.closed (rest_same front_is)) [
      | inl page ↦ (page_line page.entry, page.more, page.is, λ wrong. wrong.no_page page.entry page.fine refl page.none (let less = page.less in let few = batch.few in omega (arith, less, few)))
      | inr (inl next) ↦ (closed_line next.run, next.more, next.is, λ wrong. wrong.no_run next.run next.fine refl (let less = next.less in let few = batch.few_runs in omega (arith, less, few)))
      | inr (inr end) ↦ (end_line, end.0, end.1, λ wrong. wrong.no_end refl)
    ]

-- The lines so far are no text, and with a line that may not come next none begins.
pub not_whole : {entries : List Entry} {runs : List Run} {lines : List (List (List ℕ))} → IsSoFar entries runs lines → ¬ (StartsWithBatch lines)
not_whole {entries} {runs} {lines} so_far starts =
    let next = next_of entries runs lines [] so_far (subst (λ v. StartsWithBatch v) (sym (append-nil lines)) starts) in
    some_left (sym next.2)

pub not_next : {entries : List Entry} {runs : List Run} {lines : List (List (List ℕ))} {words : List (List ℕ)} → IsSoFar entries runs lines → IsNoNext entries runs words
    → ¬ (Begins StartsWithBatch (lines ++ words ∷ []))
not_next {entries} {runs} {lines} {words} so_far wrong (more, starts) =
    let next = next_of entries runs lines (words ∷ more) so_far (subst (λ v. StartsWithBatch v) (append_assoc lines (words ∷ []) more) starts) in
    next.3 (subst (λ v. IsNoNext entries runs v) (first_same next.2) wrong)

-- A page where none may stand, and a run where none may.
pub page_no_next : (entries : List Entry) (runs : List Run) {words : List (List ℕ)} (e : Entry) → words ≡ page_line e → (runs ≡ [] → length entries < 1024 → ⊥) → IsNoNext entries runs words
page_no_next entries runs e is full = record {
  no_page = λ e' fine same. full;
  no_run = λ run fine same room. other_word _ _ _ _ refl (sym is ∙ same);
  no_end = λ same. other_word _ _ _ _ refl (sym is ∙ same);
}

pub run_no_next : (entries : List Entry) (runs : List Run) {words : List (List ℕ)} (run : Run) → words ≡ closed_line run → (length runs < 4096 → ⊥) → IsNoNext entries runs words
run_no_next entries runs run is full = record {
  no_page = λ e fine same none room. other_word _ _ _ _ refl (sym same ∙ is);
  no_run = λ run' fine same. full;
  no_end = λ same. other_word _ _ _ _ refl (sym is ∙ same);
}

-- A batch text begins with its first line.
first_line : (lines : List (List (List ℕ))) → StartsWithBatch lines → (more : List (List (List ℕ))) × (lines ≡ (codes "batch" ∷ []) ∷ more)
first_line lines (text, rest, entries, runs, parts, batch) =
    (map page_line entries ++ (map closed_line runs ++ end_line ∷ rest), parts ∙ ap (λ v. v ++ rest) batch.spelled ∙ text_front entries runs rest)

pub none_begins : Begins StartsWithBatch []
none_begins = (batch_lines [] [], (batch_lines [] [], [], [], [], sym (append-nil (batch_lines [] [])), ends (starts refl refl refl) refl))

pub not_none : ¬ (StartsWithBatch [])
not_none text = some_left (sym (first_line [] text).1)

pub not_first : {words : List (List ℕ)} → words ≢ codes "batch" ∷ [] → ¬ (Begins StartsWithBatch (words ∷ []))
not_first {words} other (more, text) = other (first_same (first_line (words ∷ more) text).1)

-- A run that has a line ends soon.
pub runs_end_soon : (runs : List Run) → All HasClosedLine runs → All (λ run. run.last.0 - 1 < max_closed) runs
runs_end_soon runs fine = All-weaker HasClosedLine (λ run. run.last.0 - 1 < max_closed) (λ run has. let early = has.ends in omega (arith, early)) runs fine
