-- The conditions of events by what their callers keep.
use Rattle.fa_core_outcome.specs.Outcomes.{cell_of, outcome_of}
use Rattle.fa_core_outcome.specs.declared.outcome.Outcome.TheVariants.{Erased, Fault, HeaderWritten, Moved, Programmed, Read, Synced, Wrong}
use Rattle.fa_core_outcome.specs.declared.outcome.Outcome.{Outcome}
use Rattle.fa_machine.specs.State.{Core}
use Rattle.fa_machine.specs.Step.{is_distinct, is_page, is_sized_read}
use Rattle.fa_tag.specs.declared.tag.Opened.TheVariants.{Bad, Erased as OpenedErased, Good}
use Rattle.fa_types.specs.declared.numbers.Page.{Page}
use Rattle.std.proofs.Common.{List, ap, arith, eq-eqb, length, map, refl, sym, true, ℕ, ◌<◌, ◌∙◌, ◌≡◌, ◌≤◌}
use Rattle.std.proofs.lemmas.Bool.{and_from, and_parts, le-leb, leb-true, lt-ltb, ltb-true}
use Rattle.std.proofs.lemmas.List.Folds.{list_all-map}
use Rattle.std.proofs.lemmas.List.Sums.{AllPass-from_list_all, list_all-from_AllPass}
use Rattle.std.proofs.lemmas.List.{length-map}
use Rattle.std.specs.List.{All, list_all}
use Rattle.std.specs.Prelude.{nat_le, nat_lt, ◌&&◌}

-- a list that may be admitted
pub may_admit : (core : Core) (pages : List Page) → All (λ (page : Page). page.0 < core.page_map.geometry.pages) pages
    → is_distinct (map (λ (page : Page). page.0) pages) ≡ true → length pages ≤ 1024
    → (is_distinct (map (λ (page : Page). page.0) pages) && list_all (is_page core) (map (λ (page : Page). page.0) pages)
    && nat_le (length (map (λ (page : Page). page.0) pages)) 1024) ≡ true
may_admit core pages inside distinct few =
    let numbers = map (λ (page : Page). page.0) pages in
    and_from (is_distinct numbers && list_all (is_page core) numbers) (nat_le (length numbers) 1024)
    (and_from (is_distinct numbers) (list_all (is_page core) numbers) distinct
    (list_all-map (is_page core) (λ (page : Page). page.0) pages
    ∙ list_all-from_AllPass (λ (page : Page). is_page core page.0) pages
    (λ k d low. lt-ltb _ _ (inside k d low))))
    (ap (λ n. nat_le n 1024) (length-map pages (λ (page : Page). page.0)) ∙ le-leb (length pages) 1024 few)

-- and the other way round
pub admitted_pages : (core : Core) (pages : List Page)
    → (is_distinct (map (λ (page : Page). page.0) pages) && list_all (is_page core) (map (λ (page : Page). page.0) pages)
    && nat_le (length (map (λ (page : Page). page.0) pages)) 1024) ≡ true
    → All (λ (page : Page). page.0 < core.page_map.geometry.pages) pages × (length pages ≤ 1024)
admitted_pages core pages is =
    let numbers = map (λ (page : Page). page.0) pages in
    let parts = and_parts (is_distinct numbers && list_all (is_page core) numbers) (nat_le (length numbers) 1024) is in
    let all = (and_parts (is_distinct numbers) (list_all (is_page core) numbers) parts.0).1 in
    let passes = AllPass-from_list_all (λ (page : Page). is_page core page.0) pages
    (sym (list_all-map (is_page core) (λ (page : Page). page.0) pages) ∙ all) in
    let few = leb-true (length numbers) 1024 parts.1 in let same = length-map pages (λ (page : Page). page.0) in
    (λ k d low. ltb-true _ _ (passes k d low), omega (arith, few, same))

-- an outcome with as many bytes as a page has
pub is_whole_read : (core : Core) (outcome : Outcome) (bytes : List ℕ) → length bytes ≡ core.page_map.geometry.page_bytes
    → is_sized_read core (outcome_of outcome bytes) ≡ true
is_whole_read core (Read (Good tag)) bytes same = eq-eqb (length bytes) core.page_map.geometry.page_bytes same
is_whole_read core (Read OpenedErased) bytes same = refl
is_whole_read core (Read Bad) bytes same = refl
is_whole_read core Programmed bytes same = refl
is_whole_read core Moved bytes same = refl
is_whole_read core Erased bytes same = refl
is_whole_read core HeaderWritten bytes same = refl
is_whole_read core Synced bytes same = refl
is_whole_read core (Fault fault) bytes same = refl
is_whole_read core Wrong bytes same = refl
