-- Programs and syncs, and a die that is at no job.
use Rattle.fa_machine.proofs.Lists.{cut_first, without_first}
use Rattle.fa_machine.specs.State.{Core, is_live}
use Rattle.fa_machine.specs.Taking.{begins, handed, is_idle, sync_job}
use Rattle.fa_machine.specs.declared.jobs.Flight.{Flight}
use Rattle.fa_machine.specs.declared.jobs.Flight.TheVariants.{Sync}
use Rattle.std.proofs.Common.{Bool, List, None, Option, Some, [], ap, cond, false, refl, sym, true, ℕ, ◌++◌, ◌∙◌, ◌∷◌, ◌≡◌}
use Rattle.std.proofs.lemmas.Bool.{and_parts, false≢true}
use Rattle.std.proofs.lemmas.Option.{none-some, same_Some}
use Rattle.std.specs.FinMap.{contains_key, get, insert}
use Rattle.std.specs.List.{after_first, before_first}
use Rattle.std.specs.Prelude.{find, if◌then◌else◌, is_some, not, option_map}

unchanged : {X : Type 0} (p : X → Bool) (xs : List X) → None ≡ find p xs → without_first p xs ≡ xs
unchanged p [] none = refl
unchanged p (x ∷ xs) none = go (p x) none (unchanged p xs)
  where
    go : (b : Bool) → None ≡ cond b (Some x) (find p xs) → (None ≡ find p xs → without_first p xs ≡ xs)
        → (if b then xs else x ∷ without_first p xs) ≡ x ∷ xs
    go true none rest = absurd (none-some x none)
    go false none rest = ap (λ ys. x ∷ ys) (rest none)

-- where none passes, nothing is taken out
pub none_out : {X : Type 0} (p : X → Bool) (xs : List X) → None ≡ find p xs → before_first p xs ++ after_first p xs ≡ xs
none_out p xs none = cut_first p xs ∙ unchanged p xs none

-- a sync changes nothing else
pub sync_begins : (core : Core) (die seat : ℕ) (flight : Flight) → Some flight ≡ sync_job core die
    → (Some (handed flight), record core { jobs = insert core.jobs die flight })
    ≡ begins die seat core (option_map handed (sync_job core die))
sync_begins core die seat flight is = go _ is
  where
    go : (b : Bool) → Some flight ≡ (if b then Some (Sync core.flushes) else None)
        → (Some (handed flight), record core { jobs = insert core.jobs die flight })
        ≡ begins die seat core (option_map handed (if b then Some (Sync core.flushes) else None))
    go true is =
        let same = same_Some flight (Sync core.flushes) is in
        λ i. (Some (handed (same i)), record core { jobs = insert core.jobs die (same i) })
    go false is = absurd (none-some flight (sym is))

-- such a die has no job
pub no_job : (core : Core) (die : ℕ) → is_idle core die ≡ true → get core.jobs die ≡ None
no_job core die idle =
    go (get core.jobs die) (and_parts (is_live core.page_map die) (not (contains_key core.jobs die)) idle).1
  where
    go : (o : Option Flight) → not (is_some o) ≡ true → o ≡ None
    go None idle = refl
    go (Some flight) idle = absurd (false≢true idle)
