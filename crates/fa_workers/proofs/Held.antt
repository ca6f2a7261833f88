-- Jobs that are taken one after the other, and that end one after the other.
use Rattle.fa_machine.specs.State.{Core}
use Rattle.fa_machine.specs.Step.{Act, Advance, Fold, Take}
use Rattle.fa_machine.specs.declared.refusals.AdvanceRefused.{AdvanceRefused}
use Rattle.fa_machine.specs.declared.refusals.AdvanceRefused.TheVariants.{Pending}
use Rattle.fa_shared_lock.specs.Only.{Beside, EndsJob, EndsJobs, Ended, IsAdvance, IsBeside, IsPart, MakesOnly, MayNot, NoJob, NoMore, OneEnd, OneGoes, OneJob, OneMore, OneStays, TakesJobs, Told, dies_told}
use Rattle.fa_shared_lock.specs.Rest.{Folded, Folds, HadRoom}
use Rattle.fa_types.specs.declared.numbers.Die.{Die}
use Rattle.fa_types.specs.declared.numbers.Round.{Round}
use Rattle.fa_workers.specs.DieTurns.{Ends, LooksAgain, Rests, TakesNext, Took, TookNone, WasOpen, after_look}
use Rattle.fa_workers.specs.Held.{AddsPart, die_taken, numbers_of, order_in, told_of}
use Rattle.fa_workers_making.specs.declared.bench.MadeJob.{MadeJob}
use Rattle.fa_workers.specs.declared.die_events.Next.{Next}
use Rattle.std.proofs.Common.{ap, inl, inr, refl, subst, sym, List, [], Err, None, Ok, Result, arith, length, map, slice_index_or, take, ℕ, ◌++◌, ◌+◌, ◌<◌, ◌∙◌, ◌∷◌, ◌≡◌}
use Rattle.std.proofs.lemmas.List.{append-nil, append_assoc, get_or-map, length-map, take_more}

-- jobs that are taken behind others are held behind theirs
pub takes_behind : (seat : ℕ) (a b c : Core) (held dies more : List ℕ) → TakesJobs seat a held b dies → TakesJobs seat b [] c more
    → TakesJobs seat a held c (dies ++ more)
takes_behind seat a b c held dies more before (NoJob) = subst (λ d. TakesJobs seat a held b d) (sym (append-nil dies)) before
takes_behind seat a b c held dies more before (Beside between ds act new made is step) =
    Beside between (dies ++ ds) act c (takes_behind seat a b between held dies ds before made) is step
takes_behind seat a b c held dies more before (OneJob between ds die job new made step) =
    subst (λ d. TakesJobs seat a held c d) (append_assoc dies ds (die ∷ []))
    (OneJob between (dies ++ ds) die job c (takes_behind seat a b between held dies ds before made) step)

-- one after the other
pub takes_then : (seat : ℕ) (a b : Core) (held dies : List ℕ) (c : Core) (more : List ℕ) → TakesJobs seat a held b dies → TakesJobs seat b dies c more
    → TakesJobs seat a held c more
takes_then seat a b held dies c more before (NoJob) = before
takes_then seat a b held dies c more before (Beside between ds act new made is step) =
    Beside between ds act c (takes_then seat a b held dies between ds before made) is step
takes_then seat a b held dies c more before (OneJob between ds die job new made step) =
    OneJob between ds die job c (takes_then seat a b held dies between ds before made) step

advance_beside : (seat : ℕ) (act : Act) → IsAdvance act → IsBeside seat act
advance_beside seat (Advance answer) is = tt
advance_beside seat act is = absurd is

-- rounds that pass beside them leave what is held
pub passes_beside : (seat : ℕ) (a b c : Core) (held dies : List ℕ) → TakesJobs seat a held b dies → MakesOnly IsAdvance b c
    → TakesJobs seat a held c dies
passes_beside seat a b c held dies before (NoMore) = before
passes_beside seat a b c held dies before (OneMore between act new made is step) =
    Beside between dies act c (passes_beside seat a b between held dies before made) (advance_beside seat act is) step

fold_beside : (seat : ℕ) (old new : Core) → Folds old new → TakesJobs seat old [] new []
fold_beside seat old new (Folded full step) = Beside old [] Fold new NoJob tt step
fold_beside seat old new (HadRoom same) = subst (λ c. TakesJobs seat old [] c []) (sym same) NoJob

module _ {A : Type 0} where
  none_in_look : (answer : Result Round AdvanceRefused) → order_in {A = A} (after_look answer) ≡ None
  none_in_look (Err Pending) = refl
  none_in_look (Err refused) = refl
  none_in_look (Ok round) = refl

  rests_beside : (seat : ℕ) (before : AdvanceRefused) (first old new : Core) (next : Next A) → TakesJobs seat first [] old []
      → Rests before old next new → TakesJobs seat first [] new (die_taken (order_in next))
  rests_beside seat before first old new next took (WasOpen other is same) =
      subst (λ n. TakesJobs seat first [] new (die_taken (order_in n))) (sym is) (subst (λ c. TakesJobs seat first [] c []) (sym same) took)
  rests_beside seat before first old new next took (LooksAgain answer was step is) =
      subst (λ n. TakesJobs seat first [] new (die_taken (order_in n))) (sym is)
      (subst (λ o. TakesJobs seat first [] new (die_taken o)) (sym (none_in_look answer)) (Beside old [] (Advance answer) new took tt step))

  -- what a die takes, as a job that is held
  pub next_held : (die seat : ℕ) (before : AdvanceRefused) (old new : Core) (next : Next A) → TakesNext die seat before old next new
      → TakesJobs seat old [] new (die_taken (order_in next))
  next_held die seat before old new next (Took order is of folded) =
      subst (λ n. TakesJobs seat old [] new (die_taken (order_in n))) (sym is)
      (subst (λ d. TakesJobs seat old [] new (d ∷ [])) (sym of)
      (OneJob folded.between [] die _ new (fold_beside seat old folded.between folded.folds) folded.step))
  next_held die seat before old new next (TookNone between folded rests) =
      rests_beside seat before old between new next
      (Beside folded.between [] (Take die seat None) between (fold_beside seat old folded.between folded.folds) refl folded.step) rests

-- one more die is held
pub one_held : (dies : List Die) (die : Die) → numbers_of (dies ++ die ∷ []) ≡ numbers_of dies ++ die.0 ∷ []
one_held [] die = refl
one_held (d ∷ dies) die = ap (λ ds. d.0 ∷ ds) (one_held dies die)

one_told : (old : List Told) (told : Told) → dies_told (old ++ told ∷ []) ≡ dies_told old ++ told.die ∷ []
one_told [] told = refl
one_told (t ∷ old) told = ap (λ ds. t.die ∷ ds) (one_told old told)

-- of one die more something may be told
pub part_more : (die : ℕ) (old new : List Told) (dies : List ℕ) → AddsPart die old new → IsPart (dies_told old) dies
    → IsPart (dies_told new) (dies ++ die ∷ [])
part_more die old new dies (inl (told, is, same)) part =
    subst (λ ds. IsPart ds (dies ++ die ∷ [])) (sym (ap dies_told same ∙ one_told old told ∙ ap (λ n. dies_told old ++ n ∷ []) is))
    (OneStays (dies_told old) dies die part)
part_more die old new dies (inr same) part =
    subst (λ ts. IsPart (dies_told ts) (dies ++ die ∷ [])) (sym same) (OneGoes (dies_told old) dies die part)

-- so it is of the dies before a place, and of the die there
pub part_next : (dies : List Die) (i : ℕ) (d : Die) (old new : List Told) → i < length dies → AddsPart (slice_index_or dies i d).0 old new
    → IsPart (dies_told old) (take i (numbers_of dies)) → IsPart (dies_told new) (take (i + 1) (numbers_of dies))
part_next dies i d old new within adds part =
    let number : Die → ℕ = λ die. die.0 in
    let long : i < length (numbers_of dies) = omega (arith, length-map dies number, within) in
    let die = slice_index_or dies i d in
    subst (λ ds. IsPart (dies_told new) ds)
    (ap (λ n. take i (numbers_of dies) ++ n ∷ []) (sym (get_or-map number dies i d d.0 within)) ∙ sym (take_more (numbers_of dies) i d.0 long))
    (part_more die.0 old new (take i (numbers_of dies)) adds part)

pub none_left : {X : Type 0} (items : List X) → length items ≡ 0 → items ≡ []
none_left [] is = refl
none_left (item ∷ items) is = absurd (omega (arith, is))

module _ {A : Type 0} where
  pub one_made : (jobs : List (MadeJob A)) (job : MadeJob A) → map told_of (jobs ++ job ∷ []) ≡ map told_of jobs ++ told_of job ∷ []
  one_made [] job = refl
  one_made (j ∷ jobs) job = ap (λ ts. told_of j ∷ ts) (one_made jobs job)

-- Where jobs end behind others, so they do behind one more that ends first.
pub ends_first : (first : Core) (all others : List Told) (told : Told) (between new : Core)
    → ((last : Core) → EndsJobs between (others ++ told ∷ []) last → EndsJobs first all last) → EndsJob told between new
    → (last : Core) → EndsJobs new others last → EndsJobs first all last
ends_first first all others told between new before ends last rest = before last (OneEnd between others told new last ends rest)

-- the end of a job, or that it may not end so
pub ends_job : {A : Type 0} (job : MadeJob A) (old new : Core) → Ends job.die.0 job.outcome job.memory.buffer.items old new
    → EndsJob (told_of job) old new
ends_job job old new (inl step) = Ended step
ends_job job old new (inr none) = MayNot none.0 none.1
