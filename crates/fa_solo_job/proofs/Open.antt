-- What is done for dies and for the array's order, batches and copies aside, opens no batch and no claim, and ends none.
use Rattle.std.proofs.Common.{◌≡◌, ◌∙◌, ℕ, Bool, true, false, List, [], ◌∷◌, Option, Some, None, ap, inl, inr, refl, sym, subst}
use Rattle.std.proofs.lemmas.Bool.{cases_eq}
use Rattle.std.specs.Cmp.{nat_cmp_total}
use Rattle.std.specs.FinMap.{FinMap, contains_key, get, insert}
use Rattle.std.specs.Ordering.{nat_cmp}
use Rattle.std.specs.Prelude.{Err, Ok, is_some, option_map, if◌then◌else◌, ◌==◌}
use Rattle.fa_mount_headers.specs.declared.judging.Standing.{Standing}
use Rattle.fa_image.specs.Image.{ImageAnswer, ImageCall}
use Rattle.fa_machine.proofs.Maps.{get-change, get-insert_other, get-insert_same, nat_same}
use Rattle.fa_machine.specs.Cells.{DidProgram, DidRead, Outcome, payload_of}
use Rattle.fa_machine.specs.State.{Core, OpenBatch, OpenClaim}
use Rattle.fa_machine.specs.Step.{Act, Admit, Advance, Done, Fold, ReserveCopy, SpareIn, Take, Window}
use Rattle.fa_machine.specs.Taking.{mark_claim}
use Rattle.fa_machine.specs.declared.jobs.Flight.{Flight}
use Rattle.fa_machine.specs.declared.jobs.Flight.TheVariants.{Program, Read}
use Rattle.fa_solo_job.proofs.Changes.{Batches, Claims, batches_after, batches_are, claims_after, claims_are, with_ended, with_marked, with_one_more}
use Rattle.fa_solo_job.proofs.Changes.{with_read}
use Rattle.fa_solo_job.specs.Deeds.{Goes, IsForOrder, Makes, MakesJob, Runs, Stays}
use Rattle.fa_solo_job.specs.House.{House}

-- an entry that changes stays, and the others do too
put_keys : {X : Type 0} (k : ℕ) (n : ℕ) (m : FinMap nat_cmp X) (x y : X) → get m k ≡ Some x
    → contains_key (insert m k y) n ≡ contains_key m n
put_keys k n m x y is =
    elim (cases_eq n k) [
      | inl same ↦ ap is_some (ap (get (insert m k y)) same ∙ get-insert_same m k y) ∙ sym (ap is_some (ap (get m) same ∙ is))
      | inr apart ↦ ap is_some (get-insert_other m k y n apart)
    ]

one_more_keys : (batch page : ℕ) (bytes : List ℕ) (batches : Batches) (o : Option OpenBatch) → get batches batch ≡ o → (n : ℕ)
    → contains_key (with_one_more batch page bytes o batches) n ≡ contains_key batches n
one_more_keys batch page bytes batches None is n = refl
one_more_keys batch page bytes batches (Some b) is n = put_keys batch n batches b _ is

read_keys : (batch page : ℕ) (o : Option (List ℕ)) (batches : Batches) (n : ℕ)
    → contains_key (with_read batch page o batches) n ≡ contains_key batches n
read_keys batch page None batches n = refl
read_keys batch page (Some bytes) batches n = one_more_keys batch page bytes batches (get batches batch) refl n

pub ended_keys : (die : ℕ) (flight : Option Flight) (outcome : Outcome) (batches : Batches) (n : ℕ)
    → contains_key (with_ended die flight outcome batches) n ≡ contains_key batches n
ended_keys die (Some (Read batch page version slot)) (DidRead cell) batches n =
    read_keys batch.0 page.0 (payload_of page.0 version die slot.0 cell) batches n
ended_keys die flight outcome batches n = refl

some_still : {X Y : Type 0} (f : X → Y) (o : Option X) → is_some (option_map f o) ≡ is_some o
some_still f None = refl
some_still f (Some x) = refl

pub marked_keys : (die : ℕ) (flight : Option Flight) (outcome : Outcome) (claims : Claims) (n : ℕ)
    → contains_key (with_marked die flight outcome claims) n ≡ contains_key claims n
marked_keys die (Some (Program page version slot)) DidProgram claims n =
    let mark_it : ℕ → OpenClaim → OpenClaim = λ id c. if c.page == page.0 then mark_claim die slot.0 c else c in
    ap is_some (get-change nat_cmp_total nat_same mark_it claims n) ∙ some_still (mark_it n) (get claims n)
marked_keys die flight outcome claims n = refl

pub order_batches : (core : Core) (act : Act) → IsForOrder act → batches_after core act ≡ core.batches
order_batches core (Admit (page ∷ []) (Err refused)) may = refl
order_batches core (ReserveCopy page seq payload (Err refused)) may = refl
order_batches core (Take die seat None) may = refl
order_batches core (Window die rounds answer) may = refl
order_batches core (Advance answer) may = refl
order_batches core (SpareIn die answer) may = refl
order_batches core Fold may = refl
order_batches core act may = absurd may

pub order_claims : (core : Core) (act : Act) → IsForOrder act → claims_after core act ≡ core.claims
order_claims core (Admit (page ∷ []) (Err refused)) may = refl
order_claims core (ReserveCopy page seq payload (Err refused)) may = refl
order_claims core (Take die seat None) may = refl
order_claims core (Window die rounds answer) may = refl
order_claims core (Advance answer) may = refl
order_claims core (SpareIn die answer) may = refl
order_claims core Fold may = refl
order_claims core act may = absurd may

module _ {I : Type 0} (made : I → ImageCall → ImageAnswer → I → Type 0) (array : List ℕ) (dies : List Standing) (seat : ℕ) where
  job_batches : (die : ℕ) (old new : House I) → MakesJob made array dies seat die old new → (n : ℕ)
      → contains_key new.core.batches n ≡ contains_key old.core.batches n
  job_batches die old new job n =
      ap (λ (b : Batches). contains_key b n) (batches_are job.taken (Done die job.outcome) new.core job.ends.does)
      ∙ ended_keys die (get job.taken.jobs die) job.outcome job.taken.batches n
      ∙ ap (λ (b : Batches). contains_key b n) (batches_are old.core (Take die seat (Some job.job)) job.taken job.takes.does)

  job_claims : (die : ℕ) (old new : House I) → MakesJob made array dies seat die old new → (n : ℕ)
      → contains_key new.core.claims n ≡ contains_key old.core.claims n
  job_claims die old new job n =
      ap (λ (c : Claims). contains_key c n) (claims_are job.taken (Done die job.outcome) new.core job.ends.does)
      ∙ marked_keys die (get job.taken.jobs die) job.outcome job.taken.claims n
      ∙ ap (λ (c : Claims). contains_key c n) (claims_are old.core (Take die seat (Some job.job)) job.taken job.takes.does)

  -- deeds of which the events are some that open and end nothing
  pub goes_batches : (P : Act → Type 0) → ((core : Core) (act : Act) → P act → batches_after core act ≡ core.batches) → (old new : House I)
      → Goes made array dies seat P old new → (n : ℕ) → contains_key new.core.batches n ≡ contains_key old.core.batches n
  goes_batches P same old new Stays n = refl
  goes_batches P same old new (Makes middle here act before may due step images) n =
      ap (λ (b : Batches). contains_key b n) (batches_are middle.core act new.core step.does ∙ same middle.core act may)
      ∙ goes_batches P same old middle before n
  goes_batches P same old new (Runs middle here die before job) n = job_batches die middle new job n ∙ goes_batches P same old middle before n

  pub goes_claims : (P : Act → Type 0) → ((core : Core) (act : Act) → P act → claims_after core act ≡ core.claims) → (old new : House I)
      → Goes made array dies seat P old new → (n : ℕ) → contains_key new.core.claims n ≡ contains_key old.core.claims n
  goes_claims P same old new Stays n = refl
  goes_claims P same old new (Makes middle here act before may due step images) n =
      ap (λ (c : Claims). contains_key c n) (claims_are middle.core act new.core step.does ∙ same middle.core act may)
      ∙ goes_claims P same old middle before n
  goes_claims P same old new (Runs middle here die before job) n = job_claims die middle new job n ∙ goes_claims P same old middle before n
