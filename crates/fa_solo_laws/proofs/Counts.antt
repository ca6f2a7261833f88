-- How often an image has refused a call, and how often it has synced, behind the calls of a job.
use Rattle.fa_image.specs.Counted.{call_counted}
use Rattle.fa_image.specs.Image.{Done, Gave as GaveBytes, ImageAnswer, ImageCall, ImageMeets, ImageState}
use Rattle.fa_image.specs.Image.{Refused as RefusedBy, Syncing, faults_after, one_more, syncs_after}
use Rattle.fa_machine.specs.Cells.{Broken, Cell, DidErase, DidMove, DidProgram, DidRead, DidSync, DidWriteHeader, Empty, Fault, Outcome}
use Rattle.fa_machine.specs.Cells.{Sealed, Wrong}
use Rattle.fa_machine.specs.Cells.{moved_payload}
use Rattle.fa_machine.specs.Taking.{Handed}
use Rattle.fa_machine.specs.World.{Accepted, ErasesBlock, Gave, GaveCell, JobCall, ProgramsSlot, ReadsSlot, Refused, Syncs, WritesHeader}
use Rattle.fa_machine.specs.World.{call_behind, first_call, outcome_of, second_call}
use Rattle.fa_machine.specs.declared.jobs.Flight.{Flight}
use Rattle.fa_machine.specs.declared.jobs.Flight.TheVariants.{Erase, Header, Move, Program, Read, Sync}
use Rattle.fa_types.specs.declared.geometry.Geometry.{Geometry}
use Rattle.fa_jobs.specs.Made.{IsGivenBy, IsMadeBy, MakesCall, MakesCalls, Ran}
use Rattle.std.proofs.Common.{Bool, List, None, Option, Some, [], ap, arith, cond, false, inl, inr, is_some, option_map, refl, sym, suc}
use Rattle.std.proofs.Common.{true, zero, ℕ}
use Rattle.std.proofs.Common.{◌+◌, ◌-◌, ◌<◌, ◌%◌, ◌^◌, ◌∙◌, ◌∷◌, ◌≡◌}
use Rattle.std.proofs.lemmas.Bool.{cases_eq}
use Rattle.std.proofs.Math.Nat.{mod-add-mod, mod-eq_of_lt, mod-lt}
use Rattle.std.proofs.lemmas.Option.{none-some, same_Some}
use Rattle.std.specs.Prelude.{if◌then◌else◌, ◌==◌}

-- the count after this many more
abbrev pub more : ℕ → ℕ → ℕ
more zero n = n
more (suc k) n = one_more (more k n)

pub more_both : (a b n : ℕ) → more (a + b) n ≡ more b (more a n)
more_both a zero n = let none : a + 0 ≡ a = omega arith in ap (λ k. more k n) none
more_both a (suc b) n =
    let next : a + suc b ≡ suc (a + b) = omega arith in
    ap (λ k. more k n) next ∙ ap one_more (more_both a b n)

-- as a sum, where there is one more at least
pub more_sum : (k n : ℕ) → more (suc k) n ≡ (n + suc k) % 2 ^ 64
more_sum zero n = ap (λ m. m % 2 ^ 64) (omega arith)
more_sum (suc k) n =
    ap one_more (more_sum k n) ∙ mod-add-mod (n + suc k) (2 ^ 64) 1 ∙ ap (λ m. m % 2 ^ 64) (omega arith)

-- one more is another number
pub one_more_other : (n : ℕ) → one_more n ≡ n → ⊥
one_more_other n same =
    let below : (n + 1) % 2 ^ 64 < 2 ^ 64 = mod-lt (n + 1) (omega arith) in
    elim (cases_eq n (2 ^ 64 - 1)) [
      | inl last ↦
          let zeroed : one_more n ≡ 0 = ap one_more last in
          omega (arith, same, zeroed, last)
      | inr other ↦
          let within : n + 1 < 2 ^ 64 = omega (arith, same, below, other) in
          let stays : (n + 1) % 2 ^ 64 ≡ n + 1 = mod-eq_of_lt within in
          omega (arith, same, stays)
    ]

-- how many calls a job had refused that ended so
abbrev pub faults_by : Outcome → ℕ
faults_by (Fault call) = 1
faults_by outcome = 0

-- how many of its syncs were accepted: a flush's, the one before an erase, which may itself be refused, and the one behind a lasting program
abbrev pub syncs_by : Bool → Outcome → ℕ
syncs_by lasting DidSync = 1
syncs_by lasting DidErase = 1
syncs_by lasting DidProgram = if lasting then 1 else 0
syncs_by lasting (Fault call) = if call == 3 then 1 else 0
syncs_by lasting outcome = 0

-- the same of one call
abbrev refusals : Gave → ℕ
refusals Refused = 1
refusals gave = 0

abbrev syncings : Gave → JobCall → ℕ
syncings Accepted Syncs = 1
syncings gave call = 0

abbrev IsNoSync : JobCall → Type 0
IsNoSync Syncs = ⊥
IsNoSync call = Unit {0}

none_synced : (gave : Gave) (call : JobCall) → IsNoSync call → syncings gave call ≡ 0
none_synced Accepted Syncs is = absurd is
none_synced Accepted call is = refl
none_synced Refused call is = refl
none_synced (GaveCell cell) call is = refl

faults_given : (gave : Gave) (answer : ImageAnswer) (n : ℕ) → IsGivenBy gave answer → faults_after answer n ≡ more (refusals gave) n
faults_given (GaveCell cell) (GaveBytes bytes) n given = refl
faults_given Accepted Done n given = refl
faults_given Refused (RefusedBy fault) n given = refl
faults_given gave answer n given = absurd given

syncs_given : (gave : Gave) (answer : ImageAnswer) (n : ℕ) → IsGivenBy gave answer
    → syncs_after Syncing answer n ≡ more (syncings gave Syncs) n
syncs_given (GaveCell cell) (GaveBytes bytes) n given = refl
syncs_given Accepted Done n given = refl
syncs_given Refused (RefusedBy fault) n given = refl
syncs_given gave answer n given = absurd given

module _ (geometry : Geometry) (array : List ℕ) (die : ℕ) where
  syncs_called : (call : JobCall) (made : ImageCall) (gave : Gave) (answer : ImageAnswer) (n : ℕ) → IsMadeBy geometry array die call made
      → IsGivenBy gave answer → syncs_after made answer n ≡ more (syncings gave call) n
  syncs_called (ReadsSlot slot) made gave answer n is given =
      ap (λ c. syncs_after c answer n) is ∙ ap (λ k. more k n) (sym (none_synced gave (ReadsSlot slot) tt))
  syncs_called (ProgramsSlot slot (Sealed page version d s payload)) made gave answer n is given =
      ap (λ c. syncs_after c answer n) is
      ∙ ap (λ k. more k n) (sym (none_synced gave (ProgramsSlot slot (Sealed page version d s payload)) tt))
  syncs_called (ProgramsSlot slot Empty) made gave answer n is given = absurd is
  syncs_called (ProgramsSlot slot Broken) made gave answer n is given = absurd is
  syncs_called (ErasesBlock block) made gave answer n is given =
      ap (λ c. syncs_after c answer n) is ∙ ap (λ k. more k n) (sym (none_synced gave (ErasesBlock block) tt))
  syncs_called (WritesHeader epoch live) made gave answer n is given =
      ap (λ c. syncs_after c answer n) is ∙ ap (λ k. more k n) (sym (none_synced gave (WritesHeader epoch live) tt))
  syncs_called Syncs made gave answer n is given = ap (λ c. syncs_after c answer n) is ∙ syncs_given gave answer n given

-- how a job that made one call ends by what that gave
one_ends : (die : ℕ) (flight : Flight) (payload : List ℕ) (lasting : Bool) (gave : Gave) (outcome : Outcome)
    → outcome_of die (record { flight = flight; payload = payload; lasting = lasting }) (gave ∷ []) ≡ Some outcome
    → (faults_by outcome ≡ refusals gave) × (syncs_by lasting outcome ≡ syncings gave (first_call die flight payload))
one_ends die (Header epoch live) payload lasting Refused outcome ends =
    let is = sym (same_Some (Fault 5) outcome ends) in (ap faults_by is, ap (syncs_by lasting) is)
one_ends die (Move page version from to) payload lasting Refused outcome ends =
    let is = sym (same_Some (Fault 1) outcome ends) in (ap faults_by is, ap (syncs_by lasting) is)
one_ends die (Erase block) payload lasting Refused outcome ends =
    let is = sym (same_Some (Fault 6) outcome ends) in (ap faults_by is, ap (syncs_by lasting) is)
one_ends die (Read batch page version slot) payload lasting Refused outcome ends =
    let is = sym (same_Some (Fault 1) outcome ends) in (ap faults_by is, ap (syncs_by lasting) is)
one_ends die (Program page version slot) payload lasting Refused outcome ends =
    let is = sym (same_Some (Fault 2) outcome ends) in (ap faults_by is, ap (syncs_by lasting) is)
one_ends die (Sync flushes) payload lasting Refused outcome ends =
    let is = sym (same_Some (Fault 6) outcome ends) in (ap faults_by is, ap (syncs_by lasting) is)
one_ends die (Header epoch live) payload lasting (GaveCell cell) outcome ends = absurd (none-some outcome ends)
one_ends die (Move page version from to) payload lasting (GaveCell cell) outcome ends =
    by_some (is_some (moved_payload page.0 version die from.0 cell)) ends
  where
    by_some : (b : Bool) → cond b None (Some Wrong) ≡ Some outcome → (faults_by outcome ≡ 0) × (syncs_by lasting outcome ≡ 0)
    by_some true e = absurd (none-some outcome e)
    by_some false e = let is = sym (same_Some Wrong outcome e) in (ap faults_by is, ap (syncs_by lasting) is)
one_ends die (Erase block) payload lasting (GaveCell cell) outcome ends = absurd (none-some outcome ends)
one_ends die (Read batch page version slot) payload lasting (GaveCell cell) outcome ends =
    let is = sym (same_Some (DidRead cell) outcome ends) in (ap faults_by is, ap (syncs_by lasting) is)
one_ends die (Program page version slot) payload lasting (GaveCell cell) outcome ends = absurd (none-some outcome ends)
one_ends die (Sync flushes) payload lasting (GaveCell cell) outcome ends = absurd (none-some outcome ends)
one_ends die (Header epoch live) payload lasting Accepted outcome ends =
    let is = sym (same_Some DidWriteHeader outcome ends) in (ap faults_by is, ap (syncs_by lasting) is)
one_ends die (Move page version from to) payload lasting Accepted outcome ends = absurd (none-some outcome ends)
one_ends die (Erase block) payload lasting Accepted outcome ends = absurd (none-some outcome ends)
one_ends die (Read batch page version slot) payload lasting Accepted outcome ends = absurd (none-some outcome ends)
one_ends die (Program page version slot) payload true Accepted outcome ends = absurd (none-some outcome ends)
one_ends die (Program page version slot) payload false Accepted outcome ends =
    let is = sym (same_Some DidProgram outcome ends) in (ap faults_by is, ap (syncs_by false) is)
one_ends die (Sync flushes) payload lasting Accepted outcome ends =
    let is = sym (same_Some DidSync outcome ends) in (ap faults_by is, ap (syncs_by lasting) is)

-- how a job ends by the call behind an accepted first one
behind_ends : (die : ℕ) (flight : Flight) (payload : List ℕ) (lasting : Bool) (call : JobCall) (gave : Gave) (outcome : Outcome)
    → call_behind flight lasting ≡ Some call
    → outcome_of die (record { flight = flight; payload = payload; lasting = lasting }) (Accepted ∷ gave ∷ []) ≡ Some outcome
    → (faults_by outcome ≡ refusals gave)
    × (syncs_by lasting outcome ≡ syncings Accepted (first_call die flight payload) + syncings gave call)
behind_ends die (Erase block) payload lasting call Accepted outcome behind ends =
    let is = sym (same_Some DidErase outcome ends) in
    (ap faults_by is, ap (syncs_by lasting) is ∙ ap (λ c. 1 + syncings Accepted c) (same_Some (ErasesBlock block.0) call behind))
behind_ends die (Erase block) payload lasting call Refused outcome behind ends =
    let is = sym (same_Some (Fault 3) outcome ends) in
    (ap faults_by is, ap (syncs_by lasting) is ∙ ap (λ c. 1 + syncings Refused c) (same_Some (ErasesBlock block.0) call behind))
behind_ends die (Erase block) payload lasting call (GaveCell cell) outcome behind ends = absurd (none-some outcome ends)
behind_ends die (Program page version slot) payload true call Accepted outcome behind ends =
    let is = sym (same_Some DidProgram outcome ends) in
    (ap faults_by is, ap (syncs_by true) is ∙ ap (λ c. 0 + syncings Accepted c) (same_Some Syncs call behind))
behind_ends die (Program page version slot) payload true call Refused outcome behind ends =
    let is = sym (same_Some (Fault 6) outcome ends) in
    (ap faults_by is, ap (syncs_by true) is ∙ ap (λ c. 0 + syncings Refused c) (same_Some Syncs call behind))
behind_ends die (Program page version slot) payload true call (GaveCell cell) outcome behind ends = absurd (none-some outcome ends)
behind_ends die (Program page version slot) payload false call gave outcome behind ends = absurd (none-some call behind)
behind_ends die (Header epoch live) payload lasting call gave outcome behind ends = absurd (none-some call behind)
behind_ends die (Move page version from to) payload lasting call gave outcome behind ends = absurd (none-some call behind)
behind_ends die (Read batch page version slot) payload lasting call gave outcome behind ends = absurd (none-some call behind)
behind_ends die (Sync flushes) payload lasting call gave outcome behind ends = absurd (none-some call behind)

-- the second call of a move is no sync
second_syncs_not : (die : ℕ) (flight : Flight) (cell : Cell) (call : JobCall) (gave : Gave) → second_call die flight cell ≡ Some call
    → syncings gave call ≡ 0
second_syncs_not die (Header epoch live) cell call gave is = absurd (none-some call is)
second_syncs_not die (Erase block) cell call gave is = absurd (none-some call is)
second_syncs_not die (Read batch page version slot) cell call gave is = absurd (none-some call is)
second_syncs_not die (Program page version slot) cell call gave is = absurd (none-some call is)
second_syncs_not die (Sync flushes) cell call gave is = absurd (none-some call is)
second_syncs_not die (Move page version from to) cell call gave is = by_moved (moved_payload page.0 version die from.0 cell) is
  where
    by_moved : (o : Option (List ℕ)) → option_map (λ payload. ProgramsSlot to.0 (Sealed page.0 version die to.0 payload)) o ≡ Some call
        → syncings gave call ≡ 0
    by_moved None e = absurd (none-some call e)
    by_moved (Some payload) e = ap (syncings gave) (sym (same_Some _ call e)) ∙ none_synced gave _ tt

-- the counts of an image behind these refusals and these syncs more
pub record Counts {I : Type 0} (view : I → ImageState) (faults syncs : ℕ) (before after : I) : Type 0 where
  pub faults_are : (view after).faults ≡ more faults (view before).faults
  pub syncs_are : (view after).syncs ≡ more syncs (view before).syncs

module _ {I : Type 0} (view : I → ImageState) (honest : I → Bool) (made : I → ImageCall → ImageAnswer → I → Type 0)
    (meets : (before after : I) (call : ImageCall) (answer : ImageAnswer) → made before call answer after
    → ImageMeets (view before) (honest before) call answer (view after) (honest after)) (geometry : Geometry) (array : List ℕ)
    (die : ℕ) where
  one_counts : (call : JobCall) (gave : Gave) (before after : I) → MakesCall made geometry array die call gave before after
      → Counts view (refusals gave) (syncings gave call) before after
  one_counts call gave before after c =
      let is = call_counted (view before) (view after) (honest before) (honest after) c.image_call c.answer
      (meets before after c.image_call c.answer c.link) in
      record {
        faults_are = is.faults ∙ faults_given gave c.answer (view before).faults c.given;
        syncs_are = is.syncs ∙ syncs_called geometry array die call c.image_call gave c.answer (view before).syncs c.is_it c.given;
      }

  -- a job ends with a fault where one of its calls was refused, and no other call was
  calls_count : (job : Handed) (outcome : Outcome) (gave : List Gave) (before after : I)
      → MakesCalls made geometry array die job [] gave before after → outcome_of die job gave ≡ Some outcome
      → Counts view (faults_by outcome) (syncs_by job.lasting outcome) before after
  calls_count job outcome [] before after same ends = absurd (none-some outcome ends)
  calls_count job outcome (gave ∷ []) before after calls ends =
      let by = one_ends die job.flight job.payload job.lasting gave outcome ends in
      let one = one_counts calls.0 gave before calls.2 calls.3 in
      let call : first_call die job.flight job.payload ≡ calls.0 = same_Some _ calls.0 calls.1 in
      record {
        faults_are = ap (λ i. (view i).faults) (sym calls.4) ∙ one.faults_are ∙ ap (λ k. more k (view before).faults) (sym by.0);
        syncs_are = ap (λ i. (view i).syncs) (sym calls.4) ∙ one.syncs_are
            ∙ ap (λ k. more k (view before).syncs) (ap (syncings gave) (sym call) ∙ sym by.1);
      }
  calls_count job outcome (GaveCell cell ∷ gave ∷ []) before after calls ends =
      let first = one_counts calls.0 (GaveCell cell) before calls.2 calls.3 in
      let rest = calls.4 in
      let second = one_counts rest.0 gave calls.2 rest.2 rest.3 in
      let by = two_end gave ends in
      record {
        faults_are = ap (λ i. (view i).faults) (sym rest.4) ∙ second.faults_are ∙ ap (more (refusals gave)) first.faults_are
            ∙ ap (λ k. more k (view before).faults) (sym by.0);
        syncs_are = ap (λ i. (view i).syncs) (sym rest.4) ∙ second.syncs_are
            ∙ ap (λ k. more k (view calls.2).syncs) (second_syncs_not die job.flight cell rest.0 gave rest.1) ∙ first.syncs_are
            ∙ ap (λ k. more k (view before).syncs) (sym by.1);
      }
    where
      two_end : (gave : Gave) → outcome_of die job (GaveCell cell ∷ gave ∷ []) ≡ Some outcome
          → (faults_by outcome ≡ refusals gave) × (syncs_by job.lasting outcome ≡ 0)
      two_end (GaveCell other) e = absurd (none-some outcome e)
      two_end Accepted e = let is = sym (same_Some DidMove outcome e) in (ap faults_by is, ap (syncs_by job.lasting) is)
      two_end Refused e = let is = sym (same_Some (Fault 2) outcome e) in (ap faults_by is, ap (syncs_by job.lasting) is)
  calls_count job outcome (GaveCell cell ∷ gave ∷ next ∷ rest) before after calls ends = absurd (none-some _ calls.4.4.1)
  calls_count job outcome (Accepted ∷ gave ∷ []) before after calls ends =
      let first = one_counts calls.0 Accepted before calls.2 calls.3 in
      let rest = calls.4 in
      let second = one_counts rest.0 gave calls.2 rest.2 rest.3 in
      let by = behind_ends die job.flight job.payload job.lasting rest.0 gave outcome rest.1 ends in
      let call : first_call die job.flight job.payload ≡ calls.0 = same_Some _ calls.0 calls.1 in
      record {
        faults_are = ap (λ i. (view i).faults) (sym rest.4) ∙ second.faults_are ∙ ap (more (refusals gave)) first.faults_are
            ∙ ap (λ k. more k (view before).faults) (sym by.0);
        syncs_are = ap (λ i. (view i).syncs) (sym rest.4) ∙ second.syncs_are ∙ ap (more (syncings gave rest.0)) first.syncs_are
            ∙ sym (more_both (syncings Accepted calls.0) (syncings gave rest.0) (view before).syncs)
            ∙ ap (λ c. more (syncings Accepted c + syncings gave rest.0) (view before).syncs) (sym call)
            ∙ ap (λ k. more k (view before).syncs) (sym by.1);
      }
  calls_count job outcome (Accepted ∷ gave ∷ next ∷ rest) before after calls ends = absurd (none-some _ calls.4.4.1)
  calls_count job outcome (Refused ∷ next ∷ rest) before after calls ends = absurd (none-some _ calls.4.1)

  pub ran_counts : (job : Handed) (outcome : Outcome) (before after : I) → Ran made geometry array die job outcome before after
      → Counts view (faults_by outcome) (syncs_by job.lasting outcome) before after
  ran_counts job outcome before after ran = calls_count job outcome ran.gave before after ran.calls ran.ends
