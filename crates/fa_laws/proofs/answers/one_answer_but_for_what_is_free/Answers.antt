use Rattle.fa_batch_terms.specs.Batch.{Entry}
use Rattle.fa_batch_terms.specs.Certificate.{IsCertificate, IsLeast}
use Rattle.fa_batch_terms.specs.declared.place.Place.{Place}
use Rattle.fa_laws.specs.Free.{AreAlike, HasSamePlan, HasSameRounds, is_free_admit, is_free_claim, is_free_copy, is_free_reserve}
use Rattle.fa_laws.specs.Free.{is_free_window}
use Rattle.fa_machine.specs.Copies.{is_lost}
use Rattle.fa_machine.specs.Placement.{free}
use Rattle.fa_machine.specs.Reading.{Admits, Admitted, IsPlanned, Planned, Plans, Replans, is_late, left_of, released, to_read}
use Rattle.fa_machine.specs.Rounds.{is_taken}
use Rattle.fa_types.specs.Windows.{IsFull}
use Rattle.fa_machine.specs.State.{CalendarState, Core, MapState, is_live}
use Rattle.fa_machine.specs.Turning.{ReservesCopy, MayHaveWindow, TakesWindow, reserve_copy_refusal}
use Rattle.fa_machine.specs.Writing.{Claims, Reserves, claimed_page, reserve_refusal}
use Rattle.fa_machine.specs.declared.ids.ClaimId.{ClaimId}
use Rattle.fa_types.specs.declared.kind.Kind.{Kind}
use Rattle.fa_machine.specs.declared.refusals.AdmitRefused.{AdmitRefused}
use Rattle.fa_machine.specs.declared.refusals.AdmitRefused.TheVariants.{CalendarFull, Lost, NoMemory as AdmitNoMemory}
use Rattle.fa_machine.specs.declared.refusals.AdmitRefused.TheVariants.{Spent as AdmitSpent}
use Rattle.fa_machine.specs.declared.refusals.ClaimRefused.{ClaimRefused}
use Rattle.fa_machine.specs.declared.refusals.ClaimRefused.TheVariants.{Claimed, NoMemory as ClaimNoMemory}
use Rattle.fa_machine.specs.declared.refusals.ReserveCopyRefused.{ReserveCopyRefused}
use Rattle.fa_machine.specs.declared.refusals.ReserveCopyRefused.TheVariants.{NoMemory as CopyNoMemory}
use Rattle.fa_machine.specs.declared.refusals.ReserveRefused.{ReserveRefused}
use Rattle.fa_machine.specs.declared.refusals.ReserveRefused.TheVariants.{NoMemory as ReserveNoMemory}
use Rattle.fa_machine.specs.declared.refusals.WindowRefused.{WindowRefused}
use Rattle.fa_machine.specs.declared.refusals.WindowRefused.TheVariants.{Busy as WindowBusy, HasOne, NoMemory as WindowNoMemory}
use Rattle.fa_types.specs.declared.numbers.Page.{Page}
use Rattle.fa_types.specs.declared.numbers.Round.{Round}
use Rattle.fa_types.specs.declared.numbers.Seq.{Seq}
use Rattle.std.proofs.Common.{Bool, List, None, Option, Some, ap, arith, false, inl, inr, refl, subst, sym, true, ℕ, ◌+◌, ◌∙◌, ◌≡◌, ◌⊎◌}
use Rattle.std.proofs.lemmas.Bool.{cases_order, false≢true}
use Rattle.std.proofs.lemmas.Option.{none-some, same_Some}
use Rattle.std.specs.Prelude.{Err, Ok, Result, find, if◌then◌else◌, unwrap_or}
use Rattle.fa_laws.proofs.answers.one_answer_but_for_what_is_free.Goals as goal

abbrev CertificateLaw : Type 0
CertificateLaw = (batch : List Entry) (current : ℕ) (closed : ℕ → ℕ → Bool) (rounds : ℕ) (places : List Place) (pages : List Page)
    → IsCertificate batch current closed rounds places pages → IsLeast batch current closed rounds

same_claims : (old new other : Core) (page : ℕ) (a b : Result ClaimId ClaimRefused) → Claims old page a new → Claims old page b other
    → AreAlike is_free_claim (λ a b. Unit {0}) a b
same_claims old new other page (Ok i) (Ok j) d e = tt
same_claims old new other page (Ok i) (Err Claimed) d e = absurd (false≢true (sym d.0 ∙ e.0))
same_claims old new other page (Ok i) (Err ClaimNoMemory) d e = refl
same_claims old new other page (Err Claimed) (Ok j) d e = absurd (false≢true (sym e.0 ∙ d.0))
same_claims old new other page (Err Claimed) (Err Claimed) d e = inl refl
same_claims old new other page (Err Claimed) (Err ClaimNoMemory) d e = absurd (false≢true (sym e.0 ∙ d.0))
same_claims old new other page (Err ClaimNoMemory) (Ok j) d e = refl
same_claims old new other page (Err ClaimNoMemory) (Err Claimed) d e = absurd (false≢true (sym d.0 ∙ e.0))
same_claims old new other page (Err ClaimNoMemory) (Err ClaimNoMemory) d e = inl refl

-- What answers say where one list of refusals decides: an accepted answer and a free refusal come where none applies, and
-- any other refusal is the one that applies.
abbrev Says : {A R : Type 0} → (R → Bool) → Option R → Result A R → Type 0
Says free o (Ok a) = o ≡ None
Says free o (Err r) = ((free r ≡ true) × (o ≡ None)) ⊎ (o ≡ Some r)

alike : {A R : Type 0} (free : R → Bool) (agree : A → A → Type 0) (o : Option R) (a b : Result A R) → Says free o a → Says free o b
    → ((x y : A) → a ≡ Ok x → b ≡ Ok y → agree x y) → AreAlike free agree a b
alike free agree o (Ok x) (Ok y) d e both = both x y refl refl
alike free agree o (Ok x) (Err s) d (inl memory) both = memory.0
alike free agree o (Ok x) (Err s) d (inr refused) both = absurd (none-some s (sym d ∙ refused))
alike free agree o (Err r) (Ok y) (inl memory) e both = memory.0
alike free agree o (Err r) (Ok y) (inr refused) e both = absurd (none-some r (sym e ∙ refused))
alike free agree o (Err r) (Err s) (inl memory) (inl other) both = inr (memory.0, other.0)
alike free agree o (Err r) (Err s) (inl memory) (inr refused) both = absurd (none-some s (sym memory.1 ∙ refused))
alike free agree o (Err r) (Err s) (inr refused) (inl memory) both = absurd (none-some r (sym memory.1 ∙ refused))
alike free agree o (Err r) (Err s) (inr refused) (inr other) both = inl (same_Some r s (sym refused ∙ other))

-- a refusal where the first that applies is answered, and else the free one
says_refused : {R : Type 0} (free : R → Bool) (o : Option R) (no_memory r : R) → free no_memory ≡ true → r ≡ unwrap_or o no_memory
    → ((free r ≡ true) × (o ≡ None)) ⊎ (o ≡ Some r)
says_refused free None no_memory r is e = inl (ap free e ∙ is, refl)
says_refused free (Some s) no_memory r is e = inr (ap Some (sym e))

reserve_says : (old new : Core) (claim least : ℕ) (kind : Kind) (payload : List ℕ) (a : Result Seq ReserveRefused)
    → Reserves old claim least kind payload a new → Says is_free_reserve (reserve_refusal old (claimed_page old claim) least) a
reserve_says old new claim least kind payload (Ok seq) d = d.0
reserve_says old new claim least kind payload (Err refused) d =
    says_refused is_free_reserve (reserve_refusal old (claimed_page old claim) least) ReserveNoMemory refused refl d.0

given_next : (old new : Core) (claim least : ℕ) (kind : Kind) (payload : List ℕ) (a : Result Seq ReserveRefused) (seq : Seq)
    → Reserves old claim least kind payload a new → a ≡ Ok seq → seq.0 ≡ old.last + 1
given_next old new claim least kind payload a seq d is = (subst (λ b. Reserves old claim least kind payload b new) is d).1

first_window : (old new other : Core) (die count : ℕ) (a b : Result Round WindowRefused) (x y : Round) → TakesWindow old die count a new
    → TakesWindow old die count b other → a ≡ Ok x → b ≡ Ok y → x.0 ≡ y.0
first_window old new other die count a b x y d e is too =
    let f = (subst (λ r. TakesWindow old die count r new) is d).2 in
    let g = (subst (λ r. TakesWindow old die count r other) too e).2 in
    elim (cases_order x.0 y.0) [
      | inl same ↦ same
      | inr apart ↦ elim apart [
        | inl low ↦ absurd (false≢true (sym (g.earliest x.0 f.later low) ∙ f.opens))
        | inr high ↦ absurd (false≢true (sym (f.earliest y.0 g.later high) ∙ g.opens))
      ]
    ]

no_room : (old : Core) (die count : ℕ) → MayHaveWindow old die count
    → (is_live old.page_map die ≡ true → is_late old.calendar ≡ false → IsFull old.calendar.round (is_taken old.calendar die) count) → ⊥
no_room old die count may full =
    let f = full may.live may.early in
    let n = may.room f.0 in
    let m = f.1 in
    absurd (omega (arith, n, m))

same_windows : (old new other : Core) (die count : ℕ) (a b : Result Round WindowRefused) → TakesWindow old die count a new → TakesWindow old die count b other
    → AreAlike is_free_window (λ a b. a.0 ≡ b.0) a b
same_windows old new other die count (Ok x) (Ok y) d e = first_window old new other die count (Ok x) (Ok y) x y d e refl refl
same_windows old new other die count (Ok x) (Err WindowBusy) d e = absurd (no_room old die count d.0 e.0)
same_windows old new other die count (Ok x) (Err HasOne) d e = absurd (false≢true (sym d.1 ∙ e.1))
same_windows old new other die count (Ok x) (Err WindowNoMemory) d e = refl
same_windows old new other die count (Err WindowBusy) (Ok y) d e = absurd (no_room old die count e.0 d.0)
same_windows old new other die count (Err WindowBusy) (Err WindowBusy) d e = inl refl
same_windows old new other die count (Err WindowBusy) (Err HasOne) d e = absurd (no_room old die count e.0 d.0)
same_windows old new other die count (Err WindowBusy) (Err WindowNoMemory) d e = absurd (no_room old die count e.0 d.0)
same_windows old new other die count (Err HasOne) (Ok y) d e = absurd (false≢true (sym e.1 ∙ d.1))
same_windows old new other die count (Err HasOne) (Err WindowBusy) d e = absurd (no_room old die count d.0 e.0)
same_windows old new other die count (Err HasOne) (Err HasOne) d e = inl refl
same_windows old new other die count (Err HasOne) (Err WindowNoMemory) d e = absurd (false≢true (sym e.1 ∙ d.1))
same_windows old new other die count (Err WindowNoMemory) (Ok y) d e = refl
same_windows old new other die count (Err WindowNoMemory) (Err WindowBusy) d e = absurd (no_room old die count d.0 e.0)
same_windows old new other die count (Err WindowNoMemory) (Err HasOne) d e = absurd (false≢true (sym d.1 ∙ e.1))
same_windows old new other die count (Err WindowNoMemory) (Err WindowNoMemory) d e = inl refl

copy_says : (old new : Core) (page seq : ℕ) (payload : List ℕ) (a : Result (Unit {0}) ReserveCopyRefused) → ReservesCopy old page seq payload a new
    → Says is_free_copy (reserve_copy_refusal old page seq) a
copy_says old new page seq payload (Ok made) d = d.0
copy_says old new page seq payload (Err refused) d = says_refused is_free_copy (reserve_copy_refusal old page seq) CopyNoMemory refused refl d.0

-- of a list the first lost page, or too few rounds left
abbrev refusal_of : Option ℕ → Bool → Option AdmitRefused
refusal_of (Some page) late = Some (Lost (record { 0 = page }))
refusal_of None late = if late then Some AdmitSpent else None

plans_say : (m : MapState) (calendar : CalendarState) (asked pages : List ℕ) (a : Result Planned AdmitRefused) → Plans m calendar asked pages a
    → Says is_free_admit (refusal_of (find (is_lost m) asked) (is_late calendar)) a
plans_say m calendar asked pages (Ok planned) d = λ i. refusal_of (d.0 i) (d.1 i)
plans_say m calendar asked pages (Err (Lost page)) d = inr (ap (λ o. refusal_of o (is_late calendar)) d)
plans_say m calendar asked pages (Err CalendarFull) d = inl (refl, λ i. refusal_of (d.0 i) (d.1 i))
plans_say m calendar asked pages (Err AdmitSpent) d = inr (λ i. refusal_of (d.0 i) (d.1 i))
plans_say m calendar asked pages (Err AdmitNoMemory) d = inl (refl, λ i. refusal_of (d.0 i) (d.1 i))

same_rounds : CertificateLaw → (m : MapState) (calendar : CalendarState) (pages : List ℕ) (a b : Planned) → IsPlanned m calendar pages a → IsPlanned m calendar pages b
    → a.rounds ≡ b.rounds
same_rounds law m calendar pages a b f g =
    let least_a = law _ _ _ _ _ _ f.certificate in
    let least_b = law _ _ _ _ _ _ g.certificate in
    let low = least_a.fewest b.places g.certificate.plan in
    let high = least_b.fewest a.places f.certificate.plan in
    let x = f.certificate.length_is in
    let y = g.certificate.length_is in
    omega (arith, low, high, x, y)

both_planned : CertificateLaw → (m : MapState) (calendar : CalendarState) (asked pages : List ℕ) (a b : Result Planned AdmitRefused) (x y : Planned)
    → Plans m calendar asked pages a → Plans m calendar asked pages b → a ≡ Ok x → b ≡ Ok y → x.rounds ≡ y.rounds
both_planned law m calendar asked pages a b x y d e is too =
    same_rounds law m calendar pages x y (subst (Plans m calendar asked pages) is d).2 (subst (Plans m calendar asked pages) too e).2

replan_says : (old new : Core) (batch : ℕ) (a : Result Planned AdmitRefused) → Replans old batch a new
    → Plans old.page_map (released batch old.calendar) (left_of old batch) (left_of old batch) a
replan_says old new batch (Ok planned) d = d.0
replan_says old new batch (Err refused) d = d.0

abbrev plan_of : Result Admitted AdmitRefused → Result Planned AdmitRefused
plan_of (Ok admitted) = Ok admitted.planned
plan_of (Err refused) = Err refused

admit_says : (old new : Core) (pages : List ℕ) (a : Result Admitted AdmitRefused) → Admits old pages a new
    → Plans old.page_map old.calendar pages (to_read old.page_map pages) (plan_of a)
admit_says old new pages (Ok admitted) d = d.0
admit_says old new pages (Err refused) d = d.0

alike_admitted : (a b : Result Admitted AdmitRefused) → AreAlike is_free_admit HasSameRounds (plan_of a) (plan_of b) → AreAlike is_free_admit HasSamePlan a b
alike_admitted (Ok x) (Ok y) h = h
alike_admitted (Ok x) (Err s) h = h
alike_admitted (Err r) (Ok y) h = h
alike_admitted (Err r) (Err s) h = h

alike_planned : CertificateLaw → (m : MapState) (calendar : CalendarState) (asked pages : List ℕ) (a b : Result Planned AdmitRefused)
    → Plans m calendar asked pages a → Plans m calendar asked pages b → AreAlike is_free_admit HasSameRounds a b
alike_planned law m calendar asked pages a b d e =
    alike is_free_admit HasSameRounds (refusal_of (find (is_lost m) asked) (is_late calendar)) a b (plans_say m calendar asked pages a d) (plans_say m calendar asked pages b e)
    (λ x y is too. both_planned law m calendar asked pages a b x y d e is too)

pub returns : goal.returns
returns c =
    let law = c.certificate_is_least.ensures in
    record {
      claim = same_claims;
      reserve = λ old new other claim least kind payload a b d e.
          alike is_free_reserve (λ a b. a.0 ≡ b.0) (reserve_refusal old (claimed_page old claim) least) a b
          (reserve_says old new claim least kind payload a d) (reserve_says old other claim least kind payload b e)
          (λ x y is too. given_next old new claim least kind payload a x d is ∙ sym (given_next old other claim least kind payload b y e too));
      admit = λ old new other pages a b d e. alike_admitted a b
          (alike_planned law old.page_map old.calendar pages (to_read old.page_map pages) (plan_of a) (plan_of b) (admit_says old new pages a d) (admit_says old other pages b e));
      replan = λ old new other batch a b d e.
          alike_planned law old.page_map (released batch old.calendar) (left_of old batch) (left_of old batch) a b (replan_says old new batch a d) (replan_says old other batch b e);
      window = same_windows;
      copy = λ old new other page seq payload a b d e.
          alike is_free_copy (λ a b. Unit {0}) (reserve_copy_refusal old page seq) a b (copy_says old new page seq payload a d) (copy_says old other page seq payload b e)
          (λ x y is too. tt);
    }
