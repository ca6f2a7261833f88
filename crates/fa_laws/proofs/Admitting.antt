-- Admit and EndBatch keep what holds.
use Rattle.fa_laws.proofs.Claiming.{value_other, value_same}
use Rattle.fa_laws.proofs.Invariant.{AreAnswered, AreTold, Holds, later}
use Rattle.fa_machine.proofs.Lists.{among-filter, among-filter_map}
use Rattle.fa_machine.proofs.Maps.{get-insert_cases, get-remove_some, nat_same}
use Rattle.fa_machine.proofs.Values.{any_value, get-insert_all}
use Rattle.fa_laws.proofs.Reserving.{among-append}
use Rattle.fa_machine.specs.Among.{Among}
use Rattle.fa_machine.specs.Maps.{insert_all}
use Rattle.fa_machine.specs.Reading.{at_once, has_data, is_data, is_fresh, names_batch, zeros}
use Rattle.fa_machine.specs.State.{CalendarState, OpenBatch}
use Rattle.fa_machine.specs.World.{Due, Told, Work, World, plain_page, told_at_once, with_batch, with_value, with_value_at}
use Rattle.fa_machine.specs.declared.ids.BatchId.{BatchId}
use Rattle.fa_machine.specs.declared.jobs.Flight.TheVariants.{Read}
use Rattle.fa_machine.specs.declared.places.Booking.{Booking}
use Rattle.fa_types.specs.declared.kind.Kind.{Kind}
use Rattle.fa_types.specs.declared.kind.Kind.TheVariants.{Data, Hole}
use Rattle.fa_machine.specs.declared.places.Version.{Version}
use Rattle.fa_types.specs.declared.numbers.Page.{Page}
use Rattle.fa_types.specs.declared.numbers.Slot.{Slot}
use Rattle.std.proofs.Common.{List, None, Option, Some, [], ap, arith, eq-eqb, false, inl, inr, not, refl, subst, suc, sym, true, ℕ}
use Rattle.std.proofs.Common.{◌++◌, ◌||◌, ◌<◌, ◌∙◌, ◌∷◌, ◌≡◌, ◌≤◌, ◌⊎◌}
use Rattle.std.proofs.lemmas.Bool.{cases_eq, false≢true, ne_eqb, not-true, or_parts, true≢false}
use Rattle.std.proofs.lemmas.Option.{none-some, same_Some}
use Rattle.std.specs.Cmp.{nat_cmp_total}
use Rattle.std.specs.FinMap.{contains_key, empty, get, get-empty, insert, remove, values}
use Rattle.std.specs.List.{list_any}
use Rattle.std.specs.Ordering.{nat_cmp}
use Rattle.std.specs.Prelude.{fold, if◌then◌else◌, option_map, ◌==◌}

-- what is due to the pages that are answered at once, and to the others
value_fold : (batch : ℕ) (due : ℕ → Due) (pages : List ℕ) (values : ℕ → ℕ → Due) (page : ℕ)
    → (fold (λ vs p. with_value_at batch p (due p) vs) values pages batch page ≡ due page)
    ⊎ ((fold (λ vs p. with_value_at batch p (due p) vs) values pages batch page ≡ values batch page) × (Among page pages → ⊥))
value_fold batch due [] values page = inr (refl, λ i. i)
value_fold batch due (p ∷ ps) values page =
    elim (value_fold batch due ps (with_value_at batch p (due p) values) page) [
      | inl is ↦ inl is
      | inr was ↦ elim (cases_eq page p) [
        | inl same ↦ inl (was.0 ∙ ap (with_value_at batch p (due p) values batch) same ∙ value_same batch p (due p) values ∙ ap due (sym same))
        | inr apart ↦ inr (was.0 ∙ value_other batch p (due p) values batch page (λ e f. apart f), λ i. elsewhere i apart was.1)
      ]
    ]
  where
    elsewhere : (p ≡ page) ⊎ Among page ps → (page ≡ p → ⊥) → (Among page ps → ⊥) → ⊥
    elsewhere (inl same) apart none = apart (sym same)
    elsewhere (inr rest) apart none = none rest

value_elsewhere : (batch : ℕ) (due : ℕ → Due) (pages : List ℕ) (values : ℕ → ℕ → Due) (other page : ℕ) → (other ≡ batch → ⊥)
    → fold (λ vs p. with_value_at batch p (due p) vs) values pages other page ≡ values other page
value_elsewhere batch due [] values other page apart = refl
value_elsewhere batch due (p ∷ ps) values other page apart =
    value_elsewhere batch due ps (with_value_at batch p (due p) values) other page apart
    ∙ value_other batch p (due p) values other page (λ e f. apart e)

pub one_value_same : {X : Type 0} (n : ℕ) (x : X) (f : ℕ → X) (m : ℕ) → m ≡ n → with_value n x f m ≡ x
one_value_same n x f m e = ap (λ b. if b then x else f m) (eq-eqb m n e)

pub one_value_other : {X : Type 0} (n : ℕ) (x : X) (f : ℕ → X) (m : ℕ) → (m ≡ n → ⊥) → with_value n x f m ≡ f m
one_value_other n x f m apart = ap (λ b. if b then x else f m) (ne_eqb m n apart)

kind_hole : (k : Kind) → is_data k ≡ false → k ≡ Hole
kind_hole Data e = absurd (true≢false e)
kind_hole Hole e = refl

module _ (w : World) (h : Holds w) (batch : ℕ) (pages : List ℕ) (calendar : CalendarState) (fresh : is_fresh w.core batch ≡ true)
    (inside : (page : ℕ) → Among page pages → page < w.core.page_map.geometry.pages) where
  abbrev opened : OpenBatch
  opened = record { pages = pages; answers = insert_all (at_once w.core.page_map pages) (zeros w.core.page_map) empty }

  abbrev at_once_due : ℕ → Due
  at_once_due page = record { bytes = plain_page w page; since = w.moment }

  abbrev values_then : ℕ → ℕ → Due
  values_then = fold (λ vs p. with_value_at batch p (at_once_due p) vs) w.values (at_once w.core.page_map pages)

  abbrev admitted_then : ℕ → ℕ
  admitted_then = with_value batch w.moment w.admitted

  no_read : (die : ℕ) (work : Work) (b : BatchId) (page : Page) (version : Version) (slot : Slot) → w.works die ≡ Some work
      → work.job.flight ≡ Read b page version slot → b.0 ≡ batch → ⊥
  no_read die work b page version slot e flight same =
      let none = not-true _ fresh in
      let jobs = (or_parts (contains_key w.core.batches batch || list_any (λ (k : Booking). k.batch.0 == batch) (values w.core.calendar.bookings))
      (list_any (names_batch batch) (values w.core.jobs)) none).1 in
      let job : get w.core.jobs die ≡ Some (Read b page version slot) =
      h.jobs die ∙ ap (option_map {T = Work} (λ k. k.job.flight)) e ∙ ap Some flight in
      false≢true (sym jobs ∙ any_value (names_batch batch) w.core.jobs die (Read b page version slot) job (eq-eqb b.0 batch same))

  -- what the plain array has of a page without data is zeros
  plain_zeros : (page : ℕ) (o : Option Version) → get w.core.page_map.versions page ≡ o → page < w.core.page_map.geometry.pages
      → not (has_data o) ≡ true → plain_page w page ≡ zeros w.core.page_map
  plain_zeros page None is low no_data = h.unwritten page low is
  plain_zeros page (Some v) is low no_data =
      let number = h.sound.numbered page v is in
      sym number.right ∙ number.hole (kind_hole v.kind (not-true (is_data v.kind) no_data))

  zeros_due : (page : ℕ) → Among page (at_once w.core.page_map pages) → zeros w.core.page_map ≡ plain_page w page
  zeros_due page among =
      let found = among-filter (λ page. not (has_data (get w.core.page_map.versions page))) page pages among in
      sym (plain_zeros page (get w.core.page_map.versions page) refl (inside page found.0) found.1)

  at_once_answer : (page : ℕ) (bytes : List ℕ) → get opened.answers page ≡ Some bytes
      → (bytes ≡ (values_then batch page).bytes) × (admitted_then batch ≤ (values_then batch page).since)
  at_once_answer page bytes e =
      elim (get-insert_all nat_cmp_total nat_same (at_once w.core.page_map pages) (zeros w.core.page_map) empty page) [
        | inl nothing ↦ absurd (none-some bytes (sym (nothing ∙ get-empty nat_cmp page) ∙ e))
        | inr found ↦ elim (value_fold batch at_once_due (at_once w.core.page_map pages) w.values page) [
          | inr was ↦ absurd (was.1 found.0)
          | inl is ↦ (
            same_Some bytes (zeros w.core.page_map) (sym e ∙ found.1) ∙ zeros_due page found.0 ∙ sym (ap (λ (d : Due). d.bytes) is),
            let a = one_value_same batch w.moment w.admitted batch refl in
                let s = ap (λ (d : Due). d.since) is in omega (arith, a, s),
          )
        ]
      ]

  answered_then : AreAnswered (insert w.core.batches batch opened) admitted_then values_then w.works w.due (suc w.moment)
  answered_then = record {
    since = λ other b e. elim (get-insert_cases w.core.batches batch opened other b e) [
      | inl made ↦ let a = one_value_same batch w.moment w.admitted other made.0 in omega (arith, a)
      | inr was ↦ let a = one_value_other batch w.moment w.admitted other was.1 in let n = h.answered.since other b was.0 in omega (arith, a, n)
    ];
    answers = λ other b page bytes e f. elim (get-insert_cases w.core.batches batch opened other b e) [
      | inl made ↦
          let here = at_once_answer page bytes (ap (λ (k : OpenBatch). get k.answers page) made.1 ∙ f) in
          subst (λ (n : ℕ). (bytes ≡ (values_then n page).bytes) × (admitted_then n ≤ (values_then n page).since)) (sym made.0) here
      | inr was ↦
          let before = h.answered.answers other b page bytes was.0 f in
          let v = value_elsewhere batch at_once_due (at_once w.core.page_map pages) w.values other page was.1 in
          let a = one_value_other batch w.moment w.admitted other was.1 in
          (before.0 ∙ sym (ap (λ (d : Due). d.bytes) v), let s = ap (λ (d : Due). d.since) v in let n = before.1 in omega (arith, a, s, n))
    ];
    reading = λ die work b page version slot o e flight is. elim (get-insert_cases w.core.batches batch opened b.0 o is) [
      | inl made ↦ absurd (no_read die work b page version slot e flight made.0)
      | inr was ↦
          let a = one_value_other batch w.moment w.admitted b.0 was.1 in
          let n = h.answered.reading die work b page version slot o e flight was.0 in omega (arith, a, n)
    ];
  }

  -- a hole's zeros are what was reserved for it
  told_zeros : (page : ℕ) (o : Option Version) (t : Told) → get w.core.page_map.versions page ≡ o → not (has_data o) ≡ true
      → option_map {T = Version} (λ v. record { page = page; seq = v.seq.0; bytes = zeros w.core.page_map }) o ≡ Some t
      → (t.bytes ≡ w.payloads t.page t.seq) × (t.seq ≤ w.core.last)
  told_zeros page None t is no_data e = absurd (none-some t e)
  told_zeros page (Some v) t is no_data e =
      let same = same_Some _ t e in
      let number = h.sound.numbered page v is in
      subst (λ (u : Told). (u.bytes ≡ w.payloads u.page u.seq) × (u.seq ≤ w.core.last)) same
      (sym (number.hole (kind_hole v.kind (not-true (is_data v.kind) no_data))), number.below)

  told_then : AreTold w.payloads w.core.last (w.told ++ told_at_once w.core pages)
  told_then t i =
      elim (among-append t w.told (told_at_once w.core pages) i) [
        | inl before ↦ h.told t before
        | inr new ↦
            let found = among-filter_map (λ page. option_map {T = Version} (λ v. record { page = page; seq = v.seq.0; bytes = zeros w.core.page_map }) (get w.core.page_map.versions page)) t
            (at_once w.core.page_map pages) new in
            told_zeros found.0 (get w.core.page_map.versions found.0) t refl
            (among-filter (λ page. not (has_data (get w.core.page_map.versions page))) found.0 pages found.1).1 found.2
      ]

  pub admit_holds : Holds (record (with_batch batch pages w) {
    core = record (w.core) { calendar = calendar; batches = insert w.core.batches batch opened };
    moment = suc w.moment;
  })
  admit_holds = record {
    sound = h.sound;
    jobs = h.jobs;
    claims = h.claims;
    told = told_then;
    ordered = h.ordered;
    plain = h.plain;
    unwritten = h.unwritten;
    answered = answered_then;
  }

pub end_batch_holds : (w : World) → Holds w → (batch : ℕ) (calendar : CalendarState)
    → Holds (record w { core = record (w.core) { calendar = calendar; batches = remove w.core.batches batch }; moment = suc w.moment })
end_batch_holds w h batch calendar = record {
  sound = h.sound;
  jobs = h.jobs;
  claims = h.claims;
  told = h.told;
  ordered = h.ordered;
  plain = h.plain;
  unwritten = h.unwritten;
  answered = later (remove w.core.batches batch) w.admitted w.values w.works w.due w.moment (record {
    since = λ other b e. h.answered.since other b (get-remove_some w.core.batches batch other b e).0;
    answers = λ other b page bytes e f. h.answered.answers other b page bytes (get-remove_some w.core.batches batch other b e).0 f;
    reading = λ die work b page version slot o e flight is.
        h.answered.reading die work b page version slot o e flight (get-remove_some w.core.batches batch b.0 o is).0;
  });
}
