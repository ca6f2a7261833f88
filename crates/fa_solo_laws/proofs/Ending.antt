-- The one batch that is open is not torn, and what its end leaves.
use Rattle.fa_laws.proofs.InTimes.{event_good}
use Rattle.fa_machine.proofs.Lists.{among-filter}
use Rattle.fa_machine.proofs.Maps.{get-remove_other, get-remove_same}
use Rattle.fa_machine.proofs.Values.{any_value}
use Rattle.fa_machine.specs.Among.{Among}
use Rattle.fa_machine.specs.Reading.{batch_at, is_booked, is_read_for, left_of, results}
use Rattle.fa_machine.specs.State.{Core, MapState, OpenBatch}
use Rattle.fa_machine.specs.Step.{EndBatch, Step}
use Rattle.fa_machine.specs.declared.answers.ReadState.{ReadState}
use Rattle.fa_machine.specs.declared.answers.ReadState.TheVariants.{Ready, Torn, Waiting}
use Rattle.fa_machine.specs.declared.places.Booking.{Booking}
use Rattle.fa_solo_laws.proofs.Changing.{IsFree}
use Rattle.fa_solo_laws.proofs.ClosedRounds.{IsQuiet, still_calm}
use Rattle.fa_solo_laws.proofs.Waiting.{IsPlaced, IsRead}
use Rattle.std.proofs.Common.{Bool, List, None, Option, Some, [], ap, eq-eqb, false, inl, inr, not, refl, subst, sym, true, ℕ, ◌==◌, ◌∙◌}
use Rattle.std.proofs.Common.{◌∷◌}
use Rattle.std.proofs.Common.{◌≡◌, ◌||◌}
use Rattle.std.proofs.lemmas.Bool.{cases_Bool, cases_eq, not_from_false, not_from_true, or_from, or_parts, false≢true}
use Rattle.std.specs.FinMap.{contains_key, empty, get, remove, values}
use Rattle.std.specs.List.{list_all, list_any}
use Rattle.std.specs.Prelude.{if◌then◌else◌, is_some, unwrap_or, ◌&&◌}

pub none_passes : {X : Type 0} (p : X → Bool) (xs : List X) → ((x : X) → Among x xs → p x ≡ false) → list_any p xs ≡ false
none_passes p [] each = refl
none_passes p (x ∷ xs) each = or_from (p x) (list_any p xs) (each x (inl refl)) (none_passes p xs (λ y among. each y (inr among)))

abbrev is_torn : ReadState → Bool
is_torn Torn = true
is_torn Waiting = false
is_torn Ready = false

not_torn : (b : Bool) → is_torn (if b then Ready else Waiting) ≡ false
not_torn true = refl
not_torn false = refl

module _ (m : MapState) (copies batch : ℕ) (in_time : ℕ → Type 0) (core : Core) (read : IsRead m copies batch in_time core) where
  same_batch : batch_at core batch ≡ read.state
  same_batch = ap (λ o. unwrap_or o (record { pages = []; answers = empty })) read.is_state

  booked : (page : ℕ) → IsPlaced m core.calendar.bookings batch page → is_booked core batch page ≡ true
  booked page p =
      any_value (λ (b : Booking). b.batch.0 == batch && b.page.0 == page && not b.started) core.calendar.bookings
      (p.die, p.round) p.booking p.is
      (λ i. all_three (eq-eqb p.booking.batch.0 batch p.of_batch i) (eq-eqb p.booking.page.0 page p.of_page i) (not_from_false _ p.waits i))
    where
      all_three : Bool → Bool → Bool → Bool
      all_three a b c = a && b && c

  pub never_torn : results core batch ≡ Torn → ⊥
  never_torn torn =
      let left : list_any (λ page. not (is_booked core batch page)) (left_of core batch) ≡ false =
      none_passes (λ page. not (is_booked core batch page)) (left_of core batch)
      (λ page among.
      let parts = among-filter (λ p. not (contains_key (batch_at core batch).answers p || list_any (is_read_for batch p)
      (values core.jobs))) page
      (batch_at core batch).pages among in
      let among_state : Among page read.state.pages = subst (λ (s : OpenBatch). Among page s.pages) same_batch parts.0 in
      let open_page = (or_parts (contains_key (batch_at core batch).answers page) _ (not_true _ parts.1)).0 in
      let unanswered : contains_key read.state.answers page ≡ false =
      sym (ap (λ (s : OpenBatch). contains_key s.answers page) same_batch) ∙ open_page in
      not_from_true _ (booked page (read.covers page among_state unanswered))) in
      let whole = or_from (not (contains_key core.batches batch)) _ (not_from_true _ (ap is_some read.is_state)) left in
      let is : results core batch ≡ (if answered_all then Ready else Waiting) =
      ap (λ b. if b then Torn else (if answered_all then Ready else Waiting)) whole in
      false≢true (sym (not_torn answered_all) ∙ sym (ap is_torn is) ∙ ap is_torn torn)
    where
      answered_all : Bool
      answered_all = list_all (λ page. contains_key (batch_at core batch).answers page) (batch_at core batch).pages

      not_true : (b : Bool) → not b ≡ true → b ≡ false
      not_true false e = refl
      not_true true e = absurd (false≢true e)

none_there : {X : Type 0} (o : Option X) → is_some o ≡ false → o ≡ None
none_there None e = refl
none_there (Some x) e = absurd (false≢true (sym e))

-- The batch is ended: no batch is open.
pub end_read : (m : MapState) (copies batch : ℕ) (in_time : ℕ → Type 0) (old new : Core) (answers : List (ℕ × List ℕ))
    → IsRead m copies batch in_time old
    → Step old (EndBatch batch answers) new → IsQuiet m copies new × (new.calendar.round ≡ old.calendar.round)
end_read m copies batch in_time old new answers read ends =
    let e = ends.does.1 in (
      record {
        map = ap (λ (c : Core). c.page_map) e ∙ read.map;
        copies_are = ap (λ (c : Core). c.copies) e ∙ read.copies_are;
        good = event_good (λ d r b. Unit {0}) old (EndBatch batch answers) new ends.allows ends.does
            (record { timely = read.good.timely; all = λ d r b is. tt }) tt;
        free = subst (λ (c : Core). IsFree c) (sym e) read.free;
        calm = still_calm old new (ap (λ (c : Core). c.page_map) e)
            (λ die has. sym (ap (λ (c : Core). contains_key c.calendar.windows die) e) ∙ has) read.calm;
        closed = λ n. ap (λ (c : Core). get c.batches n) e ∙ gone n;
      },
      ap (λ (c : Core). c.calendar.round) e,
    )
  where
    gone : (n : ℕ) → get (remove old.batches batch) n ≡ None
    gone n =
        elim (cases_eq n batch) [
          | inl same ↦ ap (get (remove old.batches batch)) same ∙ get-remove_same old.batches batch
          | inr apart ↦ get-remove_other old.batches batch n apart ∙ elim (cases_Bool (contains_key old.batches n)) [
            | inl has ↦ absurd (apart (read.only n has))
            | inr none ↦ none_there (get old.batches n) none
          ]
        ]
