-- Dies on which nothing is closed, and which have no window, stay so.
use Rattle.std.proofs.Common.{◌≡◌, ◌≢◌, ℕ, ◌<◌, inl, inr, false, not, ◌&&◌, ◌||◌, nat_eq, List, []}
use Rattle.std.proofs.Common.{set, get_or, None, ap, length, refl, subst, sym, ◌∙◌}
use Rattle.std.proofs.lemmas.Bool.{and_left, cases_eq, false≢true, ne_eqb, or_from}
use Rattle.std.proofs.lemmas.List.{get_or-set_other, get_or-set_same, get_or_default}
use Rattle.std.specs.FinMap.{contains_key, insert, remove}
use Rattle.fa_batch_terms.specs.declared.place.Place.{Place}
use Rattle.fa_closed.specs.Runs.{is_covered}
use Rattle.fa_set.specs.Members.{Numbers}
use Rattle.fa_set.proofs.Changed.{inserted_here, inserted_other, removed_other}
use Rattle.fa_calendar.specs.DieState.{DieState, HasRoom, IsRoomy}
use Rattle.fa_calendar.specs.Dies.{closed_by, no_rounds, state_of, window_by, is_at, is_one, AllHaveRoom, AreIdle, IsCalendar, KeepsDies}
use Rattle.fa_calendar.specs.Windows.{left_window}
use Rattle.fa_calendar.proofs.Sound.{state_new, state_other}
use Rattle.fa_calendar.proofs.Totals.{has_room}

-- a number that is no member once another one came in
pub not_entered : (busy : Numbers) (i die : ℕ) → contains_key (insert busy i tt) die ≡ false → (die ≢ i) × (contains_key busy die ≡ false)
not_entered busy i die off =
    let apart : die ≢ i = λ same. false≢true (sym off ∙ ap (contains_key (insert busy i tt)) same ∙ inserted_here busy i) in
    (apart, sym (inserted_other busy i die apart) ∙ off)

-- a place is at no die but its own
pub elsewhere : (x : Place) (die round : ℕ) → (die ≢ x.die.0) → is_one x die round ≡ false
elsewhere x die round apart =
    and_left (nat_eq x.die.0 die) (nat_eq x.round.0 round) (ne_eqb x.die.0 die (λ same. apart (sym same)))

-- some places are released, and others booked
pub idle_exchanged : (busy more : Numbers) (d e : List DieState) (old new : List Place) → AreIdle busy d
    → ((die : ℕ) → contains_key more die ≡ false → contains_key busy die ≡ false) → KeepsDies d e
    → ((die round : ℕ) → closed_by e die round ≡ ((closed_by d die round && not (is_at old die round)) || is_at new die round))
    → ((die round : ℕ) → contains_key more die ≡ false → is_at new die round ≡ false) → AreIdle more e
idle_exchanged busy more d e old new idle kept keeps same entered = record {
  closed = λ die round off. same die round ∙ or_from (closed_by d die round && not (is_at old die round)) (is_at new die round)
      (and_left (closed_by d die round) (not (is_at old die round)) (idle.closed die round (kept die off)))
      (entered die round off);
  windows = λ die off. keeps.windows die ∙ idle.windows die (kept die off);
}

-- the same rounds are closed
pub idle_same : (busy more : Numbers) (d e : List DieState) → AreIdle busy d
    → ((die : ℕ) → contains_key more die ≡ false → contains_key busy die ≡ false) → KeepsDies d e
    → ((die round : ℕ) → closed_by e die round ≡ closed_by d die round) → AreIdle more e
idle_same busy more d e idle kept keeps same = record {
  closed = λ die round off. same die round ∙ idle.closed die round (kept die off);
  windows = λ die off. keeps.windows die ∙ idle.windows die (kept die off);
}

-- One die is changed.
module _ (busy more : Numbers) (d e : List DieState) (i : ℕ) (idle : AreIdle busy d)
    (others : (die : ℕ) → die ≢ i → state_of e die ≡ state_of d die)
    (kept : (die : ℕ) → die ≢ i → contains_key more die ≡ false → contains_key busy die ≡ false)
    (closed : contains_key more i ≡ false → (round : ℕ) → closed_by e i round ≡ false)
    (window : contains_key more i ≡ false → window_by e i ≡ None) where
  pub idle_changed : AreIdle more e
  idle_changed = record {
    closed = λ die round off. elim (cases_eq die i) [
      | inl on ↦ ap (λ k. closed_by e k round) on ∙ closed (ap (contains_key more) (sym on) ∙ off) round
      | inr apart ↦ ap (λ (s : DieState). is_covered s.spans round) (others die apart) ∙ idle.closed die round (kept die apart off)
    ];
    windows = λ die off. elim (cases_eq die i) [
      | inl on ↦ ap (λ k. window_by e k) on ∙ window (ap (contains_key more) (sym on) ∙ off)
      | inr apart ↦ ap (λ (s : DieState). s.window) (others die apart) ∙ idle.windows die (kept die apart off)
    ];
  }

-- A die may have a window from now on, and is among those that may.
pub idle_entered : (busy more : Numbers) (d : List DieState) (i : ℕ) (v : DieState) → AreIdle busy d → more ≡ insert busy i tt
    → AreIdle more (set d i v)
idle_entered busy more d i v idle grown =
    let off_both : (die : ℕ) → contains_key more die ≡ false → (die ≢ i) × (contains_key busy die ≡ false) =
    λ die off. not_entered busy i die (ap (λ (m : Numbers). contains_key m die) (sym grown) ∙ off) in
    idle_changed busy more d (set d i v) i idle (λ die apart. get_or-set_other d i die v no_rounds apart)
    (λ die apart off. (off_both die off).1)
    (λ off round. absurd ((off_both i off).0 refl))
    (λ off. absurd ((off_both i off).0 refl))

-- One die is cleared.
pub idle_cleared : (busy : Numbers) (current : ℕ) (d : List DieState) → IsCalendar current d → AreIdle busy d → (i : ℕ) (s v : DieState)
    → i < 256 → s ≡ get_or d i s → v.spans ≡ [] → v.window ≡ None → AreIdle busy (set d i v)
idle_cleared busy current d sound idle i s v low at spans window =
    let new = state_new current d sound i s v low at in
    idle_changed busy busy d (set d i v) i idle (state_other current d sound i s v low at) (λ die apart off. off)
    (λ off round. ap (λ (x : DieState). is_covered x.spans round) new ∙ ap (λ x. is_covered x round) spans)
    (λ off. ap (λ (x : DieState). x.window) new ∙ window)

pub state_is : (d : List DieState) (i : ℕ) (s : DieState) → i < length d → s ≡ get_or d i s → state_of d i ≡ s
state_is d i s within at = get_or_default d i no_rounds s within ∙ sym at

-- A round passes at one die.
module _ (d : List DieState) (i : ℕ) (s v : DieState) (round : ℕ) (within : i < length d) (at : s ≡ get_or d i s)
    (opened : (r : ℕ) → is_covered v.spans r ≡ (is_covered s.spans r && not (nat_eq r round)))
    (window : v.window ≡ left_window round s.window) where
  is_new : state_of (set d i v) i ≡ v
  is_new = get_or-set_same d i v no_rounds within

  pub one_opened : (r : ℕ) → closed_by (set d i v) i r ≡ (closed_by d i r && not (nat_eq r round))
  one_opened r =
      ap (λ (x : DieState). is_covered x.spans r) is_new ∙ opened r
      ∙ ap (λ (x : DieState). is_covered x.spans r && not (nat_eq r round)) (sym (state_is d i s within at))

  pub one_window : window_by (set d i v) i ≡ left_window round (window_by d i)
  one_window =
      ap (λ (x : DieState). x.window) is_new ∙ window ∙ ap (λ (x : DieState). left_window round x.window) (sym (state_is d i s within at))

  pub one_roomy : AllHaveRoom d → IsRoomy v → AllHaveRoom (set d i v)
  one_roomy roomy is die =
      elim (cases_eq die i) [
        | inl on ↦ subst HasRoom (sym (ap (λ k. state_of (set d i v) k) on ∙ is_new)) (has_room v is)
        | inr apart ↦ subst HasRoom (sym (get_or-set_other d i die v no_rounds apart)) (roomy die)
      ]

-- A die that was passed is idle still, if it was.
pub still_idle : (busy : Numbers) (d e : List DieState) (i round : ℕ) → AreIdle busy d
    → ((die : ℕ) → die ≢ i → state_of e die ≡ state_of d die)
    → ((r : ℕ) → closed_by e i r ≡ (closed_by d i r && not (nat_eq r round)))
    → window_by e i ≡ left_window round (window_by d i) → AreIdle busy e
still_idle busy d e i round idle others opened window =
    idle_changed busy busy d e i idle others (λ die apart off. off)
    (λ off r. opened r ∙ and_left (closed_by d i r) (not (nat_eq r round)) (idle.closed i r off))
    (λ off. window ∙ ap (left_window round) (idle.windows i off))

-- An idle die is none of the others any more.
pub idle_left : (busy more : Numbers) (d : List DieState) (i : ℕ) (s : DieState) → AreIdle busy d → more ≡ remove busy i
    → state_of d i ≡ s → ((round : ℕ) → is_covered s.spans round ≡ false) → s.window ≡ None → AreIdle more d
idle_left busy more d i s idle less here closed window =
    idle_changed busy more d d i idle (λ die apart. refl)
    (λ die apart off. sym (ap (λ (m : Numbers). contains_key m die) less ∙ removed_other busy i die apart) ∙ off)
    (λ off round. ap (λ (x : DieState). is_covered x.spans round) here ∙ closed round)
    (λ off. ap (λ (x : DieState). x.window) here ∙ window)
