-- Each event keeps what holds of headers.
use Rattle.fa_crash.proofs.Backward.{EndsProgram, trusted_back}
use Rattle.fa_crash.proofs.Epochs.{Came, Dropped, IsStill, Still, StepsEpoch, Wrote, event_epoch, is_header, take_handed, take_still}
use Rattle.fa_crash.proofs.EventKept.{holds_after, images_same, job_at, outcome_at, seen_same, sound_after}
use Rattle.fa_crash.proofs.EventWorks.{then_works}
use Rattle.fa_crash.proofs.HeadersFit.{HeadersFit, IsAround, IsAtOther, IsHead, IsNamed}
use Rattle.fa_crash.proofs.Kept.{IsKept}
use Rattle.fa_crash.proofs.Laws.{Laws}
use Rattle.fa_crash.proofs.Masks.{mask_names}
use Rattle.fa_crash.proofs.Taken.{IsTaken, taken_gave}
use Rattle.fa_crash.proofs.Trusted.{IsMarked, Trusted}
use Rattle.fa_crash.specs.Flushed.{is_of_array}
use Rattle.fa_crash.specs.Headers.{names}
use Rattle.fa_crash.specs.Unsynced.{Unsynced}
use Rattle.fa_laws.proofs.Endings.{HasOutcome}
use Rattle.fa_machine.proofs.Maps.{get-insert_other, get-remove_other, get-remove_some, has_some}
use Rattle.fa_machine.specs.Cells.{DidProgram, DidWriteHeader}
use Rattle.fa_machine.specs.Maps.{Numbers, below}
use Rattle.fa_machine.specs.Run.{HappensEvent}
use Rattle.fa_machine.specs.State.{Core, is_live}
use Rattle.fa_machine.specs.Step.{Act, Done, Step, Take}
use Rattle.fa_machine.specs.Taking.{mask_of}
use Rattle.fa_machine.specs.World.{Accepted, DieImage, Gave, GaveCell, HeaderTells, IsTold, Refused, Work, World, outcome_of}
use Rattle.fa_machine.specs.Cells.{Outcome}
use Rattle.fa_machine.specs.declared.jobs.Flight.{Flight}
use Rattle.fa_machine.specs.declared.jobs.Flight.TheVariants.{Header, Program}
use Rattle.std.proofs.Common.{Bool, List, None, Option, Some, [], ap, arith, false, inl, inr, refl, subst, sym, true, ℕ, ◌∙◌, ◌∷◌, ◌≡◌, ◌≤◌, ◌⊎◌, ◌+◌, ◌^◌}
use Rattle.std.proofs.lemmas.Bool.{cases_eq, false≢true, true≢false}
use Rattle.std.proofs.lemmas.Option.{none-some}
use Rattle.std.proofs.Common.{filter}
use Rattle.std.specs.FinMap.{contains_key, get, insert, remove}
use Rattle.std.specs.List.{fold}
use Rattle.std.specs.Prelude.{is_some, option_map, ◌||◌}

abbrev did_write : Option Outcome → Bool
did_write (Some DidWriteHeader) = true
did_write o = false

-- a header that ended as written was accepted
header_gave : (die epoch live : ℕ) (payload : List ℕ) (lasting : Bool) (gave : List Gave)
    → outcome_of die (record { flight = Header epoch live; payload = payload; lasting = lasting }) gave ≡ Some DidWriteHeader
    → gave ≡ Accepted ∷ []
header_gave die epoch live payload lasting (Accepted ∷ []) e = refl
header_gave die epoch live payload lasting (Accepted ∷ Accepted ∷ []) e = absurd (none-some DidWriteHeader e)
header_gave die epoch live payload lasting (Accepted ∷ Refused ∷ []) e = absurd (none-some DidWriteHeader e)
header_gave die epoch live payload lasting (Refused ∷ []) e = absurd (false≢true (ap did_write e))
header_gave die epoch live payload lasting (GaveCell cell ∷ []) e = absurd (none-some DidWriteHeader e)
header_gave die epoch live payload lasting (GaveCell cell ∷ Accepted ∷ []) e = absurd (false≢true (ap did_write e))
header_gave die epoch live payload lasting (GaveCell cell ∷ Refused ∷ []) e = absurd (false≢true (ap did_write e))
header_gave die epoch live payload lasting gave e = absurd (none-some DidWriteHeader e)

told_of : (a b c d : ℕ) → Header a b ≡ Header c d → a ≡ c
told_of a b c d e = cc

mask_in : (a b c d : ℕ) → Header a b ≡ Header c d → b ≡ d
mask_in a b c d e = cc

header_not : (flight : Flight) (a b : ℕ) → flight ≡ Header a b → is_header flight ≡ false → ⊥
header_not flight a b e plain = false≢true (sym plain ∙ ap is_header e)

or_right : (a b : Bool) → b ≡ true → (a || b) ≡ true
or_right true b e = refl
or_right false b e = e

none_given : (xs : List Gave) (x : Gave) (ys : List Gave) → xs ≡ [] → xs ≡ x ∷ ys → ⊥
none_given xs x ys e f = cc

module _ (laws : Laws) (first w : World) (u : Unsynced) (k : IsKept w u) (f : HeadersFit first w u) (act : Act) (after : World) (h : HappensEvent w act after) where
  abbrev old : Core
  old = w.core

  abbrev new : Core
  new = after.core

  head_was : (die : ℕ) (x : Option HeaderTells) → IsHead after u die x → IsHead w u die x
  head_was die x (inl e) = inl (e ∙ ap (λ (i : ℕ → DieImage). (i die).header) (images_same laws w u k act after h))
  head_was die x (inr among) = inr among

  head_then : (die : ℕ) → IsNamed w u die → IsNamed after u die
  head_then die n x e = n x (head_was die x e)

  -- a header that is handed out now: of this epoch, and it names the live dies
  pub record IsNew (t : HeaderTells) : Type 0 where
    pub of_now : t.epoch ≡ old.epoch
    pub names_live : t.live ≡ mask_of old.page_map
    pub still : IsStill old new

  new_header : (a : Act) → Step old a new → (die : ℕ) (work : Work) (t : HeaderTells) → IsTaken a die work
      → work.job.flight ≡ Header t.epoch t.live → IsNew t
  new_header (Take d seat (Some job)) step die work t taken flight =
      let is : job.flight ≡ Header t.epoch t.live = ap (λ (x : Work). x.job.flight) taken.1 ∙ flight in
      elim (take_handed old d seat (Some job) new step.does) [
        | inl header ↦ record {
          of_now = told_of t.epoch t.live old.epoch (mask_of old.page_map) (sym is ∙ header.1);
          names_live = mask_in t.epoch t.live old.epoch (mask_of old.page_map) (sym is ∙ header.1);
          still = take_still old d seat (Some job) new step.does;
        }
        | inr plain ↦ absurd (header_not job.flight t.epoch t.live is plain.1)
      ]
  new_header a step die work t taken flight = absurd taken

  around_was : (t : HeaderTells) → IsAround after u t → IsAround w u t ⊎ IsNew t
  around_was t (inl head) = inl (inl (head.0, head_was head.0 (Some t) head.1))
  around_was t (inr writing) =
      elim (then_works laws w u k act after h writing.die writing.work writing.is) [
        | inl before ↦ inl (inr (record { die = writing.die; work = writing.work; is = before.0; flight = writing.flight }))
        | inr taken ↦ inr (new_header act h.step writing.die writing.work t taken writing.flight)
      ]

  names_old : (die : ℕ) → names (mask_of old.page_map) die ≡ is_live old.page_map die
  names_old die = mask_names old.page_map k.sound.dies.live_inside die

  new_names : (t : HeaderTells) → IsNew t → (die : ℕ) → names t.live die ≡ is_live old.page_map die
  new_names t n die = ap (λ m. names m die) n.names_live ∙ names_old die

  epoch_step : StepsEpoch old act new
  epoch_step = event_epoch old act new h.step.does

  live_at : (live : Numbers) → new.page_map.live ≡ live → (die : ℕ) → is_live new.page_map die ≡ contains_key live die
  live_at live e die = ap (λ (m : Numbers). contains_key m die) e

  -- a die that is live now was live, or is a spare that comes in
  pub data WasLive (die : ℕ) : Type 0 where
    Lived : is_live old.page_map die ≡ true → WasLive die
    Spare : contains_key old.spares die ≡ true → WasLive die

  was_live : (die : ℕ) → is_live new.page_map die ≡ true → WasLive die
  was_live die alive = at epoch_step
    where
      removed : (d : ℕ) → contains_key (remove old.page_map.live d) die ≡ true → is_live old.page_map die ≡ true
      removed d e = let some = has_some (get (remove old.page_map.live d) die) e in ap is_some (get-remove_some old.page_map.live d die some.0 some.1).0

      came : (d : ℕ) → contains_key old.spares d ≡ true → contains_key (insert old.page_map.live d tt) die ≡ true
          → (die ≡ d) ⊎ (die ≡ d → ⊥) → WasLive die
      came d spare e (inl same) = Spare (ap (contains_key old.spares) same ∙ spare)
      came d spare e (inr apart) = Lived (sym (ap is_some (get-insert_other old.page_map.live d tt die apart)) ∙ e)

      at : StepsEpoch old act new → WasLive die
      at (Still e l s b) = Lived (sym (live_at old.page_map.live l die) ∙ alive)
      at (Wrote d t m is job e l s b) = Lived (sym (live_at old.page_map.live l die) ∙ alive)
      at (Dropped d e l s b) = Lived (removed d (sym (live_at (remove old.page_map.live d) l die) ∙ alive))
      at (Came d spare e l s b) = came d spare (sym (live_at (insert old.page_map.live d tt) l die) ∙ alive) (cases_eq die d)

  spare_was : (die : ℕ) → contains_key new.spares die ≡ true → contains_key old.spares die ≡ true
  spare_was die spare = at epoch_step
    where
      at_same : new.spares ≡ old.spares → contains_key old.spares die ≡ true
      at_same s = sym (ap (λ (m : Numbers). contains_key m die) s) ∙ spare

      at : StepsEpoch old act new → contains_key old.spares die ≡ true
      at (Still e l s b) = at_same s
      at (Wrote d t m is job e l s b) = at_same s
      at (Dropped d e l s b) = at_same s
      at (Came d was e l s b) =
          let f : contains_key (remove old.spares d) die ≡ true = sym (ap (λ (m : Numbers). contains_key m die) s) ∙ spare in
          let some = has_some (get (remove old.spares d) die) f in ap is_some (get-remove_some old.spares d die some.0 some.1).0

  epoch_grows : old.epoch ≤ new.epoch
  epoch_grows = at epoch_step
    where
      at : StepsEpoch old act new → old.epoch ≤ new.epoch
      at (Still e l s b) = omega (arith, e)
      at (Wrote d t m is job e l s b) = omega (arith, e)
      at (Dropped d e l s b) = omega (arith, e)
      at (Came d was e l s b) = omega (arith, e)

  below_then : (t : HeaderTells) → IsAround after u t → t.epoch ≤ new.epoch
  below_then t around =
      elim (around_was t around) [
        | inl before ↦ let a = f.below t before in let b = epoch_grows in omega (arith, a, b)
        | inr n ↦ let a = n.of_now in let b = epoch_grows in omega (arith, a, b)
      ]

  from_then : (t : HeaderTells) → IsAround after u t → first.core.epoch ≤ t.epoch
  from_then t around =
      elim (around_was t around) [
        | inl before ↦ f.from t before
        | inr n ↦ let a = n.of_now in let b = f.grown in omega (arith, a, b)
      ]

  mask_same : new.page_map.live ≡ old.page_map.live → mask_of new.page_map ≡ mask_of old.page_map
  mask_same l =
      let g = laws.geometry old new act h.step in
      λ i. fold (λ mask die. mask + 2 ^ die) 0 (filter (λ die. contains_key (l i) die) (below (g i).dies))

  now_then : (t : HeaderTells) → IsAround after u t → t.epoch ≡ new.epoch → t.live ≡ mask_of new.page_map
  now_then t around is =
      elim (around_was t around) [
        | inr n ↦ n.names_live ∙ sym (mask_same n.still.1)
        | inl before ↦ at before epoch_step
      ]
    where
      at : IsAround w u t → StepsEpoch old act new → t.live ≡ mask_of new.page_map
      at before (Still e l s b) = f.now t before (is ∙ e) ∙ sym (mask_same l)
      at before (Wrote d x m act_is job e l s b) = f.now t before (is ∙ e) ∙ sym (mask_same l)
      at before (Dropped d e l s b) = let low = f.below t before in absurd (omega (arith, low, is, e))
      at before (Came d was e l s b) = let low = f.below t before in absurd (omega (arith, low, is, e))

  alike_then : (t l : HeaderTells) → IsAround after u t → IsAround after u l → t.epoch ≡ l.epoch → t.live ≡ l.live
  alike_then t l at_t at_l same =
      elim (around_was t at_t) [
        | inl was ↦ elim (around_was l at_l) [
          | inl before ↦ f.alike t l was before same
          | inr n ↦ f.now t was (same ∙ n.of_now) ∙ sym n.names_live
        ]
        | inr n ↦ elim (around_was l at_l) [
          | inl before ↦ n.names_live ∙ sym (f.now l before (sym same ∙ n.of_now))
          | inr m ↦ n.names_live ∙ sym m.names_live
        ]
      ]

  -- what a header that is new names are the live dies
  new_live : (t : HeaderTells) → IsNew t → (die : ℕ) → is_live new.page_map die ≡ true → names t.live die ≡ true
  new_live t n die alive = new_names t n die ∙ sym (live_at old.page_map.live n.still.1 die) ∙ alive

  kept_then : (t : HeaderTells) → IsAround after u t → (die : ℕ) → is_live new.page_map die ≡ true
      → is_live first.core.page_map die ≡ true → names t.live die ≡ true
  kept_then t around die alive ours =
      elim (around_was t around) [
        | inr n ↦ new_live t n die alive
        | inl before ↦ at before (was_live die alive)
      ]
    where
      at : IsAround w u t → WasLive die → names t.live die ≡ true
      at before (Lived was) = f.kept t before die was ours
      at before (Spare spare) = absurd (false≢true (sym (f.spares die spare) ∙ ours))

  unused_then : (t : HeaderTells) → IsAround after u t → (die : ℕ) → contains_key new.spares die ≡ true → names t.live die ≡ false
  unused_then t around die spare =
      elim (around_was t around) [
        | inl before ↦ f.unused t before die (spare_was die spare)
        | inr n ↦ new_names t n die ∙ k.sound.dies.apart die (spare_was die spare)
      ]

  -- a header that is new names dies that are live
  named_live : (t : HeaderTells) → IsNew t → (die : ℕ) → names t.live die ≡ true → is_live old.page_map die ≡ true
  named_live t n die named = sym (new_names t n die) ∙ named

  there_then : (die : ℕ) → is_live new.page_map die ≡ true → is_of_array first die ≡ true
  there_then die alive = at (was_live die alive)
    where
      at : WasLive die → is_of_array first die ≡ true
      at (Lived was) = f.there die was
      at (Spare spare) = or_right (is_live first.core.page_map die) (contains_key first.core.spares die) (f.unused_yet die spare)

  ours_then : (t : HeaderTells) → IsAround after u t → (die : ℕ) → names t.live die ≡ true → is_of_array first die ≡ true
  ours_then t around die named =
      elim (around_was t around) [
        | inl before ↦ f.ours t before die named
        | inr n ↦ f.there die (named_live t n die named)
      ]

  rising_then : (t l : HeaderTells) → IsAround after u t → IsAround after u l → t.epoch ≤ l.epoch → (die : ℕ)
      → is_live new.page_map die ≡ true → names t.live die ≡ true
      → names l.live die ≡ true
  rising_then t l at_t at_l less die alive named =
      elim (around_was l at_l) [
        | inr n ↦ new_live l n die alive
        | inl before ↦ elim (around_was t at_t) [
          | inl was ↦ at was before (was_live die alive)
          | inr n ↦
              let low = f.below l before in
              let is = n.of_now in
              let same : l.epoch ≡ old.epoch = omega (arith, low, is, less) in
              ap (λ m. names m die) (f.now l before same) ∙ names_old die ∙ sym (live_at old.page_map.live n.still.1 die) ∙ alive
        ]
      ]
    where
      at : IsAround w u t → IsAround w u l → WasLive die → names l.live die ≡ true
      at was before (Lived lived) = f.rising t l was before less die lived named
      at was before (Spare spare) = absurd (false≢true (sym (f.unused t was die spare) ∙ named))

  -- a header that was there, of an epoch that is not below that of a new one, has its mask
  old_mask : (t l : HeaderTells) → IsNew t → IsAround w u l → t.epoch ≤ l.epoch → l.live ≡ t.live
  old_mask t l n before less =
      let low = f.below l before in
      let is = n.of_now in
      let same : l.epoch ≡ old.epoch = omega (arith, low, is, less) in
      f.now l before same ∙ sym n.names_live

  -- of two headers of which one is new, the later one is of this epoch
  later_mask : (l t : HeaderTells) → IsAround after u l → IsAround after u t → IsNew l → l.epoch ≤ t.epoch → t.live ≡ l.live
  later_mask l t at_l at_t n less =
      elim (around_was t at_t) [
        | inl before ↦ old_mask l t n before less
        | inr m ↦ m.names_live ∙ sym n.names_live
      ]

  between_then : (a l t : HeaderTells) → IsAround after u a → IsAround after u l → IsAround after u t → a.epoch ≤ l.epoch
      → l.epoch ≤ t.epoch → (die : ℕ)
      → names a.live die ≡ true → names t.live die ≡ true → names l.live die ≡ true
  between_then a l t at_a at_l at_t less more die first_named last_named =
      elim (around_was l at_l) [
        | inr n ↦ ap (λ m. names m die) (sym (later_mask l t at_l at_t n more)) ∙ last_named
        | inl before ↦ elim (around_was a at_a) [
          | inr n ↦ ap (λ m. names m die) (old_mask a l n before less) ∙ first_named
          | inl was ↦ elim (around_was t at_t) [
            | inl top ↦ f.between a l t was before top less more die first_named last_named
            | inr n ↦ f.rising a l was before less die (named_live t n die last_named) first_named
          ]
        ]
      ]

  until_then : (l t : HeaderTells) → IsAround after u l → IsAround after u t → l.epoch ≤ t.epoch → (die : ℕ)
      → is_live first.core.page_map die ≡ true
      → names t.live die ≡ true → names l.live die ≡ true
  until_then l t at_l at_t less die ours named =
      elim (around_was l at_l) [
        | inr n ↦ ap (λ m. names m die) (sym (later_mask l t at_l at_t n less)) ∙ named
        | inl before ↦ elim (around_was t at_t) [
          | inl top ↦ f.until l t before top less die ours named
          | inr n ↦ f.kept l before die (named_live t n die named) ours
        ]
      ]

  writing_then : (die epoch live : ℕ) (work : Work) → after.works die ≡ Some work → work.job.flight ≡ Header epoch live
      → names live die ≡ true
  writing_then die epoch live work e flight =
      elim (then_works laws w u k act after h die work e) [
        | inl before ↦ f.writing die epoch live work before.0 flight
        | inr taken ↦
            let n = new_header act h.step die work (record { epoch = epoch; live = live }) taken flight in
            let job = (holds_after laws w u k act after h).jobs die ∙ ap (option_map {T = Work} (λ k. k.job.flight)) e in
            new_live (record { epoch = epoch; live = live }) n die (((sound_after laws w u k act after h).jobs die work.job.flight job).on_live)
      ]

  written_then : (die epoch live : ℕ) (work : Work) → after.works die ≡ Some work → work.job.flight ≡ Header epoch live
      → work.gave ≡ Accepted ∷ [] → IsNamed after u die
  written_then die epoch live work e flight gave =
      elim (then_works laws w u k act after h die work e) [
        | inl before ↦ head_then die (f.written die epoch live work before.0 flight gave)
        | inr taken ↦ absurd (none_given work.gave Accepted [] (taken_gave act die work taken) gave)
      ]

  -- the header of a die that ends as written
  wrote_named : (a : Act) → IsTold w a → (die told mask : ℕ) → a ≡ Done die DidWriteHeader → get old.jobs die ≡ Some (Header told mask)
      → IsNamed w u die
  wrote_named a told die epoch live is job =
      let found = job_at laws w u k act after h die (Header epoch live) job in
      let here : HasOutcome die (w.works die) DidWriteHeader = subst (IsTold w) is told in
      let path : found.0.job ≡ record { flight = Header epoch live; payload = found.0.job.payload; lasting = found.0.job.lasting } =
      λ i. record { flight = found.2 i; payload = found.0.job.payload; lasting = found.0.job.lasting } in
      let gave = header_gave die epoch live found.0.job.payload found.0.job.lasting found.0.gave
      (sym (ap (λ j. outcome_of die j found.0.gave) path) ∙ outcome_at laws w u k act after h die found.0 DidWriteHeader found.1 here) in
      f.written die epoch live found.0 found.1 found.2 gave

  fresh_then : (die : ℕ) → is_live new.page_map die ≡ true → contains_key new.behind die ≡ false → IsNamed after u die
  fresh_then die alive fresh = head_then die (at epoch_step)
    where
      behind_live : new.behind ≡ new.page_map.live → IsNamed w u die
      behind_live b = absurd (true≢false (sym (ap (λ (m : Numbers). contains_key m die) b ∙ alive) ∙ fresh))

      wrote : (d told mask : ℕ) → act ≡ Done d DidWriteHeader → get old.jobs d ≡ Some (Header told mask)
          → new.page_map.live ≡ old.page_map.live → new.behind ≡ remove old.behind d
          → (die ≡ d) ⊎ (die ≡ d → ⊥) → IsNamed w u die
      wrote d told mask is job l b (inl same) = subst (IsNamed w u) (sym same) (wrote_named act h.told d told mask is job)
      wrote d told mask is job l b (inr apart) = f.fresh die (sym (live_at old.page_map.live l die) ∙ alive)
          (sym (ap is_some (get-remove_other old.behind d die apart)) ∙ sym (ap (λ (m : Numbers). contains_key m die) b) ∙ fresh)

      at : StepsEpoch old act new → IsNamed w u die
      at (Still e l s b) = f.fresh die (sym (live_at old.page_map.live l die) ∙ alive) (sym (ap (λ (m : Numbers). contains_key m die) b) ∙ fresh)
      at (Wrote d told mask is job e l s b) = wrote d told mask is job l b (cases_eq die d)
      at (Dropped d e l s b) = behind_live b
      at (Came d was e l s b) = behind_live b

  taken_named : (a : Act) → Step old a new → (die : ℕ) (work : Work) → IsTaken a die work → is_header work.job.flight ≡ false
      → is_live new.page_map die ≡ true → IsNamed w u die
  taken_named (Take d seat (Some job)) step die work taken plain alive =
      elim (take_handed old d seat (Some job) new step.does) [
        | inl header ↦ absurd (header_not job.flight old.epoch (mask_of old.page_map) header.1 (ap (λ (x : Work). is_header x.job.flight) taken.1 ∙ plain))
        | inr other ↦
            let l = (take_still old d seat (Some job) new step.does).1 in
            f.fresh die (sym (live_at old.page_map.live l die) ∙ alive) (ap (contains_key old.behind) (sym taken.0) ∙ other.0)
      ]
  taken_named a step die work taken plain alive = absurd taken

  busy_then : (die : ℕ) → IsAtOther after die → IsNamed after u die
  busy_then die o =
      head_then die (elim (then_works laws w u k act after h die o.work o.is) [
        | inl before ↦ f.busy die (record { work = o.work; is = before.0; plain = o.plain })
        | inr taken ↦
            let job = (holds_after laws w u k act after h).jobs die ∙ ap (option_map {T = Work} (λ k. k.job.flight)) o.is in
            taken_named act h.step die o.work taken o.plain (((sound_after laws w u k act after h).jobs die o.work.job.flight job).on_live)
      ])

  program_named : (a : Act) (die page : ℕ) → (e : EndsProgram old act die page) → IsMarked old a e.target → IsNamed w u die
  program_named (Done d DidProgram) die page e m =
      let found = job_at laws w u k act after h d (Program m.0 m.1 m.2) m.3 in
      subst (IsNamed w u) (sym m.4 ∙ e.on_die) (f.busy d (record { work = found.0; is = found.1; plain = ap is_header found.2 }))
  program_named a die page e m = absurd m

  trusted_then : (die page : ℕ) → is_live first.core.page_map die ≡ false → Trusted new die page → IsNamed after u die
  trusted_then die page out trusted =
      head_then die (elim (trusted_back laws.live laws.numbers laws.raises old new act h.step k.sound die page trusted) [
        | inl before ↦ f.trusted die page out before
        | inr ends ↦ program_named act die page ends ends.marked
      ])

  pub event_headers : HeadersFit first after u
  event_headers = record {
    grown = let a = f.grown in let b = epoch_grows in omega (arith, a, b);
    from = from_then;
    below = below_then;
    now = now_then;
    alike = alike_then;
    kept = kept_then;
    unused = unused_then;
    spares = λ die spare. f.spares die (spare_was die spare);
    there = there_then;
    unused_yet = λ die spare. f.unused_yet die (spare_was die spare);
    ours = ours_then;
    rising = rising_then;
    between = between_then;
    until = until_then;
    own = λ die t head. f.own die t (head_was die (Some t) head);
    writing = writing_then;
    written = written_then;
    fresh = fresh_then;
    busy = busy_then;
    trusted = trusted_then;
    unchanged = λ die none slot. let same = f.unchanged die (head_was die None none) slot in (seen_same laws w u k act after h die slot ∙ same.0, same.1);
  }
