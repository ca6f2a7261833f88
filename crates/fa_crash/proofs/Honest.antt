-- Each cell that a slot has, or had since the last sync, has the bytes that were reserved for its number, or is older than the beginning.
use Rattle.fa_crash.proofs.Standing.{number_is, number_none}
use Rattle.fa_crash.proofs.Taken.{followed_images}
use Rattle.fa_crash.specs.Flushed.{AreOfLast, is_of_array, slots_of}
use Rattle.fa_crash.specs.Unsynced.{Unsynced, behind_call, made_durable, nothing_unsynced, number_of, written_to}
use Rattle.fa_crash.specs.Whole.{IsWholeCall}
use Rattle.fa_laws.proofs.Admitting.{one_value_same}
use Rattle.fa_laws.proofs.Claiming.{value_other}
use Rattle.fa_laws.proofs.ImageCalls.{with_cell_other, with_cell_same}
use Rattle.fa_machine.specs.Among.{Among}
use Rattle.fa_machine.specs.Beginning.{IsBeginning, IsPlainOf}
use Rattle.fa_machine.specs.Cells.{Broken, Cell, DidRead, Empty, Outcome, Sealed, payload_of}
use Rattle.fa_machine.specs.Collecting.{is_in_block}
use Rattle.fa_machine.specs.Run.{HappensEvent}
use Rattle.fa_machine.specs.State.{Core}
use Rattle.fa_machine.specs.Step.{Act, Admit, Commit, Does, Done, Reserve, ReserveFewer, ReserveHole, Step, Take}
use Rattle.fa_machine.specs.World.{Accepted, Calls, DieImage, ErasesBlock, Gave, GaveCell, JobCall, ProgramsSlot, ReadsSlot, Refused, Syncs, World}
use Rattle.fa_machine.specs.World.{WritesHeader, followed, with_due, with_end, with_told}
use Rattle.fa_machine.specs.declared.jobs.Flight.{Flight}
use Rattle.fa_machine.specs.declared.jobs.Flight.TheVariants.{Read}
use Rattle.fa_machine.specs.declared.places.Version.{Version}
use Rattle.std.proofs.Common.{Bool, List, None, Option, Some, [], ap, arith, false, inl, inr, refl, subst, sym, true, ℕ, ◌<◌, ◌∙◌, ◌∷◌, ◌≡◌, ◌≤◌, ◌⊎◌}
use Rattle.std.proofs.lemmas.Bool.{cases_Bool, cases_eq, cases_lt}
use Rattle.std.specs.FinMap.{get}
use Rattle.std.specs.Prelude.{Ok, if◌then◌else◌, ◌==◌}

abbrev pub LastLaw : Type 0
LastLaw = (old new : Core) (act : Act) → Step old act new → old.last ≤ new.last

-- a cell that the slot has, or had since its image's last sync
abbrev pub IsHad : World → Unsynced → ℕ → ℕ → Cell → Type 0
IsHad w u die slot cell = (cell ≡ (w.images die).seen slot) ⊎ Among cell (u.since die slot)

-- a write whose number was given, with the bytes that were reserved for it, or one that was written before the beginning and is older
pub record IsHonest (first w : World) (page : ℕ) (version : Version) (payload : List ℕ) : Type 0 where
  pub below : version.seq.0 ≤ w.core.last
  pub bytes : (version.seq.0 < number_of first.core page) ⊎ (payload ≡ w.payloads page version.seq.0)

abbrev pub AreHonest : World → World → Unsynced → Type 0
AreHonest first w u = (page die slot : ℕ) (version : Version) (payload : List ℕ) → page < first.core.page_map.geometry.pages → slot < slots_of first.core
    → is_of_array first die ≡ true → IsHad w u die slot (Sealed page version die slot payload) → IsHonest first w page version payload

first_below : (first : World) → IsBeginning first → (page : ℕ) → page < first.core.page_map.geometry.pages
    → number_of first.core page ≤ first.core.last
first_below first b page low = at (get first.core.page_map.versions page) refl
  where
    at : (o : Option Version) → get first.core.page_map.versions page ≡ o → number_of first.core page ≤ first.core.last
    at None e = let n = number_none first.core page e in omega (arith, n)
    at (Some v) e =
        let n = number_is first.core page v e in
        let p = subst (IsPlainOf first page) e (b.plain page low) in
        let most = p.3 in omega (arith, n, most)

pub first_honest : (first : World) → IsBeginning first → AreOfLast first → AreHonest first first (nothing_unsynced first)
first_honest first b cells page die slot version payload low inside ours (inr among) = absurd among
first_honest first b cells page die slot version payload low inside ours (inl stands) =
    let c = cells page die slot version payload low inside ours (sym stands) in
    let most = first_below first b page low in
    let old = c.0 in
    record {
      below = omega (arith, most, old);
      bytes = elim (cases_lt version.seq.0 (number_of first.core page)) [
        | inl less ↦ inl less
        | inr more ↦ inr (c.1 (omega (arith, more, old)))
      ];
    }

due_payloads : (die : ℕ) (flight : Flight) (w : World) → (with_due die flight w).payloads ≡ w.payloads
due_payloads die (Read batch page version slot) w = refl
due_payloads die flight w = refl

told_payloads : (die batch page seq : ℕ) (o : Option (List ℕ)) (w : World) → (with_told die batch page seq o w).payloads ≡ w.payloads
told_payloads die batch page seq None w = refl
told_payloads die batch page seq (Some bytes) w = refl

end_payloads : (die : ℕ) (flight : Option Flight) (outcome : Outcome) (w : World) → (with_end die flight outcome w).payloads ≡ w.payloads
end_payloads die None outcome w = refl
end_payloads die (Some (Read batch page version slot)) (DidRead cell) w = told_payloads die batch.0 page.0 version.seq.0 (payload_of page.0 version die slot.0 cell) w
end_payloads die (Some flight) outcome w = refl

-- what was reserved for a number that was given stays
followed_payloads : (act : Act) (w : World) (new : Core) → Does w.core act new → (page n : ℕ) → n ≤ w.core.last
    → (followed act w).payloads page n ≡ w.payloads page n
followed_payloads (Reserve claim payload (Ok seq)) w new d page n low =
    let is = d.1 in value_other _ seq.0 payload w.payloads page n (λ e f. absurd (omega (arith, low, f, is)))
followed_payloads (ReserveHole claim (Ok seq)) w new d page n low =
    let is = d.1 in value_other _ seq.0 _ w.payloads page n (λ e f. absurd (omega (arith, low, f, is)))
followed_payloads (ReserveFewer claim payload (Ok seq)) w new d page n low =
    let is = d.1 in value_other _ seq.0 payload w.payloads page n (λ e f. absurd (omega (arith, low, f, is)))
followed_payloads (Commit claim seat (Ok seq)) w new d page n low = refl
followed_payloads (Admit pages (Ok admitted)) w new d page n low = refl
followed_payloads (Take die seat (Some job)) w new d page n low = ap (λ (f : ℕ → ℕ → List ℕ). f page n) (due_payloads die job.flight w)
followed_payloads (Done die outcome) w new d page n low = ap (λ (f : ℕ → ℕ → List ℕ). f page n) (end_payloads die (get w.core.jobs die) outcome w)
followed_payloads act w new d page n low = refl

-- honest cells stay so where numbers are given and what was reserved stays
honest_then : (first w after : World) (page : ℕ) (version : Version) (payload : List ℕ) → w.core.last ≤ after.core.last
    → after.payloads page version.seq.0 ≡ w.payloads page version.seq.0 → IsHonest first w page version payload
    → IsHonest first after page version payload
honest_then first w after page version payload rises same h =
    let low = h.below in
    record {
      below = omega (arith, low, rises);
      bytes = elim h.bytes [
        | inl old ↦ inl old
        | inr is ↦ inr (is ∙ sym same)
      ];
    }

module _ (last_law : LastLaw) (first w : World) (u : Unsynced) (honest : AreHonest first w u) where
  pub event_honest : (act : Act) (after : World) → HappensEvent w act after → AreHonest first after u
  event_honest act after h page die slot version payload low inside ours had =
      let was = honest page die slot version payload low inside ours (elim had [
        | inl stands ↦ inl (stands ∙ ap (λ (i : ℕ → DieImage). (i die).seen slot) (ap (λ (v : World). v.images) h.follows ∙ followed_images act w))
        | inr among ↦ inr among
      ]) in
      honest_then first w after page version payload (last_law w.core after.core act h.step)
      (ap (λ (v : World). v.payloads page version.seq.0) h.follows ∙ followed_payloads act w after.core h.step.does page version.seq.0 was.below) was

-- what a call asks to be programmed
abbrev pub IsAsked : JobCall → ℕ → Cell → Type 0
IsAsked (ProgramsSlot to cell) slot other = (to ≡ slot) × (cell ≡ other)
IsAsked call slot cell = ⊥

module _ (w : World) (u : Unsynced) (die : ℕ) (image : DieImage) where
  -- a sealed cell that stands there behind a call stood there before, or was asked for
  pub stood : (call : JobCall) (gave : Gave) → Calls (is_in_block w.core.page_map) call gave (w.images die) image
      → IsWholeCall (is_in_block w.core.page_map) (Some call) gave (w.images die) image
      → (slot page : ℕ) (version : Version) (d s : ℕ) (payload : List ℕ)
      → image.seen slot ≡ Sealed page version d s payload
      → ((w.images die).seen slot ≡ Sealed page version d s payload) ⊎ IsAsked call slot (Sealed page version d s payload)
  stood (ReadsSlot from) (GaveCell cell) c whole slot page version d s payload e = inl (sym (ap (λ (i : DieImage). i.seen slot) c.1) ∙ e)
  stood (ReadsSlot from) Refused c whole slot page version d s payload e = inl (sym (ap (λ (i : DieImage). i.seen slot) c) ∙ e)
  stood (ReadsSlot from) Accepted c whole slot page version d s payload e = absurd c
  stood (WritesHeader epoch live) Accepted c whole slot page version d s payload e = inl (sym (ap (λ (i : DieImage). i.seen slot) c) ∙ e)
  stood (WritesHeader epoch live) Refused c whole slot page version d s payload e = inl (sym (ap (λ (i : DieImage). i.seen slot) c.1) ∙ e)
  stood (WritesHeader epoch live) (GaveCell cell) c whole slot page version d s payload e = absurd c
  stood Syncs Accepted c whole slot page version d s payload e = inl (sym (ap (λ (i : DieImage). i.seen slot) c) ∙ e)
  stood Syncs Refused c whole slot page version d s payload e = inl (sym (ap (λ (i : DieImage). i.seen slot) c) ∙ e)
  stood Syncs (GaveCell cell) c whole slot page version d s payload e = absurd c
  stood (ProgramsSlot to asked) (GaveCell cell) c whole slot page version d s payload e = absurd c
  stood (ProgramsSlot to asked) Accepted c whole slot page version d s payload e =
      elim (cases_eq slot to) [
        | inr apart ↦ inl (sym (with_cell_other to slot asked (w.images die) apart) ∙ sym (ap (λ (i : DieImage). i.seen slot) c) ∙ e)
        | inl same ↦ inr (sym same, sym (with_cell_same to asked (w.images die)) ∙ sym (ap (λ (i : DieImage). i.seen to) c) ∙ ap image.seen (sym same) ∙ e)
      ]
  stood (ProgramsSlot to asked) Refused c whole slot page version d s payload e =
      elim (cases_eq slot to) [
        | inr apart ↦ inl (sym (with_cell_other to slot c.0 (w.images die) apart) ∙ sym (ap (λ (i : DieImage). i.seen slot) c.1) ∙ e)
        | inl same ↦ elim whole [
          | inl before ↦ inl (ap ((w.images die).seen) same ∙ sym before ∙ ap image.seen (sym same) ∙ e)
          | inr (inl new) ↦ inr (sym same, sym new ∙ ap image.seen (sym same) ∙ e)
          | inr (inr broken) ↦ absurd (broken_not page version d s payload (image.seen to) broken (ap image.seen (sym same) ∙ e))
        ]
      ]
    where
      broken_not : (page : ℕ) (version : Version) (d s : ℕ) (payload : List ℕ) (cell : Cell) → cell ≡ Broken
          → cell ≡ Sealed page version d s payload → ⊥
      broken_not page version d s payload cell e f = cc
  stood (ErasesBlock block) (GaveCell cell) c whole slot page version d s payload e = absurd c
  stood (ErasesBlock block) Accepted c whole slot page version d s payload e =
      elim (cases_Bool (is_in_block w.core.page_map block slot)) [
        | inr out ↦ inl (sym (ap (λ (i : DieImage). i.seen slot) c ∙ ap {B = Cell} (λ b. if b then Empty else (w.images die).seen slot) out) ∙ e)
        | inl here ↦ absurd (empty_not (image.seen slot) (ap (λ (i : DieImage). i.seen slot) c ∙ ap {B = Cell} (λ b. if b then Empty else (w.images die).seen slot) here) e)
      ]
    where
      empty_not : (cell : Cell) → cell ≡ Empty → cell ≡ Sealed page version d s payload → ⊥
      empty_not cell e f = cc
  stood (ErasesBlock block) Refused c whole slot page version d s payload e =
      elim (cases_Bool (is_in_block w.core.page_map block slot)) [
        | inr out ↦ inl (sym (ap (λ (i : DieImage). i.seen slot) c.1 ∙ ap {B = Cell} (λ b. if b then c.0 slot else (w.images die).seen slot) out) ∙ e)
        | inl here ↦ elim (whole slot here) [
          | inl before ↦ inl (sym before ∙ e)
          | inr (inl empty) ↦ absurd (empty_not (image.seen slot) empty e)
          | inr (inr broken) ↦ absurd (broken_not (image.seen slot) broken e)
        ]
      ]
    where
      empty_not : (cell : Cell) → cell ≡ Empty → cell ≡ Sealed page version d s payload → ⊥
      empty_not cell e f = cc

      broken_not : (cell : Cell) → cell ≡ Broken → cell ≡ Sealed page version d s payload → ⊥
      broken_not cell e f = cc

  -- a cell that a slot had since the last sync is one that it had before the call
  written_had : (names : ℕ → Bool) (slot : ℕ) (cell : Cell) → Among cell ((written_to w die names u).since die slot)
      → IsHad w u die slot cell
  written_had names slot cell among = at (names slot)
      (subst (Among cell) (ap (λ (f : ℕ → List Cell). f slot)
      (one_value_same die (λ s. if names s then (w.images die).seen s ∷ u.since die s else u.since die s) u.since die refl)) among)
    where
      at : (b : Bool) → Among cell (if b then (w.images die).seen slot ∷ u.since die slot else u.since die slot) → IsHad w u die slot cell
      at true (inl same) = inl (sym same)
      at true (inr rest) = inr rest
      at false rest = inr rest

  durable_had : (slot : ℕ) (cell : Cell) → Among cell ((made_durable w die u).since die slot) → IsHad w u die slot cell
  durable_had slot cell among = absurd (subst (Among cell) (ap (λ (f : ℕ → List Cell). f slot) (one_value_same die (λ s. []) u.since die refl)) among)

  pub had_since : (call : JobCall) (gave : Gave) (slot : ℕ) (cell : Cell) → Among cell ((behind_call w die call gave u).since die slot)
      → IsHad w u die slot cell
  had_since (ProgramsSlot to asked) gave slot cell among = written_had (λ s. s == to) slot cell among
  had_since (ErasesBlock block) gave slot cell among = written_had (is_in_block w.core.page_map block) slot cell among
  had_since (WritesHeader epoch live) Accepted slot cell among = durable_had slot cell among
  had_since (WritesHeader epoch live) Refused slot cell among = inr among
  had_since (WritesHeader epoch live) (GaveCell c) slot cell among = inr among
  had_since Syncs Accepted slot cell among = durable_had slot cell among
  had_since Syncs Refused slot cell among = inr among
  had_since Syncs (GaveCell c) slot cell among = inr among
  had_since (ReadsSlot from) gave slot cell among = inr among
