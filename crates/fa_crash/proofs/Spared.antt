-- A program that need not be synced stays so until it ends.
use Rattle.fa_crash.proofs.Backward.{TargetWas, target_was}
use Rattle.fa_crash.proofs.Kept.{IsSpared}
use Rattle.fa_crash.proofs.Steps.{IsRaised, LiveLaw, NumbersLaw, RaisesLaw, current_back, number_cases, raised_not_copied}
use Rattle.fa_crash.proofs.Trusted.{HeldOn, IsCurrentOwner}
use Rattle.fa_laws.proofs.Ranged.{reached_ranged}
use Rattle.fa_laws.proofs.Staying.{copy_from_holds, holds_from_copy}
use Rattle.fa_laws.specs.Erased.{RaisesNumber}
use Rattle.fa_laws.specs.Leaving.{LeavesPage, RunLeaving}
use Rattle.fa_laws.specs.Reached.{IsReached}
use Rattle.fa_machine.proofs.Maps.{get-insert_same}
use Rattle.fa_machine.specs.Conditions.{reserved_under}
use Rattle.fa_machine.specs.Copies.{holds_page}
use Rattle.fa_machine.specs.Run.{Event, Happening, HappensEvent}
use Rattle.fa_machine.specs.State.{Core, OpenClaim, Reservation, is_live}
use Rattle.fa_machine.specs.Step.{Act, Commit, Step}
use Rattle.fa_machine.specs.Turning.{has_number}
use Rattle.fa_machine.specs.World.{World}
use Rattle.fa_machine.specs.Writing.{Commits, claimed_page}
use Rattle.fa_machine.specs.declared.places.Used.TheVariants.{Held, Reserved}
use Rattle.fa_machine.specs.declared.places.Version.{Version}
use Rattle.fa_sound.proofs.Changing.{reserved≢none}
use Rattle.fa_sound.proofs.Owning.{claim_in, claimed_of}
use Rattle.fa_sound.specs.Owners.{Owned, TargetAt, owned_claim, owned_of}
use Rattle.fa_sound.specs.Sound.{IsSound}
use Rattle.fa_types.specs.declared.numbers.Seq.{Seq}
use Rattle.std.proofs.Common.{List, None, Option, Some, [], ap, arith, inl, inr, refl, subst, sym, true, ℕ, ◌∙◌, ◌∷◌, ◌≡◌, ◌⊎◌}
use Rattle.std.proofs.lemmas.Option.{none-some, same_Some}
use Rattle.std.specs.FinMap.{get}
use Rattle.std.specs.Prelude.{Ok, option_and_then, option_map, unwrap_or}

abbrev pub StaysLaw : Type 0
StaysLaw = (w last : World) (happenings : List Happening) (page die : ℕ) → IsReached w
    → holds_page w.core.page_map page die ≡ true → RunLeaving page w happenings last → is_live last.core.page_map die ≡ true
    → holds_page last.core.page_map page die ≡ true

module _ (live : LiveLaw) (numbers : NumbersLaw) (raises : RaisesLaw) (stays : StaysLaw) (w after : World) (act : Act) (h : HappensEvent w act after)
    (reached : IsReached w) (s : IsSound w.core) where
  abbrev old : Core
  old = w.core

  abbrev new : Core
  new = after.core

  -- an event that leaves the number of a page does not write it
  leaves_page : (page : ℕ) → get new.page_map.versions page ≡ get old.page_map.versions page → LeavesPage page w (Event act)
  leaves_page page same = at act h.step
    where
      raised : (seq : Seq) → RaisesNumber old page seq new → ⊥
      raised seq r = by_old (get old.page_map.versions page) refl
        where
          by_old : (o : Option Version) → get old.page_map.versions page ≡ o → ⊥
          by_old None e = none-some seq (sym (ap (option_map {T = Version} (λ v. v.seq)) (same ∙ e)) ∙ r.given)
          by_old (Some v) e =
              let above = r.above v e in
              let is = ap (λ (q : Seq). q.0) (same_Some v.seq seq (sym (ap (option_map {T = Version} (λ v. v.seq)) (same ∙ e)) ∙ r.given)) in
              absurd (omega (arith, above, is))

      at : (a : Act) → Step old a new → LeavesPage page w (Event a)
      at (Commit claim seat (Ok seq)) step = λ e. raised seq (subst (λ (n : ℕ). RaisesNumber old n seq new) e (raises old new claim seat seq s step))
      at a step = tt

  held_page : (die page : ℕ) → HeldOn old die page → holds_page old.page_map page die ≡ true
  held_page die page o =
      let ranged = (reached_ranged w reached).ranged in
      let number = s.held die o.slot o.tag o.version o.held in
      holds_from_copy old page die (record {
        version = o.version;
        number = sym (ap (get old.page_map.versions) o.page_is) ∙ number;
        slot = o.slot;
        tag_page = o.tag;
        tag_version = o.version;
        held = o.held;
        page_is = o.page_is;
        seq_is = refl;
      }) ranged (s.slots die o.slot (Held o.tag o.version) o.held).on_live

  -- a die that holds a page and stays live holds it still where the page is not written
  held_forward : (die page : ℕ) → get new.page_map.versions page ≡ get old.page_map.versions page → is_live new.page_map die ≡ true
      → HeldOn old die page → HeldOn new die page
  held_forward die page same alive o =
      let holds = stays w after (Event act ∷ []) page die reached (held_page die page o) (after, h, leaves_page page same, refl) alive in
      let c = copy_from_holds new page die holds in
      record { slot = c.slot; tag = c.tag_page; version = c.tag_version; held = c.held; page_is = c.page_is }

  -- nothing is reserved under a claim whose commit was accepted
  commit_closes : (claim seat : ℕ) (seq : Seq) (o : Option Reservation) → Commits old claim seat o (Ok seq) new → (x : Owned)
      → owned_of new.copying new.claims (Some claim) ≡ Some x → ⊥
  commit_closes claim seat seq None d x e = d
  commit_closes claim seat seq (Some r) d x e =
      none-some x (sym (ap (λ (c : Core). option_and_then owned_claim (get c.claims claim)) d.2
      ∙ ap (option_and_then owned_claim) (get-insert_same old.claims claim (record { page = claimed_page old claim; reserved = None }))) ∙ e)

  claim_page : (claim : ℕ) (seat : ℕ) (seq : Seq) (o : Option Reservation) → reserved_under old claim ≡ o
      → Commits old claim seat o (Ok seq) new
      → claim_in old.claims claim ≡ Some (claimed_page old claim)
  claim_page claim seat seq None is d = absurd d
  claim_page claim seat seq (Some r) is d = at (get old.claims claim) refl
    where
      at : (o : Option OpenClaim) → get old.claims claim ≡ o → claim_in old.claims claim ≡ Some (unwrap_or (claim_in old.claims claim) 0)
      at None e = absurd (none-some r (sym (ap (option_and_then {T = OpenClaim} (λ c. c.reserved)) e) ∙ is))
      at (Some c) e = ap (option_map {T = OpenClaim} (λ c. c.page)) e
          ∙ sym (ap (λ (o : Option OpenClaim). Some (unwrap_or (option_map {T = OpenClaim} (λ c. c.page) o) 0)) e)

  -- a page whose write is still reserved under a claim was not raised
  claim_not_raised : (id page : ℕ) (x y : Owned) → owned_of old.copying old.claims (Some id) ≡ Some y → y.page ≡ page
      → owned_of new.copying new.claims (Some id) ≡ Some x → IsRaised old act new page → ⊥
  claim_not_raised id page x y was of_page now r =
      let step = subst (λ (a : Act). Step old a new) r.act_is h.step in
      let mine : claim_in old.claims id ≡ Some page = claimed_of old.copying old.claims id y was ∙ ap Some of_page in
      let its : claim_in old.claims r.claim ≡ Some page = claim_page r.claim r.seat r.seq (reserved_under old r.claim) refl step.does
      ∙ ap Some r.page_is in
      let same : id ≡ r.claim = s.claims.once id r.claim page mine its in
      commit_closes r.claim r.seat r.seq (reserved_under old r.claim) step.does x (sym (ap (λ (n : ℕ). owned_of new.copying new.claims (Some n)) same) ∙ now)

  not_raised : (die slot : ℕ) (b : TargetAt (owned_of new.copying new.claims) die slot) (t : TargetWas live numbers raises old new act h.step s die slot b)
      → IsCurrentOwner new.page_map.versions b.owner b.owned → IsRaised old act new t.a.owned.page → ⊥
  not_raised die slot b t current r = at b.owner refl current
    where
      at : (q : Option ℕ) → b.owner ≡ q → IsCurrentOwner new.page_map.versions q b.owned → ⊥
      at (Some id) is current = claim_not_raised id t.a.owned.page b.owned t.a.owned
          (sym (ap (owned_of old.copying old.claims) (t.owner_is ∙ is)) ∙ t.a.owns) refl
          (sym (ap (owned_of new.copying new.claims) is) ∙ b.owns) r
      at None is current = raised_not_copied numbers raises old new s act t.a.owned
          (sym (ap (owned_of old.copying old.claims) (t.owner_is ∙ is)) ∙ t.a.owns)
          ((λ i. has_number (t.version_is i).seq.0 (get new.page_map.versions (t.page_is i))) ∙ current) r

  -- what is current then was current, of a page that was not raised
  spared_at : (die slot : ℕ) → is_live new.page_map die ≡ true → IsSpared old die slot
      → (b : TargetAt (owned_of new.copying new.claims) die slot) → (t : TargetWas live numbers raises old new act h.step s die slot b)
      → IsCurrentOwner new.page_map.versions b.owner b.owned
      → (get new.page_map.versions t.a.owned.page ≡ None) ⊎ HeldOn new die t.a.owned.page
  spared_at die slot alive spared b t current =
      elim (number_cases numbers raises old new s act h.step t.a.owned.page) [
        | inr r ↦ absurd (not_raised die slot b t current r)
        | inl same ↦
            let was = current_back numbers raises old new s act h.step b.owner b.owned t.a.owned (sym (ap (owned_of old.copying old.claims) t.owner_is) ∙ t.a.owns)
            t.page_is t.version_is current in
            elim (spared t.a (subst (λ (q : Option ℕ). IsCurrentOwner old.page_map.versions q t.a.owned) (sym t.owner_is) was)) [
              | inl none ↦ inl (same ∙ none)
              | inr held ↦ inr (held_forward die t.a.owned.page same alive held)
            ]
      ]

  pub spared_forward : (die slot : ℕ) → get old.page_map.used (die, slot) ≡ Some Reserved → is_live new.page_map die ≡ true
      → IsSpared old die slot
      → IsSpared new die slot
  spared_forward die slot kept alive spared b current =
      elim (target_was live numbers raises old new act h.step s die slot b) [
        | inr erased ↦ absurd (reserved≢none _ kept erased.0)
        | inl t ↦ elim (spared_at die slot alive spared b t current) [
          | inl none ↦ inl (sym (ap (get new.page_map.versions) t.page_is) ∙ none)
          | inr held ↦ inr (subst (HeldOn new die) t.page_is held)
        ]
      ]
