-- Each image call keeps what holds of headers.
use Rattle.fa_crash.proofs.Epochs.{is_header}
use Rattle.fa_crash.proofs.HeadersFit.{HeadersFit, IsAround, IsHead, IsNamed}
use Rattle.fa_crash.proofs.HonestRuns.{since_other}
use Rattle.fa_crash.proofs.Kept.{IsKept}
use Rattle.fa_crash.proofs.Shape.{Shape, one_gave, shape_of, shape_whole}
use Rattle.fa_crash.proofs.Trusted.{Trusted}
use Rattle.fa_crash.specs.Headers.{names}
use Rattle.fa_crash.specs.Unsynced.{Unsynced, behind_call, made_durable, unsynced_behind}
use Rattle.fa_crash.specs.Whole.{IsWhole, IsWholeCall}
use Rattle.fa_laws.proofs.Admitting.{one_value_other, one_value_same}
use Rattle.fa_machine.specs.Among.{Among}
use Rattle.fa_machine.specs.Cells.{Cell, Sealed}
use Rattle.fa_machine.specs.Collecting.{is_in_block}
use Rattle.fa_machine.specs.Run.{Happens, ImageCall}
use Rattle.fa_machine.specs.State.{Core, is_live}
use Rattle.fa_machine.specs.Taking.{Handed, mask_of}
use Rattle.fa_machine.specs.World.{Accepted, Calls, DieImage, ErasesBlock, Gave, GaveCell, HeaderTells, JobCall, ProgramsSlot, ReadsSlot, Refused, Syncs}
use Rattle.fa_machine.specs.World.{Work, World, WritesHeader, next_call}
use Rattle.fa_machine.specs.declared.jobs.Flight.{Flight}
use Rattle.fa_machine.specs.declared.jobs.Flight.TheVariants.{Erase, Header, Move, Program, Read, Sync}
use Rattle.std.proofs.Common.{Bool, List, None, Option, Some, [], ap, false, inl, inr, refl, subst, sym, true, ℕ, ◌∙◌, ◌∷◌, ◌≡◌, ◌≤◌, ◌⊎◌}
use Rattle.std.proofs.lemmas.Bool.{cases_eq, false≢true}
use Rattle.std.proofs.lemmas.Option.{none-some, same_Some}
use Rattle.std.specs.FinMap.{contains_key}
use Rattle.std.specs.Prelude.{option_map, ◌++◌}

abbrev job_of : Flight → List ℕ → Bool → Handed
job_of flight payload lasting = record { flight = flight; payload = payload; lasting = lasting }

abbrev told : ℕ → ℕ → HeaderTells
told epoch live = record { epoch = epoch; live = live }

abbrev writes_header : Option JobCall → Bool
writes_header (Some (WritesHeader epoch live)) = true
writes_header call = false

-- a header job makes one call, which writes its header, and no other job makes such a call
header_call : (die : ℕ) (flight : Flight) (payload : List ℕ) (lasting : Bool) (list : List Gave) (call : JobCall)
    → next_call die (job_of flight payload lasting) list ≡ Some call
    → ((epoch : ℕ) × (live : ℕ) × (flight ≡ Header epoch live) × (call ≡ WritesHeader epoch live)) ⊎ ((is_header flight ≡ false) × (writes_header (Some call) ≡ false))
header_call die (Header epoch live) payload lasting [] call e = inl (epoch, live, refl, sym (same_Some _ call e))
header_call die (Move page version from to) payload lasting [] call e = inr (refl, sym (ap writes_header e))
header_call die (Erase block) payload lasting [] call e = inr (refl, sym (ap writes_header e))
header_call die (Read batch page version slot) payload lasting [] call e = inr (refl, sym (ap writes_header e))
header_call die (Program page version slot) payload lasting [] call e = inr (refl, sym (ap writes_header e))
header_call die (Sync flushes) payload lasting [] call e = inr (refl, sym (ap writes_header e))
header_call die (Move page version from to) payload lasting (GaveCell cell ∷ []) call e = inr (refl, moved _ e)
  where
    moved : (o : Option (List ℕ)) → option_map (λ bytes. ProgramsSlot to.0 (Sealed page.0 version die to.0 bytes)) o ≡ Some call
        → writes_header (Some call) ≡ false
    moved None e = absurd (none-some call e)
    moved (Some bytes) e = sym (ap writes_header e)
header_call die (Header epoch live) payload lasting (GaveCell cell ∷ []) call e = absurd (none-some call e)
header_call die (Erase block) payload lasting (GaveCell cell ∷ []) call e = absurd (none-some call e)
header_call die (Read batch page version slot) payload lasting (GaveCell cell ∷ []) call e = absurd (none-some call e)
header_call die (Program page version slot) payload lasting (GaveCell cell ∷ []) call e = absurd (none-some call e)
header_call die (Sync flushes) payload lasting (GaveCell cell ∷ []) call e = absurd (none-some call e)
header_call die (Erase block) payload lasting (Accepted ∷ []) call e = inr (refl, sym (ap writes_header e))
header_call die (Program page version slot) payload true (Accepted ∷ []) call e = inr (refl, sym (ap writes_header e))
header_call die (Program page version slot) payload false (Accepted ∷ []) call e = absurd (none-some call e)
header_call die (Header epoch live) payload lasting (Accepted ∷ []) call e = absurd (none-some call e)
header_call die (Move page version from to) payload lasting (Accepted ∷ []) call e = absurd (none-some call e)
header_call die (Read batch page version slot) payload lasting (Accepted ∷ []) call e = absurd (none-some call e)
header_call die (Sync flushes) payload lasting (Accepted ∷ []) call e = absurd (none-some call e)
header_call die flight payload lasting list call e = absurd (none-some call e)

module _ (w : World) (u : Unsynced) (die : ℕ) (image : DieImage) where
  -- what a header of the die is behind a call that writes none
  abbrev KeptHead : JobCall → Gave → Type 0
  KeptHead call gave = (x : Option HeaderTells) → (x ≡ image.header) ⊎ Among x ((behind_call w die call gave u).heads die) → IsHead w u die x

  same_head : image.header ≡ (w.images die).header → (heads : List (Option HeaderTells)) → heads ≡ u.heads die → (x : Option HeaderTells)
      → (x ≡ image.header) ⊎ Among x heads → IsHead w u die x
  same_head e heads f x (inl is) = inl (is ∙ e)
  same_head e heads f x (inr among) = inr (subst (Among x) f among)

  no_heads : (heads : List (Option HeaderTells)) → heads ≡ [] → image.header ≡ (w.images die).header → (x : Option HeaderTells)
      → (x ≡ image.header) ⊎ Among x heads → IsHead w u die x
  no_heads heads f e x (inl is) = inl (is ∙ e)
  no_heads heads f e x (inr among) = absurd (subst (Among x) f among)

  plain_head : (call : JobCall) (gave : Gave) → Calls (is_in_block w.core.page_map) call gave (w.images die) image
      → writes_header (Some call) ≡ false → KeptHead call gave
  plain_head (ReadsSlot slot) (GaveCell cell) c plain = same_head (ap (λ (i : DieImage). i.header) c.1) _ refl
  plain_head (ReadsSlot slot) Refused c plain = same_head (ap (λ (i : DieImage). i.header) c) _ refl
  plain_head (ReadsSlot slot) Accepted c plain = absurd c
  plain_head (ProgramsSlot slot cell) Accepted c plain = same_head (ap (λ (i : DieImage). i.header) c) _ refl
  plain_head (ProgramsSlot slot cell) Refused c plain = same_head (ap (λ (i : DieImage). i.header) c.1) _ refl
  plain_head (ProgramsSlot slot cell) (GaveCell other) c plain = absurd c
  plain_head (ErasesBlock block) Accepted c plain = same_head (ap (λ (i : DieImage). i.header) c) _ refl
  plain_head (ErasesBlock block) Refused c plain = same_head (ap (λ (i : DieImage). i.header) c.1) _ refl
  plain_head (ErasesBlock block) (GaveCell other) c plain = absurd c
  plain_head Syncs Accepted c plain = no_heads _ (one_value_same die [] u.heads die refl) (ap (λ (i : DieImage). i.header) c)
  plain_head Syncs Refused c plain = same_head (ap (λ (i : DieImage). i.header) c) _ refl
  plain_head Syncs (GaveCell other) c plain = absurd c
  plain_head (WritesHeader epoch live) gave c plain = absurd (false≢true (sym plain))

  -- behind an accepted header it is the only one
  accepted_head : (epoch live : ℕ) → Calls (is_in_block w.core.page_map) (WritesHeader epoch live) Accepted (w.images die) image
      → (x : Option HeaderTells)
      → (x ≡ image.header) ⊎ Among x ((behind_call w die (WritesHeader epoch live) Accepted u).heads die) → x ≡ Some (told epoch live)
  accepted_head epoch live c x (inl is) = is ∙ ap (λ (i : DieImage). i.header) c
  accepted_head epoch live c x (inr among) = absurd (subst (Among x) (one_value_same die [] u.heads die refl) among)

  header_head : (epoch live : ℕ) (gave : Gave) → Calls (is_in_block w.core.page_map) (WritesHeader epoch live) gave (w.images die) image
      → IsWholeCall (is_in_block w.core.page_map) (Some (WritesHeader epoch live)) gave (w.images die) image → (x : Option HeaderTells)
      → (x ≡ image.header) ⊎ Among x ((behind_call w die (WritesHeader epoch live) gave u).heads die)
      → IsHead w u die x ⊎ (x ≡ Some (told epoch live))
  header_head epoch live Accepted c whole x e = inr (accepted_head epoch live c x e)
  header_head epoch live (GaveCell cell) c whole x e = absurd c
  header_head epoch live Refused c (inl old) x (inl is) = inl (inl (is ∙ old))
  header_head epoch live Refused c (inr new) x (inl is) = inr (is ∙ new)
  header_head epoch live Refused c whole x (inr among) =
      at (subst (Among x) (one_value_same die ((w.images die).header ∷ Some (told epoch live) ∷ u.heads die) u.heads die refl) among)
    where
      at : Among x ((w.images die).header ∷ Some (told epoch live) ∷ u.heads die) → IsHead w u die x ⊎ (x ≡ Some (told epoch live))
      at (inl same) = inl (inl (sym same))
      at (inr (inl same)) = inr (sym same)
      at (inr (inr rest)) = inl (inr rest)

heads_other : (w : World) (u : Unsynced) (die : ℕ) (call : JobCall) (gave : Gave) (d : ℕ) → (d ≡ die → ⊥)
    → (behind_call w die call gave u).heads d ≡ u.heads d
heads_other w u die (ReadsSlot slot) gave d apart = refl
heads_other w u die (ProgramsSlot slot cell) gave d apart = refl
heads_other w u die (ErasesBlock block) gave d apart = refl
heads_other w u die (WritesHeader epoch live) Accepted d apart = one_value_other die [] u.heads d apart
heads_other w u die (WritesHeader epoch live) Refused d apart = one_value_other die ((w.images die).header ∷ Some (told epoch live) ∷ u.heads die) u.heads d apart
heads_other w u die (WritesHeader epoch live) (GaveCell cell) d apart = refl
heads_other w u die Syncs Accepted d apart = one_value_other die [] u.heads d apart
heads_other w u die Syncs Refused d apart = refl
heads_other w u die Syncs (GaveCell cell) d apart = refl

module _ (first w : World) (u : Unsynced) (k : IsKept w u) (f : HeadersFit first w u) (die : ℕ) (gave : Gave) (after : World) (happens : Happens w (ImageCall die gave) after)
    (whole : IsWhole w (ImageCall die gave) after) where
  abbrev v : Unsynced
  v = unsynced_behind w (ImageCall die gave) u

  s : Shape w u die gave after
  s = shape_of w u die gave after happens

  header_or_plain : ((epoch : ℕ) × (live : ℕ) × (s.work.job.flight ≡ Header epoch live) × (s.call ≡ WritesHeader epoch live))
      ⊎ ((is_header s.work.job.flight ≡ false) × (writes_header (Some s.call) ≡ false))
  header_or_plain = header_call die s.work.job.flight s.work.job.payload s.work.job.lasting s.work.gave s.call s.next

  -- a header that the die of the call has then
  here_head : (x : Option HeaderTells) → IsHead after v die x → (x ≡ s.image.header) ⊎ Among x ((behind_call w die s.call gave u).heads die)
  here_head x (inl is) = inl (is ∙ ap (λ (g : ℕ → DieImage). (g die).header) s.images_then ∙ ap (λ (i : DieImage). i.header) (one_value_same die s.image w.images die refl))
  here_head x (inr among) = inr (subst (λ (t : Unsynced). Among x (t.heads die)) s.behind_is among)

  -- it had it, or it is the one that is written
  record IsTold (x : Option HeaderTells) : Type 0 where
    epoch : ℕ
    live : ℕ
    flight : s.work.job.flight ≡ Header epoch live
    is : x ≡ Some (told epoch live)

  here_was : (x : Option HeaderTells) → IsHead after v die x → IsHead w u die x ⊎ IsTold x
  here_was x e =
      elim header_or_plain [
        | inr plain ↦ inl (plain_head w u die s.image s.call gave s.calls plain.1 x (here_head x e))
        | inl header ↦ elim (header_head w u die s.image header.0 header.1 gave
            (subst (λ (c : JobCall). Calls (is_in_block w.core.page_map) c gave (w.images die) s.image) header.3 s.calls)
            (subst (λ (c : JobCall). IsWholeCall (is_in_block w.core.page_map) (Some c) gave (w.images die) s.image) header.3 (shape_whole w u die gave after s whole)) x
            (subst (λ (c : JobCall). (x ≡ s.image.header) ⊎ Among x ((behind_call w die c gave u).heads die)) header.3 (here_head x e))) [
              | inl before ↦ inl before
              | inr new ↦ inr (record { epoch = header.0; live = header.1; flight = header.2; is = new })
            ]
      ]

  other_was : (d : ℕ) → (d ≡ die → ⊥) → (x : Option HeaderTells) → IsHead after v d x → IsHead w u d x
  other_was d apart x (inl is) =
      inl (is ∙ ap (λ (g : ℕ → DieImage). (g d).header) s.images_then ∙ ap (λ (i : DieImage). i.header) (one_value_other die s.image w.images d apart))
  other_was d apart x (inr among) =
      inr (subst (Among x) (heads_other w u die s.call gave d apart) (subst (λ (t : Unsynced). Among x (t.heads d)) s.behind_is among))

  head_was : (d : ℕ) (x : Option HeaderTells) → IsHead after v d x → IsHead w u d x ⊎ ((d ≡ die) × IsTold x)
  head_was d x e =
      elim (cases_eq d die) [
        | inr apart ↦ inl (other_was d apart x e)
        | inl same ↦ elim (here_was x (subst (λ (n : ℕ). IsHead after v n x) same e)) [
          | inl before ↦ inl (subst (λ (n : ℕ). IsHead w u n x) (sym same) before)
          | inr new ↦ inr (same, new)
        ]
      ]

  named_then : (d : ℕ) → IsNamed w u d → IsNamed after v d
  named_then d n x e =
      elim (head_was d x e) [
        | inl before ↦ n x before
        | inr new ↦ (
          told new.1.epoch new.1.live,
          new.1.is,
          f.writing d new.1.epoch new.1.live s.work (ap w.works new.0 ∙ s.is) new.1.flight,
        )
      ]

  work_now : (d : ℕ) (j : Work) → after.works d ≡ Some j
      → ((d ≡ die) × (record (s.work) { gave = s.work.gave ++ gave ∷ [] } ≡ j)) ⊎ ((d ≡ die → ⊥) × (w.works d ≡ Some j))
  work_now d j e =
      let g = sym (ap (λ (x : ℕ → Option Work). x d) s.works_then) ∙ e in
      elim (cases_eq d die) [
        | inl same ↦ inl (same, same_Some _ j (sym (one_value_same die (Some (record (s.work) { gave = s.work.gave ++ gave ∷ [] })) w.works d same) ∙ g))
        | inr apart ↦ inr (apart, sym (one_value_other die (Some (record (s.work) { gave = s.work.gave ++ gave ∷ [] })) w.works d apart) ∙ g)
      ]

  -- what a die is at it was at before
  at_before : (d : ℕ) (j : Work) → after.works d ≡ Some j → (b : Work) × (w.works d ≡ Some b) × (b.job ≡ j.job)
  at_before d j e =
      elim (work_now d j e) [
        | inl now ↦ (s.work, ap w.works now.0 ∙ s.is, ap (λ (x : Work). x.job) now.1)
        | inr was ↦ (j, was.1, refl)
      ]

  around_was : (t : HeaderTells) → IsAround after v t → IsAround w u t
  around_was t (inl head) =
      elim (head_was head.0 (Some t) head.1) [
        | inl before ↦ inl (head.0, before)
        | inr new ↦ inr (record {
          die = die;
          work = s.work;
          is = s.is;
          flight = new.1.flight
              ∙ ap (λ (h : HeaderTells). Header h.epoch h.live) (sym (same_Some t (told new.1.epoch new.1.live) new.1.is));
        })
      ]
  around_was t (inr writing) =
      let b = at_before writing.die writing.work writing.is in
      inr (record { die = writing.die; work = b.0; is = b.1; flight = ap (λ (j : Handed). j.flight) b.2 ∙ writing.flight })

  accepted_named : (epoch live : ℕ) → s.work.job.flight ≡ Header epoch live → s.call ≡ WritesHeader epoch live → gave ≡ Accepted
      → IsNamed after v die
  accepted_named epoch live flight call accepted x e = (
    told epoch live,
    accepted_head w u die s.image epoch live
        (subst (λ (t : JobCall × Gave). Calls (is_in_block w.core.page_map) t.0 t.1 (w.images die) s.image) {x = (s.call, gave)} {y = (WritesHeader epoch live, Accepted)}
        (λ i. (call i, accepted i)) s.calls) x
        (subst (λ (t : JobCall × Gave). (x ≡ s.image.header) ⊎ Among x ((behind_call w die t.0 t.1 u).heads die)) {x = (s.call, gave)} {y = (WritesHeader epoch live, Accepted)}
        (λ i. (call i, accepted i)) (here_head x e)),
    f.writing die epoch live s.work s.is flight,
  )

  written_then : (d epoch live : ℕ) (j : Work) → after.works d ≡ Some j → j.job.flight ≡ Header epoch live → j.gave ≡ Accepted ∷ []
      → IsNamed after v d
  written_then d epoch live j e flight given =
      elim (work_now d j e) [
        | inr was ↦ named_then d (f.written d epoch live j was.1 flight given)
        | inl now ↦ subst (IsNamed after v) (sym now.0) (elim header_or_plain [
          | inl header ↦ accepted_named header.0 header.1 header.2 header.3
              (one_gave s.work.gave gave (ap (λ (x : Work). x.gave) now.1 ∙ given)).1
          | inr plain ↦ absurd (false≢true (sym plain.0 ∙ ap is_header (ap (λ (x : Work). x.job.flight) now.1 ∙ flight)))
        ])
      ]

  -- a die that has not written its header makes no other write
  no_write : (call : JobCall) → s.call ≡ call → writes_header (Some call) ≡ false → IsHead w u die None → ⊥
  no_write call e plain none =
      elim header_or_plain [
        | inl header ↦ false≢true (sym plain ∙ ap (λ (c : JobCall). writes_header (Some c)) (sym e ∙ header.3))
        | inr other ↦ let n = f.busy die (record { work = s.work; is = s.is; plain = other.0 }) None none in none-some n.0 n.1
      ]

  since_same : (slot : ℕ) → (made_durable w die u).since die slot ≡ []
  since_same slot = ap (λ (g : ℕ → List Cell). g slot) (one_value_same die (λ s. []) u.since die refl)

  same_slots : (call : JobCall) (g : Gave) → s.call ≡ call → Calls (is_in_block w.core.page_map) call g (w.images die) s.image
      → IsHead w u die None → (slot : ℕ)
      → (s.image.seen slot ≡ (w.images die).seen slot) × ((behind_call w die call g u).since die slot ≡ [])
  same_slots (ReadsSlot from) (GaveCell cell) e c none slot = (ap (λ (i : DieImage). i.seen slot) c.1, (f.unchanged die none slot).1)
  same_slots (ReadsSlot from) Refused e c none slot = (ap (λ (i : DieImage). i.seen slot) c, (f.unchanged die none slot).1)
  same_slots (ReadsSlot from) Accepted e c none slot = absurd c
  same_slots (WritesHeader epoch live) Accepted e c none slot = (ap (λ (i : DieImage). i.seen slot) c, since_same slot)
  same_slots (WritesHeader epoch live) Refused e c none slot = (ap (λ (i : DieImage). i.seen slot) c.1, (f.unchanged die none slot).1)
  same_slots (WritesHeader epoch live) (GaveCell cell) e c none slot = absurd c
  same_slots Syncs Accepted e c none slot = (ap (λ (i : DieImage). i.seen slot) c, since_same slot)
  same_slots Syncs Refused e c none slot = (ap (λ (i : DieImage). i.seen slot) c, (f.unchanged die none slot).1)
  same_slots Syncs (GaveCell cell) e c none slot = absurd c
  same_slots (ProgramsSlot to cell) g e c none slot = absurd (no_write (ProgramsSlot to cell) e refl none)
  same_slots (ErasesBlock block) g e c none slot = absurd (no_write (ErasesBlock block) e refl none)

  seen_here : (slot : ℕ) → (after.images die).seen slot ≡ s.image.seen slot
  seen_here slot = ap (λ (g : ℕ → DieImage). (g die).seen slot) s.images_then
      ∙ ap (λ (i : DieImage). i.seen slot) (one_value_same die s.image w.images die refl)

  unchanged_here : IsHead after v die None → (slot : ℕ)
      → ((after.images die).seen slot ≡ (first.images die).seen slot) × (v.since die slot ≡ [])
  unchanged_here none slot =
      elim (here_was None none) [
        | inr new ↦ absurd (none-some (told new.epoch new.live) new.is)
        | inl before ↦
            let same = same_slots s.call gave refl s.calls before slot in
            (seen_here slot ∙ same.0 ∙ (f.unchanged die before slot).0, ap (λ (t : Unsynced). t.since die slot) s.behind_is ∙ same.1)
      ]

  unchanged_then : (d : ℕ) → IsHead after v d None → (slot : ℕ)
      → ((after.images d).seen slot ≡ (first.images d).seen slot) × (v.since d slot ≡ [])
  unchanged_then d none slot =
      elim (cases_eq d die) [
        | inl same ↦ subst (λ (n : ℕ). ((after.images n).seen slot ≡ (first.images n).seen slot) × (v.since n slot ≡ [])) (sym same)
            (unchanged_here (subst (λ (n : ℕ). IsHead after v n None) same none) slot)
        | inr apart ↦
            let before = f.unchanged d (other_was d apart None none) slot in (
              ap (λ (g : ℕ → DieImage). (g d).seen slot) s.images_then
                  ∙ ap (λ (i : DieImage). i.seen slot) (one_value_other die s.image w.images d apart) ∙ before.0,
              ap (λ (t : Unsynced). t.since d slot) s.behind_is
                  ∙ ap (λ (g : ℕ → List Cell). g slot) (since_other first w u k die s.call gave d apart) ∙ before.1,
            )
      ]

  own_then : (d : ℕ) (h : HeaderTells) → IsHead after v d (Some h) → names h.live d ≡ true
  own_then d h e =
      elim (head_was d (Some h) e) [
        | inl before ↦ f.own d h before
        | inr new ↦ ap (λ (t : HeaderTells). names t.live d) (same_Some h (told new.1.epoch new.1.live) new.1.is)
            ∙ f.writing d new.1.epoch new.1.live s.work (ap w.works new.0 ∙ s.is) new.1.flight
      ]

  live_was : (d : ℕ) → is_live after.core.page_map d ≡ true → is_live w.core.page_map d ≡ true
  live_was d alive = sym (ap (λ (c : Core). is_live c.page_map d) s.core_same) ∙ alive

  pub call_headers : HeadersFit first after v
  call_headers = record {
    grown = subst (λ (c : Core). first.core.epoch ≤ c.epoch) (sym s.core_same) f.grown;
    from = λ t around. f.from t (around_was t around);
    below = λ t around. subst (λ (c : Core). t.epoch ≤ c.epoch) (sym s.core_same) (f.below t (around_was t around));
    now = λ t around is. f.now t (around_was t around) (is ∙ ap (λ (c : Core). c.epoch) s.core_same)
        ∙ sym (ap (λ (c : Core). mask_of c.page_map) s.core_same);
    alike = λ t l at_t at_l same. f.alike t l (around_was t at_t) (around_was l at_l) same;
    kept = λ t around d alive ours. f.kept t (around_was t around) d (live_was d alive) ours;
    unused = λ t around d spare. f.unused t (around_was t around) d (sym (ap (λ (c : Core). contains_key c.spares d) s.core_same) ∙ spare);
    spares = λ d spare. f.spares d (sym (ap (λ (c : Core). contains_key c.spares d) s.core_same) ∙ spare);
    there = λ d alive. f.there d (live_was d alive);
    unused_yet = λ d spare. f.unused_yet d (sym (ap (λ (c : Core). contains_key c.spares d) s.core_same) ∙ spare);
    ours = λ t around d named. f.ours t (around_was t around) d named;
    rising = λ t l at_t at_l less d alive named. f.rising t l (around_was t at_t) (around_was l at_l) less d (live_was d alive) named;
    between = λ h l t at_h at_l at_t less more d a b. f.between h l t (around_was h at_h) (around_was l at_l) (around_was t at_t) less more d a b;
    until = λ l t at_l at_t less d ours named. f.until l t (around_was l at_l) (around_was t at_t) less d ours named;
    own = own_then;
    writing = λ d epoch live j e flight.
        let b = at_before d j e in f.writing d epoch live b.0 b.1 (ap (λ (x : Handed). x.flight) b.2 ∙ flight);
    written = written_then;
    fresh = λ d alive fresh. named_then d (f.fresh d (live_was d alive) (sym (ap (λ (c : Core). contains_key c.behind d) s.core_same) ∙ fresh));
    busy = λ d o.
        let b = at_before d o.work o.is in
        named_then d (f.busy d (record { work = b.0; is = b.1; plain = ap (λ (x : Handed). is_header x.flight) b.2 ∙ o.plain }));
    trusted = λ d page out trusted. named_then d (f.trusted d page out (subst (λ (c : Core). Trusted c d page) s.core_same trusted));
    unchanged = unchanged_then;
  }
