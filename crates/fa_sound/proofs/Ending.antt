-- The ends of jobs, and dies that go out or come in, keep the state sound.
use Rattle.fa_machine.proofs.Maps.{get-keep, get-place_other, get-place_same, get-remove_other, get-remove_some, has_some, passed, place_cmp_total, place_same}
use Rattle.fa_machine.specs.Conditions.{drop_die}
use Rattle.fa_machine.specs.Copies.{holds_last, is_current, is_reserved_slot}
use Rattle.fa_machine.specs.Collecting.{is_in_block}
use Rattle.fa_machine.specs.Maps.{keep}
use Rattle.fa_machine.specs.State.{Core, is_live}
use Rattle.fa_machine.specs.Taking.{erase_ends, move_ends, stays}
use Rattle.fa_machine.specs.declared.jobs.Flight.{Flight}
use Rattle.fa_machine.specs.declared.places.Used.{Used}
use Rattle.fa_machine.specs.declared.places.Used.TheVariants.{Held, Reserved, Stale}
use Rattle.fa_machine.specs.declared.places.Version.{Version}
use Rattle.fa_sound.proofs.Changing.{Changes, changed_apart, changed_jobs, changed_targets, held≢stale, reserved≢settled, same_slots}
use Rattle.fa_sound.specs.Owners.{TargetAt}
use Rattle.fa_sound.specs.Sound.{AwayFit, HeldFit, IsMoving, IsSoundView, OnceFit, UsedFit, View, is_settled, view_of}
use Rattle.fa_types.specs.declared.numbers.Page.{Page}
use Rattle.std.proofs.Common.{Bool, None, Option, Some, ap, eq-eqb, eqb-true, false, inl, inr, not, refl, subst, sym, true, ℕ, ◌∙◌, ◌≡◌, ◌⊎◌}
use Rattle.std.proofs.lemmas.Bool.{and_parts, cases_Bool, cases_eq, false≢true, ne_eqb, or_left, or_right}
use Rattle.std.proofs.lemmas.Option.{none-some, same_Some}
use Rattle.std.specs.FinMap.{FinMap, contains_key, get, insert, remove}
use Rattle.std.specs.Ordering.{nat_cmp}
use Rattle.std.specs.Prelude.{if◌then◌else◌, is_some, ◌&&◌, ◌==◌}

-- the slots of a die change that is at no job then, and jobs end
module _ (v : View) (h : IsSoundView v) (die : ℕ) (live : ℕ → Bool) (used : ℕ → ℕ → Option Used) (job : ℕ → Option Flight)
    (jobs : (d : ℕ) (flight : Flight) → job d ≡ Some flight → (v.job d ≡ Some flight) × (d ≡ die → ⊥))
    (others : (d slot : ℕ) → (d ≡ die → ⊥) → used d slot ≡ v.used d slot)
    (alive : (d : ℕ) → live d ≡ true → v.live d ≡ true)
    (still : (d : ℕ) → (d ≡ die → ⊥) → v.live d ≡ true → live d ≡ true)
    (kept : (slot : ℕ) → TargetAt v.own die slot → live die ≡ true → v.used die slot ≡ Some Reserved → used die slot ≡ Some Reserved) where
  kept_at : (d slot : ℕ) → TargetAt v.own d slot → live d ≡ true → v.used d slot ≡ Some Reserved → used d slot ≡ Some Reserved
  kept_at d slot b on e =
      elim (cases_eq d die) [
        | inr apart ↦ others d slot apart ∙ e
        | inl same ↦ ap (λ n. used n slot) same
            ∙ kept slot (subst (λ n. TargetAt v.own n slot) same b) (ap live (sym same) ∙ on) (ap (λ n. v.used n slot) (sym same) ∙ e)
      ]

  changes : Changes v live v.spare used v.own job None
  changes = record {
    fewer_jobs = λ d flight e. (jobs d flight e).0;
    busy = λ d flight e on. still d (jobs d flight e).1 on;
    at_jobs = λ d flight e. same_slots (v.used d) (used d) v.own v.own d (λ slot. others d slot (jobs d flight e).1) (λ slot b. (b, refl));
    spares = λ d e. e;
    target = λ d slot b. inl (record { before = b; same = refl; alive = alive d; kept = λ on e. kept_at d slot b on e });
  }

  module _ (slots : UsedFit v.total live used) (held : HeldFit v.number used) (once : OnceFit used) (away : AwayFit used v.own) where
    pub ended_sound : IsSoundView (record v { live = live; used = used; job = job })
    ended_sound = record {
      copies = h.copies;
      numbers = h.numbers;
      slots = slots;
      held = held;
      once = once;
      targets = changed_targets v h live v.spare used v.own job None changes;
      apart = changed_apart v h live v.spare used v.own job None changes;
      spread = h.spread;
      new = h.new;
      old = h.old;
      away = away;
      jobs = changed_jobs v h live v.spare used v.own job None changes;
      dies = record {
        live_inside = λ d e. h.dies.live_inside d (alive d e);
        spare_inside = h.dies.spare_inside;
        apart = λ d e. elim (cases_Bool (live d)) [
          | inl on ↦ absurd (false≢true (sym (h.dies.apart d e) ∙ alive d on))
          | inr out ↦ out
        ];
      };
      claims = h.claims;
    }

  -- where what is held then was held
  module _ (was : (d slot : ℕ) (p : Page) (w : Version) → used d slot ≡ Some (Held p w) → v.used d slot ≡ Some (Held p w))
      (slots : UsedFit v.total live used) where
    pub emptied_sound : IsSoundView (record v { live = live; used = used; job = job })
    emptied_sound = ended_sound slots (λ d slot p w e. h.held d slot p w (was d slot p w e))
        (λ d slot other p w u e f. h.once d slot other p w u (was d slot p w e) (was d other p u f))
        (λ y e t among slot p w f same seq. h.away y e t among slot p w (was t.die.0 slot p w f) same seq)

-- the jobs of the other dies
pub jobs_left : (jobs : FinMap nat_cmp Flight) (die d : ℕ) (flight : Flight) → get (remove jobs die) d ≡ Some flight → (get jobs d ≡ Some flight) × (d ≡ die → ⊥)
jobs_left jobs die d flight e = get-remove_some jobs die d flight e

passed_some : {X : Type 0} (test : X → Bool) (o : Option X) (x : X) → passed test o ≡ Some x → (o ≡ Some x) × (test x ≡ true)
passed_some test None x e = absurd (none-some x e)
passed_some test (Some y) x e = at (test y) refl e
  where
    at : (b : Bool) → test y ≡ b → (if b then Some y else None) ≡ Some x → (Some y ≡ Some x) × (test x ≡ true)
    at true t e = (e, sym (ap test (same_Some y x e)) ∙ t)
    at false t e = absurd (none-some x e)

passed_same : {X : Type 0} (test : X → Bool) (o : Option X) → ((x : X) → test x ≡ true) → passed test o ≡ o
passed_same test None all = refl
passed_same test (Some x) all = ap (λ b. if b then Some x else None) (all x)

-- a job ends and changes nothing here
pub over_sound : (core : Core) → IsSoundView (view_of core) → (die : ℕ) → IsSoundView (view_of (record core { jobs = remove core.jobs die }))
over_sound core h die = emptied_sound (view_of core) h die (view_of core).live (view_of core).used (λ d. get (remove core.jobs die) d)
    (λ d flight e. jobs_left core.jobs die d flight e) (λ d slot apart. refl) (λ d e. e) (λ d apart e. e) (λ slot b on e. e)
    (λ d slot p w e. e) h.slots

-- a die goes out
module _ (core : Core) (h : IsSoundView (view_of core)) (die : ℕ) where
  abbrev v : View
  v = view_of core

  abbrev left : ℕ → ℕ → Option Used
  left d slot = get (drop_die die core).page_map.used (d, slot)

  left_is : (d slot : ℕ) → left d slot ≡ passed (λ (u : Used). not (d == die)) (v.used d slot)
  left_is d slot = get-keep place_cmp_total place_same (λ place used. not (place.0 == die)) core.page_map.used (d, slot)

  left_was : (d slot : ℕ) (u : Used) → left d slot ≡ Some u → (v.used d slot ≡ Some u) × (d ≡ die → ⊥)
  left_was d slot u e =
      let p = passed_some (λ (u : Used). not (d == die)) (v.used d slot) u (sym (left_is d slot) ∙ e) in
      (p.0, λ same. false≢true (sym (ap not (eq-eqb d die same)) ∙ p.1))

  live_then : (d : ℕ) → contains_key (remove core.page_map.live die) d ≡ true → (v.live d ≡ true) × (d ≡ die → ⊥)
  live_then d e =
      let some = has_some (get (remove core.page_map.live die) d) e in
      let was = get-remove_some core.page_map.live die d some.0 some.1 in
      (ap is_some was.0, was.1)

  pub dropped_sound : IsSoundView (view_of (drop_die die core))
  dropped_sound = emptied_sound v h die (λ d. contains_key (remove core.page_map.live die) d) left (λ d. get (remove core.jobs die) d)
      (λ d flight e. jobs_left core.jobs die d flight e)
      (λ d slot apart. left_is d slot ∙ passed_same (λ (u : Used). not (d == die)) (v.used d slot) (λ u. ap not (ne_eqb d die apart)))
      (λ d e. (live_then d e).0)
      (λ d apart e. ap is_some (get-remove_other core.page_map.live die d apart) ∙ e)
      (λ slot b on e. absurd ((live_then die on).1 refl))
      (λ d slot p w e. (left_was d slot (Held p w) e).0)
      (λ d slot u e. let p = left_was d slot u e in let was = h.slots d slot u p.0 in record {
        on_live = ap is_some (get-remove_other core.page_map.live die d p.1) ∙ was.on_live;
        inside = was.inside;
      })

-- an erase ends
module _ (core : Core) (h : IsSoundView (view_of core)) (die block : ℕ) where
  abbrev e_view : View
  e_view = view_of core

  abbrev e_used : ℕ → ℕ → Option Used
  e_used d slot = get (keep (stays core.page_map die block) core.page_map.used) (d, slot)

  e_is : (d slot : ℕ) → e_used d slot ≡ passed (stays core.page_map die block (d, slot)) (e_view.used d slot)
  e_is d slot = get-keep place_cmp_total place_same (stays core.page_map die block) core.page_map.used (d, slot)

  e_was : (d slot : ℕ) (u : Used) → e_used d slot ≡ Some u → e_view.used d slot ≡ Some u
  e_was d slot u e = (passed_some (stays core.page_map die block (d, slot)) (e_view.used d slot) u (sym (e_is d slot) ∙ e)).0

  e_apart : (d slot : ℕ) (u : Used) → (d ≡ die → ⊥) → stays core.page_map die block (d, slot) u ≡ true
  e_apart d slot u apart = or_left (not (d == die && is_in_block core.page_map block slot)) (is_reserved_slot (Some u))
      (ap (λ b. not (b && is_in_block core.page_map block slot)) (ne_eqb d die apart))

  e_kept : (slot : ℕ) → e_view.used die slot ≡ Some Reserved → e_used die slot ≡ Some Reserved
  e_kept slot e = e_is die slot ∙ ap (passed (stays core.page_map die block (die, slot))) e
      ∙ ap (λ b. if b then Some Reserved else None) (or_right (not (die == die && is_in_block core.page_map block slot)) true refl)

  pub erased_sound : IsSoundView (view_of (erase_ends die block (record core { jobs = remove core.jobs die })))
  erased_sound = emptied_sound e_view h die e_view.live e_used (λ d. get (remove core.jobs die) d)
      (λ d flight e. jobs_left core.jobs die d flight e)
      (λ d slot apart. e_is d slot ∙ passed_same (stays core.page_map die block (d, slot)) (e_view.used d slot) (λ u. e_apart d slot u apart))
      (λ d e. e) (λ d apart e. e) (λ slot b on e. e_kept slot e)
      (λ d slot p w e. e_was d slot (Held p w) e)
      (λ d slot u e. h.slots d slot u (e_was d slot u e))

holds_it : (page : ℕ) (number : Option Version) (o : Option Used) → holds_last page number o ≡ true
    → (p : Page) × (w : Version) × (o ≡ Some (Held p w)) × (p.0 ≡ page)
holds_it page None o e = absurd (false≢true e)
holds_it page (Some n) None e = absurd (false≢true e)
holds_it page (Some n) (Some Reserved) e = absurd (false≢true e)
holds_it page (Some n) (Some Stale) e = absurd (false≢true e)
holds_it page (Some n) (Some (Held p w)) e = (p, w, refl, eqb-true p.0 page (and_parts (p.0 == page) (w.seq.0 == n.seq.0) e).0)

-- a move ends
module _ (core : Core) (h : IsSoundView (view_of core)) (die : ℕ) (page : Page) (version : Version) (from to : ℕ)
    (on_die : is_live core.page_map die ≡ true) (f : IsMoving ((view_of core).used die) (view_of core).own die page version from to) where
  abbrev mv : View
  mv = view_of core

  abbrev moved : Bool → Used
  moved b = if b then Held (record { 0 = page.0 }) version else Stale

  abbrev current : Bool
  current = is_current core.page_map page.0 die from

  abbrev m_used : ℕ → ℕ → Option Used
  m_used d slot = get (insert (insert core.page_map.used (die, from) Stale) (die, to) (moved current)) (d, slot)

  ends_apart : to ≡ from → ⊥
  ends_apart same = reserved≢settled (mv.used die from) (ap (mv.used die) (sym same) ∙ f.kept) f.settled

  at_to : m_used die to ≡ Some (moved current)
  at_to = get-place_same (insert core.page_map.used (die, from) Stale) die to (moved current)

  at_from : m_used die from ≡ Some Stale
  at_from = get-place_other (insert core.page_map.used (die, from) Stale) die to (moved current) die from (λ a b. ends_apart (sym b))
      ∙ get-place_same core.page_map.used die from Stale

  elsewhere : (d slot : ℕ) → (d ≡ die → slot ≡ to → ⊥) → (d ≡ die → slot ≡ from → ⊥) → m_used d slot ≡ mv.used d slot
  elsewhere d slot a b = get-place_other (insert core.page_map.used (die, from) Stale) die to (moved current) d slot a
      ∙ get-place_other core.page_map.used die from Stale d slot b

  from_held : current ≡ true → mv.used die from ≡ Some (Held page version)
  from_held e =
      let it = holds_it page.0 (mv.number page.0) (mv.used die from) (and_parts (is_live core.page_map die) _ e).1 in
      it.2 ∙ (λ i. Some (Held (f.page_is it.0 it.1 it.2 i) (f.version_is it.0 it.1 it.2 i)))

  moved_held : (b : Bool) → current ≡ b → (p : Page) (w : Version) → Some (moved b) ≡ Some (Held p w) → mv.used die from ≡ Some (Held p w)
  moved_held true e p w is = from_held e ∙ is
  moved_held false e p w is = absurd (held≢stale (Some Stale) p w is refl)

  -- what is held then was held on the same die, from where it moved or in the same slot
  abbrev Was : ℕ → ℕ → Page → Version → Type 0
  Was d slot p w = ((mv.used d slot ≡ Some (Held p w)) × (d ≡ die → slot ≡ from → ⊥)) ⊎ ((d ≡ die) × (slot ≡ to) × (mv.used die from ≡ Some (Held p w)))

  was : (d slot : ℕ) (p : Page) (w : Version) → m_used d slot ≡ Some (Held p w) → Was d slot p w
  was d slot p w e =
      elim (cases_eq d die) [
        | inr apart ↦ inl (sym (elsewhere d slot (λ a b. apart a) (λ a b. apart a)) ∙ e, λ a b. apart a)
        | inl same ↦ elim (cases_eq slot to) [
          | inl at ↦ inr (same, at, moved_held current refl p w (sym at_to ∙ sym (λ i. m_used (same i) (at i)) ∙ e))
          | inr away ↦ elim (cases_eq slot from) [
            | inl there ↦ absurd (held≢stale (m_used d slot) p w e ((λ i. m_used (same i) (there i)) ∙ at_from))
            | inr gone ↦ inl (sym (elsewhere d slot (λ a b. away b) (λ a b. gone b)) ∙ e, λ a b. gone b)
          ]
        ]
      ]

  m_slots : UsedFit mv.total mv.live m_used
  m_slots d slot u e =
      elim (cases_eq d die) [
        | inr apart ↦ h.slots d slot u (sym (elsewhere d slot (λ a b. apart a) (λ a b. apart a)) ∙ e)
        | inl same ↦ elim (cases_eq slot to) [
          | inl at ↦ h.slots d slot Reserved ((λ i. mv.used (same i) (at i)) ∙ f.kept)
          | inr away ↦ elim (cases_eq slot from) [
            | inl there ↦ let some = settled_some (mv.used die from) f.settled in h.slots d slot some.0 ((λ i. mv.used (same i) (there i)) ∙ some.1)
            | inr gone ↦ h.slots d slot u (sym (elsewhere d slot (λ a b. away b) (λ a b. gone b)) ∙ e)
          ]
        ]
      ]
    where
      settled_some : (o : Option Used) → is_settled o ≡ true → (u : Used) × (o ≡ Some u)
      settled_some None s = absurd (false≢true s)
      settled_some (Some u) s = (u, refl)

  m_kept : (slot : ℕ) → TargetAt mv.own die slot → mv.live die ≡ true → mv.used die slot ≡ Some Reserved → m_used die slot ≡ Some Reserved
  m_kept slot b on e =
      elsewhere die slot (λ a at. f.alone (subst (TargetAt mv.own die) at b)) (λ a there. reserved≢settled (mv.used die from) (ap (mv.used die) (sym there) ∙ e) f.settled) ∙ e

  pub moved_sound : IsSoundView (view_of (move_ends die page.0 version from to (record core { jobs = remove core.jobs die })))
  moved_sound = ended_sound mv h die mv.live m_used (λ d. get (remove core.jobs die) d)
      (λ d flight e. jobs_left core.jobs die d flight e)
      (λ d slot apart. elsewhere d slot (λ a b. apart a) (λ a b. apart a))
      (λ d e. e) (λ d apart e. e) m_kept m_slots
      (λ d slot p w e. elim (was d slot p w e) [
        | inl before ↦ h.held d slot p w before.0
        | inr here ↦ h.held die from p w here.2
      ])
      (λ d slot other p w u e g. elim (was d slot p w e) [
        | inl a ↦ elim (was d other p u g) [
          | inl b ↦ h.once d slot other p w u a.0 b.0
          | inr b ↦ absurd (a.1 b.0 (h.once die slot from p w u (ap (λ n. mv.used n slot) (sym b.0) ∙ a.0) b.2))
        ]
        | inr a ↦ elim (was d other p u g) [
          | inl b ↦ absurd (b.1 a.0 (h.once die other from p u w (ap (λ n. mv.used n other) (sym a.0) ∙ b.0) a.2))
          | inr b ↦ a.1 ∙ sym b.1
        ]
      ])
      (λ y e t among slot p w g same seq. elim (was t.die.0 slot p w g) [
        | inl before ↦ h.away y e t among slot p w before.0 same seq
        | inr here ↦ h.away y e t among from p w (ap (λ n. mv.used n from) here.0 ∙ here.2) same seq
      ])
