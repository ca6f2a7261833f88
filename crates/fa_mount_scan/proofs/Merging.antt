-- What a map has once one more slot has the state of what was found in it.
use Rattle.std.proofs.Common.{◌≡◌, ◌≢◌, ℕ, zero, suc, ◌+◌, ◌*◌, ◌<◌, ◌≤◌, inl, inr, Bool, true, false, not, ◌==◌, cond, List, [], ◌∷◌, Option, Some, None}
use Rattle.std.proofs.Common.{length, refl, sym, ap, subst, ◌∙◌, arith, eq-eqb, eqb-true, slice_get, get_or}
use Rattle.std.proofs.lemmas.Bool.{and_from, and_left, and_parts, and_right, cases_Bool, cases_eq, cases_lt, false≢true, ne_eqb}
use Rattle.std.proofs.lemmas.Option.{none-some, same_Some, slice_get_within, slice_get-get_or}
use Rattle.std.specs.FinMap.{get, insert}
use Rattle.std.specs.List.{range_with_len}
use Rattle.std.specs.Prelude.{find, is_some, option_map}
use Rattle.fa_types.specs.declared.numbers.Page.{Page}
use Rattle.fa_machine.specs.declared.places.Used.{Used}
use Rattle.fa_machine.specs.declared.places.Used.TheVariants.{Reserved, Held, Stale as StaleSlot}
use Rattle.fa_machine.specs.declared.places.Version.{Version}
use Rattle.fa_machine.specs.Copies.{copy_on, holds_last, is_current}
use Rattle.fa_machine.specs.State.{MapState, is_live, slots_of, used_at}
use Rattle.fa_machine.proofs.Maps.{get-insert_same, get-insert_other}
use Rattle.fa_map_calls.specs.Changes.{made_current, outdated, with_used}
use Rattle.fa_map_calls.specs.Slots.{IsPageMap}
use Rattle.fa_map_calls.proofs.Changed.{used-same, used-other, used-outdated, used-current}
use Rattle.fa_mount_scan.specs.declared.slots.content.SlotContent.{SlotContent}
use Rattle.fa_mount_scan.specs.declared.slots.content.SlotContent.TheVariants.{Erased, Copy, Stale}
use Rattle.fa_mount_scan.specs.Content.{IsHolder, IsStateOf}
use Rattle.fa_mount_scan.specs.ContentMerging.{ChangesDie, IsMountedBefore, last_in}
use Rattle.fa_mount_scan.proofs.LastWrites.{same_page}

-- where nothing is found no number of the range passes
pub none_passes : (test : ℕ → Bool) (a n k : ℕ) → find test (range_with_len a n) ≡ None → a ≤ k → k < a + n → test k ≡ false
none_passes test a zero k none low high = absurd (omega (arith, low, high))
none_passes test a (suc n) k none low high =
    elim (cases_Bool (test a)) [
      | inl passes ↦ absurd (none-some a (sym none ∙ ap (λ b. cond b (Some a) (find test (range_with_len (a + 1) n))) passes))
      | inr fails ↦ elim (cases_eq k a) [
        | inl same ↦ ap test same ∙ fails
        | inr other ↦ none_passes test (a + 1) n k (sym (ap (λ b. cond b (Some a) (find test (range_with_len (a + 1) n))) fails) ∙ none)
            (omega (arith, other, low)) (omega (arith, high))
      ]
    ]

-- what is found passes
pub found_passes : (test : ℕ → Bool) (xs : List ℕ) (k : ℕ) → find test xs ≡ Some k → test k ≡ true
found_passes test [] k e = absurd (none-some k e)
found_passes test (x ∷ xs) k e =
    elim (cases_Bool (test x)) [
      | inl passes ↦ ap test (sym (same_Some x k (sym (ap (λ b. cond b (Some x) (find test xs)) passes) ∙ e))) ∙ passes
      | inr fails ↦ found_passes test xs k (sym (ap (λ b. cond b (Some x) (find test xs)) fails) ∙ e)
    ]

module _ (m : MapState) (whole : IsPageMap m) where
  held_is_current : (page : Page) (v : Version) (die s : ℕ) → used_at m die s ≡ Some (Held page v) → is_current m page.0 die s ≡ true
  held_is_current page v die s is =
      let number = whole.last die s page v is in
      let last : holds_last page.0 (get m.versions page.0) (used_at m die s) ≡ true =
      (λ i. holds_last page.0 (number i) (is i)) ∙ and_from (page.0 == page.0) (v.seq.0 == v.seq.0) (eq-eqb page.0 page.0 refl) (eq-eqb v.seq.0 v.seq.0 refl) in
      and_from (is_live m die) (holds_last page.0 (get m.versions page.0) (used_at m die s)) (whole.used die s (ap is_some is)).0 last

  -- a die on which no copy is found holds none
  pub none_held : (page : Page) (die : ℕ) → copy_on m page.0 die ≡ None → (s : ℕ) (v : Version) → used_at m die s ≡ Some (Held page v) → ⊥
  none_held page die none s v is =
      let below = (whole.used die s (ap is_some is)).1 in
      false≢true (sym (none_passes (is_current m page.0 die) 0 (m.geometry.blocks * m.geometry.slots) s none (omega arith) (omega (arith, below)))
      ∙ held_is_current page v die s is)

  held_where : (page : Page) (number : Option Version) (used : Option Used) → holds_last page.0 number used ≡ true
      → (v : Version) × (used ≡ Some (Held page v))
  held_where page None used e = absurd (false≢true e)
  held_where page (Some n) None e = absurd (false≢true e)
  held_where page (Some n) (Some Reserved) e = absurd (false≢true e)
  held_where page (Some n) (Some StaleSlot) e = absurd (false≢true e)
  held_where page (Some n) (Some (Held p v)) e =
      let parts = and_parts (p.0 == page.0) (v.seq.0 == n.seq.0) e in
      (v, ap (λ (q : Page). Some (Held q v)) (same_page p page (eqb-true p.0 page.0 parts.0)))

  -- the copy that is found is one of the last write
  pub some_held : (page : Page) (die s : ℕ) (last : Option Version) (version : Version) → copy_on m page.0 die ≡ Some s
      → ((v : Version) → get m.versions page.0 ≡ Some v → last ≡ Some v) → last ≡ Some version → used_at m die s ≡ Some (Held page version)
  some_held page die s last version found numbers is =
      let current = found_passes (is_current m page.0 die) (slots_of m) s found in
      let held = held_where page (get m.versions page.0) (used_at m die s) (and_parts (is_live m die) (holds_last page.0 (get m.versions page.0) (used_at m die s)) current).1 in
      let same : held.0 ≡ version = same_Some held.0 version (sym (numbers held.0 (whole.last die s page held.0 held.1)) ∙ is) in
      held.1 ∙ ap (λ (v : Version). Some (Held page v)) same

  -- once a copy of the last write is made current, no other slot has another state
  module _ (page : Page) (version : Version) (die slot : ℕ) (last : List (Option Version))
      (numbers : (q : ℕ) (v : Version) → get m.versions q ≡ Some v → last_in last q ≡ Some v) (is : last_in last page.0 ≡ Some version) where
    not_outdated : (d s : ℕ) (used : Option Used) → used_at m d s ≡ used → option_map (outdated page.0 version) used ≡ used
    not_outdated d s None e = refl
    not_outdated d s (Some Reserved) e = refl
    not_outdated d s (Some StaleSlot) e = refl
    not_outdated d s (Some (Held p v)) e =
        elim (cases_eq p.0 page.0) [
          | inl same ↦
              let last_of_p = numbers p.0 v (whole.last d s p v e) in
              let one : v ≡ version = same_Some v version (sym last_of_p ∙ ap (last_in last) same ∙ is) in
              ap (λ b. Some (cond b StaleSlot (Held p v)))
              (and_right (p.0 == page.0) (not (v.seq.0 == version.seq.0)) (ap not (eq-eqb v.seq.0 version.seq.0 (ap (λ (w : Version). w.seq.0) one))))
          | inr other ↦
              ap (λ b. Some (cond b StaleSlot (Held p v))) (and_left (p.0 == page.0) (not (v.seq.0 == version.seq.0)) (ne_eqb p.0 page.0 other))
        ]

    pub others_stay : (d s : ℕ) → (d ≡ die → s ≡ slot → ⊥) → used_at (made_current page version die slot m) d s ≡ used_at m d s
    others_stay d s apart = used-outdated m page version die slot d s apart ∙ not_outdated d s (used_at m d s) refl

    pub numbers_stay : (q : ℕ) (v : Version) → get (insert m.versions page.0 version) q ≡ Some v → last_in last q ≡ Some v
    numbers_stay q v e =
        elim (cases_eq q page.0) [
          | inl same ↦ ap (last_in last) same ∙ is ∙ sym (get-insert_same m.versions page.0 version) ∙ ap (get (insert m.versions page.0 version)) (sym same) ∙ e
          | inr other ↦ numbers q v (sym (get-insert_other m.versions page.0 version q other) ∙ e)
        ]

-- One more slot has the state of what was found in it, and no other slot of the die changed.
pub one_more_slot : (last : List (Option Version)) (slots : List SlotContent) (die slot : ℕ) (m n : MapState) (content : SlotContent) (used : Option Used)
    → IsMountedBefore last slots die slot m → is_live n die ≡ true
    → ((page : ℕ) (v : Version) → get n.versions page ≡ Some v → last_in last page ≡ Some v)
    → used_at n die slot ≡ used → ((s : ℕ) → s ≢ slot → used_at n die s ≡ used_at m die s)
    → slice_get slots slot ≡ Some content → IsStateOf slots (last_in last) slot content used
    → ((page : Page) (v : Version) → content ≡ Copy page v → last_in last page.0 ≡ Some v → (t : ℕ) × (used_at n die t ≡ Some (Held page v)))
    → IsMountedBefore last slots die (slot + 1) n
one_more_slot last slots die slot m n content used before live numbers here there found state held = record {
  live = live;
  numbers = numbers;
  states = λ s c below at. elim (cases_eq s slot) [
    | inl same ↦
        let is : content ≡ c = same_Some content c (sym found ∙ ap (slice_get slots) (sym same) ∙ at) in
        subst (λ x. IsStateOf slots (last_in last) s x (used_at n die s)) is
        (subst (λ y. IsStateOf slots (last_in last) y content (used_at n die y)) (sym same)
        (subst (IsStateOf slots (last_in last) slot content) (sym here) state))
    | inr other ↦ subst (IsStateOf slots (last_in last) s c) (sym (there s other)) (before.states s c (omega (arith, below, other)) at)
  ];
  held = λ s page v below at is. elim (cases_eq s slot) [
    | inl same ↦ held page v (same_Some content (Copy page v) (sym found ∙ ap (slice_get slots) (sym same) ∙ at)) is
    | inr other ↦
        let old = before.held s page v (omega (arith, below, other)) at is in
        (old.0, there old.0 (λ same. none-some (Held page v) (sym (before.others old.0 (omega (arith, same))) ∙ old.1)) ∙ old.1)
  ];
  others = λ s low. there s (λ same. omega (arith, low, same)) ∙ before.others s (omega (arith, low));
}

-- what holds of the one copy of a slot
of_copy : (P : Page → Version → Type 0) (page : Page) (version : Version) → P page version → (p : Page) (v : Version)
    → Copy page version ≡ Copy p v → P p v
of_copy P page version holds p v e =
    let a : page ≡ p = cc in
    let b : version ≡ v = cc in
    subst (λ q. P q v) a (subst (P page) b holds)

module _ (last : List (Option Version)) (slots : List SlotContent) (die slot : ℕ) (m n : MapState)
    (before : IsMountedBefore last slots die slot m) where
  -- a copy that is held stands in a lower slot
  held_in : (page : Page) (version : Version) (t : ℕ) → used_at m die t ≡ Some (Held page version) → (content : SlotContent)
      → IsStateOf slots (last_in last) t content (used_at m die t) → content ≡ Copy page version
  held_in page version t is Erased state = absurd (none-some (Held page version) (sym state ∙ is))
  held_in page version t is Stale state = let e : Some StaleSlot ≡ Some (Held page version) = sym state ∙ is in cc
  held_in page version t is (Copy p v) (inl state) = let e : Some (Held p v) ≡ Some (Held page version) = sym state.0 ∙ is in cc
  held_in page version t is (Copy p v) (inr state) = let e : Some StaleSlot ≡ Some (Held page version) = sym state.0 ∙ is in cc

  held_lower : (page : Page) (version : Version) (t : ℕ) → used_at m die t ≡ Some (Held page version) → slot < length slots
      → IsHolder slots (last_in last page.0) page version slot → ⊥
  held_lower page version t is within holder =
      elim (cases_lt t slot) [
        | inr on ↦ none-some (Held page version) (sym (before.others t on) ∙ is)
        | inl low ↦
            let content : SlotContent = get_or slots t Erased in
            let found : slice_get slots t ≡ Some content = slice_get-get_or slots t Erased (omega (arith, low, within)) in
            holder.lowest t low (found ∙ ap (λ (x : SlotContent). Some x) (held_in page version t is content (before.states t content low found)))
      ]

  -- a slot became stale that holds no copy of a page's last write, or not the lowest of its die
  module _ (stale : n ≡ with_used die slot StaleSlot m) where
    stale_others : ChangesDie die m n
    stale_others = subst (ChangesDie die m) (sym stale) (record {
      shape = refl;
      live = refl;
      used = λ d s apart. used-other m die slot StaleSlot d s (λ same here. apart same);
    })

    stale_slot : (content : SlotContent) → slice_get slots slot ≡ Some content → IsStateOf slots (last_in last) slot content (Some StaleSlot)
        → ((page : Page) (v : Version) → content ≡ Copy page v → last_in last page.0 ≡ Some v → (t : ℕ) × (used_at m die t ≡ Some (Held page v)))
        → IsMountedBefore last slots die (slot + 1) n
    stale_slot content found state held =
        let there : (s : ℕ) → s ≢ slot → used_at (with_used die slot StaleSlot m) die s ≡ used_at m die s =
        λ s apart. used-other m die slot StaleSlot die s (λ same here. apart here) in
        subst (IsMountedBefore last slots die (slot + 1)) (sym stale)
        (one_more_slot last slots die slot m (with_used die slot StaleSlot m) content (Some StaleSlot) before before.live before.numbers
        (used-same m die slot StaleSlot) there found state
        (λ page v is last_is.
        let old = held page v is last_is in
        (old.0, there old.0 (λ same. none-some (Held page v) (sym (before.others old.0 (omega (arith, same))) ∙ old.1)) ∙ old.1)))

    pub found_stale : slice_get slots slot ≡ Some Stale → IsMountedBefore last slots die (slot + 1) n × ChangesDie die m n
    found_stale found = (stale_slot Stale found refl (λ page v is. cc), stale_others)

    -- of a copy that is not the one to be held
    pub found_other : (page : Page) (version : Version) → slice_get slots slot ≡ Some (Copy page version)
        → (last_in last page.0 ≡ Some version → (t : ℕ) × (used_at m die t ≡ Some (Held page version)))
        → IsMountedBefore last slots die (slot + 1) n × ChangesDie die m n
    found_other page version found held = (
      stale_slot (Copy page version) found
          (inr (refl, λ holder. let old = held holder.is_last in held_lower page version old.0 old.1 (slice_get_within slots slot (Copy page version) found) holder))
          (of_copy (λ p v. last_in last p.0 ≡ Some v → (t : ℕ) × (used_at m die t ≡ Some (Held p v))) page version held),
      stale_others,
    )

  -- the slot holds a copy now that no other slot of the die holds
  pub found_holder : IsPageMap m → (page : Page) (version : Version) → n ≡ made_current page version die slot m
      → slice_get slots slot ≡ Some (Copy page version) → last_in last page.0 ≡ Some version
      → ((s : ℕ) (v : Version) → used_at m die s ≡ Some (Held page v) → ⊥)
      → IsMountedBefore last slots die (slot + 1) n × ChangesDie die m n
  found_holder whole page version current found is none =
      let after = made_current page version die slot m in
      let there : (d s : ℕ) → (d ≡ die → s ≡ slot → ⊥) → used_at after d s ≡ used_at m d s =
      others_stay m whole page version die slot last before.numbers is in
      let here : used_at after die slot ≡ Some (Held page version) = used-current m page version die slot in
      let holder : IsHolder slots (last_in last page.0) page version slot = record {
        is_last = is;
        lowest = λ s low at. let old = before.held s page version low at is in none old.0 version old.1;
      } in (
        subst (IsMountedBefore last slots die (slot + 1)) (sym current)
            (one_more_slot last slots die slot m after (Copy page version) (Some (Held page version)) before before.live
            (numbers_stay m whole page version die slot last before.numbers is) here (λ s apart. there die s (λ same at. apart at)) found
            (inl (refl, holder))
            (of_copy (λ p v. last_in last p.0 ≡ Some v → (t : ℕ) × (used_at after die t ≡ Some (Held p v))) page version (λ last_is. (slot, here)))),
        subst (ChangesDie die m) (sym current) (record {
          shape = refl;
          live = refl;
          used = λ d s apart. there d s (λ same at. apart same);
        }),
      )
