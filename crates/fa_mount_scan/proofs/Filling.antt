-- The map, die by die.
use Rattle.std.proofs.Common.{◌≡◌, ◌≢◌, ℕ, ◌+◌, ◌<◌, ◌≤◌, ◌⊎◌, inl, inr, true, false, List, Option, Some, None}
use Rattle.std.proofs.Common.{length, refl, sym, ap, subst, ◌∙◌, arith, slice_get, option_and_then}
use Rattle.std.proofs.lemmas.Bool.{cases_eq, cases_lt}
use Rattle.std.proofs.lemmas.List.{get_or_past}
use Rattle.std.proofs.lemmas.Option.{none-some, same_Some, slice_get_cases, slice_get_within}
use Rattle.std.specs.FinMap.{get, get-empty}
use Rattle.std.specs.Ordering.{nat_cmp}
use Rattle.std.specs.Prelude.{is_some}
use Rattle.fa_types.specs.declared.geometry.Geometry.{Geometry}
use Rattle.fa_types.specs.declared.numbers.Page.{Page}
use Rattle.fa_machine.specs.declared.places.Version.{Version}
use Rattle.fa_machine.specs.State.{MapState, is_live, used_at}
use Rattle.fa_machine.proofs.Maps.{get-insert_same, get-insert_other}
use Rattle.fa_map_calls.specs.Changes.{brought_in, new_map}
use Rattle.fa_map_calls.specs.Slots.{IsPageMap}
use Rattle.fa_map_calls.proofs.Changed.{used-new}
use Rattle.fa_mount_scan.specs.declared.slots.content.SlotContent.{SlotContent}
use Rattle.fa_mount_scan.specs.declared.slots.content.SlotContent.TheVariants.{Copy}
use Rattle.fa_mount_scan.specs.Content.{Contents, HasCopy, IsLastOf, IsMountedContent, IsStateOf, found_at, slots_on}
use Rattle.fa_mount_scan.specs.ContentMerging.{AreLastBefore, ChangesDie, HasCopyBefore, IsMountedBefore, last_in}
use Rattle.fa_mount_scan.proofs.LastWrites.{found_on, same_last}

-- the dies below one have what was found in them, and the others are not live
pub record AreMounted (geometry : Geometry) (contents : Contents) (last : List (Option Version)) (die : ℕ) (m : MapState) : Type 0 where
  pub shape : m.geometry ≡ geometry
  pub numbers : (page : ℕ) (version : Version) → get m.versions page ≡ Some version → last_in last page ≡ Some version
  pub live : (d : ℕ) → d < die → is_live m d ≡ is_some (slots_on contents d)
  pub out : (d : ℕ) → die ≤ d → is_live m d ≡ false
  pub mounted : (d : ℕ) (slots : List SlotContent) → d < die → slots_on contents d ≡ Some slots
      → IsMountedBefore last slots d (length slots) m
  pub unused : (d s : ℕ) → (die ≤ d) ⊎ (slots_on contents d ≡ None) → used_at m d s ≡ None

module _ (geometry : Geometry) (contents : Contents) (last : List (Option Version)) where
  pub none_mounted : (m : MapState) → m ≡ new_map geometry → AreMounted geometry contents last 0 m
  none_mounted m is = subst (AreMounted geometry contents last 0) (sym is) (record {
    shape = refl;
    numbers = λ page v e. absurd (none-some v (sym (get-empty nat_cmp page) ∙ e));
    live = λ d below. absurd (omega (arith, below));
    out = λ d low. ap is_some (get-empty nat_cmp d);
    mounted = λ d slots below. absurd (omega (arith, below));
    unused = λ d s out. used-new geometry d s;
  })

  module _ (die : ℕ) (m : MapState) (before : AreMounted geometry contents last die m) where
    -- a die that was not read stays out
    pub die_skipped : slots_on contents die ≡ None → AreMounted geometry contents last (die + 1) m
    die_skipped unread = record {
      shape = before.shape;
      numbers = before.numbers;
      live = λ d below. elim (cases_lt d die) [
        | inl lower ↦ before.live d lower
        | inr on ↦
            let same : d ≡ die = omega (arith, below, on) in
            before.out d on ∙ sym (ap is_some (ap (slots_on contents) same ∙ unread))
      ];
      out = λ d low. before.out d (omega (arith, low));
      mounted = λ d slots below read. elim (cases_lt d die) [
        | inl lower ↦ before.mounted d slots lower read
        | inr on ↦
            let same : d ≡ die = omega (arith, below, on) in
            absurd (none-some slots (sym unread ∙ sym (ap (slots_on contents) same) ∙ read))
      ];
      unused = λ d s out. before.unused d s (weaker d out);
    }
      where
        weaker : (d : ℕ) → (die + 1 ≤ d) ⊎ (slots_on contents d ≡ None) → (die ≤ d) ⊎ (slots_on contents d ≡ None)
        weaker d (inl low) = inl (omega (arith, low))
        weaker d (inr none) = inr none

    pub live_now : is_live (brought_in die m) die ≡ true
    live_now = ap is_some (get-insert_same m.live die tt)

    live_still : (d : ℕ) → d ≢ die → is_live (brought_in die m) d ≡ is_live m d
    live_still d apart = ap is_some (get-insert_other m.live die tt d apart)

    -- a die that was brought in has nothing yet
    pub die_begun : (slots : List SlotContent) → IsMountedBefore last slots die 0 (brought_in die m)
    die_begun slots = record {
      live = live_now;
      numbers = before.numbers;
      states = λ s content below. absurd (omega (arith, below));
      held = λ s page v below. absurd (omega (arith, below));
      others = λ s low. before.unused die s (inl (omega arith));
    }

    -- a die that was read is live, with its slots
    module _ (slots : List SlotContent) (read : slots_on contents die ≡ Some slots) (n : MapState)
        (mounted : IsMountedBefore last slots die (length slots) n) (others : ChangesDie die (brought_in die m) n) where
      live_after : (d : ℕ) → is_live n d ≡ is_live (brought_in die m) d
      live_after d = ap (λ (l : _). is_some (get l d)) others.live

      other_die : (d : ℕ) (slots : List SlotContent) → d ≢ die → IsMountedBefore last slots d (length slots) m
          → IsMountedBefore last slots d (length slots) n
      other_die d slots apart old = record {
        live = live_after d ∙ live_still d apart ∙ old.live;
        numbers = mounted.numbers;
        states = λ s content below at. subst (IsStateOf slots (last_in last) s content) (sym (others.used d s apart)) (old.states s content below at);
        held = λ s page v below at is. let is_held = old.held s page v below at is in (is_held.0, others.used d is_held.0 apart ∙ is_held.1);
        others = λ s low. others.used d s apart ∙ old.others s low;
      }

      pub die_mounted : AreMounted geometry contents last (die + 1) n
      die_mounted = record {
        shape = others.shape ∙ before.shape;
        numbers = mounted.numbers;
        live = λ d below. elim (cases_eq d die) [
          | inl same ↦ live_after d ∙ ap (is_live (brought_in die m)) same ∙ live_now ∙ sym (ap is_some (ap (slots_on contents) same ∙ read))
          | inr apart ↦ live_after d ∙ live_still d apart ∙ before.live d (omega (arith, below, apart))
        ];
        out = λ d low. live_after d ∙ live_still d (λ same. omega (arith, low, same)) ∙ before.out d (omega (arith, low));
        mounted = λ d found below is. elim (cases_eq d die) [
          | inl same ↦
              let one : slots ≡ found = same_Some slots found (sym read ∙ sym (ap (slots_on contents) same) ∙ is) in
              subst (λ x. IsMountedBefore last found x (length found) n) (sym same) (subst (λ l. IsMountedBefore last l die (length l) n) one mounted)
          | inr apart ↦ other_die d found apart (before.mounted d found (omega (arith, below, apart)) is)
        ];
        unused = unused_after;
      }
        where
          unused_after : (d s : ℕ) → (die + 1 ≤ d) ⊎ (slots_on contents d ≡ None) → used_at n d s ≡ None
          unused_after d s (inl low) = others.used d s (λ same. omega (arith, low, same)) ∙ before.unused d s (inl (omega (arith, low)))
          unused_after d s (inr none) =
              others.used d s (λ same. none-some slots (sym none ∙ ap (slots_on contents) same ∙ read)) ∙ before.unused d s (inr none)

-- a die that was read is one of them
pub read_die_below : (contents : Contents) (die : ℕ) (slots : List SlotContent) → slots_on contents die ≡ Some slots → die < length contents
read_die_below contents die slots read =
    elim (cases_lt die (length contents)) [
      | inl below ↦ below
      | inr past ↦ absurd (none-some slots (sym (get_or_past contents die None past) ∙ read))
    ]

-- what was found was found on a die that was read
pub slots_of_found : (contents : Contents) (die slot : ℕ) (content : SlotContent) → found_at contents die slot ≡ Some content
    → (slots : List SlotContent) × (slots_on contents die ≡ Some slots) × (slice_get slots slot ≡ Some content)
slots_of_found contents die slot content found = go (slots_on contents die) refl
  where
    go : (o : Option (List SlotContent)) → slots_on contents die ≡ o
        → (slots : List SlotContent) × (slots_on contents die ≡ Some slots) × (slice_get slots slot ≡ Some content)
    go None is = absurd (none-some content (sym (ap (λ o. option_and_then (λ (l : List SlotContent). slice_get l slot) o) is) ∙ found))
    go (Some slots) is = (slots, is, sym (found_on contents die slot slots is) ∙ found)

-- All dies have what was found in them: the mounted content.
module _ (geometry : Geometry) (contents : Contents) (last : List (Option Version)) (m : MapState)
    (lasts : AreLastBefore contents (length contents) 0 last) (all : AreMounted geometry contents last (length contents) m) (whole : IsPageMap m) where
  all_before : (page : Page) → IsLastOf (HasCopy contents page) (last_in last page.0)
  all_before page =
      same_last (HasCopyBefore contents (length contents) 0 page) (HasCopy contents page)
      (λ v d s copy. copy.0)
      (λ v d s copy. let read = slots_of_found contents d s (Copy page v) copy in (copy, inl (read_die_below contents d read.0 read.1)))
      (last_in last page.0) (lasts page)

  number_of : (page : Page) (o : Option Version) → last_in last page.0 ≡ o → (n : Option Version) → get m.versions page.0 ≡ n → n ≡ o
  number_of page None none None is = refl
  number_of page None none (Some v) is = absurd (none-some v (sym none ∙ all.numbers page.0 v is))
  number_of page (Some v) some n is =
      let written = subst (IsLastOf (HasCopy contents page)) some (all_before page) in
      let read = slots_of_found contents written.die written.slot (Copy page v) written.copied in
      let mounted = all.mounted written.die read.0 (read_die_below contents written.die read.0 read.1) read.1 in
      let is_held = mounted.held written.slot page v (slice_get_within read.0 written.slot (Copy page v) read.2) read.2 some in
      sym is ∙ whole.last written.die is_held.0 page v is_held.1

  numbers_are : (page : ℕ) → get m.versions page ≡ last_in last page
  numbers_are page = let p : Page = record { 0 = page } in number_of p (last_in last page) refl (get m.versions page) refl

  unused_at : (die slot : ℕ) → found_at contents die slot ≡ None → (o : Option (List SlotContent)) → slots_on contents die ≡ o → used_at m die slot ≡ None
  unused_at die slot none None is = all.unused die slot (inr is)
  unused_at die slot none (Some slots) is =
      let here : slice_get slots slot ≡ None = sym (found_on contents die slot slots is) ∙ none in
      elim (slice_get_cases slots slot).1 [
        | inl found ↦ absurd (none-some found.0 (sym here ∙ found.2))
        | inr past ↦ (all.mounted die slots (read_die_below contents die slots is) is).others slot past.0
      ]

  pub all_mounted : IsMountedContent geometry contents m
  all_mounted = record {
    shape = all.shape;
    live = λ die. elim (cases_lt die (length contents)) [
      | inl below ↦ all.live die below
      | inr past ↦ all.out die past ∙ sym (ap is_some (get_or_past contents die None past))
    ];
    numbers = λ page. subst (IsLastOf (HasCopy contents page)) (sym (numbers_are page.0)) (all_before page);
    used = λ die slot slots content read found.
        subst (λ (numbers : ℕ → Option Version). IsStateOf slots numbers slot content (used_at m die slot)) (λ i page. sym (numbers_are page) i)
        ((all.mounted die slots (read_die_below contents die slots read) read).states slot content (slice_get_within slots slot content found) found);
    others = λ die slot none. unused_at die slot none (slots_on contents die) refl;
  }
