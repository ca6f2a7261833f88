-- The lists of a plain page map follow its state.
use Rattle.std.proofs.Common.{◌≡◌, ℕ, ◌+◌, ◌*◌, ◌-◌, ◌/◌, ◌<◌, ◌≤◌, ◌==◌, ◌&&◌, ◌||◌, not, suc, zero, if◌then◌else◌, Bool, true, false, List, Option, Some, None, length, get_or, set, replicate}
use Rattle.std.proofs.Common.{ap, cond, inl, inr, refl, sym, subst, ◌∙◌, arith}
use Rattle.std.proofs.lemmas.Bool.{cases_eq, cond-false}
use Rattle.std.proofs.lemmas.List.{get_or-set_same, get_or-set_other, length-replicate, length-set}
use Rattle.std.proofs.lemmas.List.Sums.{count_by-le-length, get_or-le-sum_by, sum_by-cons, sum_by-set}
use Rattle.std.specs.Cmp.{nat_cmp_total}
use Rattle.std.specs.FinMap.{get, get-empty, insert, len, len-empty, len-insert, len-remove, remove}
use Rattle.std.specs.Ordering.{nat_cmp}
use Rattle.std.specs.Prelude.{count_by, is_some, option_map}
use Rattle.fa_types.specs.declared.geometry.Geometry.{Geometry}
use Rattle.fa_types.specs.declared.numbers.Page.{Page}
use Rattle.fa_machine.specs.declared.places.Used.{Used}
use Rattle.fa_machine.specs.declared.places.Used.TheVariants.{Reserved, Held, Stale}
use Rattle.fa_machine.specs.declared.places.Version.{Version}
use Rattle.fa_machine.specs.Copies.{is_held_slot, is_reserved_slot}
use Rattle.fa_machine.specs.State.{MapState, is_live, used_at}
use Rattle.fa_machine.specs.Writing.{without_page}
use Rattle.fa_machine.proofs.Maps.{passed, get-insert_same, get-insert_other, get-remove_same, get-remove_other}
use Rattle.fa_map_calls.specs.Changes.{new_map, with_used, made_current, outdated, renewed, brought_in, dropped, without_block, MayHold, MayKeep}
use Rattle.fa_map_calls.specs.Plain.{IsPlain, die_slots, slot_at}
use Rattle.fa_map_calls.specs.Slots.{IsPageMap}
use Rattle.fa_map_calls.proofs.Changed.{place_cases, used-new, used-same, used-other, used-outdated, used-current, used-renewed, used-dropped, used-erased}
use Rattle.fa_map_calls.proofs.Indices.{index_apart, index_fits}
use Rattle.fa_map_calls.proofs.Written.{repeated}
use Rattle.fa_map_calls.proofs.Kept.{whole-new, whole-used, whole-current, whole-renewed, whole-kept, whole-in, whole-dropped, whole-erased}

-- a slot that was written, and the others
table_same : (table : List (Option Used)) (die slot d s n : ℕ) (u : Used) → die * n + slot < length table → d ≡ die → s ≡ slot
    → slot_at (set table (die * n + slot) (Some u)) (d * n + s) ≡ Some u
table_same table die slot d s n u fits a b =
    (λ i. slot_at (set table (die * n + slot) (Some u)) (a i * n + b i)) ∙ get_or-set_same table (die * n + slot) (Some u) None fits

table_other : (table : List (Option Used)) (die slot d s n : ℕ) (u : Used) → slot < n → s < n → (d ≡ die → s ≡ slot → ⊥)
    → slot_at (set table (die * n + slot) (Some u)) (d * n + s) ≡ slot_at table (d * n + s)
table_other table die slot d s n u a b apart =
    get_or-set_other table (die * n + slot) (d * n + s) (Some u) None (λ e. let at = index_apart d s die slot n b a e in apart at.0 at.1)

abbrev one : Bool → ℕ
one b = cond b 1 0

pub plain_new : (g : Geometry) → IsPlain (new_map g) g (replicate g.dies false) 0 (replicate g.pages None) (replicate (g.dies * die_slots g) None)
plain_new g = record {
  whole = whole-new g;
  geometry = refl;
  dies = length-replicate g.dies false;
  live = λ die. ap is_some (get-empty nat_cmp die) ∙ sym (repeated g.dies die false);
  live_dies = sym (len-empty nat_cmp (Unit {0}));
  counted = none_live g.dies;
  pages = length-replicate g.pages None;
  numbers = λ page. get-empty nat_cmp page ∙ sym (repeated g.pages page None);
  slots = length-replicate (g.dies * die_slots g) None;
  used = λ die slot below. used-new g die slot ∙ sym (repeated (g.dies * die_slots g) (die * die_slots g + slot) None);
}
  where
    none_live : (n : ℕ) → 0 ≡ count_by (λ b. b) (replicate n false)
    none_live zero = refl
    none_live (suc n) =
        let step = sum_by-cons one false (replicate n false) in
        let rest = none_live n in
        omega (arith, step, rest)

-- one map told in two ways
pub told : (g : Geometry) (on : List Bool) (versions : List (Option Version)) (m m' : MapState) (count count' : ℕ) (t t' : List (Option Used))
    → m' ≡ m → count' ≡ count → t' ≡ t → IsPlain m g on count versions t → IsPlain m' g on count' versions t'
told g on versions m m' count count' t t' a b c plain =
    subst (λ k. IsPlain k g on count' versions t') (sym a)
    (subst (λ k. IsPlain m g on k versions t') (sym b)
    (subst (λ k. IsPlain m g on count versions k) (sym c) plain))

module _ (m : MapState) (g : Geometry) (on : List Bool) (count : ℕ) (versions : List (Option Version)) (table : List (Option Used)) (plain : IsPlain m g on count versions table) where
  -- the slots of the state are those of the geometry
  slots_are : m.geometry.blocks * m.geometry.slots ≡ die_slots g
  slots_are = ap die_slots plain.geometry

  pub live_fits : (die : ℕ) → is_live m die ≡ true → die < g.dies
  live_fits die h = subst (λ (k : Geometry). die < k.dies) plain.geometry (plain.whole.live die h)

  pub slot_fits : (die slot : ℕ) → is_live m die ≡ true → slot < m.geometry.blocks * m.geometry.slots → die * die_slots g + slot < length table
  slot_fits die slot h fits =
      let inside = index_fits die slot g.dies (die_slots g) (live_fits die h) (subst (λ k. slot < k) slots_are fits) in
      subst (λ k. die * die_slots g + slot < k) (sym plain.slots) inside

  plain_set : (die slot : ℕ) (u : Used) → is_live m die ≡ true → slot < m.geometry.blocks * m.geometry.slots → IsPageMap (with_used die slot u m)
      → IsPlain (with_used die slot u m) g on count versions (set table (die * die_slots g + slot) (Some u))
  plain_set die slot u h fits whole = record {
    whole = whole;
    geometry = plain.geometry;
    dies = plain.dies;
    live = plain.live;
    live_dies = plain.live_dies;
    counted = plain.counted;
    pages = plain.pages;
    numbers = plain.numbers;
    slots = length-set table (die * die_slots g + slot) (Some u) ∙ plain.slots;
    used = λ d s below. elim (place_cases d s die slot) [
      | inl at ↦
          (λ i. used_at (with_used die slot u m) (at.0 i) (at.1 i)) ∙ used-same m die slot u
          ∙ sym (table_same table die slot d s (die_slots g) u (slot_fits die slot h fits) at.0 at.1)
      | inr apart ↦
          used-other m die slot u d s apart ∙ plain.used d s below
          ∙ sym (table_other table die slot d s (die_slots g) u (subst (λ k. slot < k) slots_are fits) below apart)
    ];
  }

  pub plain_used : (die slot : ℕ) (u : Used) → is_live m die ≡ true → slot < m.geometry.blocks * m.geometry.slots → is_held_slot (Some u) ≡ false
      → IsPlain (with_used die slot u m) g on count versions (set table (die * die_slots g + slot) (Some u))
  plain_used die slot u h fits bare = plain_set die slot u h fits (whole-used m die slot u plain.whole h fits bare)

  pub plain_kept : (page : Page) (version : Version) (die slot : ℕ) → MayKeep m page version die slot
      → IsPlain (with_used die slot (Held page version) m) g on count versions (set table (die * die_slots g + slot) (Some (Held page version)))
  plain_kept page version die slot may =
      plain_set die slot (Held page version) may.live may.slot_fits (whole-kept m page version die slot plain.whole may)

  -- a page's place in the list of pages
  page_at : (page : ℕ) → page < m.geometry.pages → page < length versions
  page_at page fits = subst (λ k. page < k) (sym plain.pages) (subst (λ (k : Geometry). page < k.pages) plain.geometry fits)

  numbers_set : (page : ℕ) (version : Version) → page < m.geometry.pages
      → (q : ℕ) → get (insert m.versions page version) q ≡ get_or (set versions page (Some version)) q None
  numbers_set page version fits q = elim (cases_eq q page) [
    | inl is ↦
        ap (get (insert m.versions page version)) is ∙ get-insert_same m.versions page version
        ∙ sym (ap (λ k. get_or (set versions page (Some version)) k None) is ∙ get_or-set_same versions page (Some version) None (page_at page fits))
    | inr apart ↦
        get-insert_other m.versions page version q apart ∙ plain.numbers q
        ∙ sym (get_or-set_other versions page q (Some version) None apart)
  ]

  pub plain_renewed : (page : ℕ) (version : Version) (t : List (Option Used)) → page < m.geometry.pages → length t ≡ length table
      → ((d s : ℕ) → s < die_slots g → slot_at t (d * die_slots g + s) ≡ option_map (without_page page) (slot_at table (d * die_slots g + s)))
      → IsPlain (renewed page version m) g on count (set versions page (Some version)) t
  plain_renewed page version t fits long each = record {
    whole = whole-renewed m page version plain.whole fits;
    geometry = plain.geometry;
    dies = plain.dies;
    live = plain.live;
    live_dies = plain.live_dies;
    counted = plain.counted;
    pages = length-set versions page (Some version) ∙ plain.pages;
    numbers = numbers_set page version fits;
    slots = long ∙ plain.slots;
    used = λ d s below. used-renewed m page version d s ∙ ap (option_map (without_page page)) (plain.used d s below) ∙ sym (each d s below);
  }

  pub plain_current : (page : Page) (version : Version) (die slot : ℕ) (t : List (Option Used)) → MayHold m page version die slot
      → length t ≡ length table → ((d s : ℕ) → s < die_slots g → slot_at t (d * die_slots g + s) ≡ option_map (outdated page.0 version) (slot_at table (d * die_slots g + s)))
      → IsPlain (made_current page version die slot m) g on count (set versions page.0 (Some version)) (set t (die * die_slots g + slot) (Some (Held page version)))
  plain_current page version die slot t may long each = record {
    whole = whole-current m page version die slot plain.whole may;
    geometry = plain.geometry;
    dies = plain.dies;
    live = plain.live;
    live_dies = plain.live_dies;
    counted = plain.counted;
    pages = length-set versions page.0 (Some version) ∙ plain.pages;
    numbers = numbers_set page.0 version may.page_fits;
    slots = length-set t (die * die_slots g + slot) (Some (Held page version)) ∙ long ∙ plain.slots;
    used = λ d s below. elim (place_cases d s die slot) [
      | inl at ↦
          (λ i. used_at (made_current page version die slot m) (at.0 i) (at.1 i)) ∙ used-current m page version die slot
          ∙ sym (table_same t die slot d s (die_slots g) (Held page version) (subst (λ k. die * die_slots g + slot < k) (sym long) (slot_fits die slot may.live may.slot_fits)) at.0 at.1)
      | inr apart ↦
          used-outdated m page version die slot d s apart ∙ ap (option_map (outdated page.0 version)) (plain.used d s below)
          ∙ sym (table_other t die slot d s (die_slots g) (Held page version) (subst (λ k. slot < k) slots_are may.slot_fits) below apart ∙ each d s below)
    ];
  }

  -- a die's place in the list of dies
  die_at : (die : ℕ) → die < g.dies → die < length on
  die_at die fits = subst (λ k. die < k) (sym plain.dies) fits

  pub few_live : count ≤ g.dies
  few_live = let most = count_by-le-length (λ b. b) on in omega (arith, most, plain.counted, plain.dies)

  -- a die that is live counts
  pub live_counts : (die : ℕ) → die < g.dies → get_or on die false ≡ true → 1 ≤ count
  live_counts die fits is =
      let part = get_or-le-sum_by one on die false (die_at die fits) in
      let whole = ap one is in
      omega (arith, part, whole, plain.counted)

  pub plain_in : (die : ℕ) → die < g.dies → is_live m die ≡ false → IsPlain (brought_in die m) g (set on die true) (count + 1) versions table
  plain_in die fits off = record {
    whole = whole-in m die plain.whole (subst (λ (k : Geometry). die < k.dies) (sym plain.geometry) fits);
    geometry = plain.geometry;
    dies = length-set on die true ∙ plain.dies;
    live = λ d. elim (cases_eq d die) [
      | inl is ↦
          ap is_some (ap (get (insert m.live die tt)) is ∙ get-insert_same m.live die tt)
          ∙ sym (ap (λ k. get_or (set on die true) k false) is ∙ get_or-set_same on die true false (die_at die fits))
      | inr apart ↦
          ap is_some (get-insert_other m.live die tt d apart) ∙ plain.live d ∙ sym (get_or-set_other on die d true false apart)
    ];
    live_dies = ap (λ k. k + 1) plain.live_dies ∙ sym (len-insert nat_cmp_total m.live die tt ∙ cond-false (is_live m die) (len m.live) (len m.live + 1) off);
    counted =
        let change = sum_by-set one on die true false (die_at die fits) in
        let was = ap one (sym (plain.live die) ∙ off) in
        omega (arith, change, was, plain.counted);
    pages = plain.pages;
    numbers = plain.numbers;
    slots = plain.slots;
    used = plain.used;
  }

  pub plain_dropped : (die : ℕ) (t : List (Option Used)) → die < g.dies → length t ≡ length table
      → ((d s : ℕ) → s < die_slots g → slot_at t (d * die_slots g + s) ≡ (if d == die then None else slot_at table (d * die_slots g + s)))
      → IsPlain (dropped die m) g (set on die false) (if get_or on die false then count - 1 else count) versions t
  plain_dropped die t fits long each = record {
    whole = whole-dropped m die plain.whole;
    geometry = plain.geometry;
    dies = length-set on die false ∙ plain.dies;
    live = λ d. elim (cases_eq d die) [
      | inl is ↦
          ap is_some (ap (get (remove m.live die)) is ∙ get-remove_same m.live die)
          ∙ sym (ap (λ k. get_or (set on die false) k false) is ∙ get_or-set_same on die false false (die_at die fits))
      | inr apart ↦
          ap is_some (get-remove_other m.live die d apart) ∙ plain.live d ∙ sym (get_or-set_other on die d false false apart)
    ];
    live_dies = (λ i. if sym (plain.live die) i then plain.live_dies i - 1 else plain.live_dies i) ∙ sym (len-remove nat_cmp_total m.live die);
    counted = fewer (get_or on die false) refl;
    pages = plain.pages;
    numbers = plain.numbers;
    slots = long ∙ plain.slots;
    used = λ d s below.
        used-dropped m die d s ∙ ap (passed (λ used. not (d == die))) (plain.used d s below) ∙ cut (d == die) (slot_at table (d * die_slots g + s))
        ∙ sym (each d s below);
  }
    where
      fewer : (b : Bool) → get_or on die false ≡ b → (if b then count - 1 else count) ≡ count_by (λ b. b) (set on die false)
      fewer true is =
          let change = sum_by-set one on die false false (die_at die fits) in
          let was = ap one is in
          omega (arith, change, was, plain.counted)
      fewer false is =
          let change = sum_by-set one on die false false (die_at die fits) in
          let was = ap one is in
          omega (arith, change, was, plain.counted)

      cut : (b : Bool) (o : Option Used) → passed (λ used. not b) o ≡ (if b then None else o)
      cut true None = refl
      cut true (Some u) = refl
      cut false None = refl
      cut false (Some u) = refl

  pub plain_erased : (die block : ℕ) (t : List (Option Used)) → length t ≡ length table
      → ((d s : ℕ) → s < die_slots g → slot_at t (d * die_slots g + s)
      ≡ (if (d == die && s / g.slots == block) && not (is_reserved_slot (slot_at table (d * die_slots g + s))) then None else slot_at table (d * die_slots g + s)))
      → IsPlain (without_block die block m) g on count versions t
  plain_erased die block t long each = record {
    whole = whole-erased m die block plain.whole;
    geometry = plain.geometry;
    dies = plain.dies;
    live = plain.live;
    live_dies = plain.live_dies;
    counted = plain.counted;
    pages = plain.pages;
    numbers = plain.numbers;
    slots = long ∙ plain.slots;
    used = λ d s below.
        used-erased m die block d s ∙ ap (passed _) (plain.used d s below)
        ∙ ap (λ (k : Geometry). passed (λ used. not (d == die && s / k.slots == block) || is_reserved_slot (Some used)) (slot_at table (d * die_slots g + s))) plain.geometry
        ∙ cut (d == die && s / g.slots == block) (slot_at table (d * die_slots g + s))
        ∙ sym (each d s below);
  }
    where
      cut : (b : Bool) (o : Option Used) → passed (λ used. not b || is_reserved_slot (Some used)) o ≡ (if b && not (is_reserved_slot o) then None else o)
      cut true None = refl
      cut true (Some Reserved) = refl
      cut true (Some (Held p v)) = refl
      cut true (Some Stale) = refl
      cut false None = refl
      cut false (Some u) = refl

  -- another list in which each slot is the same
  pub plain_alike : (t : List (Option Used)) → length t ≡ length table
      → ((d s : ℕ) → s < die_slots g → slot_at t (d * die_slots g + s) ≡ slot_at table (d * die_slots g + s)) → IsPlain m g on count versions t
  plain_alike t long each = record {
    whole = plain.whole;
    geometry = plain.geometry;
    dies = plain.dies;
    live = plain.live;
    live_dies = plain.live_dies;
    counted = plain.counted;
    pages = plain.pages;
    numbers = plain.numbers;
    slots = long ∙ plain.slots;
    used = λ d s below. plain.used d s below ∙ sym (each d s below);
  }
