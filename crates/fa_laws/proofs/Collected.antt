-- How the collector's jobs end: a copy was moved, or a block erased.
use Rattle.fa_laws.proofs.Claiming.{value_other, value_same}
use Rattle.fa_laws.proofs.Ending.{Lands, landed_is_sound}
use Rattle.fa_laws.proofs.Finishing.{passed_all, passed_some}
use Rattle.fa_laws.proofs.Invariant.{AreAnswered, AreTold, Holds, scene_of}
use Rattle.fa_laws.proofs.Keeping.{Keeps, kept_is_sound}
use Rattle.fa_machine.proofs.Maps.{get-insert_cases, get-keep, get-place_other, get-place_same, passed, place_cmp_total, place_same}
use Rattle.fa_laws.proofs.Parts.{held≢stale, kept≢settled}
use Rattle.fa_laws.proofs.Reserving.{among-append}
use Rattle.fa_laws.proofs.Scene.{IsMoving, Scene, Stands, is_settled}
use Rattle.fa_machine.specs.Among.{Among}
use Rattle.fa_machine.specs.Collecting.{is_in_block}
use Rattle.fa_machine.specs.Copies.{is_current, is_reserved_slot}
use Rattle.fa_machine.specs.Maps.{Numbers, keep, place_cmp}
use Rattle.fa_machine.specs.State.{OpenBatch, WaitingProgram}
use Rattle.fa_machine.specs.Taking.{erase_ends, move_ends, stays, stepped_on, with_answer}
use Rattle.fa_machine.specs.World.{Due, Told, World, with_value_at}
use Rattle.fa_machine.specs.declared.places.Used.{Used}
use Rattle.fa_machine.specs.declared.places.Used.TheVariants.{Held, Reserved, Stale}
use Rattle.fa_machine.specs.declared.places.Version.{Version}
use Rattle.fa_types.specs.declared.numbers.Page.{Page}
use Rattle.std.proofs.Common.{Bool, List, None, Option, Some, [], ap, false, inl, inr, not, refl, subst, sym, true, ℕ, ◌++◌, ◌∙◌, ◌∷◌}
use Rattle.std.proofs.Common.{◌≡◌, ◌≤◌, ◌⊎◌}
use Rattle.std.proofs.lemmas.Bool.{and_left, cases_eq, ne_eqb, not_from_false, or_left, or_right}
use Rattle.std.proofs.lemmas.Option.{none-some}
use Rattle.std.specs.FinMap.{FinMap, get, insert}
use Rattle.std.specs.Prelude.{if◌then◌else◌, ◌&&◌, ◌==◌}

stale_at : (used : FinMap place_cmp Used) (die from : ℕ) → (d k : ℕ)
    → (get (insert used (die, from) Stale) (d, k) ≡ get used (d, k)) ⊎ ((d ≡ die) × (k ≡ from) × (get (insert used (die, from) Stale) (d, k) ≡ Some Stale))
stale_at used die from d k =
    elim (cases_eq d die) [
      | inr away ↦ inl (get-place_other used die from Stale d k (λ e f. away e))
      | inl same ↦ elim (cases_eq k from) [
        | inr away ↦ inl (get-place_other used die from Stale d k (λ e f. away f))
        | inl here ↦ inr (same, here, (λ i. get (insert used (die, from) Stale) (same i, here i)) ∙ get-place_same used die from Stale)
      ]
    ]

final_at : (used : FinMap place_cmp Used) (final : Used) (die to : ℕ) → (d k : ℕ)
    → (get (insert used (die, to) final) (d, k) ≡ get used (d, k)) ⊎ ((d ≡ die) × (k ≡ to) × (get (insert used (die, to) final) (d, k) ≡ Some final))
final_at used final die to d k =
    elim (cases_eq d die) [
      | inr away ↦ inl (get-place_other used die to final d k (λ e f. away e))
      | inl same ↦ elim (cases_eq k to) [
        | inr away ↦ inl (get-place_other used die to final d k (λ e f. away f))
        | inl here ↦ inr (same, here, (λ i. get (insert used (die, to) final) (same i, here i)) ∙ get-place_same used die to final)
      ]
    ]

module _ (v : World) (h : Holds v) (die : ℕ) (over : v.works die ≡ None) (page : Page) (version : Version) (from to : ℕ)
    (moving : IsMoving (scene_of v).bytes (scene_of v).places die page.0 version from to)
    (stands : Stands (scene_of v).bytes page.0 version die to)
    (calm : (p : WaitingProgram) → Among p v.core.waiting → p.die ≡ die → p.slot ≡ to → ⊥) where
  abbrev staled : FinMap place_cmp Used
  staled = insert v.core.page_map.used (die, from) Stale

  -- a slot that was kept is not the one that was moved
  not_from : (d k : ℕ) → get v.core.page_map.used (d, k) ≡ Some Reserved → get staled (d, k) ≡ get v.core.page_map.used (d, k)
  not_from d k e =
      elim (stale_at v.core.page_map.used die from d k) [
        | inl same ↦ same
        | inr found ↦ absurd (kept≢settled (get v.core.page_map.used (die, from)) ((λ i. get v.core.page_map.used (sym found.0 i, sym found.1 i)) ∙ e) moving.settled)
      ]

  held_staled : (d k : ℕ) (p : Page) (u : Version) → get staled (d, k) ≡ Some (Held p u) → get v.core.page_map.used (d, k) ≡ Some (Held p u)
  held_staled d k p u e =
      elim (stale_at v.core.page_map.used die from d k) [
        | inl same ↦ sym same ∙ e
        | inr found ↦ absurd (held≢stale p u (sym e ∙ found.2))
      ]

  settled_staled : (d k : ℕ) → is_settled (get v.core.page_map.used (d, k)) ≡ true → is_settled (get staled (d, k)) ≡ true
  settled_staled d k e =
      elim (stale_at v.core.page_map.used die from d k) [
        | inl same ↦ ap is_settled same ∙ e
        | inr found ↦ ap is_settled found.2
      ]

  keeps : Keeps (scene_of v) (λ d k. get staled (d, k))
  keeps = record {
    kept = λ d k e. not_from d k e ∙ e;
    held = held_staled;
    settled = λ d work e k s. settled_staled d k s;
  }

  abbrev staled_scene : Scene
  staled_scene = record (scene_of v) { places = record ((scene_of v).places) { used = λ d k. get staled (d, k) } }

  lands : (final : Used) → (final ≡ Stale) ⊎ (final ≡ Held page version) → Lands staled_scene die to final (λ d k. get (insert staled (die, to) final) (d, k))
  lands final which = record {
    kept = not_from die to moving.kept ∙ moving.kept;
    placed = final_at staled final die to;
    alone = moving.alone;
    calm = calm;
    free = over;
    finish = elim which [
      | inl stale ↦ inl stale
      | inr held ↦ inr (page, version, held, record { cell = stands; below = moving.below })
    ];
  }

  landed_holds : (final : Used) → (final ≡ Stale) ⊎ (final ≡ Held page version) → (stepped : Numbers)
      → Holds (record v { core = record (v.core) { page_map = record (v.core.page_map) { used = insert staled (die, to) final }; stepped = stepped } })
  landed_holds final which stepped = record {
    sound = landed_is_sound staled_scene (kept_is_sound (scene_of v) h.sound (λ d k. get staled (d, k)) keeps) die to final
        (λ d k. get (insert staled (die, to) final) (d, k)) (lands final which);
    jobs = h.jobs;
    claims = h.claims;
    told = h.told;
    ordered = h.ordered;
    plain = h.plain;
    unwritten = h.unwritten;
    answered = h.answered;
  }

  one_of_both : (b : Bool) → ((if b then Held (record { 0 = page.0 }) version else Stale) ≡ Stale) ⊎ ((if b then Held (record { 0 = page.0 }) version else Stale) ≡ Held page version)
  one_of_both true = inr refl
  one_of_both false = inl refl

  pub move_ends_holds : Holds (record v { core = stepped_on die (move_ends die page.0 version from to v.core) })
  move_ends_holds = landed_holds (if is_current v.core.page_map page.0 die from then Held (record { 0 = page.0 }) version else Stale)
      (one_of_both (is_current v.core.page_map page.0 die from)) (insert v.core.stepped die tt)

module _ (v : World) (h : Holds v) (die : ℕ) (over : v.works die ≡ None) (block : ℕ) where
  abbrev remains : FinMap place_cmp Used
  remains = keep (stays v.core.page_map die block) v.core.page_map.used

  remains_at : (d k : ℕ) → get remains (d, k) ≡ passed (stays v.core.page_map die block (d, k)) (get v.core.page_map.used (d, k))
  remains_at d k = get-keep place_cmp_total place_same (stays v.core.page_map die block) v.core.page_map.used (d, k)

  kept_remains : (d k : ℕ) → get v.core.page_map.used (d, k) ≡ Some Reserved → get remains (d, k) ≡ Some Reserved
  kept_remains d k e =
      remains_at d k ∙ ap (passed (stays v.core.page_map die block (d, k))) e
      ∙ ap (λ b. if b then Some Reserved else None) (or_right (not (d == die && is_in_block v.core.page_map block k)) true refl)

  elsewhere_remains : (d k : ℕ) → (d ≡ die → ⊥) → get remains (d, k) ≡ get v.core.page_map.used (d, k)
  elsewhere_remains d k apart =
      remains_at d k
      ∙ passed_all (stays v.core.page_map die block (d, k)) (get v.core.page_map.used (d, k))
      (λ u e. or_left (not (d == die && is_in_block v.core.page_map block k)) (is_reserved_slot (Some u))
      (not_from_false _ (and_left (d == die) (is_in_block v.core.page_map block k) (ne_eqb d die apart))))

  erase_keeps : Keeps (scene_of v) (λ d k. get remains (d, k))
  erase_keeps = record {
    kept = kept_remains;
    held = λ d k p u e. passed_some (stays v.core.page_map die block (d, k)) (get v.core.page_map.used (d, k)) (Held p u) (sym (remains_at d k) ∙ e);
    settled = λ d work e k s. ap is_settled (elsewhere_remains d k (λ same. none-some work (sym over ∙ ap v.works (sym same) ∙ e))) ∙ s;
  }

  pub erase_ends_holds : Holds (record v { core = stepped_on die (erase_ends die block v.core) })
  erase_ends_holds = record {
    sound = kept_is_sound (scene_of v) h.sound (λ d k. get remains (d, k)) erase_keeps;
    jobs = h.jobs;
    claims = h.claims;
    told = h.told;
    ordered = h.ordered;
    plain = h.plain;
    unwritten = h.unwritten;
    answered = h.answered;
  }

-- a read answered
module _ (v : World) (h : Holds v) (die batch page : ℕ) (version : Version) (bytes : List ℕ) (same : bytes ≡ (v.due die).bytes)
    (right : bytes ≡ v.payloads page version.seq.0) (low : version.seq.0 ≤ v.core.last)
    (since : (b : OpenBatch) → get v.core.batches batch ≡ Some b → v.admitted batch ≤ (v.due die).since) where
  abbrev values_then : ℕ → ℕ → Due
  values_then = with_value_at batch page (v.due die) v.values

  abbrev told_then : List Told
  told_then = v.told ++ (record { page = page; seq = version.seq.0; bytes = bytes }) ∷ []

  are_told : AreTold v.payloads v.core.last told_then
  are_told t i =
      elim (among-append t v.told ((record { page = page; seq = version.seq.0; bytes = bytes }) ∷ []) i) [
        | inl before ↦ h.told t before
        | inr new ↦ elim new [
          | inl is ↦ subst (λ (u : Told). (u.bytes ≡ v.payloads u.page u.seq) × (u.seq ≤ v.core.last)) is (right, low)
          | inr rest ↦ absurd rest
        ]
      ]

  -- an answer of before is what its page is due then too, where another page is answered
  other_answer : (other p : ℕ) (bs : List ℕ) → (other ≡ batch → p ≡ page → ⊥) → (bs ≡ (v.values other p).bytes) × (v.admitted other ≤ (v.values other p).since)
      → (bs ≡ (values_then other p).bytes) × (v.admitted other ≤ (values_then other p).since)
  other_answer other p bs apart before =
      subst (λ (d : Due). (bs ≡ d.bytes) × (v.admitted other ≤ d.since)) (sym (value_other batch page (v.due die) v.values other p apart)) before

  this_answer : (b : OpenBatch) → get v.core.batches batch ≡ Some b → (bytes ≡ (values_then batch page).bytes) × (v.admitted batch ≤ (values_then batch page).since)
  this_answer b e =
      subst (λ (d : Due). (bytes ≡ d.bytes) × (v.admitted batch ≤ d.since)) (sym (value_same batch page (v.due die) v.values)) (same, since b e)

  answered_open : (b : OpenBatch) → get v.core.batches batch ≡ Some b
      → AreAnswered (insert v.core.batches batch (record b { answers = insert b.answers page bytes })) v.admitted values_then v.works v.due v.moment
  answered_open b is = record {
    since = λ other c e. elim (get-insert_cases v.core.batches batch (record b { answers = insert b.answers page bytes }) other c e) [
      | inl made ↦ subst (λ (n : ℕ). v.admitted n ≤ v.moment) (sym made.0) (h.answered.since batch b is)
      | inr was ↦ h.answered.since other c was.0
    ];
    answers = λ other c p bs e f. elim (get-insert_cases v.core.batches batch (record b { answers = insert b.answers page bytes }) other c e) [
      | inr was ↦ other_answer other p bs (λ e f. was.1 e) (h.answered.answers other c p bs was.0 f)
      | inl made ↦
          let found : get (insert b.answers page bytes) p ≡ Some bs = ap (λ (k : OpenBatch). get k.answers p) made.1 ∙ f in
          subst (λ (n : ℕ). (bs ≡ (values_then n p).bytes) × (v.admitted n ≤ (values_then n p).since)) (sym made.0)
          (elim (get-insert_cases b.answers page bytes p bs found) [
            | inl here ↦ subst (λ (t : ℕ × List ℕ). (t.1 ≡ (values_then batch t.0).bytes) × (v.admitted batch ≤ (values_then batch t.0).since))
                {x = (page, bytes)} {y = (p, bs)} (λ i. (sym here.0 i, here.1 i)) (this_answer b is)
            | inr before ↦ other_answer batch p bs (λ e f. before.1 f) (h.answered.answers batch b p bs is before.0)
          ])
    ];
    reading = λ d k bt p u s c e flight f. elim (get-insert_cases v.core.batches batch (record b { answers = insert b.answers page bytes }) bt.0 c f) [
      | inl made ↦ h.answered.reading d k bt p u s b e flight (ap (get v.core.batches) made.0 ∙ is)
      | inr was ↦ h.answered.reading d k bt p u s c e flight was.0
    ];
  }

  answered_closed : get v.core.batches batch ≡ None → AreAnswered v.core.batches v.admitted values_then v.works v.due v.moment
  answered_closed is = record {
    since = h.answered.since;
    answers = λ other c p bs e f.
        other_answer other p bs (λ here there. none-some c (sym is ∙ ap (get v.core.batches) (sym here) ∙ e)) (h.answered.answers other c p bs e f);
    reading = h.answered.reading;
  }

  answer_holds : (b : Option OpenBatch) → get v.core.batches batch ≡ b
      → Holds (record v { core = with_answer batch page bytes b v.core; values = values_then; told = told_then })
  answer_holds None is = record {
    sound = h.sound;
    jobs = h.jobs;
    claims = h.claims;
    told = are_told;
    ordered = h.ordered;
    plain = h.plain;
    unwritten = h.unwritten;
    answered = answered_closed is;
  }
  answer_holds (Some b) is = record {
    sound = h.sound;
    jobs = h.jobs;
    claims = h.claims;
    told = are_told;
    ordered = h.ordered;
    plain = h.plain;
    unwritten = h.unwritten;
    answered = answered_open b is;
  }

  pub read_ends_holds : Holds (record v { core = with_answer batch page bytes (get v.core.batches batch) v.core; values = values_then; told = told_then })
  read_ends_holds = answer_holds (get v.core.batches batch) refl
