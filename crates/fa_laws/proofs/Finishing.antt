-- Done keeps what holds: first the job is over, then comes what its outcome changes.
use Rattle.fa_laws.proofs.Admitting.{one_value_other, one_value_same}
use Rattle.fa_laws.proofs.Ending.{mark_other, marked, marked_is_sound}
use Rattle.fa_laws.proofs.Invariant.{AreAt, AreInside, Holds, later, owned_claim, owned_of, scene_of}
use Rattle.fa_laws.proofs.Keeping.{worked_is_sound}
use Rattle.fa_laws.proofs.Leaving.{Drops, dropped_is_sound}
use Rattle.fa_machine.proofs.Lists.{among-filter, tally-filter-le}
use Rattle.fa_machine.proofs.Maps.{get-change, get-keep, get-remove_other, get-remove_same, get-remove_some, has_some, nat_same, passed}
use Rattle.fa_machine.proofs.Maps.{place_cmp_total, place_same}
use Rattle.fa_laws.proofs.Scene.{IsToCome, Owned, Stands, program_is_at, writes}
use Rattle.fa_machine.specs.Among.{Among}
use Rattle.fa_machine.specs.Conditions.{drop_die}
use Rattle.fa_machine.specs.Maps.{change, keep, place_cmp}
use Rattle.fa_machine.specs.State.{OpenClaim, Reservation, WaitingProgram}
use Rattle.fa_machine.specs.declared.places.Target.{Target}
use Rattle.fa_machine.specs.Taking.{mark, mark_claim, program_ends}
use Rattle.fa_machine.specs.World.{Work, World, with_value}
use Rattle.fa_machine.specs.declared.jobs.Flight.{Flight}
use Rattle.fa_machine.specs.declared.places.Copying.{Copying}
use Rattle.fa_machine.specs.declared.places.Used.{Used}
use Rattle.fa_machine.specs.declared.places.Version.{Version}
use Rattle.std.proofs.Common.{Bool, List, None, Option, Some, [], ap, arith, eq-eqb, false, inl, inr, map, not, refl, subst, suc, sym, true, ℕ}
use Rattle.std.proofs.Common.{◌<◌, ◌∙◌, ◌∷◌, ◌≡◌, ◌≤◌}
use Rattle.std.proofs.lemmas.Bool.{cases_eq, ne_eqb, not-true, not_from_false, not_from_true, true≢false}
use Rattle.std.proofs.lemmas.Option.{none-some, same_Some}
use Rattle.std.specs.Cmp.{nat_cmp_total}
use Rattle.std.specs.FinMap.{FinMap, contains_key, get, remove}
use Rattle.std.specs.Ordering.{nat_cmp}
use Rattle.std.specs.Prelude.{filter, if◌then◌else◌, is_some, option_and_then, option_map, ◌==◌}

pub passed_all : {X : Type 0} (test : X → Bool) (o : Option X) → ((x : X) → o ≡ Some x → test x ≡ true) → passed test o ≡ o
passed_all test None all = refl
passed_all test (Some x) all = ap (λ b. if b then Some x else None) (all x refl)

pub passed_none : {X : Type 0} (test : X → Bool) (o : Option X) → ((x : X) → test x ≡ false) → passed test o ≡ None
passed_none test None all = refl
passed_none test (Some x) all = ap (λ b. if b then Some x else None) (all x)

passed_some_if : {X : Type 0} (b : Bool) (x y : X) → (if b then Some x else None) ≡ Some y → Some x ≡ Some y
passed_some_if true x y e = e
passed_some_if false x y e = absurd (none-some y e)

pub passed_some : {X : Type 0} (test : X → Bool) (o : Option X) (y : X) → passed test o ≡ Some y → o ≡ Some y
passed_some test None y e = e
passed_some test (Some x) y e = passed_some_if (test x) x y e

some_has : {X : Type 0} (o : Option X) (x : X) → o ≡ Some x → is_some o ≡ true
some_has o x e = ap is_some e

-- the world once the job of a die is over
abbrev pub ended : ℕ → World → World
ended die w = record w {
  core = record (w.core) { jobs = remove w.core.jobs die };
  works = with_value die None w.works;
  moment = suc w.moment;
}

no_works : (works : ℕ → Option Work) (die d : ℕ) (k : Work) → with_value die None works d ≡ Some k → (works d ≡ Some k) × (d ≡ die → ⊥)
no_works works die d k e =
    elim (cases_eq d die) [
      | inl same ↦ absurd (none-some k (sym (one_value_same die None works d same) ∙ e))
      | inr apart ↦ (sym (one_value_other die None works d apart) ∙ e, apart)
    ]

jobs_remove : (jobs : FinMap nat_cmp Flight) (works : ℕ → Option Work) (die : ℕ) → AreAt jobs works → AreAt (remove jobs die) (with_value die None works)
jobs_remove jobs works die at d =
    elim (cases_eq d die) [
      | inl same ↦ ap (get (remove jobs die)) same ∙ get-remove_same jobs die
          ∙ sym (ap (option_map {T = Work} (λ k. k.job.flight)) (one_value_same die None works d same))
      | inr apart ↦ get-remove_other jobs die d apart ∙ at d ∙ sym (ap (option_map {T = Work} (λ k. k.job.flight)) (one_value_other die None works d apart))
    ]

fewer_written : (works : ℕ → Option Work) (die d slot : ℕ) → writes (with_value die None works d) slot ≤ writes (works d) slot
fewer_written works die d slot =
    elim (cases_eq d die) [
      | inl same ↦ let e = ap (λ o. writes o slot) (one_value_same die None works d same) in omega (arith, e)
      | inr apart ↦ let e = ap (λ o. writes o slot) (one_value_other die None works d apart) in omega (arith, e)
    ]

pub ended_holds : (w : World) → Holds w → (die : ℕ) → Holds (ended die w)
ended_holds w h die = record {
  sound = worked_is_sound (scene_of w) h.sound w.core.waiting (with_value die None w.works) (λ d. (w.due d).bytes) (record {
    fewer = λ p among. among;
    once = λ d slot. let f = fewer_written w.works die d slot in let n = h.sound.once d slot in omega (arith, f, n);
    works_are = λ d k e. inl ((no_works w.works die d k e).0, refl);
  });
  jobs = jobs_remove w.core.jobs w.works die h.jobs;
  claims = h.claims;
  told = h.told;
  ordered = h.ordered;
  plain = h.plain;
  unwritten = h.unwritten;
  answered = later w.core.batches w.admitted w.values (with_value die None w.works) w.due w.moment (record {
    since = h.answered.since;
    answers = h.answered.answers;
    reading = λ d k batch page version slot b e flight is. h.answered.reading d k batch page version slot b (no_works w.works die d k e).0 flight is;
  });
}

-- a die goes out
module _ (v : World) (h : Holds v) (die : ℕ) (over : v.works die ≡ None) where
  abbrev used_left : FinMap place_cmp Used
  used_left = keep (λ place used. not (place.0 == die)) v.core.page_map.used

  left_at : (d k : ℕ) → get used_left (d, k) ≡ passed (λ used. not (d == die)) (get v.core.page_map.used (d, k))
  left_at d k = get-keep place_cmp_total place_same (λ place used. not (place.0 == die)) v.core.page_map.used (d, k)

  still_live : (d : ℕ) → contains_key (remove v.core.page_map.live die) d ≡ true → (contains_key v.core.page_map.live d ≡ true) × (d ≡ die → ⊥)
  still_live d e =
      let some = has_some (get (remove v.core.page_map.live die) d) e in
      let was = get-remove_some v.core.page_map.live die d some.0 some.1 in
      (some_has (get v.core.page_map.live d) some.0 was.0, was.1)

  drops : Drops (scene_of v) die (λ d k. get used_left (d, k)) (λ d. contains_key (remove v.core.page_map.live die) d)
      (filter (λ (p : WaitingProgram). not (p.die == die)) v.core.waiting) v.works
  drops = record {
    elsewhere = λ d k apart. left_at d k ∙ passed_all _ (get v.core.page_map.used (d, k)) (λ u e. not_from_false (d == die) (ne_eqb d die apart));
    here = λ k. left_at die k ∙ passed_none _ (get v.core.page_map.used (die, k)) (λ u. not_from_true (die == die) (eq-eqb die die refl));
    alive = still_live;
    fewer = λ p among.
        let kept = among-filter (λ (p : WaitingProgram). not (p.die == die)) p v.core.waiting among in
        (kept.0, λ same. true≢false (sym (eq-eqb p.die die same) ∙ not-true (p.die == die) kept.1));
    count = λ d k. tally-filter-le (program_is_at d k) (λ (p : WaitingProgram). not (p.die == die)) v.core.waiting;
    works_are = λ d k e. (e, λ same. none-some k (sym over ∙ ap v.works (sym same) ∙ e));
  }

  jobs_left : AreAt (remove v.core.jobs die) v.works
  jobs_left d =
      elim (cases_eq d die) [
        | inl same ↦ ap (get (remove v.core.jobs die)) same ∙ get-remove_same v.core.jobs die
            ∙ sym (ap (option_map {T = Work} (λ k. k.job.flight)) (ap v.works same ∙ over))
        | inr apart ↦ get-remove_other v.core.jobs die d apart ∙ h.jobs d
      ]

  pub drop_holds : Holds (record v { core = drop_die die v.core })
  drop_holds = record {
    sound = dropped_is_sound (scene_of v) h.sound die (λ d k. get used_left (d, k)) (λ d. contains_key (remove v.core.page_map.live die) d)
        (filter (λ (p : WaitingProgram). not (p.die == die)) v.core.waiting) v.works drops;
    jobs = jobs_left;
    claims = h.claims;
    told = h.told;
    ordered = h.ordered;
    plain = h.plain;
    unwritten = h.unwritten;
    answered = h.answered;
  }

-- the claims of the page have the slot marked
abbrev marks_of : (page die slot id : ℕ) → OpenClaim → OpenClaim
marks_of page die slot id c = if c.page == page then mark_claim die slot c else c

marks_same : (page die slot : ℕ) (c : OpenClaim) → c.page ≡ page → marks_of page die slot 0 c ≡ mark_claim die slot c
marks_same page die slot c same = ap {B = OpenClaim} (λ b. if b then mark_claim die slot c else c) (eq-eqb c.page page same)

marks_apart : (page die slot : ℕ) (c : OpenClaim) → (c.page ≡ page → ⊥) → marks_of page die slot 0 c ≡ c
marks_apart page die slot c apart = ap {B = OpenClaim} (λ b. if b then mark_claim die slot c else c) (ne_eqb c.page page apart)

none_marked : (die slot : ℕ) (targets : List Target) → ((t : Target) → Among t targets → t.die.0 ≡ die → t.slot.0 ≡ slot → ⊥)
    → map (mark die slot) targets ≡ targets
none_marked die slot [] far = refl
none_marked die slot (t ∷ ts) far =
    λ i. mark_other die slot t (far t (inl refl)) i ∷ none_marked die slot ts (λ u among. far u (inr among)) i

-- what was reserved, with a target marked
own_marked : (page die slot : ℕ) (copying : Option Copying) (claims : FinMap nat_cmp OpenClaim) (q : Option ℕ) (y : Owned)
    → owned_of (option_map {T = Copying} (λ c. record c { target = mark die slot c.target }) copying) (change (marks_of page die slot) claims) q ≡ Some y
    → ((x : Owned) → owned_of copying claims q ≡ Some x → (x.page ≡ page → ⊥) → (t : Target) → Among t x.targets → t.die.0 ≡ die → t.slot.0 ≡ slot → ⊥)
    → (x : Owned) × (owned_of copying claims q ≡ Some x) × (marked die slot x ≡ y)
own_marked page die slot None claims None y e away = absurd (none-some y e)
own_marked page die slot (Some c) claims None y e away =
    (record { page = c.page.0; version = c.version; targets = c.target ∷ [] }, refl, same_Some _ y e)
own_marked page die slot copying claims (Some id) y e away =
    of_claim (get claims id) away (sym (ap (option_and_then owned_claim) (get-change nat_cmp_total nat_same (marks_of page die slot) claims id)) ∙ e)
  where
    of_reserved : (p : ℕ) (r : Option Reservation)
        → owned_claim (mark_claim die slot (record { page = p; reserved = r })) ≡ Some y
        → (x : Owned) × (owned_claim (record { page = p; reserved = r }) ≡ Some x) × (marked die slot x ≡ y)
    of_reserved p None e = absurd (none-some y e)
    of_reserved p (Some r) e = (record { page = p; version = r.version; targets = r.targets }, refl, same_Some _ y e)

    of_another : (p : ℕ) (r : Option Reservation) → (p ≡ page → ⊥)
        → ((x : Owned) → owned_claim (record { page = p; reserved = r }) ≡ Some x → (x.page ≡ page → ⊥) → (t : Target) → Among t x.targets
        → t.die.0 ≡ die → t.slot.0 ≡ slot → ⊥)
        → owned_claim (record { page = p; reserved = r }) ≡ Some y
        → (x : Owned) × (owned_claim (record { page = p; reserved = r }) ≡ Some x) × (marked die slot x ≡ y)
    of_another p None apart far e = absurd (none-some y e)
    of_another p (Some r) apart far e =
        let x : Owned = record { page = p; version = r.version; targets = r.targets } in
        (x, refl, ap (λ ts. record x { targets = ts }) (none_marked die slot r.targets (far x refl apart)) ∙ same_Some x y e)

    of_claim : (c : Option OpenClaim)
        → ((x : Owned) → option_and_then owned_claim c ≡ Some x → (x.page ≡ page → ⊥) → (t : Target) → Among t x.targets → t.die.0 ≡ die → t.slot.0 ≡ slot → ⊥)
        → option_and_then owned_claim (option_map (marks_of page die slot 0) c) ≡ Some y
        → (x : Owned) × (option_and_then owned_claim c ≡ Some x) × (marked die slot x ≡ y)
    of_claim None far e = absurd (none-some y e)
    of_claim (Some c) far e =
        elim (cases_eq c.page page) [
          | inl same ↦ of_reserved c.page c.reserved (sym (ap owned_claim (marks_same page die slot c same)) ∙ e)
          | inr apart ↦ of_another c.page c.reserved apart far (sym (ap owned_claim (marks_apart page die slot c apart)) ∙ e)
        ]

inside_changed : (page die slot pages : ℕ) (claims : FinMap nat_cmp OpenClaim) → AreInside pages claims
    → AreInside pages (change (marks_of page die slot) claims)
inside_changed page die slot pages claims inside id c e =
    of_claim (get claims id) refl (sym (get-change nat_cmp_total nat_same (marks_of page die slot) claims id) ∙ e)
  where
    same_page : (b : Bool) (d : OpenClaim) → ◌≡◌ {A = ℕ} (if b then mark_claim die slot d else d).page d.page
    same_page true d = refl
    same_page false d = refl

    of_claim : (o : Option OpenClaim) → get claims id ≡ o → option_map (marks_of page die slot id) o ≡ Some c → c.page < pages
    of_claim None is e = absurd (none-some c e)
    of_claim (Some d) is e =
        subst (λ (k : OpenClaim). k.page < pages) (same_Some _ c e) (subst (λ n. n < pages) (sym (same_page (d.page == page) d)) (inside id d is))

pub program_ends_holds : (v : World) → Holds v → (die slot page : ℕ) (version : Version) → v.works die ≡ None
    → IsToCome (scene_of v).places die slot page version → Stands (scene_of v).bytes page version die slot
    → ((p : WaitingProgram) → Among p v.core.waiting → p.die ≡ die → p.slot ≡ slot → ⊥) → Holds (record v { core = program_ends page die slot v.core })
program_ends_holds v h die slot page version over come stands calm = record {
  sound = marked_is_sound (scene_of v) h.sound die slot page version
      (owned_of (option_map {T = Copying} (λ c. record c { target = mark die slot c.target }) v.core.copying) (change (marks_of page die slot) v.core.claims))
      (record {
        owner = λ q y e. own_marked page die slot v.core.copying v.core.claims q y e
            (λ x owns apart t among on at. apart (come.target q x t (record { owns = owns; among = among; on_die = on; at_slot = at })).1);
        come = come;
        stands = stands;
        calm = calm;
        free = over;
      });
  jobs = h.jobs;
  claims = inside_changed page die slot v.core.page_map.geometry.pages v.core.claims h.claims;
  told = h.told;
  ordered = h.ordered;
  plain = h.plain;
  unwritten = h.unwritten;
  answered = h.answered;
}

passed_test_if : {X : Type 0} (b : Bool) (x y : X) → (if b then Some x else None) ≡ Some y → b ≡ true
passed_test_if true x y e = refl
passed_test_if false x y e = absurd (none-some y e)

-- what passed passes
pub passed_test : {X : Type 0} (test : X → Bool) (o : Option X) (y : X) → passed test o ≡ Some y → test y ≡ true
passed_test test None y e = absurd (none-some y e)
passed_test test (Some x) y e = ap test (sym (same_Some x y (passed_some_if (test x) x y e))) ∙ passed_test_if (test x) x y e
