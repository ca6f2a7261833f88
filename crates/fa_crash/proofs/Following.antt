-- What each event leaves of what is reserved, held and to be programmed.
use Rattle.fa_crash.proofs.Trusted.{DoneOn, Follows, IsErasedAt, IsFresh, Trusted, WasOwned, held_same, quiet, was_same}
use Rattle.fa_laws.proofs.Claiming.{room_erased}
use Rattle.fa_laws.proofs.Reserving.{among-append}
use Rattle.fa_machine.proofs.Lists.{among-filter, among-filter-intro, among-map, among-take, any_none, found_passes, no_refusal}
use Rattle.fa_machine.proofs.Maps.{get-change, get-keep, passed, place_cmp_total, place_same}
use Rattle.fa_machine.proofs.Values.{get-insert_all}
use Rattle.fa_machine.specs.Among.{Among}
use Rattle.fa_machine.specs.Conditions.{reserved_under}
use Rattle.fa_machine.specs.Copies.{holds_page}
use Rattle.fa_machine.specs.Maps.{change, insert_all, keep, place_cmp}
use Rattle.fa_machine.specs.Placement.{copies_asked, copy_place, has_room, order_of, targets}
use Rattle.fa_machine.specs.State.{Core, Reservation, WaitingProgram, is_live}
use Rattle.fa_machine.specs.Step.{Act}
use Rattle.fa_machine.specs.Turning.{CommitsCopy, commit_copy_refusal, copied_payload, copying_to, has_number}
use Rattle.fa_machine.specs.Writing.{Abandons, Commits, Reserves, claimed_page, commit_refusal, live_targets, reserved, program_at, target_on, without_page}
use Rattle.fa_machine.specs.declared.answers.Copied.{Copied}
use Rattle.fa_machine.specs.declared.answers.Copied.TheVariants.{Current, Late}
use Rattle.fa_machine.specs.declared.places.Copying.{Copying}
use Rattle.fa_machine.specs.declared.places.Target.{Target}
use Rattle.fa_machine.specs.declared.places.Used.{Used}
use Rattle.fa_machine.specs.declared.places.Used.TheVariants.{Held, Reserved, Stale}
use Rattle.fa_machine.specs.declared.places.Version.{Version}
use Rattle.fa_machine.specs.declared.refusals.AbandonRefused.{AbandonRefused}
use Rattle.fa_machine.specs.declared.refusals.CommitCopyRefused.{CommitCopyRefused}
use Rattle.fa_machine.specs.declared.refusals.CommitCopyRefused.TheVariants.{Failed as CopyFailed, Pending as CopyPending}
use Rattle.fa_machine.specs.declared.refusals.CommitRefused.{CommitRefused}
use Rattle.fa_machine.specs.declared.refusals.CommitRefused.TheVariants.{Failed, Pending as CommitPending}
use Rattle.fa_machine.specs.declared.refusals.ReserveRefused.{ReserveRefused}
use Rattle.fa_sound.proofs.Changing.{held≢stale, reserved≢held}
use Rattle.fa_sound.proofs.Committing.{placed_all}
use Rattle.fa_sound.proofs.Owning.{own_insert, own_remove, reserved_owned}
use Rattle.fa_sound.specs.Owners.{Owned, owned_of}
use Rattle.fa_types.specs.declared.kind.Kind.{Kind}
use Rattle.fa_types.specs.declared.numbers.Page.{Page}
use Rattle.fa_types.specs.declared.numbers.Seq.{Seq}
use Rattle.std.proofs.Common.{Bool, List, None, Option, Some, [], ap, false, inl, inr, map, not, refl, subst, sym, true, ℕ, ◌+◌, ◌∙◌, ◌∷◌, ◌≡◌, ◌⊎◌}
use Rattle.std.proofs.lemmas.Bool.{and_parts, not-false}
use Rattle.std.proofs.lemmas.Option.{none-some, same_Some}
use Rattle.std.specs.FinMap.{FinMap, get, insert, remove}
use Rattle.std.specs.List.{list_any}
use Rattle.std.specs.Prelude.{Err, Ok, Result, filter, if◌then◌else◌, option_map, ◌&&◌, ◌==◌}

passed_some : {X : Type 0} (test : X → Bool) (o : Option X) (x : X) → passed test o ≡ Some x → o ≡ Some x
passed_some test None x e = e
passed_some test (Some y) x e = at (test y) e
  where
    at : (b : Bool) → (if b then Some y else None) ≡ Some x → Some y ≡ Some x
    at true e = e
    at false e = absurd (none-some x e)

-- what is held behind a change that leaves or empties slots was held
pub kept_held : (test : (ℕ × ℕ) → Used → Bool) (used : FinMap place_cmp Used) (die slot : ℕ) (u : Used)
    → get (keep test used) (die, slot) ≡ Some u → get used (die, slot) ≡ Some u
kept_held test used die slot u e = passed_some (test (die, slot)) (get used (die, slot)) u (sym (get-keep place_cmp_total place_same test used (die, slot)) ∙ e)

-- what is held where many slots come to a state that holds nothing was held
all_held : (keys : List (ℕ × ℕ)) (final : Used) (used : FinMap place_cmp Used) (die slot : ℕ) (page : Page) (version : Version)
    → ((o : Option Used) → o ≡ Some final → o ≡ Some (Held page version) → ⊥)
    → get (insert_all keys final used) (die, slot) ≡ Some (Held page version)
    → get used (die, slot) ≡ Some (Held page version)
all_held keys final used die slot page version other e =
    elim (get-insert_all place_cmp_total place_same keys final used (die, slot)) [
      | inl same ↦ sym same ∙ e
      | inr found ↦ absurd (other _ found.1 e)
    ]

held≢reserved : (page : Page) (version : Version) (o : Option Used) → o ≡ Some Reserved → o ≡ Some (Held page version) → ⊥
held≢reserved page version o e f = reserved≢held o page version e f

stale≢held : (page : Page) (version : Version) (o : Option Used) → o ≡ Some Stale → o ≡ Some (Held page version) → ⊥
stale≢held page version o e f = held≢stale o page version f e

-- the slots that a write takes are erased ones of live dies
fresh_targets : (core : Core) (page : ℕ) (t : Target) → Among t (map (target_on core.page_map) (targets core.copies core.page_map page))
    → (t.programmed ≡ false) × IsErasedAt core t.die.0 t.slot.0
fresh_targets core page t among =
    let found = among-map (target_on core.page_map) t (targets core.copies core.page_map page) among in
    let in_order = among-take (copies_asked core.copies core.page_map) found.0 (filter (has_room core.page_map) (order_of core.copies core.page_map page)) found.1 in
    let room = (among-filter (has_room core.page_map) found.0 (order_of core.copies core.page_map page) in_order).1 in
    let erased = room_erased core.page_map found.0 room in
    subst (λ (u : Target). (u.programmed ≡ false) × IsErasedAt core u.die.0 u.slot.0) found.2 (refl, (erased.1, erased.0))

fresh_programs : (core : Core) (page p : ℕ) (version : Version) (payload : List ℕ) (ts : List Target)
    → ((t : Target) → Among t ts → (t.programmed ≡ false) × IsErasedAt core t.die.0 t.slot.0) → (w : WaitingProgram)
    → Among w (map (program_at page version payload) ts) → IsErasedAt core w.die w.slot
fresh_programs core page p version payload ts fresh w among =
    let found = among-map (program_at page version payload) w ts among in
    subst (λ (q : WaitingProgram). IsErasedAt core q.die q.slot) found.2 (fresh found.0 found.1).1

pub tag_of : (p q : Page) (v w : Version) → Some (Held p v) ≡ Some (Held q w) → p.0 ≡ q.0
tag_of p q v w e = cc

module _ (core : Core) (act : Act) where
  -- what is owned once a claim was inserted that has nothing reserved
  closed_owned : (id page : ℕ) (q : Option ℕ) (x : Owned) → owned_of core.copying (insert core.claims id (record { page = page; reserved = None })) q ≡ Some x
      → WasOwned core act q x ⊎ IsFresh core x
  closed_owned id page q x e =
      elim (own_insert core.copying core.claims id (record { page = page; reserved = None }) q x e) [
        | inl new ↦ absurd (none-some x new.1)
        | inr was ↦ inl (was_same core act q x was.0)
      ]

  pub claim_follows : (page id : ℕ) → Follows core act (record core { claims = insert core.claims id (record { page = page; reserved = None }) })
  claim_follows page id = record { owned = closed_owned id page; held = held_same core act; waits = λ p i. inl i }

  pub release_follows : (id : ℕ) → Follows core act (record core { claims = remove core.claims id })
  release_follows id =
      record { owned = λ q x e. inl (was_same core act q x (own_remove core.copying core.claims id q x e)); held = held_same core act; waits = λ p i. inl i }

  module _ (claim : ℕ) (kind : Kind) (payload : List ℕ) where
    abbrev page : ℕ
    page = claimed_page core claim

    abbrev version : Version
    version = record { seq = record { 0 = core.last + 1 }; kind = kind }

    abbrev places : List Target
    places = map (target_on core.page_map) (targets core.copies core.page_map page)

    reserved_follows : Follows core act (reserved claim kind payload core)
    reserved_follows = record {
      owned = λ q x e. elim (own_insert core.copying core.claims claim (record { page = page; reserved = Some (record { version = version; targets = places }) }) q x e) [
        | inl new ↦ inr (subst (λ (y : Owned). IsFresh core y) (same_Some _ x new.1) (λ t among. fresh_targets core page t among))
        | inr was ↦ inl (was_same core act q x was.0)
      ];
      held = λ die slot p v e. held_same core act die slot p v (all_held (map (λ (t : Target). (t.die.0, t.slot.0)) places) Reserved core.page_map.used die slot p v (held≢reserved p v) e);
      waits = λ w among. elim (among-append w core.waiting (map (program_at page version payload) places) among) [
        | inl was ↦ inl was
        | inr new ↦ inr (fresh_programs core page page version payload places (fresh_targets core page) w new)
      ];
    }

  pub reserve_follows : (claim least : ℕ) (kind : Kind) (payload : List ℕ) (answer : Result Seq ReserveRefused) (new : Core)
      → Reserves core claim least kind payload answer new → Follows core act new
  reserve_follows claim least kind payload (Err refused) new d = subst (Follows core act) (sym d.1) (quiet core act)
  reserve_follows claim least kind payload (Ok seq) new d = subst (Follows core act) (sym d.2) (reserved_follows claim kind payload)

  module _ (claim : ℕ) (r : Reservation) (is : reserved_under core claim ≡ Some r) (ready : commit_refusal core r.targets ≡ None) where
    abbrev committed_page : ℕ
    committed_page = claimed_page core claim

    abbrev staled : FinMap place_cmp Used
    staled = change (λ place used. without_page committed_page used) core.page_map.used

    was_held : (b : Bool) (p q : Page) (v w : Version) → Some (if b then Stale else Held p v) ≡ Some (Held q w)
        → Some (Held p v) ≡ Some (Held q w)
    was_held false p q v w e = e
    was_held true p q v w e = absurd (stale≢held q w _ refl e)

    left : (o : Option Used) (q : Page) (w : Version) → option_map (without_page committed_page) o ≡ Some (Held q w) → o ≡ Some (Held q w)
    left None q w e = absurd (none-some (Held q w) e)
    left (Some Reserved) q w e = e
    left (Some Stale) q w e = e
    left (Some (Held p v)) q w e = was_held (p.0 == committed_page) p q v w e

    committed_done : (t : Target) → Among t r.targets → (die : ℕ) → t.die.0 ≡ die → is_live core.page_map die ≡ true
        → DoneOn core die committed_page
    committed_done t among die on alive =
        let none = no_refusal (list_any (λ (t : Target). not t.programmed) (live_targets core r.targets))
        (not (list_any (λ (t : Target). t.programmed) (live_targets core r.targets))) CommitPending Failed ready in
        let here = among-filter-intro (λ (t : Target). is_live core.page_map t.die.0) t r.targets among (ap (is_live core.page_map) on ∙ alive) in
        record {
          owner = Some claim;
          owned = record { page = committed_page; version = r.version; targets = r.targets };
          target = t;
          owns = reserved_owned (get core.claims claim) r is;
          among = among;
          on_die = on;
          done = not-false t.programmed (any_none (λ (t : Target). not t.programmed) (live_targets core r.targets) none.0 t here);
          alive = alive;
          of_page = refl;
          current = tt;
        }

    committed_held : (die slot : ℕ) (p : Page) (v : Version)
        → get (insert_all (map (λ (t : Target). (t.die.0, t.slot.0)) (live_targets core r.targets)) (Held (record { 0 = committed_page }) r.version) staled) (die, slot) ≡ Some (Held p v)
        → Trusted core die p.0
    committed_held die slot p v e =
        elim (placed_all core r.targets (Held (record { 0 = committed_page }) r.version) staled die slot) [
          | inl same ↦ held_same core act die slot p v
              (left (get core.page_map.used (die, slot)) p v
              (sym (get-change place_cmp_total place_same (λ place used. without_page committed_page used) core.page_map.used (die, slot)) ∙ sym same ∙ e))
          | inr t ↦ inr (subst (λ (n : ℕ). DoneOn core die n) (tag_of (record { 0 = committed_page }) p r.version v (sym t.5 ∙ e)) (committed_done t.0 t.1 die t.2 t.4))
        ]

  pub commit_follows : (claim seat : ℕ) (o : Option Reservation) → reserved_under core claim ≡ o
      → (answer : Result Seq CommitRefused) (new : Core)
      → Commits core claim seat o answer new → Follows core act new
  commit_follows claim seat None is answer new d = absurd d
  commit_follows claim seat (Some r) is (Err refused) new d = subst (Follows core act) (sym d.1) (quiet core act)
  commit_follows claim seat (Some r) is (Ok seq) new d = subst (Follows core act) (sym d.2)
      (record { owned = closed_owned claim (claimed_page core claim); held = committed_held claim r is d.0; waits = λ p i. inl i })

  pub abandon_follows : (claim : ℕ) (o : Option Reservation) (answer : Result (Unit {0}) AbandonRefused) (new : Core)
      → Abandons core claim o answer new → Follows core act new
  abandon_follows claim None answer new d = absurd d
  abandon_follows claim (Some r) (Err refused) new d = subst (Follows core act) (sym d.1) (quiet core act)
  abandon_follows claim (Some r) (Ok done) new d = subst (Follows core act) (sym d.1) (record {
    owned = closed_owned claim (claimed_page core claim);
    held = λ die slot p v e. held_same core act die slot p v (all_held (map (λ (t : Target). (t.die.0, t.slot.0)) (live_targets core r.targets)) Stale core.page_map.used die slot p v (stale≢held p v) e);
    waits = λ w among. inl (among-filter (λ (p : WaitingProgram). not (list_any (λ (t : Target). t.die.0 == p.die && t.slot.0 == p.slot) r.targets)) w core.waiting among).0;
  })

  -- one more copy is reserved
  module _ (page die : ℕ) (payload : List ℕ) (version : Version) (place : copy_place core.copies core.page_map page ≡ Some die) where
    abbrev t : Target
    t = target_on core.page_map die

    erased : IsErasedAt core die t.slot.0
    erased =
        let both = and_parts (has_room core.page_map die) _
        (found_passes (λ d. has_room core.page_map d && not (holds_page core.page_map page d)) (order_of core.copies core.page_map page) die place).0 in
        let room = room_erased core.page_map die both.0 in (room.1, room.0)

    at_new : (w : WaitingProgram) → Among w (program_at page version (copied_payload core.page_map version.kind payload) t ∷ [])
        → IsErasedAt core w.die w.slot
    at_new w (inl same) = subst (λ (q : WaitingProgram). IsErasedAt core q.die q.slot) same erased
    at_new w (inr rest) = absurd rest

    at_target : (u : Target) → Among u (t ∷ []) → (u.programmed ≡ false) × IsErasedAt core u.die.0 u.slot.0
    at_target u (inl same) = subst (λ (u : Target). (u.programmed ≡ false) × IsErasedAt core u.die.0 u.slot.0) same (refl, erased)
    at_target u (inr rest) = absurd rest

    copying_owned : (q : Option ℕ) (x : Owned) → owned_of (Some (record { page = record { 0 = page }; version = version; target = t })) core.claims q ≡ Some x
        → WasOwned core act q x ⊎ IsFresh core x
    copying_owned None x e = inr (subst (λ (y : Owned). IsFresh core y) (same_Some _ x e) at_target)
    copying_owned (Some id) x e = inl (was_same core act (Some id) x e)

    begun_follows : Follows core act (copying_to core page payload (Some version) (Some die))
    begun_follows = record {
      owned = copying_owned;
      held = λ d slot p v e. held_same core act d slot p v (all_held ((t.die.0, t.slot.0) ∷ []) Reserved core.page_map.used d slot p v (held≢reserved p v) e);
      waits = λ w among. elim (among-append w core.waiting (program_at page version (copied_payload core.page_map version.kind payload) t ∷ []) among) [
        | inl was ↦ inl was
        | inr new ↦ inr (at_new w new)
      ];
    }

  pub copying_follows : (p : ℕ) (bytes : List ℕ) (v : Option Version) (d : Option ℕ) → copy_place core.copies core.page_map p ≡ d
      → Follows core act (copying_to core p bytes v d)
  copying_follows p bytes None d place = quiet core act
  copying_follows p bytes (Some v) None place = quiet core act
  copying_follows p bytes (Some v) (Some d) place = begun_follows p d bytes v place

  -- the copy under way is over
  over_owned : (q : Option ℕ) (x : Owned) → owned_of None core.claims q ≡ Some x → WasOwned core act q x ⊎ IsFresh core x
  over_owned None x e = absurd (none-some x e)
  over_owned (Some id) x e = inl (was_same core act (Some id) x e)

  module _ (c : Copying) (is : core.copying ≡ Some c) (ready : commit_copy_refusal core c ≡ None)
      (numbered : has_number c.version.seq.0 (get core.page_map.versions c.page.0) ≡ true) where
    abbrev target : Target
    target = c.target

    copied_done : (die : ℕ) → target.die.0 ≡ die → DoneOn core die c.page.0
    copied_done die on =
        let none = no_refusal (is_live core.page_map target.die.0 && not target.programmed) (not (is_live core.page_map target.die.0)) CopyPending CopyFailed ready in
        let alive = not-false (is_live core.page_map target.die.0) none.1 in
        record {
          owner = None;
          owned = record { page = c.page.0; version = c.version; targets = target ∷ [] };
          target = target;
          owns = ap (λ (o : Option Copying). owned_of o core.claims None) is;
          among = inl refl;
          on_die = on;
          done = not-false target.programmed (sym (ap (λ b. b && not target.programmed) alive) ∙ none.0);
          alive = sym (ap (is_live core.page_map) on) ∙ alive;
          of_page = refl;
          current = numbered;
        }

    at_key : (die slot : ℕ) → Among {X = ℕ × ℕ} (die, slot) ((target.die.0, target.slot.0) ∷ []) → target.die.0 ≡ die
    at_key die slot (inl same) = ap (λ (k : ℕ × ℕ). k.0) same
    at_key die slot (inr rest) = absurd rest

    copied_held : (die slot : ℕ) (p : Page) (v : Version)
        → get (insert_all ((target.die.0, target.slot.0) ∷ []) (Held c.page c.version) core.page_map.used) (die, slot) ≡ Some (Held p v)
        → Trusted core die p.0
    copied_held die slot p v e =
        elim (get-insert_all place_cmp_total place_same ((target.die.0, target.slot.0) ∷ []) (Held c.page c.version) core.page_map.used (die, slot)) [
          | inl same ↦ held_same core act die slot p v (sym same ∙ e)
          | inr found ↦ inr (subst (λ (n : ℕ). DoneOn core die n) (tag_of c.page p c.version v (sym found.1 ∙ e)) (copied_done die (at_key die slot found.0)))
        ]

  pub copied_follows : (o : Option Copying) → core.copying ≡ o → (answer : Result Copied CommitCopyRefused) (new : Core)
      → CommitsCopy core o answer new
      → Follows core act new
  copied_follows None is answer new d = absurd d
  copied_follows (Some c) is (Err CopyPending) new d = subst (Follows core act) (sym d.1) (quiet core act)
  copied_follows (Some c) is (Err CopyFailed) new d = subst (Follows core act) (sym d.1) (record { owned = over_owned; held = held_same core act; waits = λ p i. inl i })
  copied_follows (Some c) is (Ok Late) new d = subst (Follows core act) (sym d.2) (record {
    owned = over_owned;
    held = λ die slot p v e. held_same core act die slot p v (all_held ((c.target.die.0, c.target.slot.0) ∷ []) Stale core.page_map.used die slot p v (stale≢held p v) e);
    waits = λ p i. inl i;
  })
  copied_follows (Some c) is (Ok Current) new d =
      subst (Follows core act) (sym d.2) (record { owned = over_owned; held = copied_held c is d.0 d.1; waits = λ p i. inl i })
