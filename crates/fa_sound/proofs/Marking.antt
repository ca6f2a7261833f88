-- Programs that end, spares that come in, and one more copy keep the state sound; a beginning is sound.
use Rattle.fa_machine.proofs.Lists.{among-map}
use Rattle.fa_machine.proofs.Maps.{get-change, nat_same}
use Rattle.fa_machine.specs.Among.{Among, tally}
use Rattle.fa_machine.specs.State.{Core, OpenClaim, Reservation}
use Rattle.fa_machine.specs.Taking.{mark, mark_claim, program_ends}
use Rattle.fa_machine.specs.declared.jobs.Flight.{Flight}
use Rattle.fa_machine.specs.declared.places.Copying.{Copying}
use Rattle.fa_machine.specs.declared.places.Target.{Target}
use Rattle.fa_machine.specs.declared.places.Version.{Version}
use Rattle.fa_sound.proofs.Changing.{Changes, changed_apart, changed_jobs, changed_targets, same_slots}
use Rattle.fa_sound.proofs.Ending.{jobs_left}
use Rattle.fa_sound.proofs.Owning.{claim_in, claims_same}
use Rattle.fa_sound.specs.Owners.{Owned, TargetAt, owned_claim, owned_of}
use Rattle.fa_sound.specs.Sound.{IsSoundView, View, view_of}
use Rattle.std.proofs.Common.{Bool, List, None, Option, Some, [], ap, arith, false, inl, inr, map, refl, subst, sym, true, ℕ, ◌<◌, ◌∙◌, ◌∷◌, ◌≡◌, ◌≤◌, ◌⊎◌}
use Rattle.std.proofs.lemmas.Bool.{ne_eqb}
use Rattle.std.proofs.lemmas.Option.{none-some, same_Some}
use Rattle.std.specs.FinMap.{get, remove}
use Rattle.std.specs.Cmp.{nat_cmp_total}
use Rattle.std.specs.Prelude.{if◌then◌else◌, is_some, option_and_then, option_map, ◌&&◌, ◌==◌}

-- an owner with its targets in a slot marked
abbrev pub marked : ℕ → ℕ → Owned → Owned
marked die slot x = record { page = x.page; version = x.version; targets = map (mark die slot) x.targets }

-- what an owner was before its targets were marked
pub record WasOwned (own : Option ℕ → Option Owned) (die slot : ℕ) (q : Option ℕ) (y : Owned) : Type 0 where
  pub before : Owned
  pub owns : own q ≡ Some before
  pub is : (before ≡ y) ⊎ (marked die slot before ≡ y)

mark_if : (b : Bool) (t : Target) → ((if b then record t { programmed = true } else t).die ≡ t.die) × ((if b then record t { programmed = true } else t).slot ≡ t.slot)
mark_if true t = (refl, refl)
mark_if false t = (refl, refl)

mark_other : (die slot : ℕ) (t : Target) → (t.die.0 ≡ die → ⊥) → mark die slot t ≡ t
mark_other die slot t apart = ap (λ b. if b && t.slot.0 == slot then record t { programmed = true } else t) (ne_eqb t.die.0 die apart)

tally_marked : (die slot d : ℕ) (ts : List Target) → tally (λ (t : Target). t.die.0 == d) (map (mark die slot) ts) ≡ tally (λ (t : Target). t.die.0 == d) ts
tally_marked die slot d [] = refl
tally_marked die slot d (t ∷ ts) =
    let rest = tally_marked die slot d ts in
    let same : ◌≡◌ {A = ℕ} (if (mark die slot t).die.0 == d then 1 else 0) (if t.die.0 == d then 1 else 0) =
    ap {B = ℕ} (λ n. if n == d then 1 else 0) (ap (λ k. k.0) (mark_if (t.die.0 == die && t.slot.0 == slot) t).0) in
    omega (arith, rest, same)

module _ (core : Core) (h : IsSoundView (view_of core)) (die page slot : ℕ) where
  abbrev v : View
  v = view_of core

  abbrev after : Core
  after = program_ends page die slot (record core { jobs = remove core.jobs die })

  abbrev own : Option ℕ → Option Owned
  own = owned_of after.copying after.claims

  mark_of : Bool → OpenClaim → OpenClaim
  mark_of b c = if b then mark_claim die slot c else c

  unmarked : (b : Bool) (c : OpenClaim) (r : Option Reservation) (y : Owned)
      → owned_claim (if b then mark_claim die slot (record { page = c.page; reserved = r }) else record { page = c.page; reserved = r }) ≡ Some y
      → (x : Owned) × (owned_claim (record { page = c.page; reserved = r }) ≡ Some x) × ((x ≡ y) ⊎ (marked die slot x ≡ y))
  unmarked true c None y e = absurd (none-some y e)
  unmarked true c (Some r) y e = (record { page = c.page; version = r.version; targets = r.targets }, refl, inr (same_Some _ y e))
  unmarked false c r y e = (y, e, inl refl)

  claim_was : (id : ℕ) (o : Option OpenClaim) (y : Owned) → get core.claims id ≡ o
      → option_and_then owned_claim (option_map (λ c. if c.page == page then mark_claim die slot c else c) o) ≡ Some y → WasOwned v.own die slot (Some id) y
  claim_was id None y is e = absurd (none-some y e)
  claim_was id (Some c) y is e =
      let u = unmarked (c.page == page) c c.reserved y e in
      record { before = u.0; owns = ap (option_and_then owned_claim) is ∙ u.1; is = u.2 }

  copy_was : (o : Option Copying) (y : Owned) → core.copying ≡ o
      → owned_of (option_map {T = Copying} (λ c. record c { target = mark die slot c.target }) o) after.claims None ≡ Some y → WasOwned v.own die slot None y
  copy_was None y is e = absurd (none-some y e)
  copy_was (Some c) y is e = record {
    before = record { page = c.page.0; version = c.version; targets = c.target ∷ [] };
    owns = ap (option_map {T = Copying} (λ c. record { page = c.page.0; version = c.version; targets = c.target ∷ [] })) is;
    is = inr (same_Some _ y e);
  }

  changed_at : (id : ℕ) → get after.claims id ≡ option_map (λ c. if c.page == page then mark_claim die slot c else c) (get core.claims id)
  changed_at id = get-change nat_cmp_total nat_same (λ id c. if c.page == page then mark_claim die slot c else c) core.claims id

  was_owned : (q : Option ℕ) (y : Owned) → own q ≡ Some y → WasOwned v.own die slot q y
  was_owned None y e = copy_was core.copying y refl e
  was_owned (Some id) y e = claim_was id (get core.claims id) y refl (sym (ap (option_and_then owned_claim) (changed_at id)) ∙ e)

  page_if : (b : Bool) (c : OpenClaim) → ◌≡◌ {A = ℕ} (if b then mark_claim die slot c else c).page c.page
  page_if true c = refl
  page_if false c = refl

  claim_if : (o : Option OpenClaim) → option_map {T = OpenClaim} (λ c. c.page) (option_map (λ c. if c.page == page then mark_claim die slot c else c) o)
      ≡ option_map {T = OpenClaim} (λ c. c.page) o
  claim_if None = refl
  claim_if (Some c) = ap Some (page_if (c.page == page) c)

  claims_are : (id : ℕ) → claim_in after.claims id ≡ v.claim id
  claims_are id = ap (option_map {T = OpenClaim} (λ c. c.page)) (changed_at id) ∙ claim_if (get core.claims id)

  page_is : (q : Option ℕ) (y : Owned) (w : WasOwned v.own die slot q y) → w.before.page ≡ y.page
  page_is q y w = elim w.is [
    | inl e ↦ ap (λ (z : Owned). z.page) e
    | inr e ↦ ap (λ (z : Owned). z.page) e
  ]

  version_is : (q : Option ℕ) (y : Owned) (w : WasOwned v.own die slot q y) → w.before.version ≡ y.version
  version_is q y w = elim w.is [
    | inl e ↦ ap (λ (z : Owned). z.version) e
    | inr e ↦ ap (λ (z : Owned). z.version) e
  ]

  -- a target then was one before, in the same place, and marked as then on another die
  abbrev WasTarget : Target → List Target → Type 0
  WasTarget t ts = (u : Target) × Among u ts × (u.die.0 ≡ t.die.0) × (u.slot.0 ≡ t.slot.0) × ((t.die.0 ≡ die → ⊥) → u.programmed ≡ t.programmed)

  was_target : (q : Option ℕ) (y : Owned) (w : WasOwned v.own die slot q y) (t : Target) → Among t y.targets → WasTarget t w.before.targets
  was_target q y w t i = elim w.is [
    | inl e ↦ (t, subst (λ (z : Owned). Among t z.targets) (sym e) i, refl, refl, λ away. refl)
    | inr e ↦
        let found = among-map (mark die slot) t w.before.targets (subst (λ (z : Owned). Among t z.targets) (sym e) i) in
        let u = found.0 in
        let m = mark_if (u.die.0 == die && u.slot.0 == slot) u in
        let on : u.die.0 ≡ t.die.0 = sym (ap (λ k. k.0) m.0) ∙ ap (λ (z : Target). z.die.0) found.2 in (
          u,
          found.1,
          on,
          sym (ap (λ k. k.0) m.1) ∙ ap (λ (z : Target). z.slot.0) found.2,
          λ away. ap (λ (z : Target). z.programmed) (sym (mark_other die slot u (λ s. away (sym on ∙ s))) ∙ found.2),
        )
  ]

  abbrev back : (d k : ℕ) → TargetAt own d k → TargetAt v.own d k
  back d k b =
      let w = was_owned b.owner b.owned b.owns in
      let u = was_target b.owner b.owned w b.target b.among in
      record { owner = b.owner; owned = w.before; target = u.0; owns = w.owns; among = u.1; on_die = u.2 ∙ b.on_die; at_slot = u.3 ∙ b.at_slot }

  abbrev job : ℕ → Option Flight
  job d = get (remove core.jobs die) d

  changes : Changes v v.live v.spare v.used own job None
  changes = record {
    fewer_jobs = λ d flight e. (jobs_left core.jobs die d flight e).0;
    busy = λ d flight e on. on;
    at_jobs = λ d flight e. same_slots (v.used d) (v.used d) v.own own d (λ k. refl)
        (λ k b. (
          back d k b,
          (was_target b.owner b.owned (was_owned b.owner b.owned b.owns) b.target b.among).4
              (λ s. (jobs_left core.jobs die d flight e).1 (sym b.on_die ∙ s)),
        ));
    spares = λ d e. e;
    target = λ d k b. inl (record { before = back d k b; same = refl; alive = λ on. on; kept = λ on e. e });
  }

  pub marked_sound : IsSoundView (view_of after)
  marked_sound = record {
    copies = h.copies;
    numbers = h.numbers;
    slots = h.slots;
    held = h.held;
    once = h.once;
    dies = h.dies;
    targets = changed_targets v h v.live v.spare v.used own job None changes;
    apart = changed_apart v h v.live v.spare v.used own job None changes;
    jobs = changed_jobs v h v.live v.spare v.used own job None changes;
    spread = λ q y e d. let w = was_owned q y e in
        let before = h.spread q w.before w.owns d in
        elim w.is [
          | inl s ↦ subst (λ (z : Owned). tally (λ (t : Target). t.die.0 == d) z.targets ≤ 1) s before
          | inr s ↦ subst (λ (z : Owned). tally (λ (t : Target). t.die.0 == d) z.targets ≤ 1) s
              (let same = tally_marked die slot d w.before.targets in omega (arith, same, before))
        ];
    new = λ id y e. let w = was_owned (Some id) y e in let n = h.new id w.before w.owns in record {
      claimed = claims_are id ∙ n.claimed ∙ ap Some (page_is (Some id) y w);
      given = subst (λ (z : Version). 1 ≤ z.seq.0) (version_is (Some id) y w) n.given;
      below = subst (λ (z : Version). z.seq.0 ≤ v.last) (version_is (Some id) y w) n.below;
      newer = λ u f. subst (λ (z : Version). u.seq.0 < z.seq.0) (version_is (Some id) y w) (n.newer u (ap v.number (page_is (Some id) y w) ∙ f));
    };
    old = λ y e. let w = was_owned None y e in let o = h.old w.before w.owns in
        let p = page_is None y w in let s = ap (λ (z : Version). z.seq.0) (version_is None y w) in record {
          written = ap (λ n. is_some (v.number n)) (sym p) ∙ o.written;
          older = λ u f. subst (λ n. n ≤ u.seq.0) s (o.older u (ap v.number p ∙ f));
          same = λ u f g. o.same u (ap v.number p ∙ f) (g ∙ sym s) ∙ version_is None y w;
        };
    away = λ y e t among k p u f same seq. let w = was_owned None y e in let b = was_target None y w t among in
        h.away w.before w.owns b.0 b.1 k p u (ap (λ d. v.used d k) b.2 ∙ f) (same ∙ sym (page_is None y w))
        (seq ∙ sym (ap (λ (z : Version). z.seq.0) (version_is None y w)));
    claims = claims_same v.pages v.claim _ claims_are h.claims;
  }
