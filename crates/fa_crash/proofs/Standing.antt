-- What stands in the slots that hold a page, and in those that were programmed.
use Rattle.fa_crash.proofs.Trusted.{DoneOn, HeldOn, IsCurrentOwner, Trusted}
use Rattle.fa_crash.specs.Unsynced.{number_of}
use Rattle.fa_laws.proofs.Invariant.{Holds, owned_claim as laws_owned_claim, owned_of as laws_owned_of}
use Rattle.fa_laws.proofs.Scene.{Owned as LawsOwned}
use Rattle.fa_machine.specs.Among.{Among}
use Rattle.fa_machine.specs.Cells.{Broken, Cell, Empty, Sealed, is_same_kind, moved_payload, payload_of}
use Rattle.fa_machine.specs.State.{Core, OpenClaim, Reservation, is_live}
use Rattle.fa_machine.specs.Turning.{has_number}
use Rattle.fa_machine.specs.World.{World}
use Rattle.fa_machine.specs.declared.places.Copying.{Copying}
use Rattle.fa_machine.specs.declared.places.Target.{Target}
use Rattle.fa_machine.specs.declared.places.Used.TheVariants.{Held, Reserved}
use Rattle.fa_machine.specs.declared.places.Version.{Version}
use Rattle.fa_sound.specs.Owners.{Owned, TargetAt, owned_claim, owned_of}
use Rattle.fa_sound.specs.Sound.{IsSound}
use Rattle.fa_types.specs.declared.numbers.Page.{Page}
use Rattle.fa_types.specs.declared.kind.Kind.{Kind}
use Rattle.fa_types.specs.declared.kind.Kind.TheVariants.{Data, Hole}
use Rattle.std.proofs.Common.{Bool, List, None, Option, Some, ap, arith, cond, eqb-true, false, inl, inr, refl, subst, sym, true, ℕ, ◌*◌, ◌<◌, ◌≤◌, ◌∙◌, ◌≡◌, ◌⊎◌}
use Rattle.std.proofs.lemmas.Bool.{and_parts, false≢true}
use Rattle.std.proofs.lemmas.Option.{cond_some, none-some, same_Some}
use Rattle.std.specs.FinMap.{FinMap, get}
use Rattle.std.specs.Option.{option_map_or}
use Rattle.std.specs.Ordering.{nat_cmp}
use Rattle.std.specs.Prelude.{option_and_then, option_map, ◌&&◌, ◌==◌}

same_kinds : (a b : Kind) → is_same_kind a b ≡ true → a ≡ b
same_kinds Data Data e = refl
same_kinds Hole Hole e = refl
same_kinds Data Hole e = absurd (false≢true e)
same_kinds Hole Data e = absurd (false≢true e)

one_version : (v u : Version) → v.seq.0 ≡ u.seq.0 → v.kind ≡ u.kind → v ≡ u
one_version v u e f = λ i. record { seq = record { 0 = e i }; kind = f i }

-- a cell that a move may copy is sealed so
pub sealed_so : (page : ℕ) (version : Version) (die slot : ℕ) (cell : Cell) (bytes : List ℕ)
    → moved_payload page version die slot cell ≡ Some bytes
    → cell ≡ Sealed page version die slot bytes
sealed_so page version die slot Empty bytes e = absurd (none-some bytes e)
sealed_so page version die slot Broken bytes e = absurd (none-some bytes e)
sealed_so page version die slot (Sealed p v d s payload) bytes e = of_kind (is_same_kind v.kind version.kind) refl e
  where
    of_kind : (b : Bool) → is_same_kind v.kind version.kind ≡ b
        → cond b (payload_of page version die slot (Sealed p v d s payload)) None ≡ Some bytes
        → Sealed p v d s payload ≡ Sealed page version die slot bytes
    of_kind false k f = absurd (none-some bytes f)
    of_kind true k f =
        let found = cond_some (p == page && v.seq.0 == version.seq.0 && d == die && s == slot) payload bytes f in
        let one = and_parts (p == page && v.seq.0 == version.seq.0 && d == die) (s == slot) found.0 in
        let two = and_parts (p == page && v.seq.0 == version.seq.0) (d == die) one.0 in
        let three = and_parts (p == page) (v.seq.0 == version.seq.0) two.0 in
        λ i. Sealed (eqb-true p page three.0 i) (one_version v version (eqb-true v.seq.0 version.seq.0 three.1) (same_kinds v.kind version.kind k) i)
        (eqb-true d die two.1 i) (eqb-true s slot one.1 i) (found.1 i)

-- what is reserved, in the words of the laws of runs
abbrev pub as_laws : Owned → LawsOwned
as_laws x = record { page = x.page; version = x.version; targets = x.targets }

claim_alike : (c : OpenClaim) (r : Option Reservation) (x : Owned) → option_map {T = Reservation} (λ r. record { page = c.page; version = r.version; targets = r.targets }) r ≡ Some x
    → option_map {T = Reservation} {U = LawsOwned} (λ r. record { page = c.page; version = r.version; targets = r.targets }) r ≡ Some (as_laws x)
claim_alike c None x e = absurd (none-some x e)
claim_alike c (Some r) x e = ap (λ (y : Owned). Some (as_laws y)) (same_Some _ x e)

open_alike : (copying : Option Copying) (claims : FinMap nat_cmp OpenClaim) (id : ℕ) (o : Option OpenClaim) (x : Owned) → get claims id ≡ o
    → owned_of copying claims (Some id) ≡ Some x → laws_owned_of copying claims (Some id) ≡ Some (as_laws x)
open_alike copying claims id o x is e = at o is
  where
    at : (o : Option OpenClaim) → get claims id ≡ o → laws_owned_of copying claims (Some id) ≡ Some (as_laws x)
    at None is = absurd (none-some x (sym (ap (option_and_then owned_claim) is) ∙ e))
    at (Some c) is = ap (option_and_then laws_owned_claim) is
        ∙ claim_alike c c.reserved x (sym (ap (option_and_then owned_claim) is) ∙ e)

copy_alike : (claims : FinMap nat_cmp OpenClaim) (o : Option Copying) (x : Owned) → owned_of o claims None ≡ Some x
    → laws_owned_of o claims None ≡ Some (as_laws x)
copy_alike claims None x e = absurd (none-some x e)
copy_alike claims (Some c) x e = ap (λ (y : Owned). Some (as_laws y)) (same_Some _ x e)

pub owned_alike : (copying : Option Copying) (claims : FinMap nat_cmp OpenClaim) (q : Option ℕ) (x : Owned)
    → owned_of copying claims q ≡ Some x
    → laws_owned_of copying claims q ≡ Some (as_laws x)
owned_alike copying claims None x e = copy_alike claims copying x e
owned_alike copying claims (Some id) x e = open_alike copying claims id (get claims id) x refl e

-- a slot holds a page, or is a target that was programmed
abbrev pub IsKeptAt : Core → ℕ → ℕ → Type 0
IsKeptAt core die slot =
    ((tag : Page) × (version : Version) × (get core.page_map.used (die, slot) ≡ Some (Held tag version)))
    ⊎ ((a : TargetAt (owned_of core.copying core.claims) die slot) × (a.target.programmed ≡ true))

-- A copy of a page's last write, or of a newer one, stands in such a slot of a die.
pub record StandsOn (w : World) (die page : ℕ) : Type 0 where
  pub slot : ℕ
  pub inside : slot < w.core.page_map.geometry.blocks * w.core.page_map.geometry.slots
  pub version : Version
  pub payload : List ℕ
  pub stands : (w.images die).seen slot ≡ Sealed page version die slot payload
  pub newest : number_of w.core page ≤ version.seq.0
  pub kept : IsKeptAt w.core die slot

-- a page's number, where it has one
pub number_is : (core : Core) (page : ℕ) (v : Version) → get core.page_map.versions page ≡ Some v → number_of core page ≡ v.seq.0
number_is core page v e = ap (λ (o : Option Version). option_map_or (λ (v : Version). v.seq.0) o 0) e

pub number_none : (core : Core) (page : ℕ) → get core.page_map.versions page ≡ None → number_of core page ≡ 0
number_none core page e = ap (λ (o : Option Version). option_map_or (λ (v : Version). v.seq.0) o 0) e

module _ (w : World) (h : Holds w) (s : IsSound w.core) where
  held_stands : (die page : ℕ) → HeldOn w.core die page → StandsOn w die page
  held_stands die page o =
      let cell = sealed_so o.tag.0 o.version die o.slot _ _ (h.sound.held die o.slot o.tag o.version o.held).cell in
      let number = s.held die o.slot o.tag o.version o.held in
      let same = number_is w.core page o.version (sym (ap (get w.core.page_map.versions) o.page_is) ∙ number) in
      record {
        slot = o.slot;
        inside = (s.slots die o.slot (Held o.tag o.version) o.held).inside;
        version = o.version;
        payload = w.payloads o.tag.0 o.version.seq.0;
        stands = cell ∙ (λ i. Sealed (o.page_is i) o.version die o.slot (w.payloads o.tag.0 o.version.seq.0));
        newest = omega (arith, same);
        kept = inl (o.tag, o.version, o.held);
      }

  -- a reserved slot that was programmed has its write
  pub target_stands : (owner : Option ℕ) (x : Owned) (t : Target) → owned_of w.core.copying w.core.claims owner ≡ Some x → Among t x.targets
      → is_live w.core.page_map t.die.0 ≡ true → t.programmed ≡ true
      → (w.images t.die.0).seen t.slot.0 ≡ Sealed x.page x.version t.die.0 t.slot.0 (w.payloads x.page x.version.seq.0)
  target_stands owner x t owns among alive done =
      sealed_so x.page x.version t.die.0 t.slot.0 _ _
      (((h.sound.owned owner (as_laws x) (owned_alike w.core.copying w.core.claims owner x owns)).targets t among).done alive done)

  -- a write that is current is no older than the page's number
  current_newest : (owner : Option ℕ) (x : Owned) → owned_of w.core.copying w.core.claims owner ≡ Some x
      → IsCurrentOwner w.core.page_map.versions owner x
      → number_of w.core x.page ≤ x.version.seq.0
  current_newest None x owns current = at (get w.core.page_map.versions x.page) refl current
    where
      at : (o : Option Version) → get w.core.page_map.versions x.page ≡ o → has_number x.version.seq.0 o ≡ true
          → number_of w.core x.page ≤ x.version.seq.0
      at None e has = absurd (false≢true has)
      at (Some v) e has = let n = number_is w.core x.page v e in let m = eqb-true v.seq.0 x.version.seq.0 has in omega (arith, n, m)
  current_newest (Some id) x owns current = at (get w.core.page_map.versions x.page) refl
    where
      at : (o : Option Version) → get w.core.page_map.versions x.page ≡ o → number_of w.core x.page ≤ x.version.seq.0
      at None e = let n = number_none w.core x.page e in omega (arith, n)
      at (Some v) e = let n = number_is w.core x.page v e in let m = (s.new id x owns).newer v e in omega (arith, n, m)

  done_stands : (die page : ℕ) → DoneOn w.core die page → StandsOn w die page
  done_stands die page o =
      let a : TargetAt (owned_of w.core.copying w.core.claims) die o.target.slot.0 =
      record { owner = o.owner; owned = o.owned; target = o.target; owns = o.owns; among = o.among; on_die = o.on_die; at_slot = refl } in
      let kept = (s.targets die o.target.slot.0 a).kept o.alive in
      record {
        slot = o.target.slot.0;
        inside = (s.slots die o.target.slot.0 Reserved kept).inside;
        version = o.owned.version;
        payload = w.payloads o.owned.page o.owned.version.seq.0;
        stands = (λ i. (w.images (sym o.on_die i)).seen o.target.slot.0)
            ∙ target_stands o.owner o.owned o.target o.owns o.among (ap (is_live w.core.page_map) o.on_die ∙ o.alive) o.done
            ∙ (λ i. Sealed (o.of_page i) o.owned.version (o.on_die i) o.target.slot.0 (w.payloads o.owned.page o.owned.version.seq.0));
        newest = subst (λ (n : ℕ). number_of w.core n ≤ o.owned.version.seq.0) o.of_page (current_newest o.owner o.owned o.owns o.current);
        kept = inr (a, o.done);
      }

  -- on each die that is trusted with a page a copy stands
  pub trusted_stands : (die page : ℕ) → Trusted w.core die page → StandsOn w die page
  trusted_stands die page (inl o) = held_stands die page o
  trusted_stands die page (inr o) = done_stands die page o
