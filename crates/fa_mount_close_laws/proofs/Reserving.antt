-- What is known of cells stays so as claims come and go, as something is reserved, and as a spare comes in.
use Rattle.fa_mount_close_laws.proofs.Owning.{copy_owned, insert_owned, nothing_under, remove_owned}
use Rattle.fa_mount_close_laws.proofs.Sights.{HasTarget, Known, Sight, fewer_is_known, owned_is_known, recorded_is_known, sight_of}
use Rattle.fa_laws.proofs.Claiming.{value_other}
use Rattle.fa_laws.proofs.Invariant.{Holds, owned_claim, owned_of}
use Rattle.fa_laws.proofs.Reserving.{among-append}
use Rattle.fa_laws.proofs.Scene.{Owned}
use Rattle.fa_machine.proofs.Lists.{among-map}
use Rattle.fa_machine.proofs.Maps.{get-insert_other, get-insert_same, get-remove_some, has_some}
use Rattle.fa_machine.specs.Among.{Among}
use Rattle.fa_machine.specs.Conditions.{copy_open, is_reserved}
use Rattle.fa_machine.specs.Maps.{Numbers}
use Rattle.fa_machine.specs.Placement.{targets}
use Rattle.fa_machine.specs.State.{OpenClaim, WaitingProgram}
use Rattle.fa_machine.specs.Turning.{copied_payload, copying_to}
use Rattle.fa_machine.specs.World.{World, with_payload, with_value_at}
use Rattle.fa_machine.specs.Writing.{claimed_page, program_at, reserved, target_on}
use Rattle.fa_machine.specs.declared.places.Copying.{Copying}
use Rattle.fa_machine.specs.declared.places.Target.{Target}
use Rattle.fa_machine.specs.declared.places.Version.{Version}
use Rattle.fa_types.specs.declared.kind.Kind.{Kind}
use Rattle.std.proofs.Common.{List, None, Option, Some, [], ap, arith, false, inl, inr, map, refl, subst, suc, sym, true, ℕ, ◌+◌}
use Rattle.std.proofs.Common.{◌∙◌, ◌∷◌, ◌≡◌, ◌||◌}
use Rattle.std.proofs.lemmas.Bool.{cases_eq, or_cases, or_left, or_right, true≢false}
use Rattle.std.proofs.lemmas.Option.{none-some}
use Rattle.std.specs.FinMap.{contains_key, get, insert, remove}
use Rattle.std.specs.Prelude.{is_some, option_and_then, ◌++◌}

no_key : {X : Type 0} (o : Option X) → is_some o ≡ false → o ≡ None
no_key None e = refl
no_key (Some x) e = absurd (true≢false e)

-- nothing is reserved under a claim that is not open
unopened : (o : Option OpenClaim) → is_some o ≡ false → (x : Owned) → option_and_then owned_claim o ≡ Some x → ⊥
unopened o e x owns = none-some x (sym (ap (option_and_then owned_claim) (no_key o e)) ∙ owns)

pub claim_known : (w : World) → Known (sight_of w) → (page id : ℕ) → contains_key w.core.claims id ≡ false
    → Known (sight_of (record w { core = record (w.core) { claims = insert w.core.claims id (record { page = page; reserved = None }) } }))
claim_known w k page id free =
    owned_is_known (sight_of w) k (owned_of w.core.copying (insert w.core.claims id (record { page = page; reserved = None }))) w.core.waiting
    (insert_owned w.core.copying w.core.claims id (record { page = page; reserved = None }) (unopened (get w.core.claims id) free))
    (λ p among. inl among)

pub release_known : (w : World) → Known (sight_of w) → (id : ℕ) → is_reserved w.core id ≡ false
    → Known (sight_of (record w { core = record (w.core) { claims = remove w.core.claims id } }))
release_known w k id free =
    owned_is_known (sight_of w) k (owned_of w.core.copying (remove w.core.claims id)) w.core.waiting
    (remove_owned w.core.copying w.core.claims id (nothing_under (get w.core.claims id) free))
    (λ p among. inl among)

module _ (w : World) (h : Holds w) (k : Known (sight_of w)) where
  module _ (claim : ℕ) (kind : Kind) (payload : List ℕ) (free : is_reserved w.core claim ≡ false) where
    abbrev page : ℕ
    page = claimed_page w.core claim

    abbrev version : Version
    version = record { seq = record { 0 = w.core.last + 1 }; kind = kind }

    abbrev slots : List Target
    slots = map (target_on w.core.page_map) (targets w.core.copies w.core.page_map page)

    abbrev x : Owned
    x = record { page = page; version = version; targets = slots }

    abbrev made : OpenClaim
    made = record { page = page; reserved = Some (record { version = version; targets = slots }) }

    abbrev payloads : ℕ → ℕ → List ℕ
    payloads = with_value_at page (w.core.last + 1) payload w.payloads

    abbrev own : Option ℕ → Option Owned
    own = owned_of w.core.copying (insert w.core.claims claim made)

    abbrev recorded : Sight
    recorded = record (sight_of w) { payloads = payloads }

    recorded_known : Known recorded
    recorded_known = recorded_is_known (sight_of w) k payloads
        (λ p v e. value_other page (w.core.last + 1) payload w.payloads p v.seq.0
        (λ same f. let n = (h.sound.numbered p v e).below in absurd (omega (arith, n, f))))

    owns : own (Some claim) ≡ Some x
    owns = ap (option_and_then owned_claim) (get-insert_same w.core.claims claim made)

    new_target : (p : WaitingProgram) → Among p (map (program_at page version payload) slots) → HasTarget own p.die p.slot
    new_target p among =
        let found = among-map (program_at page version payload) p slots among in
        subst (λ (q : WaitingProgram). HasTarget own q.die q.slot) found.2 (record {
          owner = Some claim;
          owned = x;
          target = found.0;
          at = record { owns = owns; among = found.1; on_die = refl; at_slot = refl };
        })

    pub reserve_known : Known (sight_of (record (with_payload claim (w.core.last + 1) payload w) { core = reserved claim kind payload w.core; moment = suc w.moment }))
    reserve_known =
        owned_is_known recorded recorded_known own (w.core.waiting ++ map (program_at page version payload) slots)
        (insert_owned w.core.copying w.core.claims claim made (nothing_under (get w.core.claims claim) free))
        (λ p among. elim (among-append p w.core.waiting (map (program_at page version payload) slots) among) [
          | inl was ↦ inl was
          | inr new ↦ inr (new_target p new)
        ])

  module _ (p die : ℕ) (v : Version) (bytes : List ℕ) (free : copy_open w.core ≡ false) where
    abbrev copied : List ℕ
    copied = copied_payload w.core.page_map v.kind bytes

    abbrev t : Target
    t = target_on w.core.page_map die

    abbrev copy : Copying
    copy = record { page = record { 0 = p }; version = v; target = t }

    abbrev own_copy : Option ℕ → Option Owned
    own_copy = owned_of (Some copy) w.core.claims

    copy_target : (q : WaitingProgram) → Among q (program_at p v copied t ∷ []) → HasTarget own_copy q.die q.slot
    copy_target q (inr rest) = absurd rest
    copy_target q (inl same) = subst (λ (r : WaitingProgram). HasTarget own_copy r.die r.slot) same (record {
      owner = None;
      owned = record { page = p; version = v; targets = t ∷ [] };
      target = t;
      at = record { owns = refl; among = inl refl; on_die = refl; at_slot = refl };
    })

    copying_known : Known (sight_of (record w { core = copying_to w.core p bytes (Some v) (Some die); moment = suc w.moment }))
    copying_known =
        owned_is_known (sight_of w) k own_copy (w.core.waiting ++ program_at p v copied t ∷ [])
        (copy_owned w.core.copying copy w.core.claims (no_key w.core.copying free))
        (λ q among. elim (among-append q w.core.waiting (program_at p v copied t ∷ []) among) [
          | inl was ↦ inl was
          | inr new ↦ inr (copy_target q new)
        ])

  pub reserve_copy_known : (p : ℕ) (bytes : List ℕ) (v : Option Version) (die : Option ℕ) → copy_open w.core ≡ false
      → Known (sight_of (record w { core = copying_to w.core p bytes v die; moment = suc w.moment }))
  reserve_copy_known p bytes (Some v) (Some die) free = copying_known p die v bytes free
  reserve_copy_known p bytes (Some v) None free = k
  reserve_copy_known p bytes None die free = k

  pub spare_known : (die : ℕ) → contains_key w.core.spares die ≡ true → (epoch : ℕ) (behind : Numbers)
      → Known (sight_of (record w {
        core = record (w.core) {
          page_map = record (w.core.page_map) { live = insert w.core.page_map.live die tt };
          epoch = epoch;
          behind = behind;
          spares = remove w.core.spares die;
        };
        moment = suc w.moment;
      }))
  spare_known die was_spare epoch behind =
      fewer_is_known (sight_of w) k (λ d. contains_key (insert w.core.page_map.live die tt) d || contains_key (remove w.core.spares die) d) was
    where
      was : (d : ℕ) → (contains_key (insert w.core.page_map.live die tt) d || contains_key (remove w.core.spares die) d) ≡ true
          → (contains_key w.core.page_map.live d || contains_key w.core.spares d) ≡ true
      was d e =
          elim (cases_eq d die) [
            | inl same ↦ or_right (contains_key w.core.page_map.live d) (contains_key w.core.spares d) (ap (contains_key w.core.spares) same ∙ was_spare)
            | inr apart ↦ elim (or_cases (contains_key (insert w.core.page_map.live die tt) d) (contains_key (remove w.core.spares die) d) e) [
              | inl live ↦ or_left (contains_key w.core.page_map.live d) (contains_key w.core.spares d)
                  (sym (ap is_some (get-insert_other w.core.page_map.live die tt d apart)) ∙ live)
              | inr spare ↦
                  let some = has_some (get (remove w.core.spares die) d) spare in
                  or_right (contains_key w.core.page_map.live d) (contains_key w.core.spares d) (ap is_some (get-remove_some w.core.spares die d some.0 some.1).0)
            ]
          ]
