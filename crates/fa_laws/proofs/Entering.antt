-- SpareIn keeps what holds.
use Rattle.fa_laws.proofs.Invariant.{Holds, later, scene_of}
use Rattle.fa_laws.proofs.Leaving.{entered_is_sound}
use Rattle.fa_machine.proofs.Maps.{get-insert_other, get-remove_some, has_some}
use Rattle.fa_machine.specs.Maps.{Numbers}
use Rattle.fa_machine.specs.World.{World}
use Rattle.std.proofs.Common.{ap, inl, inr, suc, sym, true, ℕ, ◌∙◌, ◌≡◌, ◌⊎◌}
use Rattle.std.proofs.lemmas.Bool.{cases_eq}
use Rattle.std.specs.FinMap.{contains_key, get, insert, remove}
use Rattle.std.specs.Prelude.{is_some}

module _ (w : World) (h : Holds w) (die : ℕ) (was_spare : contains_key w.core.spares die ≡ true) (epoch : ℕ) (behind : Numbers) where
  alive : (d : ℕ) → contains_key (insert w.core.page_map.live die tt) d ≡ true → (contains_key w.core.page_map.live d ≡ true) ⊎ (d ≡ die)
  alive d e =
      elim (cases_eq d die) [
        | inl same ↦ inr same
        | inr apart ↦ inl (sym (ap is_some (get-insert_other w.core.page_map.live die tt d apart)) ∙ e)
      ]

  spares_are : (d : ℕ) → contains_key (remove w.core.spares die) d ≡ true
      → (contains_key w.core.spares d ≡ true) × (contains_key (insert w.core.page_map.live die tt) d ≡ contains_key w.core.page_map.live d)
  spares_are d e =
      let some = has_some (get (remove w.core.spares die) d) e in
      let was = get-remove_some w.core.spares die d some.0 some.1 in
      (ap is_some was.0, ap is_some (get-insert_other w.core.page_map.live die tt d was.1))

  pub spare_holds : Holds (record w {
    core = record (w.core) {
      page_map = record (w.core.page_map) { live = insert w.core.page_map.live die tt };
      epoch = epoch;
      behind = behind;
      spares = remove w.core.spares die;
    };
    moment = suc w.moment;
  })
  spare_holds = record {
    sound = entered_is_sound (scene_of w) h.sound die (λ d. contains_key (insert w.core.page_map.live die tt) d) (λ d. contains_key (remove w.core.spares die) d)
        (record { was_spare = was_spare; alive = alive; spares_are = spares_are });
    jobs = h.jobs;
    claims = h.claims;
    told = h.told;
    ordered = h.ordered;
    plain = h.plain;
    unwritten = h.unwritten;
    answered = later w.core.batches w.admitted w.values w.works w.due w.moment h.answered;
  }
