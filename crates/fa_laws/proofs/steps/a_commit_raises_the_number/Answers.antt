use Rattle.fa_machine.proofs.Maps.{get-insert_other, get-insert_same}
use Rattle.fa_laws.specs.Erased.{RaisesNumber}
use Rattle.fa_machine.specs.Conditions.{reserved_under}
use Rattle.fa_machine.specs.State.{Core, OpenClaim, Reservation}
use Rattle.fa_machine.specs.Writing.{Commits, claimed_page}
use Rattle.fa_machine.specs.declared.places.Version.{Version}
use Rattle.fa_sound.specs.Owners.{owned_claim}
use Rattle.fa_sound.specs.Sound.{IsSound}
use Rattle.fa_types.specs.declared.numbers.Seq.{Seq}
use Rattle.std.proofs.Common.{None, Option, Some, ap, refl, subst, sym, ℕ, ◌<◌, ◌∙◌, ◌≡◌}
use Rattle.std.proofs.lemmas.Option.{none-some}
use Rattle.std.specs.FinMap.{FinMap, get, insert}
use Rattle.std.specs.Ordering.{nat_cmp}
use Rattle.std.specs.Prelude.{Ok, option_and_then, option_map, unwrap_or}
use Rattle.fa_laws.proofs.steps.a_commit_raises_the_number.Goals as goal

reserved_owned : (o : Option OpenClaim) (r : Reservation) → option_and_then {T = OpenClaim} (λ c. c.reserved) o ≡ Some r
    → option_and_then owned_claim o ≡ Some (record { page = unwrap_or (option_map {T = OpenClaim} (λ c. c.page) o) 0; version = r.version; targets = r.targets })
reserved_owned None r e = absurd (none-some r e)
reserved_owned (Some c) r e =
    ap (option_map {T = Reservation} (λ r. record { page = c.page; version = r.version; targets = r.targets })) e

raises : (old new : Core) (claim seat : ℕ) (seq : Seq) (r : Option Reservation) → IsSound old → reserved_under old claim ≡ r
    → Commits old claim seat r (Ok seq) new → RaisesNumber old (claimed_page old claim) seq new
raises old new claim seat seq None sound is d = absurd d
raises old new claim seat seq (Some r) sound is d =
    let page : ℕ = claimed_page old claim in
    let numbers : new.page_map.versions ≡ insert old.page_map.versions page r.version = ap (λ (c : Core). c.page_map.versions) d.2 in
    let fresh = sound.new claim _ (reserved_owned (get old.claims claim) r is) in
    record {
      given = ap (λ (m : FinMap nat_cmp Version). option_map {T = Version} (λ v. v.seq) (get m page)) numbers
          ∙ ap (option_map {T = Version} (λ v. v.seq)) (get-insert_same old.page_map.versions page r.version) ∙ ap Some (sym d.1);
      above = λ before e. subst (λ (n : Seq). before.seq.0 < n.0) (sym d.1) (fresh.newer before e);
      others = λ other apart. ap (λ (m : FinMap nat_cmp Version). get m other) numbers
          ∙ get-insert_other old.page_map.versions page r.version other apart;
    }

pub returns : goal.returns
returns c old new claim seat seq sound step = raises old new claim seat seq (reserved_under old claim) sound refl step.does
