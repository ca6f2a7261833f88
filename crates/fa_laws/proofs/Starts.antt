-- What holds at a beginning.
use Rattle.fa_laws.proofs.ImageCalls.{moves}
use Rattle.fa_laws.proofs.Invariant.{Holds, owned_claim, owned_of, scene_of}
use Rattle.fa_machine.proofs.Orders.{order_once}
use Rattle.fa_laws.proofs.Scene.{IsHeld, IsNumbered, Owned, program_is_at, programs_at, writes}
use Rattle.fa_machine.specs.Among.{Among, tally}
use Rattle.fa_machine.specs.Beginning.{IsBeginning, IsPlainOf, StandsAt}
use Rattle.fa_machine.specs.Cells.{moved_payload}
use Rattle.fa_machine.specs.Reading.{zeros}
use Rattle.fa_machine.specs.State.{Core, OpenBatch, OpenClaim, WaitingProgram, is_live, used_at}
use Rattle.fa_machine.specs.World.{Work, World, plain_page}
use Rattle.fa_machine.specs.declared.places.Copying.{Copying}
use Rattle.fa_machine.specs.declared.places.Used.TheVariants.{Held}
use Rattle.fa_machine.specs.declared.places.Version.{Version}
use Rattle.fa_types.specs.declared.numbers.Page.{Page}
use Rattle.std.proofs.Common.{None, Option, Some, [], ap, arith, subst, sym, ℕ, ◌∙◌, ◌∷◌, ◌≡◌, ◌≤◌}
use Rattle.std.proofs.lemmas.Bool.{or_left}
use Rattle.std.proofs.lemmas.Option.{none-some, same_Some}
use Rattle.std.specs.FinMap.{FinMap, contains_key, empty, get, get-empty}
use Rattle.std.specs.Ordering.{nat_cmp}
use Rattle.std.specs.Prelude.{is_some, option_and_then, option_map}

opened_empty : (copying : Option Copying) (claims : FinMap nat_cmp OpenClaim) → copying ≡ None → claims ≡ empty → (q : Option ℕ)
    → owned_of copying claims q ≡ None
opened_empty copying claims a b None = ap (option_map {T = Copying} (λ c. record { page = c.page.0; version = c.version; targets = c.target ∷ [] })) a
opened_empty copying claims a b (Some id) = ap (option_and_then owned_claim) (ap (λ (m : FinMap nat_cmp OpenClaim). get m id) b ∙ get-empty nat_cmp id)

numbered_at : (w : World) (page : ℕ) (o : Option Version) (v : Version) → o ≡ Some v → IsPlainOf w page o
    → IsNumbered (scene_of w).bytes (scene_of w).plain page v
numbered_at w page None v e plain = absurd (none-some v e)
numbered_at w page (Some u) v e plain =
    subst (IsNumbered (scene_of w).bytes (scene_of w).plain page) (same_Some u v e) (record {
      right = plain.0;
      hole = λ is. plain.0 ∙ plain.1 is;
      below = plain.3;
    })

unwritten_at : (w : World) (page : ℕ) (o : Option Version) → o ≡ None → IsPlainOf w page o → plain_page w page ≡ zeros w.core.page_map
unwritten_at w page None e plain = plain
unwritten_at w page (Some u) e plain = absurd (none-some u (sym e))

module _ (w : World) (b : IsBeginning w) where
  no_claims : w.core.claims ≡ empty
  no_claims = ap (λ (c : Core). c.claims) b.fresh

  nothing_owned : (q : Option ℕ) (x : Owned) → owned_of w.core.copying w.core.claims q ≡ Some x → ⊥
  nothing_owned q x e =
      none-some x (sym (opened_empty w.core.copying w.core.claims (ap (λ (c : Core). c.copying) b.fresh) no_claims q) ∙ e)

  nothing_waits : (p : WaitingProgram) → Among p w.core.waiting → ⊥
  nothing_waits p among = subst (Among p) (ap (λ (c : Core). c.waiting) b.fresh) among

  numbered : (page : ℕ) (v : Version) → get w.core.page_map.versions page ≡ Some v → IsNumbered (scene_of w).bytes (scene_of w).plain page v
  numbered page v e =
      numbered_at w page (get w.core.page_map.versions page) v e (b.plain page (b.written page (ap is_some e)))

  held : (die slot : ℕ) (page : Page) (version : Version) → used_at w.core.page_map die slot ≡ Some (Held page version)
      → IsHeld (scene_of w).bytes die slot page.0 version
  held die slot page version e =
      let there = b.used die slot (ap is_some e) in
      let stands = subst (StandsAt w die slot) e
      (b.stands die slot (or_left (is_live w.core.page_map die) (contains_key w.core.spares die) there.0) there.1) in
      let number = numbered page.0 version stands.0 in
      record {
        cell = ap (moved_payload page.0 version die slot) stands.1 ∙ moves page.0 version die slot (plain_page w page.0) ∙ ap Some (sym number.right);
        below = number.below;
      }

  no_batch_open : (batch : ℕ) (o : OpenBatch) → get w.core.batches batch ≡ Some o → ⊥
  no_batch_open batch o e =
      none-some o (sym (ap (λ (c : Core). get c.batches batch) b.fresh ∙ get-empty nat_cmp batch) ∙ e)

  once_begun : (die slot : ℕ) → programs_at w.core.waiting w.works die slot ≤ 1
  once_begun die slot =
      let a = ap (tally (program_is_at die slot)) (ap (λ (c : Core). c.waiting) b.fresh) in
      let n = ap (λ o. writes o slot) (b.idle die) in
      omega (arith, a, n)

  pub beginning_holds : Holds w
  beginning_holds = record {
    sound = record {
      numbered = numbered;
      held = held;
      owned = λ q x e. absurd (nothing_owned q x e);
      apart = λ die slot q x t r y u at other alive. absurd (nothing_owned q x at.owns);
      waits = λ p among. absurd (nothing_waits p among);
      once = once_begun;
      works = λ die work e. absurd (none-some work (sym (b.idle die) ∙ e));
      spares = λ die e. (b.spares die e).1;
    };
    jobs = λ die. ap (λ (c : Core). get c.jobs die) b.fresh ∙ get-empty nat_cmp die ∙ sym (ap (option_map {T = Work} (λ k. k.job.flight)) (b.idle die));
    claims = λ id c e. absurd (none-some c (sym (ap (λ (m : FinMap nat_cmp OpenClaim). get m id) no_claims ∙ get-empty nat_cmp id) ∙ e));
    told = λ t among. absurd (subst (Among t) b.told among);
    ordered = order_once w.core.copies w.core.page_map b.copies b.enough;
    plain = b.pages.0;
    unwritten = λ page low e. unwritten_at w page (get w.core.page_map.versions page) e (b.plain page low);
    answered = record {
      since = λ batch o e. absurd (no_batch_open batch o e);
      answers = λ batch o page bytes e f. absurd (no_batch_open batch o e);
      reading = λ die work batch page version slot o e f g. absurd (no_batch_open batch.0 o g);
    };
  }
