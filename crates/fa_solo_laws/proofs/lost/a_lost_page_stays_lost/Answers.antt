use Rattle.fa_solo_laws.proofs.Gone.{NumbersLaw, gone_lost, lost_gone, run_gone}
use Rattle.fa_laws.proofs.Failing.{LiveLaw}
use Rattle.fa_laws.proofs.Returning.{SparesLaw}
use Rattle.fa_laws.proofs.Within.{GeometryLaw}
use Rattle.fa_laws.specs.Leaving.{RunLeaving}
use Rattle.fa_laws.specs.Reached.{IsReached}
use Rattle.fa_machine.proofs.Lists.{among-contains, none_passes}
use Rattle.fa_machine.specs.Copies.{is_lost}
use Rattle.fa_machine.specs.Run.{Happening}
use Rattle.fa_machine.specs.World.{World}
use Rattle.fa_machine.specs.declared.places.Copying.{Copying}
use Rattle.std.proofs.Common.{List, Some, sym, true, ℕ, ◌∙◌, ◌≡◌}
use Rattle.std.proofs.lemmas.Bool.{false≢true}
use Rattle.fa_solo_laws.proofs.lost.a_lost_page_stays_lost.Goals as goal

stays_lost : LiveLaw → SparesLaw → NumbersLaw → GeometryLaw → (w last : World) (happenings : List Happening) (page : ℕ) → IsReached w
    → is_lost w.core.page_map page ≡ true → ((c : Copying) → w.core.copying ≡ Some c → c.page.0 ≡ page → ⊥) → RunLeaving page w happenings last
    → is_lost last.core.page_map page ≡ true
stays_lost lives spares numbers same w last happenings page reached lost none run =
    gone_lost page last.core (run_gone lives spares numbers page w reached (lost_gone lives spares same w reached page lost none) happenings last run)

pub returns : goal.returns
returns c =
    let lives = c.live_dies_are_kept.ensures in
    let spares = c.spares_are_kept.ensures in
    let numbers = c.numbers_are_kept.ensures in
    let same = c.the_geometry_is_kept.ensures in
    record {
      lost = stays_lost lives spares numbers same;
      never_read = λ w last after happenings page pages admitted reached lost none run has admits.
          false≢true (sym (none_passes (is_lost last.core.page_map) pages admits.step.does.0.0 page (among-contains page pages has.0 has.1 has.2))
          ∙ stays_lost lives spares numbers same w last happenings page reached lost none run);
    }
