use Rattle.fa_solo_laws.proofs.ReadBack.{answered_page}
use Rattle.fa_laws.proofs.Answering.{plain_changes, reached_holds}
use Rattle.fa_laws.proofs.Claiming.{claimed_inside}
use Rattle.fa_machine.specs.Conditions.{history_full, is_reserved}
use Rattle.fa_machine.specs.Run.{Event}
use Rattle.fa_machine.specs.State.{OpenClaim}
use Rattle.fa_machine.specs.Step.{Commit}
use Rattle.fa_machine.specs.Writing.{claimed_page}
use Rattle.std.proofs.Common.{List, None, Option, Some, [], ap, arith, length, not, refl, true, ℕ, ◌<◌, ◌∙◌, ◌≡◌}
use Rattle.std.proofs.lemmas.Bool.{and_parts}
use Rattle.std.proofs.lemmas.List.{get_or-set_other, get_or-set_same}
use Rattle.std.specs.FinMap.{get}
use Rattle.std.specs.Prelude.{Ok, is_some, option_and_then, slice_index_or}
use Rattle.fa_solo_laws.proofs.writes.what_was_written_is_read_back.Goals as goal

open_claim : (o : Option OpenClaim) → is_some (option_and_then {T = OpenClaim} (λ e. e.reserved) o) ≡ true → is_some o ≡ true
open_claim None e = e
open_claim (Some entry) e = refl

pub returns : goal.returns
returns c = record {
  written = λ w written calm opened last after claim seat seq payload before happenings pages admitted answer bytes reached commits puts run none opens then_run
      then_none ends has.
      let h = reached_holds w reached in
      let inside = claimed_inside w h claim (open_claim (get w.core.claims claim) (and_parts (is_reserved w.core claim) (not (history_full w.core)) commits.step.allows).0) in
      let low : claimed_page w.core claim < length w.plain = let n = h.plain in omega (arith, n, inside) in
      answered_page w written calm opened last after claim seat seq before happenings pages admitted answer (claimed_page w.core claim) bytes reached commits run none
      opens then_run then_none ends has
      ∙ ap (λ (plain : List (List ℕ)). slice_index_or plain (claimed_page w.core claim) []) puts
      ∙ get_or-set_same w.plain (claimed_page w.core claim) payload [] low;
  others = λ w written calm opened last after claim seat seq before happenings pages admitted answer page bytes reached commits run none opens then_run
      then_none ends other has.
      answered_page w written calm opened last after claim seat seq before happenings pages admitted answer page bytes reached commits run none
      opens then_run then_none ends has
      ∙ ap (λ (plain : List (List ℕ)). slice_index_or plain page []) (plain_changes w written (Event (Commit claim seat (Ok seq))) commits)
      ∙ get_or-set_other w.plain (claimed_page w.core claim) page (w.payloads (claimed_page w.core claim) seq.0) [] other;
}
