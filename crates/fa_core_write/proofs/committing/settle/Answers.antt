use Rattle.std.proofs.Common.{ap, sym, ◌∙◌, ◌++◌, ◌∷◌, [], None}
use Rattle.fa_core_tables.specs.Claims.{claims_of, targets_of}
use Rattle.fa_machine.specs.Writing.{with_targets}
use Rattle.fa_machine.specs.declared.answers.HistoryEntry.TheVariants.{Commit}
use Rattle.fa_machine.specs.declared.places.Used.TheVariants.{Held}
use Rattle.fa_map_calls.specs.Changes.{renewed}
use Rattle.fa_core_tables.specs.Logs.{history_of}
use Rattle.fa_core_state.specs.Core.{core_of}
use Rattle.fa_core_commit.specs.Holding.{live_of}
use Rattle.std.specs.FinMap.{insert}
use Rattle.fa_core_write.proofs.committing.settle.Goals as goal

pub returns-clause-settled : goal.returns-clause-settled
returns-clause-settled g c =
    let m = g.M.Map.view c.args.state.now.page_map in
    let version = c.args.reservation.version in
    let claims = claims_of c.args.state.now.claims in λ i. record (core_of g.M.Map.view c.args.state.now) {
      page_map = (c.replace_copies.ensures
          ∙ (λ j. with_targets (Held c.args.page version) (live_of m (c.items.ensures j)) (renewed c.args.page.0 version m))
          ∙ (λ j. with_targets (Held (record { 0 = c.requires.page j }) version) (live_of m (targets_of c.args.reservation.targets))
          (renewed (c.requires.page j) version m))) i;
      claims = (c.set_reserved.ensures.reserved
          ∙ ap (λ n. insert claims c.args.claim.0 (record { page = n; reserved = None })) (sym c.set_reserved.ensures.page)) i;
      base = c.note_commit.ensures.base i;
      history = (c.note_commit.ensures.history
          ∙ ap (λ n. history_of c.args.state.now.log ++ Commit c.args.seat (record { 0 = n }) version.seq ∷ []) c.requires.page) i;
    }
