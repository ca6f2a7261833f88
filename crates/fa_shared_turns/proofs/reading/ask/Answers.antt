use Rattle.std.proofs.Common.{◌≡◌, List, ap, false, length, map, subst, sym}
use Rattle.std.specs.List.{list_all}
use Rattle.std.specs.Prelude.{◌&&◌, nat_le}
use Rattle.fa_machine.specs.Step.{Admit, Step, is_distinct, is_page}
use Rattle.fa_shared_lock.specs.Moves.{Moved, Strayed}
use Rattle.fa_core_calls.specs.Answers.{admit_answer}
use Rattle.fa_types.specs.declared.numbers.Page.{Page}
use Rattle.fa_shared_lock.proofs.Turns.{no_rise}
use Rattle.fa_shared_turns.proofs.reading.ask.Goals as goal

pub returns-in-Some-clause-turned : goal.returns-in-Some-clause-turned
returns-in-Some-clause-turned g c =
    let act = Admit (map (λ (page : Page). page.0) c.as_slice.result.now) (admit_answer c.in-Some.answer) in
    λ t. Moved act (subst (λ locked. Step c.args.locked.now.core act locked.core) (sym c.asked.ensures.locked) c.in-Some.ensures.some)
    (no_rise c.in-Some.ensures.commits)
    (ap (map (λ (page : Page). page.0)) c.as_slice.ensures.value, c.asked.ensures.next) tt

pub returns-in-None-clause-turned : goal.returns-in-None-clause-turned
returns-in-None-clause-turned g c =
    λ t. Strayed c.in-None.ensures.none.1 c.in-None.ensures.commits c.stopped.ensures
    (subst (λ (pages : List Page). (is_distinct (map (λ (page : Page). page.0) pages)
    && list_all (is_page c.args.locked.now.core) (map (λ (page : Page). page.0) pages)
    && nat_le (length (map (λ (page : Page). page.0) pages)) 1024) ≡ false) c.as_slice.ensures.value c.in-None.ensures.none.0)
