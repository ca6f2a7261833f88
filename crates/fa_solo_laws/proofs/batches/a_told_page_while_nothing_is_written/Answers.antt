use Rattle.fa_solo_laws.proofs.Due.{happens_plain, run_plain}
use Rattle.fa_machine.specs.Run.{Event}
use Rattle.fa_machine.specs.Step.{Take}
use Rattle.std.proofs.Common.{List, Some, [], ap, sym, ℕ, ◌∙◌}
use Rattle.std.specs.Prelude.{slice_index_or}
use Rattle.fa_solo_laws.proofs.batches.a_told_page_while_nothing_is_written.Goals as goal

pub returns : goal.returns
returns c = record {
  read = λ w middle last after die seat job batch page version slot happenings cell reached took is run none going done.
      c.a_read_gives_the_page_of_its_take.ensures w middle last after die seat job batch page version slot happenings cell reached took is run going done
      ∙ ap (λ (pages : List (List ℕ)). Some (slice_index_or pages page.0 []))
      (sym (run_plain middle happenings last run none ∙ happens_plain w middle (Event (Take die seat (Some job))) tt took));
  told = λ w last t version happenings reached told number same run none.
      c.what_was_told_is_the_numbers_bytes.ensures.plain w t version reached told number same
      ∙ ap (λ (pages : List (List ℕ)). slice_index_or pages t.page []) (sym (run_plain w happenings last run none));
}
