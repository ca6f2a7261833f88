use Rattle.std.proofs.Common.{[], codes, string_bytes, refl}
use Rattle.std.proofs.lemmas.List.Elements.{All-nil}
use Rattle.fa_texts.specs.Text.{IsWord}
use Rattle.fa_texts.proofs.Printed.{is_word, prints_behind, prints_line}
use Rattle.fa_texts.proofs.batch_print.print_batch.Goals as goal

pub returns : goal.returns
returns g c =
    let first = prints_line (string_bytes c.args.out.now) (codes "batch") [] c.in_ok-push_str.ensures.bytes (is_word (codes "batch") refl) (All-nil IsWord) in
    let last = prints_line (string_bytes c.print_runs.new.out) (codes "end") [] c.in_ok-push_str-2.ensures.bytes (is_word (codes "end") refl) (All-nil IsWord) in
    prints_behind (prints_behind (prints_behind first c.in_ok-print_pages.ensures) c.in_ok-print_runs.ensures) last
