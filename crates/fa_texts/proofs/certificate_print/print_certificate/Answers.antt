use Rattle.std.proofs.Common.{rules, [], map, codes, string_bytes, refl, subst}
use Rattle.std.proofs.lemmas.List.Elements.{All-nil}
use Rattle.fa_texts.specs.CertificateText.{short_lines, place_line}
use Rattle.fa_texts.specs.Text.{IsWord, PrintsLines}
use Rattle.fa_texts.proofs.Printed.{is_word, prints_behind, prints_line}
use Rattle.fa_texts.proofs.certificate_print.print_certificate.Goals as goal

pub returns : goal.returns
returns g c =
    let last = prints_line (string_bytes c.print_short.new.out) (codes "end") [] c.in_ok-push_str.ensures.bytes (is_word (codes "end") refl) (All-nil IsWord) in
    let places = subst (λ v. PrintsLines (string_bytes c.print_rounds.new.out) (string_bytes c.print_places.new.out) (map place_line v)) c.deref.ensures.value c.in_ok-print_places.ensures in
    let short = subst (λ v. PrintsLines (string_bytes c.print_places.new.out) (string_bytes c.print_short.new.out) (short_lines v)) c.deref-2.ensures.value c.in_ok-print_short.ensures in
    let printed = prints_behind (prints_behind (prints_behind c.in_ok-print_rounds.ensures places) short) last in
    record {
      text = printed.text;
      behind = printed.behind;
      printed = record {
        placed = c.in_ok-places.places.items;
        short = c.in_ok-pages.pages.items;
        same_places = search rules;
        places_rise = c.in_ok-places.ensures.rising;
        same_pages = search rules;
        pages_rise = c.in_ok-pages.ensures.rising;
        spelled = printed.spelled;
      };
    }
