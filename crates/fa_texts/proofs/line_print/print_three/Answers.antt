use Rattle.std.proofs.Common.{[], ◌∷◌, string_bytes, arith}
use Rattle.std.specs.Fmt.{decimal}
use Rattle.std.proofs.lemmas.List.Elements.{All-cons, All-nil}
use Rattle.fa_texts.specs.Text.{IsWord}
use Rattle.fa_texts.proofs.Printed.{number_word, prints_line, spaced_three}
use Rattle.fa_texts.proofs.line_print.print_three.Goals as goal

pub returns : goal.returns
returns g c =
    let a = decimal c.args.first in
    let b = decimal c.args.second in
    let d = decimal c.args.third in
    prints_line (string_bytes c.args.out.now) c.args.word.now (a ∷ b ∷ d ∷ [])
    (spaced_three (string_bytes c.args.out.now) c.args.word.now a b d c.in_ok-push_str.ensures.bytes c.in_ok-push_number.ensures c.in_ok-push_number-2.ensures
    c.in_ok-push_number-3.ensures c.in_ok-push_str-2.ensures.bytes)
    c.requires
    (All-cons IsWord a (b ∷ d ∷ []) (number_word c.args.first (omega arith)) (All-cons IsWord b (d ∷ []) (number_word c.args.second (omega arith))
    (All-cons IsWord d [] (number_word c.args.third (omega arith)) (All-nil IsWord))))
