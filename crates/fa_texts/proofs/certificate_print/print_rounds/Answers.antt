use Rattle.std.proofs.Common.{◌≡◌, [], ◌∷◌, ◌++◌, codes, string_bytes, refl, ap, arith, append_assoc, ◌∙◌}
use Rattle.std.specs.Fmt.{decimal}
use Rattle.std.proofs.lemmas.List.Elements.{All-cons, All-nil}
use Rattle.fa_texts.specs.Text.{IsWord}
use Rattle.fa_texts.proofs.Printed.{is_word, number_word, prints_line}
use Rattle.fa_texts.proofs.certificate_print.print_rounds.Goals as goal

pub returns : goal.returns
returns g c =
    let rounds = c.args.rounds in
    let old = string_bytes c.args.out.now in
    let head : string_bytes c.push_str.new.self ≡ old ++ codes "rounds" = c.in_ok-push_str.ensures.bytes in
    let told : string_bytes c.push_str-2.new.self ≡ string_bytes c.push_number.new.out ++ 10 ∷ [] = c.in_ok-push_str-2.ensures.bytes in
    prints_line old (codes "rounds") (decimal rounds ∷ [])
    (told ∙ ap (λ v. v ++ 10 ∷ []) (c.in_ok-push_number.ensures ∙ ap (λ v. v ++ 32 ∷ decimal rounds) head ∙ append_assoc old (codes "rounds") (32 ∷ decimal rounds))
    ∙ append_assoc old (codes "rounds" ++ 32 ∷ decimal rounds) (10 ∷ []))
    (is_word (codes "rounds") refl) (All-cons IsWord (decimal rounds) [] (number_word rounds (omega arith)) (All-nil IsWord))
