use Rattle.std.proofs.Common.{◌≡◌, ℕ, ◌<◌, [], ◌∷◌, ◌++◌, List, length, take, get_or, map, codes, string_bytes, All, sym, ap, arith, append_assoc, ◌∙◌, subst}
use Rattle.std.specs.Fmt.{decimal}
use Rattle.std.proofs.lemmas.List.{append-nil, take_all}
use Rattle.std.proofs.lemmas.List.Elements.{All-more, All-nil}
use Rattle.fa_types.specs.declared.numbers.Die.{Die}
use Rattle.fa_texts.specs.Text.{IsWord}
use Rattle.fa_texts.proofs.Printed.{number_word, page_head, page_printed, spaced, spaced_more}
use Rattle.fa_texts.proofs.batch_print.print_page.Goals as goal

pub loop-die-init : goal.loop-die-init
loop-die-init g c =
    let old = string_bytes c.args.out.now in
    let page = decimal c.args.page.0 in
    let first : string_bytes c.push_str.new.self ≡ old ++ codes "page" = c.in_ok-push_str.ensures.bytes in
    let told : string_bytes c.push_str-2.new.self ≡ string_bytes c.push_number.new.out ++ codes " on" = c.in_ok-push_str-2.ensures.bytes in
    let number = c.in_ok-push_number.ensures ∙ ap (λ v. v ++ 32 ∷ page) first ∙ append_assoc old (codes "page") (32 ∷ page) in
    let head = told ∙ ap (λ v. v ++ codes " on") number ∙ append_assoc old (codes "page" ++ 32 ∷ page) (codes " on")
    ∙ ap (λ v. old ++ v) (append_assoc (codes "page") (32 ∷ page) (codes " on")) in
    (head ∙ ap (λ v. old ++ v) (sym (append-nil (page_head c.args.page.0))), All-nil (λ (d : Die). IsWord (decimal d.0)))

pub loop-die-preserved : goal.loop-die-preserved
loop-die-preserved g c =
    let dies = c.args.holders.now in
    let i : ℕ = c.loop-die.die-index in
    let none : Die = record { 0 = 0 } in
    let head : List ℕ = page_head c.args.page.0 in
    let so_far : List ℕ = spaced (map (λ (d : Die). decimal d.0) (take i dies)) in
    let below : i < length dies = omega arith in
    let told : string_bytes c.push_number-in-loop-die.new.out ≡ string_bytes c.loop-die.out ++ 32 ∷ decimal (get_or dies i none).0 =
    c.in_ok-push_number-2.ensures ∙ ap (λ n. string_bytes c.loop-die.out ++ 32 ∷ decimal n) c.into.ensures in (
      told ∙ ap (λ v. v ++ 32 ∷ decimal (get_or dies i none).0) c.loop-die.invariant.0
          ∙ append_assoc (string_bytes c.args.out.now) (head ++ so_far) (32 ∷ decimal (get_or dies i none).0)
          ∙ ap (λ v. string_bytes c.args.out.now ++ v) (append_assoc head so_far (32 ∷ decimal (get_or dies i none).0) ∙ ap (λ v. head ++ v) (sym (spaced_more (λ (d : Die). decimal d.0) dies i none below))),
      All-more (λ d. IsWord (decimal d.0)) dies i none below c.loop-die.invariant.1 (number_word (get_or dies i none).0 (omega arith)),
    )

pub returns : goal.returns
returns g c =
    let dies = c.args.holders.now in
    let whole = take_all c.loop-die.die-index dies (omega arith) in
    let head : List ℕ = page_head c.args.page.0 in
    let words : List (List ℕ) = map (λ (d : Die). decimal d.0) dies in
    let so_far : string_bytes c.loop-die.out ≡ string_bytes c.args.out.now ++ (head ++ spaced words) =
    c.loop-die.invariant.0 ∙ ap (λ v. string_bytes c.args.out.now ++ (head ++ spaced (map (λ (d : Die). decimal d.0) v))) whole in
    let told : string_bytes c.push_str-3.new.self ≡ string_bytes c.loop-die.out ++ 10 ∷ [] = c.in_ok-push_str-3.ensures.bytes in
    page_printed (string_bytes c.args.out.now) c.args.page dies (omega arith) (subst (λ v. All (λ d. IsWord (decimal d.0)) v) whole c.loop-die.invariant.1)
    (told ∙ ap (λ v. v ++ 10 ∷ []) so_far ∙ append_assoc (string_bytes c.args.out.now) (head ++ spaced words) (10 ∷ []))
