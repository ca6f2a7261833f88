use Rattle.std.proofs.Common.{rules, ◌≡◌, ℕ, ◌<◌, [], ◌∷◌, ◌++◌, List, length, take, get_or, map, codes, string_bytes, All, sym, ap, arith, append_assoc, ◌∙◌, subst}
use Rattle.std.specs.Fmt.{decimal}
use Rattle.std.proofs.lemmas.List.{take_all}
use Rattle.std.proofs.lemmas.List.Elements.{All-more}
use Rattle.fa_types.specs.declared.numbers.Page.{Page}
use Rattle.fa_texts.specs.Text.{IsWord}
use Rattle.fa_texts.proofs.Printed.{ended, ended_is, number_word, short_printed, spaced, spaced_more}
use Rattle.fa_texts.proofs.certificate_print.print_short.Goals as goal

pub loop-page-preserved : goal.loop-page-preserved
loop-page-preserved g c =
    let pages = c.args.pages.now in
    let i : ℕ = c.loop-page.page-index in
    let none : Page = record { 0 = 0 } in
    let so_far : List ℕ = spaced (map (λ (p : Page). decimal p.0) (take i pages)) in
    let below : i < length pages = omega arith in
    let told : string_bytes c.push_number.new.out ≡ string_bytes c.loop-page.out ++ 32 ∷ decimal (get_or pages i none).0 = c.in_ok-push_number.ensures in (
      told ∙ ap (λ v. v ++ 32 ∷ decimal (get_or pages i none).0) c.loop-page.invariant.0
          ∙ append_assoc (string_bytes c.args.out.now) (codes "short" ++ so_far) (32 ∷ decimal (get_or pages i none).0)
          ∙ ap (λ v. string_bytes c.args.out.now ++ (codes "short" ++ v)) (sym (spaced_more (λ (p : Page). decimal p.0) pages i none below)),
      All-more (λ p. IsWord (decimal p.0)) pages i none below c.loop-page.invariant.1 (number_word (get_or pages i none).0 (omega arith)),
    )

pub returns : goal.returns
returns g c =
    let pages = c.args.pages.now in
    let i : ℕ = c.loop-page.page-index in
    let whole = take_all i pages (omega arith) in
    let words : List (List ℕ) = map (λ (p : Page). decimal p.0) pages in
    let so_far : string_bytes c.loop-page.out ≡ string_bytes c.args.out.now ++ (codes "short" ++ spaced words) =
    c.loop-page.invariant.0 ∙ ap (λ v. string_bytes c.args.out.now ++ (codes "short" ++ spaced (map (λ (p : Page). decimal p.0) v))) whole in
    let told : string_bytes c.push_str-2.new.self ≡ string_bytes c.loop-page.out ++ 10 ∷ [] = c.in_ok-push_str-2.ensures.bytes in
    record {
      text = codes "short" ++ ended words;
      behind = told ∙ ap (λ v. v ++ 10 ∷ []) so_far ∙ append_assoc (string_bytes c.args.out.now) (codes "short" ++ spaced words) (10 ∷ [])
          ∙ ap (λ v. string_bytes c.args.out.now ++ (codes "short" ++ v)) (ended_is words);
      spelled = short_printed pages (search rules) (subst (λ v. All (λ p. IsWord (decimal p.0)) v) whole c.loop-page.invariant.1);
    }

pub returns-then-is_empty : goal.returns-then-is_empty
returns-then-is_empty g c = search rules
