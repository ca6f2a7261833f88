use Rattle.std.proofs.Common.{ℕ, List, Option, Some, None, ◌≡◌, Result, Ok, Err, codes, refl, ◌∙◌}
use Rattle.clap.proofs.WalkLemmas.{one_text-rows}
use Rattle.clap.specs.Matches.{ReadsOne, found_of}
use Rattle.clap.specs.Walk.{one_of, rows_of}
use Rattle.std.specs.Str.Parse.{ParsesUnsigned, ExplainsUnsignedError, HasUnsignedDigitsIfOk}
use Rattle.fa_settings.specs.CommandLine.{IsEvery}
use Rattle.fa_settings.proofs.command_line.every_of.Goals as goal

is_every : {E : Type 0} (gives : List ℕ → Result ℕ E → Type 0) (parses : (t : List ℕ) (r : Result ℕ E) → gives t r → ParsesUnsigned 32 10 t r) (o : Option (List ℕ)) (n : Option ℕ)
    → (o ≡ None → n ≡ None) → ((t : List ℕ) → o ≡ Some t → ReadsOne gives t n) → IsEvery o n
is_every gives parses None n none value = none refl
is_every gives parses (Some t) (Some n) none value = let p = parses t (Ok n) (value t refl) in (p.0.0, p.1)
is_every gives parses (Some t) None none value = let refused = value t refl in λ h. parses t (Err refused.0) refused.1 (h.0, h.1)

pub returns : goal.returns
returns c =
    let same = one_text-rows (found_of c.args.found.now) (codes "plans-every") in
    is_every (λ bs r. ParsesUnsigned 32 10 bs r × ExplainsUnsignedError 10 bs r × HasUnsignedDigitsIfOk bs r) (λ t r g. g.0)
    (one_of (codes "plans-every") (rows_of (found_of c.args.found.now))) c.get_one.result
    (λ n. c.get_one.ensures.none (same ∙ n)) (λ t s. c.get_one.ensures.value t (same ∙ s))
