use Rattle.std.proofs.Common.{ℕ, List, Option, Some, None, ◌≡◌, Result, Ok, Err, codes, subst, sym, refl, ap, option_map, arith, ◌∙◌}
use Rattle.clap.proofs.WalkLemmas.{one_text-rows}
use Rattle.clap.specs.Matches.{ReadsOne, found_of}
use Rattle.clap.specs.Walk.{one_of, rows_of}
use Rattle.std.specs.Str.Parse.{ParsesUnsigned, ExplainsUnsignedError, HasUnsignedDigitsIfOk}
use Rattle.fa_settings.specs.CommandLine.{IsDie}
use Rattle.fa_types.specs.declared.numbers.Die.{Die}
use Rattle.fa_settings.proofs.command_line.die_of.Goals as goal

module _ {E : Type 0} (gives : List ℕ → Result ℕ E → Type 0) (parses : (t : List ℕ) (r : Result ℕ E) → gives t r → ParsesUnsigned 8 10 t r) where
  is_die : (o : Option (List ℕ)) (n : Option ℕ) → (o ≡ None → n ≡ None) → ((t : List ℕ) → o ≡ Some t → ReadsOne gives t n)
      → IsDie o (option_map (λ k. record { 0 = k }) n)
  is_die None n none value = ap (option_map {T = ℕ} {U = Die} (λ k. record { 0 = k })) (none refl)
  is_die (Some t) (Some n) none value = let p = parses t (Ok n) (value t refl) in (p.0.0, p.1)
  is_die (Some t) None none value =
      let refused = value t refl in λ h. parses t (Err refused.0) refused.1 (h.0, omega (arith, h.1))

  -- the same of what was read, by another name
  pub is_die_of : (o : Option (List ℕ)) (n read : Option ℕ) → read ≡ n → (o ≡ None → read ≡ None)
      → ((t : List ℕ) → o ≡ Some t → ReadsOne gives t read) → IsDie o (option_map (λ k. record { 0 = k }) n)
  is_die_of o n read is none value = is_die o n (λ e. sym is ∙ none e) (λ t e. subst (ReadsOne gives t) is (value t e))

pub returns-in-Some : goal.returns-in-Some
returns-in-Some c =
    let same = one_text-rows (found_of c.args.found.now) (codes "die") in
    is_die_of (λ bs r. ParsesUnsigned 8 10 bs r × ExplainsUnsignedError 10 bs r × HasUnsignedDigitsIfOk bs r) (λ t r g. g.0)
    (one_of (codes "die") (rows_of (found_of c.args.found.now))) (Some c.in-Some.number) c.get_one.result c.in-Some.is
    (λ n. c.get_one.ensures.none (same ∙ n)) (λ t s. c.get_one.ensures.value t (same ∙ s))

pub returns-in-None : goal.returns-in-None
returns-in-None c =
    let same = one_text-rows (found_of c.args.found.now) (codes "die") in
    is_die_of (λ bs r. ParsesUnsigned 8 10 bs r × ExplainsUnsignedError 10 bs r × HasUnsignedDigitsIfOk bs r) (λ t r g. g.0)
    (one_of (codes "die") (rows_of (found_of c.args.found.now))) None c.get_one.result c.in-None.is
    (λ n. c.get_one.ensures.none (same ∙ n)) (λ t s. c.get_one.ensures.value t (same ∙ s))
