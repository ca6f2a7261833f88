use Rattle.std.proofs.Common.{◌≡◌, option_map, option_and_then, Some, None, refl, sym, ap₂, ℕ, List, Option, ◌∙◌, subst}
use Rattle.std.proofs.lemmas.Option.{none-some, same_Some}
use Rattle.std.specs.Box.{box_value}
use Rattle.clap.specs.Matches.{found_of, subcommand_name_of}
use Rattle.clap.specs.Simple.{subcommand_rows, subcommand_rows_of}
use Rattle.clap.specs.Walk.{Row, rows_of}
use Rattle.clap.specs.declared.parser.matches.ArgMatches.{ArgMatches}
use Rattle.clap.specs.declared.parser.matches.ArgMatches.TheViews.{out-ArgMatches, out-SubCommand}
use Rattle.fa_settings.specs.CommandLine.{wanted_by, IsWanted}
use Rattle.fa_settings.proofs.command_line.asked.Goals as goal

-- the name of what was found is that of its rows
names : (m : ArgMatches) → subcommand_name_of m ≡ option_map (λ found. found.0) (subcommand_rows_of m)
names m = elim ((out-ArgMatches m).subcommand) as (λ o. option_map (λ b. (out-SubCommand (box_value b)).name.now) o ≡ option_map (λ found. found.0) (subcommand_rows o)) [
  | Some b ↦ refl
  | None ↦ refl
]

both : (x : Option (List ℕ × List Row)) (name : List ℕ) (rows : List Row) → Some name ≡ option_map (λ p. p.0) x
    → Some rows ≡ option_map (λ p. p.1) x → x ≡ Some (name, rows)
both None name rows n r = absurd (none-some name (sym n))
both (Some p) name rows n r = ap₂ (λ a b. Some (a, b)) (same_Some p.0 name (sym n)) (same_Some p.1 rows (sym r))

none : (x : Option (List ℕ × List Row)) → None ≡ option_map (λ p. p.0) x → x ≡ None
none None n = refl
none (Some p) n = absurd (none-some p.0 n)

pub returns-in-Some : goal.returns-in-Some
returns-in-Some c =
    let m = c.args.matches.now in
    let found = both (subcommand_rows_of m) c.in-Some.name.now (rows_of (found_of c.in-Some.found.now)) (c.in-Some.ensures.name ∙ names m) c.in-Some.ensures.rows in
    subst (λ o. IsWanted c.wanted.result (option_and_then (λ p. wanted_by p.0 p.1) o)) (sym found) c.wanted.ensures

pub returns-in-None : goal.returns-in-None
returns-in-None c =
    let m = c.args.matches.now in
    subst (λ o. IsWanted None (option_and_then (λ p. wanted_by p.0 p.1) o)) (sym (none (subcommand_rows_of m) (c.in-None.ensures.name ∙ names m))) tt
