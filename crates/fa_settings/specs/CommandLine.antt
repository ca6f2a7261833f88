-- The command line: what the arguments of the program ask for, by the grammar of clap.
use Rattle.std.specs.Prelude.{◌≡◌, ℕ, ◌<◌, ◌^◌, pos, Bool, if◌then◌else◌, true, false, List, [], ◌∷◌, codes, Option, None, Some}
use Rattle.std.specs.Prelude.{option_map, option_and_then, ◌&&◌, not, is_some}
use Rattle.std.specs.Option.{option_map_or}
use Rattle.std.specs.Str.{bytes_eq}
use Rattle.std.specs.Str.Parse.{IsNumeral, digits_value, without_leading_plus}
use Rattle.clap.specs.Simple.{App, Shape, new_rule, new_shape, with_subcommand, subcommand_of}
use Rattle.clap.specs.Faults.{fault_of}
use Rattle.clap.specs.Kinds.{Kinds}
use Rattle.clap.specs.Walk.{Row, Rule, first_of, one_of}
use Rattle.clap.specs.declared.builder.action.ArgAction.TheVariants.{Set, SetTrue}
use Rattle.clap.specs.declared.builder.value_parser.ValueParser.TheVariants.{Signed}
use Rattle.fa_types.specs.declared.numbers.Die.{Die}
use Rattle.fa_settings.specs.Terms.{terms_by}
use Rattle.fa_settings.specs.declared.command_line.Subcommand.{Subcommand}
use Rattle.fa_settings.specs.declared.command_line.Subcommand.TheVariants.{Format, Check, Dump, Serve, Status, Plan, Talk, TalkArray, Verify, VerifyLog}
use Rattle.fa_settings.specs.declared.command_line.PlansFile.{PlansFile}
use Rattle.fa_settings.specs.declared.terms.Terms.{Terms}
use Rattle.fa_settings.specs.declared.terms.Terms.TheVariants.{Closed}

-- the path of the settings, which has to be given
abbrev pub settings_argument : Rule
settings_argument = record (new_rule (codes "settings")) { action = Some Set; value_names = 1; required = true }

-- a flag
abbrev pub flag : List ℕ → Rule
flag name = record (new_rule name) { long = Some name; action = Some SetTrue }

-- a die's number, 0 to 63
abbrev pub die_argument : Rule
die_argument = record (new_rule (codes "die")) {
  long = Some (codes "die");
  action = Some Set;
  value_names = 1;
  parser = Some (Signed (pos 0) (pos 63));
}

-- a number of batches, 1 to 1,000,000
abbrev pub every_argument : Rule
every_argument = record (new_rule (codes "plans-every")) {
  long = Some (codes "plans-every");
  action = Some Set;
  value_names = 1;
  parser = Some (Signed (pos 1) (pos 1000000));
}

-- an option with a text, which may be left out
abbrev pub option_argument : List ℕ → Rule
option_argument name = record (new_rule name) { long = Some name; action = Some Set; value_names = 1 }

-- the address of a server that is asked, which has to be given
abbrev pub address_argument : Rule
address_argument = record (new_rule (codes "address")) { action = Some Set; value_names = 1; required = true }

-- a command with its arguments
abbrev pub with_arguments : List ℕ → List Rule → Shape
with_arguments name rules = record (new_shape name) { rules = rules }

-- the program: it wants a command, it has a version, and its own name is not among the arguments
abbrev pub program : Shape
program = record (new_shape (codes "flasharr")) {
  no_binary_name = true;
  disable_help_subcommand = true;
  has_version = true;
  subcommand_required = true;
}

-- the arguments of a command that mounts an array, which has this flag besides
abbrev pub array_arguments : List ℕ → List Rule
array_arguments name = settings_argument ∷ flag (codes "unclean") ∷ flag (codes "recover") ∷ flag name ∷ []

-- the arguments of `serve` and of `status`
abbrev pub serve_arguments : List Rule
serve_arguments =
    settings_argument ∷ flag (codes "unclean") ∷ flag (codes "recover") ∷ flag (codes "verbose")
    ∷ option_argument (codes "status") ∷ option_argument (codes "plans") ∷ every_argument ∷ []

abbrev pub status_arguments : List Rule
status_arguments = address_argument ∷ flag (codes "watch") ∷ []

-- the arguments of `talk` and of `verify`
abbrev pub talk_arguments : List Rule
talk_arguments = option_argument (codes "array") ∷ flag (codes "unclean") ∷ flag (codes "recover") ∷ []

abbrev pub verify_arguments : List Rule
verify_arguments = option_argument (codes "log") ∷ []

-- the program with its commands, each of which has --help besides
abbrev pub command_line : App
command_line =
    with_subcommand (with_subcommand (with_subcommand (with_subcommand (with_subcommand (with_subcommand (with_subcommand (with_subcommand
    (record { top = program; subs = [] })
    (with_arguments (codes "format") (settings_argument ∷ die_argument ∷ [])))
    (with_arguments (codes "check") (array_arguments (codes "json")))) (with_arguments (codes "dump") (array_arguments (codes "json"))))
    (with_arguments (codes "serve") serve_arguments)) (with_arguments (codes "status") status_arguments))
    (new_shape (codes "plan"))) (with_arguments (codes "talk") talk_arguments)) (with_arguments (codes "verify") verify_arguments)

-- What the arguments are where they are no command: a request for help or for the version, or a mistake, as the
-- kinds of it that clap may tell. There is none where they are a command.
unfoldable pub found_instead : List (List ℕ) → Kinds
found_instead arguments = fault_of command_line arguments

-- a file for plans, by what follows --plans and --plans-every
pub record PlansAsked : Type 0 where
  pub path : List ℕ
  pub every : Option (List ℕ)

-- what a command asks for; what follows --die is its text
pub data Wanted : Type 0 where
  Formats : (settings : List ℕ) (die : Option (List ℕ)) → Wanted
  Checks : (settings : List ℕ) (terms : Terms) (json : Bool) → Wanted
  Dumps : (settings : List ℕ) (terms : Terms) (json : Bool) → Wanted
  Serves : (settings : List ℕ) (terms : Terms) (verbose : Bool) (status : Option (List ℕ)) (plans : Option PlansAsked) → Wanted
  Asks : (address : List ℕ) (watch : Bool) → Wanted
  Plans : Wanted
  Talks : Wanted
  TalksOver : (settings : List ℕ) (terms : Terms) → Wanted
  Verifies : Wanted
  VerifiesLog : (file : List ℕ) → Wanted

-- whether a flag was given
abbrev pub is_given : List ℕ → List Row → Bool
is_given name rows = option_map_or (λ text. bytes_eq text (codes "true")) (first_of name rows) false

-- the terms that the flags name
abbrev pub terms_in : List Row → Option Terms
terms_in rows = terms_by (is_given (codes "unclean") rows) (is_given (codes "recover") rows)

-- what a command asks for with a path, and with terms where there are some
abbrev pub with_terms : Option (List ℕ) → Option Terms → (List ℕ → Terms → Wanted) → Option Wanted
with_terms path terms wanted = option_and_then (λ p. option_map (wanted p) terms) path

-- what the commands with arguments ask for, by what was found of these; there is always a path
abbrev pub formats : List Row → Option Wanted
formats rows = option_map (λ path. Formats path (one_of (codes "die") rows)) (first_of (codes "settings") rows)

abbrev pub checks : List Row → Option Wanted
checks rows = with_terms (first_of (codes "settings") rows) (terms_in rows) (λ path terms. Checks path terms (is_given (codes "json") rows))

abbrev pub dumps : List Row → Option Wanted
dumps rows = with_terms (first_of (codes "settings") rows) (terms_in rows) (λ path terms. Dumps path terms (is_given (codes "json") rows))

-- whether plans are counted, and there is no file for them
abbrev pub misses_plans : List Row → Bool
misses_plans rows = is_some (first_of (codes "plans-every") rows) && not (is_some (first_of (codes "plans") rows))

-- the file for plans, where one is named
abbrev pub plans_in : List Row → Option PlansAsked
plans_in rows =
    option_map (λ path. record { path = path; every = one_of (codes "plans-every") rows }) (first_of (codes "plans") rows)

-- nothing is asked for where plans are counted and there is no file for them
abbrev pub serves : List Row → Option Wanted
serves rows =
    if misses_plans rows then None
    else with_terms (first_of (codes "settings") rows) (terms_in rows)
    (λ path terms. Serves path terms (is_given (codes "verbose") rows) (first_of (codes "status") rows) (plans_in rows))

abbrev pub asks : List Row → Option Wanted
asks rows = option_map (λ address. Asks address (is_given (codes "watch") rows)) (first_of (codes "address") rows)

-- `talk` asks for an array where the path of its settings is given, and else for a store in memory. Nothing is asked for where there is no
-- array and yet terms are named for one.
abbrev pub talks_without : Option Terms → Option Wanted
talks_without (Some Closed) = Some Talks
talks_without terms = None

abbrev pub talks : List Row → Option Wanted
talks rows = option_map_or (λ path. option_map (TalksOver path) (terms_in rows)) (first_of (codes "array") rows) (talks_without (terms_in rows))

-- `verify` asks for a file where its path is given, and else for what stands on the input
abbrev pub verifies : List Row → Wanted
verifies rows = option_map_or VerifiesLog (first_of (codes "log") rows) Verifies

-- what the command of a name asks for with what was found of its arguments
abbrev pub wanted_by : List ℕ → List Row → Option Wanted
wanted_by name rows =
    if bytes_eq name (codes "format") then formats rows else if bytes_eq name (codes "check") then checks rows
    else if bytes_eq name (codes "dump") then dumps rows else if bytes_eq name (codes "serve") then serves rows
    else if bytes_eq name (codes "status") then asks rows else if bytes_eq name (codes "plan") then Some Plans
    else if bytes_eq name (codes "talk") then talks rows
    else if bytes_eq name (codes "verify") then Some (verifies rows) else None

-- what the arguments ask for
unfoldable pub wanted_in : List (List ℕ) → Option Wanted
wanted_in arguments = option_and_then (λ found. wanted_by found.0 found.1) (subcommand_of command_line arguments)

-- the die that a text names: its digits as a number
abbrev pub IsDie : Option (List ℕ) → Option Die → Type 0
IsDie None die = die ≡ None
IsDie (Some text) None = ¬ (IsNumeral 10 (without_leading_plus text) × (digits_value 10 (without_leading_plus text) < 64))
IsDie (Some text) (Some die) =
    IsNumeral 10 (without_leading_plus text) × (die.0 ≡ digits_value 10 (without_leading_plus text))

-- the number that a text names, one that 32 bits hold
abbrev pub IsEvery : Option (List ℕ) → Option ℕ → Type 0
IsEvery None every = every ≡ None
IsEvery (Some text) None = ¬ (IsNumeral 10 (without_leading_plus text) × (digits_value 10 (without_leading_plus text) < 2 ^ 32))
IsEvery (Some text) (Some every) =
    IsNumeral 10 (without_leading_plus text) × (every ≡ digits_value 10 (without_leading_plus text))

-- the file for plans is the one that is named
abbrev pub ArePlans : Option PlansFile → Option PlansAsked → Type 0
ArePlans None None = Unit {0}
ArePlans (Some file) (Some asked) = (file.path.now ≡ asked.path) × IsEvery asked.every file.every
ArePlans plans asked = ⊥

-- the command is the one that is asked for
abbrev pub IsWanted : Option Subcommand → Option Wanted → Type 0
IsWanted None None = Unit {0}
IsWanted (Some (Format settings die)) (Some (Formats path text)) = (settings.now ≡ path) × IsDie text die
IsWanted (Some (Check settings terms json)) (Some (Checks path t j)) = (settings.now ≡ path) × (terms ≡ t) × (json ≡ j)
IsWanted (Some (Dump settings terms json)) (Some (Dumps path t j)) = (settings.now ≡ path) × (terms ≡ t) × (json ≡ j)
IsWanted (Some (Serve settings terms verbose status plans)) (Some (Serves path t v s p)) =
    (settings.now ≡ path) × (terms ≡ t) × (verbose ≡ v) × (option_map (λ address. address.now) status ≡ s) × ArePlans plans p
IsWanted (Some (Status address watch)) (Some (Asks a w)) = (address.now ≡ a) × (watch ≡ w)
IsWanted (Some Plan) (Some Plans) = Unit {0}
IsWanted (Some Talk) (Some Talks) = Unit {0}
IsWanted (Some (TalkArray settings terms)) (Some (TalksOver path t)) = (settings.now ≡ path) × (terms ≡ t)
IsWanted (Some Verify) (Some Verifies) = Unit {0}
IsWanted (Some (VerifyLog file)) (Some (VerifiesLog f)) = file.now ≡ f
IsWanted found wanted = ⊥
