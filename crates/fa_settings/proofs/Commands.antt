-- What is known of commands and of arguments by what a parse reads of them.
use Rattle.std.proofs.Common.{◌≡◌, Bool, true, false, not, ◌&&◌, is_some, refl, ap, ◌∙◌}
use Rattle.clap.specs.Simple.{App, app_of}
use Rattle.clap.specs.Walk.{Rule, is_empty, rule_of}
use Rattle.clap.specs.declared.builder.arg.Arg.{Arg}
use Rattle.clap.specs.declared.builder.command.Command.{Command}
use Rattle.clap.specs.declared.builder.command.Command.TheViews.{out-Command}

left : (a b : Bool) → (a && b) ≡ true → a ≡ true
left true b both = refl
left false b both = absurd (cc)

right : (a b : Bool) → (a && b) ≡ true → b ≡ true
right true b both = both
right false b both = absurd (cc)

no : (a : Bool) → not a ≡ true → a ≡ false
no false is = refl
no true is = absurd (cc)

third : (a b c d : Bool) → (a && (b && (not c && d))) ≡ true → c ≡ false
third a b c d all = no c (left (not c) d (right b _ (right a _ all)))

fourth : (a b c d : Bool) → (a && (b && (c && d))) ≡ true → d ≡ true
fourth a b c d all = right c d (right b _ (right a _ all))

-- a plain command has no global argument
pub is_local : (c : Command) (a : App) → app_of c ≡ a → a.top.is_plain ≡ true → (out-Command c).has_globals ≡ false
is_local c a is plain =
    let f = out-Command c in
    third (is_empty f.groups.items) (not f.allow_external_subcommands) f.has_globals _ (ap (λ (x : App). x.top.is_plain) is ∙ plain)

-- a simple argument is none
pub is_own : (a : Arg) (rule : Rule) → rule_of a ≡ rule → rule.is_simple ≡ true → a.global ≡ false
is_own a rule is simple =
    let third = fourth (is_empty a.overrides.items) (is_empty a.default_vals_ifs.items) (is_empty a.groups.items) _ (ap (λ (r : Rule). r.is_simple) is ∙ simple) in
    let sixth = fourth (not (is_some a.val_delim)) (not (is_some a.terminator)) (not a.allow_hyphen_values) _ third in
    no a.global (fourth (not a.allow_negative_numbers) (not a.require_equals) (not a.last) _ sixth)
