-- The transmission flags announce exactly what may be done.
use Rattle.std.proofs.Common.{◌≡◌, ℕ, ◌/◌, ◌%◌, ◌<◌, ◌≤◌, ◌↔◌, Bool, true, false, not, nat_lt, drop, if◌then◌else◌, refl, sym, ap, ◌∙◌, subst, arith}
use Rattle.std.proofs.lemmas.Bool.{false≢true}
use Rattle.std.proofs.lemmas.Bool.Decides.{nat_tests}
use Rattle.fa_cmds.specs.declared.request.Request.{Request}
use Rattle.fa_cmds.specs.declared.request.Command.{Command}
use Rattle.fa_cmds.specs.declared.request.Command.TheVariants.{Read, Write, Disconnect, Flush, Trim, WriteZeroes, Other}
use Rattle.fa_cmds.specs.declared.decision.Decision.{Decision}
use Rattle.fa_cmds.specs.declared.decision.Decision.TheVariants.{Disconnect as Leave, Do, Refuse}
use Rattle.fa_cmds.specs.declared.reply.ReplyCode.TheVariants.{Invalid}
use Rattle.fa_cmds.specs.Requests.{IsNamed, command_number, row_of, is_disconnect, has_unknown_flag, first_of, rules_for, decision}
use Rattle.fa_session.specs.Announced.{Announces, IsAnnounced, MayHave, MayBeDone, send_fua}

-- none of the first three rules holds of what is to be done
passed : (a b c : Bool) (rest : Decision) → (if a then Leave else (if b then Refuse Invalid else (if c then Refuse Invalid else rest))) ≡ Do → (b ≡ false) × (c ≡ false)
passed true b c rest is = cc
passed false true c rest is = cc
passed false false true rest is = cc
passed false false false rest is = (refl, refl)

-- what is to be done is of a command that is served, with flags that it may have
record IsKnown (command : Command) (flags : ℕ) : Type 0 where
  served : (row_of command).is_served ≡ true
  few : flags ≤ (row_of command).flags

known : (r : Request) (size : ℕ) → decision r size ≡ Do → IsKnown r.command r.flags
unfolding decision
known r size is =
    let none = passed (is_disconnect r.command) (not (row_of r.command).is_served) (has_unknown_flag r) (first_of (drop 3 (rules_for r size)) Do) is in
    record { served = grind (arith, none.0, nat_tests); few = grind (arith, none.1, nat_tests) }

-- the request of this command and with these flags, for the first byte
abbrev request_of : Command → ℕ → Request
request_of command flags = record { flags = flags; command = command; cookie = 0; offset = 0; length = 1 }

-- it is to be done
to_do : (command : Command) (flags : ℕ) → (row_of command).is_served ≡ true → nat_lt (row_of command).flags flags ≡ false → decision (request_of command flags) 1 ≡ Do
unfolding decision
to_do Read flags served few = rw few refl
to_do Write flags served few = rw few refl
to_do Disconnect flags served few = cc
to_do Flush flags served few = rw few refl
to_do Trim flags served few = rw few refl
to_do WriteZeroes flags served few = rw few refl
to_do (Other number) flags served few = cc

no_more : (most flags : ℕ) → flags ≤ most → nat_lt most flags ≡ false
no_more most flags below = grind (arith, nat_tests)

-- a command that is known may be done
may-be : (command : Command) (flags : ℕ) → IsNamed command → command_number command < 7 → flags < 4 → (row_of command).is_served ≡ true → flags ≤ (row_of command).flags → MayBeDone command flags
may-be command flags named number small served few = record {
  request = request_of command flags;
  size = 1;
  fits = record { flags = omega arith; named = named; number = omega arith; cookie = omega arith; offset = omega arith; len = omega arith };
  same_command = refl;
  same_flags = refl;
  is_to_do = to_do command flags served (no_more (row_of command).flags flags few);
}

may : (command : Command) (flags : ℕ) → IsKnown command flags → MayBeDone command flags
may Read flags is = may-be Read flags tt (omega arith) (omega (arith, is.few)) refl is.few
may Write flags is = may-be Write flags tt (omega arith) (omega (arith, is.few)) refl is.few
may Disconnect flags is = absurd (false≢true is.served)
may Flush flags is = may-be Flush flags tt (omega arith) (omega (arith, is.few)) refl is.few
may Trim flags is = may-be Trim flags tt (omega arith) (omega (arith, is.few)) refl is.few
may WriteZeroes flags is = may-be WriteZeroes flags tt (omega arith) (omega (arith, is.few)) refl is.few
may (Other number) flags is = absurd (false≢true is.served)

-- what is done is known
done-known : (command : Command) (flags : ℕ) → MayBeDone command flags → IsKnown command flags
done-known command flags done =
    let r = done.request in
    let is = known r done.size done.is_to_do in
    record {
      served = ap (λ c. (row_of c).is_served) (sym done.same_command) ∙ is.served;
      few = subst (λ n. n ≤ (row_of command).flags) done.same_flags (subst (λ c. r.flags ≤ (row_of c).flags) done.same_command is.few);
    }

-- no flag but FUA
fua_alone : (command : Command) (flags : ℕ) → flags ≤ 1 → MayHave command flags
fua_alone command flags few = record { fua = flags; no_hole = 0; fua_announced = few; no_hole_of_zeroes = omega arith; no_other = omega arith }

known-announced : (command : Command) (flags : ℕ) → IsKnown command flags → IsAnnounced command × MayHave command flags
known-announced Read flags is = (tt, fua_alone Read flags is.few)
known-announced Write flags is = (tt, fua_alone Write flags is.few)
known-announced Disconnect flags is = absurd (false≢true is.served)
known-announced Flush flags is = (refl, fua_alone Flush flags is.few)
known-announced Trim flags is = (refl, fua_alone Trim flags is.few)
known-announced WriteZeroes flags is =
    let few : flags ≤ 3 = is.few in
    (refl, record { fua = flags % 2; no_hole = flags / 2; fua_announced = omega arith; no_hole_of_zeroes = omega arith; no_other = omega arith })
known-announced (Other number) flags is = absurd (false≢true is.served)

announced-known : (command : Command) (flags : ℕ) → IsAnnounced command → MayHave command flags → IsKnown command flags
announced-known Read flags is may_have = record { served = refl; few = omega (arith, may_have.fua_announced, may_have.no_hole_of_zeroes, may_have.no_other) }
announced-known Write flags is may_have = record { served = refl; few = omega (arith, may_have.fua_announced, may_have.no_hole_of_zeroes, may_have.no_other) }
announced-known Disconnect flags is may_have = absurd is
announced-known Flush flags is may_have = record { served = refl; few = omega (arith, may_have.fua_announced, may_have.no_hole_of_zeroes, may_have.no_other) }
announced-known Trim flags is may_have = record { served = refl; few = omega (arith, may_have.fua_announced, may_have.no_hole_of_zeroes, may_have.no_other) }
announced-known WriteZeroes flags is may_have = record { served = refl; few = omega (arith, may_have.fua_announced, may_have.no_hole_of_zeroes, may_have.no_other) }
announced-known (Other number) flags is may_have = absurd is

-- a command and its flags may be done exactly where they are announced
pub exactly : (command : Command) (flags : ℕ) → MayBeDone command flags ↔ (IsAnnounced command × MayHave command flags)
exactly command flags = (
  (λ done. known-announced command flags (done-known command flags done)),
  (λ is. may command flags (announced-known command flags is.0 is.1)),
)

-- a command with no flag, and its bit
pub by_its_bit : (command : Command) (bit : ℕ) → (Announces bit → IsAnnounced command) → (IsAnnounced command → Announces bit) → Announces bit ↔ MayBeDone command 0
by_its_bit command bit to from = (
  (λ is. (exactly command 0).1 (to is, fua_alone command 0 (omega arith))),
  (λ done. from ((exactly command 0).0 done).0),
)

-- FUA of a command that is announced
pub fua : (command : Command) → IsAnnounced command → Announces send_fua ↔ MayBeDone command 1
fua command is = (
  (λ announced. (exactly command 1).1 (is, fua_alone command 1 (omega arith))),
  (λ done. refl),
)
