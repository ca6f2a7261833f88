-- What a stage of a negotiation says.
use Rattle.std.proofs.Common.{◌≡◌, ◌≢◌, ℕ, ◌+◌, ◌-◌, ◌≤◌, ◌↔◌, min, inl, inr, List, [], length, drop, refl, ap, ◌∙◌, arith, length-append}
use Rattle.std.proofs.lemmas.Bool.Decides.{nat_tests}
use Rattle.byteorder.specs.Endian.{big_number}
use Rattle.fa_nego_head.specs.Heads.{IsPart, head_bytes}
use Rattle.fa_nego.specs.Negotiation.{Negotiates, hears_flags, hears_options}
use Rattle.fa_nego.specs.declared.step.Step.TheVariants.{More}
use Rattle.fa_nego.specs.NegoState.{Stage, Flags, Options, Over, NegoState, new_state, step_of, wanted, IsAt}
use Rattle.fa_nego.specs.Heard.{state_at}
use Rattle.fa_nego.proofs.Heads.{length-head_bytes, length_in_head}

pub starts : (export : List ℕ) (size : ℕ) → IsAt (new_state export size) [] []
starts export size = (omega arith, refl, refl)

at_stage : (export : List ℕ) (size : ℕ) (stage : Stage) (heard said : List ℕ) → IsAt (state_at export size stage) heard said → Negotiates export size heard said (step_of stage)
at_stage export size (Flags held) heard said at = hears_flags (omega (arith, at.0, ap length at.1)) at.2 refl
at_stage export size (Options flags held) heard said at = hears_options flags at.0 at.1 held at.2 at.3 at.4 refl
at_stage export size (Over next) heard said at = at.1

pub stage_negotiates : (state : NegoState) (heard said : List ℕ) → IsAt state heard said → Negotiates state.export state.size heard said (step_of state.stage)
stage_negotiates state heard said at = at_stage state.export state.size state.stage heard said at

-- a part of an option wants more
part_wants : (flags : ℕ) (held : List ℕ) → IsPart held → wanted (Options flags held) ≢ 0
part_wants flags held (inl short) none =
    let few : 16 - length held ≡ 0 = grind (arith, nat_tests) in
    omega arith
part_wants flags held (inr part) none =
    let long : length held ≡ 16 + length part.2 = ap length part.6 ∙ length-append (head_bytes part.0 part.1) part.2 ∙ omega (arith, length-head_bytes part.0 part.1) in
    let number : big_number 4 (drop 12 held) ≡ part.1 = ap (λ bytes. big_number 4 (drop 12 bytes)) part.6 ∙ length_in_head part.0 part.1 part.2 (omega (arith, part.4)) in
    let few : 16 + big_number 4 (drop 12 held) - length held ≡ 0 = grind (arith, nat_tests) in
    omega (arith, part.5)

wants_at : (export : List ℕ) (size : ℕ) (stage : Stage) (heard said : List ℕ) → IsAt (state_at export size stage) heard said → (wanted stage ≡ 0) ↔ (step_of stage ≢ More)
wants_at export size (Flags held) heard said at = (λ none. absurd (omega (arith, at.0)), λ over. absurd (over refl))
wants_at export size (Options flags held) heard said at = (λ none. absurd (part_wants flags held at.3 none), λ over. absurd (over refl))
wants_at export size (Over next) heard said at = (λ none. at.0, λ over. refl)

pub wants_until_over : (state : NegoState) (heard said : List ℕ) → IsAt state heard said → (wanted state.stage ≡ 0) ↔ (step_of state.stage ≢ More)
wants_until_over state heard said at = wants_at state.export state.size state.stage heard said at

pub uses_what_is_wanted : (stage : Stage) (len : ℕ) → len ≤ wanted stage → min len (wanted stage) ≡ len
uses_what_is_wanted stage len within = omega arith
