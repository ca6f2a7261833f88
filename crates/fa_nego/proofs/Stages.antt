-- From one stage of a negotiation to the next.
use Rattle.std.proofs.Common.{◌≡◌, ◌≢◌, ℕ, ◌+◌, ◌-◌, ◌^◌, ◌<◌, ◌≤◌, inl, inr, List, [], ◌∷◌, ◌++◌, length, take, drop, refl, sym, ap, ◌∙◌, arith, append_assoc, length-append}
use Rattle.std.specs.List.{AllByRecursion}
use Rattle.std.proofs.lemmas.List.{append-nil, take-append-drop, flat_map_more, nil_from_length, take_all, take-take}
use Rattle.std.proofs.lemmas.Bool.Decides.{nat_tests}
use Rattle.byteorder.specs.Endian.{big_bytes, big_number}
use Rattle.fa_nego_head.specs.Heads.{IsPart, head_bytes, max_data}
use Rattle.fa_nego.specs.Negotiation.{Turn, IsTurn, IsPassed, Sent, IsOption, turns_heard, refuses_flags, refuses_magic, refuses_length, ends, ComesTo, option_bytes}
use Rattle.fa_nego.specs.declared.step.Step.{Step}
use Rattle.fa_nego.specs.declared.step.Step.TheVariants.{More, Closed}
use Rattle.fa_nego.specs.NegoState.{Flags, Options, Over, IsAt, wanted}
use Rattle.fa_nego.specs.View.{stage_at}
use Rattle.fa_nego.specs.Heard.{state_at, IsWithin, IsHeldAt}
use Rattle.fa_nego.specs.declared.phase.Phase.{Phase}
use Rattle.fa_nego.specs.declared.phase.Phase.TheVariants as phases
use Rattle.fa_nego.specs.declared.step.CloseCause.TheVariants.{UnknownFlag, WrongMagic, TooLong}
use Rattle.fa_types.proofs.BigEndian.{AreBytes, big_bytes-whole}
use Rattle.fa_nego.proofs.Heads.{same_head, length-head_bytes, take-head_bytes, length_in_head}

-- four bytes of flags, of which one is not known
pub flags_refused : (export : List ℕ) (size : ℕ) (held heard said : List ℕ) → AreBytes held → 4 ≤ length held → 4 ≤ big_number 4 held → big_number 4 held < 2 ^ 32
    → IsHeldAt export size (Flags held) heard said → IsAt (state_at export size (Over (Closed UnknownFlag))) heard (said ++ [])
flags_refused export size held heard said fits long high below at = (
  (λ e. cc),
  refuses_flags (big_number 4 held) below (λ low. absurd (omega arith)) (at.1 ∙ sym (big_bytes-whole 4 held (omega (arith, at.0)) fits)) (rw append-nil at.2) refl,
)

-- a front of a front
take_twice : (option len : ℕ) (more : List ℕ) → take 8 (take 16 (head_bytes option len ++ more)) ≡ big_bytes 8 0x49484156454f5054
take_twice option len more = take-take 8 16 (head_bytes option len ++ more) (omega arith) ∙ take-head_bytes option len more

-- what is held begins with its first 16 bytes
begins : (held head : List ℕ) → take 16 held ≡ head → held ≡ head ++ drop 16 held
begins held head same = sym (take-append-drop 16 held) ∙ ap (λ front. front ++ drop 16 held) same

-- an option has no more data than its head says
fills : (held given : List ℕ) (option len : ℕ) → IsWithin held → option < 2 ^ 32 → len < 2 ^ 32 → held ≡ head_bytes option len ++ given → length given ≤ len
fills held given option len (inl short) o l same =
    omega (arith, ap length same, length-append (head_bytes option len) given, length-head_bytes option len)
fills held given option len (inr part) o l same =
    let one = same_head part.0 part.1 option len part.2 given part.3 (omega (arith, part.4)) o l (sym part.6 ∙ same) in
    omega (arith, part.5, one.same_len, ap length one.same_rest)

module _ (export : List ℕ) (size flags : ℕ) (held heard said : List ℕ) (long : 16 ≤ length held) (at : IsHeldAt export size (Options flags held) heard said) where
  pub magic_refused : take 8 (take 16 held) ≢ big_bytes 8 0x49484156454f5054 → IsAt (state_at export size (Over (Closed WrongMagic))) heard said
  magic_refused wrong = elim at.3 [
    | inl short ↦
        let whole : take 16 held ≡ held = take_all 16 held short in
        ((λ e. cc), refuses_magic flags at.0 at.1 held at.2 (omega arith) (λ e. wrong (ap (take 8) whole ∙ e)) at.4 refl)
    | inr part ↦
        absurd (wrong (ap (λ bytes. take 8 (take 16 bytes)) part.6 ∙ take_twice part.0 part.1 part.2))
  ]

  pub length_refused : (option len : ℕ) → option < 2 ^ 32 → max_data < len → len < 2 ^ 32 → take 16 held ≡ head_bytes option len
      → IsAt (state_at export size (Over (Closed TooLong))) heard said
  length_refused option len o over l head = elim at.3 [
    | inl short ↦
        let whole : take 16 held ≡ held = take_all 16 held short in
        ((λ e. cc), refuses_length flags at.0 at.1 option len at.2 o over l (at.4 ∙ ap (λ bytes. at.1 ++ bytes) (sym whole ∙ head)) refl)
    | inr part ↦
        let one = same_head part.0 part.1 option len part.2 (drop 16 held) part.3 (omega (arith, part.4)) o l (sym part.6 ∙ begins held (head_bytes option len) head) in
        absurd (omega (arith, part.4, one.same_len))
  ]

-- An option that is held as a whole.
pub record HoldsOption (held : List ℕ) (sent : Sent) : Type 0 where
  pub is_option : IsOption sent
  pub bytes : held ≡ option_bytes sent

-- the option with this head is whole once it has as much data as the head says
pub holds_option : (held : List ℕ) (option len : ℕ) → IsWithin held → option < 2 ^ 32 → len ≤ max_data → take 16 held ≡ head_bytes option len → len ≤ length (drop 16 held)
    → HoldsOption held (record { option = option; given = drop 16 held })
holds_option held option len within o l head whole =
    let same = begins held (head_bytes option len) head in
    let most = fills held (drop 16 held) option len within o (omega (arith, l)) same in
    let exact : len ≡ length (drop 16 held) = omega arith in
    record {
      is_option = record { number = o; not_long = omega (arith, l) };
      bytes = same ∙ ap (λ n. head_bytes option n ++ drop 16 held) exact;
    }

-- one more of which each is
AllByRecursion-push : {X : Type 0} (P : X → Type 0) (xs : List X) (x : X) → AllByRecursion P xs → P x → AllByRecursion P (xs ++ x ∷ [])
AllByRecursion-push P [] x all last = (last, tt)
AllByRecursion-push P (y ∷ ys) x all last = (all.0, AllByRecursion-push P ys x all.1 last)

module _ (export : List ℕ) (size flags : ℕ) (held heard said : List ℕ) (at : IsHeldAt export size (Options flags held) heard said) (turn : Turn) (whole : HoldsOption held turn.sent) (comes : ComesTo export size flags turn.sent turn.come) where
  is_turn : IsTurn export size flags turn
  is_turn = record { option = whole.is_option; comes = comes }

  -- the negotiation goes on after the option
  pub passes : turn.come.next ≡ More → IsAt (state_at export size (Options flags [])) heard (said ++ turn.come.said)
  passes goes_on = (
    at.0 ++ turn ∷ [],
    heard,
    record {
      known = at.2.known;
      passed = AllByRecursion-push (IsPassed export size flags) at.0 turn at.2.passed (record { turn_taken = is_turn; goes_on = goes_on });
      from_client = at.4 ∙ ap (λ bytes. bytes ++ held) at.2.from_client ∙ ap (λ bytes. (big_bytes 4 flags ++ turns_heard at.0) ++ bytes) whole.bytes ∙ flat_map_more (λ (one : Turn). option_bytes one.sent) (big_bytes 4 flags) at.0 turn;
      from_server = ap (λ bytes. bytes ++ turn.come.said) at.2.from_server ∙ flat_map_more (λ (one : Turn). one.come.said) [] at.0 turn;
    },
    inl (omega arith),
    sym (append-nil heard),
  )

  -- the negotiation is over after the option
  pub is_over : (next : Step) → turn.come.next ≡ next → next ≢ More → IsAt (state_at export size (Over next)) heard (said ++ turn.come.said)
  is_over next is_next over = (
    over,
    ends flags at.0 at.1 said turn at.2 is_turn (λ e. over (sym is_next ∙ e)) (at.4 ∙ ap (λ bytes. at.1 ++ bytes) whole.bytes) refl (sym is_next),
  )

-- more bytes of an option, no more than it wants
part_grows : (flags : ℕ) (held piece : List ℕ) → IsPart held → length piece ≤ wanted (Options flags held) → IsWithin (held ++ piece)
part_grows flags held piece (inl short) fits =
    let few : length piece ≤ 16 - length held = grind (arith, nat_tests) in
    inl (omega (arith, length-append held piece))
part_grows flags held piece (inr part) fits =
    let long : length held ≡ 16 + length part.2 = ap length part.6 ∙ length-append (head_bytes part.0 part.1) part.2 ∙ omega (arith, length-head_bytes part.0 part.1) in
    let number : big_number 4 (drop 12 held) ≡ part.1 = ap (λ bytes. big_number 4 (drop 12 bytes)) part.6 ∙ length_in_head part.0 part.1 part.2 (omega (arith, part.4)) in
    let few : length piece ≤ 16 + big_number 4 (drop 12 held) - length held = grind (arith, nat_tests) in
    inr (part.0, part.1, part.2 ++ piece, part.3, part.4, omega (arith, part.5, length-append part.2 piece), ap (λ bytes. bytes ++ piece) part.6 ∙ append_assoc (head_bytes part.0 part.1) part.2 piece)

-- A piece that is no longer than what is wanted is heard.
pub grows : (export : List ℕ) (size : ℕ) (phase : Phase) (held piece heard said : List ℕ) → length piece ≤ wanted (stage_at phase held)
    → IsAt (state_at export size (stage_at phase held)) heard said → IsHeldAt export size (stage_at phase (held ++ piece)) (heard ++ piece) said
grows export size phases.Flags held piece heard said fits at =
    (omega (arith, at.0, length-append held piece), ap (λ bytes. bytes ++ piece) at.1, at.2)
grows export size (phases.Options flags) held piece heard said fits at =
    (at.0, at.1, at.2, part_grows flags held piece at.3 fits, ap (λ bytes. bytes ++ piece) at.4 ∙ append_assoc at.1 held piece)
grows export size (phases.Over step) held piece heard said fits at =
    rw (nil_from_length piece (omega arith), append-nil) at
