-- The client's bytes determine what the server says.
use Rattle.std.proofs.Common.{◌≡◌, ◌≢◌, ℕ, ◌^◌, ◌<◌, ◌≤◌, inl, inr, List, [], ◌∷◌, ◌++◌, length, take, drop, refl, sym, ap, ◌∙◌, arith, append_assoc, length-append}
use Rattle.std.specs.List.{AllByRecursion}
use Rattle.std.proofs.lemmas.List.{append-nil, take_at, drop_at}
use Rattle.byteorder.specs.Endian.{big_bytes, big_number}
use Rattle.fa_nego_head.specs.Heads.{IsPart, head_bytes, max_data}
use Rattle.fa_nego.specs.Negotiation.{Come, NameComesTo, unknown_name, known_name, ListComesTo, listed, with_data, InfoComesTo, invalid, unknown, known, told, Asked, ComesTo, export_name, abort, list, info, go, unsupported, Sent, IsOption, Turn, IsTurn, IsPassed, turns_heard, turns_said, AreKnown, Opens, Negotiates, hears_flags, refuses_flags, hears_options, ends, refuses_magic, refuses_length, option_bytes}
use Rattle.fa_nego.specs.Numbers.{opt_info, opt_go}
use Rattle.fa_nego.specs.declared.step.Step.{Step}
use Rattle.fa_nego.specs.declared.step.Step.TheVariants.{More, Go, Closed}
use Rattle.fa_nego.specs.declared.step.CloseCause.TheVariants.{UnknownFlag, WrongMagic, TooLong}
use Rattle.fa_nego.proofs.Asking.{same_asked}
use Rattle.byteorder.specs.Numbers.{big_number-reads_back}
use Rattle.fa_nego.proofs.Heads.{same_head, length-head_bytes, take-head_bytes}

-- fronts of one length
pub same_fronts : (a b x y : List ℕ) → length a ≡ length b → a ++ x ≡ b ++ y → (a ≡ b) × (x ≡ y)
same_fronts a b x y len same = (
  sym (take_at a x (length a) refl) ∙ ap (take (length a)) same ∙ take_at b y (length a) (sym len),
  sym (drop_at a x (length a) refl) ∙ ap (drop (length a)) same ∙ drop_at b y (length a) (sym len),
)

-- what an EXPORT_NAME comes to
same_name : (export : List ℕ) (size flags : ℕ) (name : List ℕ) (come come' : Come) → NameComesTo export size flags name come → NameComesTo export size flags name come' → come ≡ come'
same_name export size flags name come come' (unknown_name not is) (unknown_name not' is') = is ∙ sym is'
same_name export size flags name come come' (unknown_name not is) (known_name is_known' is') = absurd (not is_known')
same_name export size flags name come come' (known_name is_known is) (unknown_name not' is') = absurd (not' is_known)
same_name export size flags name come come' (known_name is_known is) (known_name is_known' is') = is ∙ sym is'

-- what a LIST comes to
same_list : (export given : List ℕ) (come come' : Come) → ListComesTo export given come → ListComesTo export given come' → come ≡ come'
same_list export given come come' (listed none is) (listed none' is') = is ∙ sym is'
same_list export given come come' (listed none is) (with_data some' is') = absurd (some' none)
same_list export given come come' (with_data some is) (listed none' is') = absurd (some none')
same_list export given come come' (with_data some is) (with_data some' is') = is ∙ sym is'

-- what an INFO or GO comes to
same_info : (export : List ℕ) (size option : ℕ) (given : List ℕ) (next : Step) (come come' : Come) → InfoComesTo export size option given next come → InfoComesTo export size option given next come' → come ≡ come'
same_info export size option given next come come' (invalid never is) (invalid never' is') = is ∙ sym is'
same_info export size option given next come come' (invalid never is) (unknown asked asks not is') = absurd (never asked asks)
same_info export size option given next come come' (invalid never is) (known asked asks name is') = absurd (never asked asks)
same_info export size option given next come come' (unknown asked asks not is) (invalid never is') = absurd (never asked asks)
same_info export size option given next come come' (unknown asked asks not is) (unknown asked' asks' not' is') = is ∙ sym is'
same_info export size option given next come come' (unknown asked asks not is) (known asked' asks' name is') =
    absurd (not (rw (same_asked given asked asked' asks asks') name))
same_info export size option given next come come' (known asked asks name is) (invalid never is') = absurd (never asked asks)
same_info export size option given next come come' (known asked asks name is) (unknown asked' asks' not is') =
    absurd (not (rw (same_asked given asked' asked asks' asks) name))
same_info export size option given next come come' (known asked asks name is) (known asked' asks' name' is') =
    is ∙ ap (λ (one : Asked). record { said = told export size option one.kinds; next = next }) (same_asked given asked asked' asks asks') ∙ sym is'

-- what an option comes to
same_come : (export : List ℕ) (size flags : ℕ) (sent : Sent) (come come' : Come) → ComesTo export size flags sent come → ComesTo export size flags sent come' → come ≡ come'
same_come export size flags sent come come' (export_name n is) (export_name n' is') = same_name export size flags sent.given come come' is is'
same_come export size flags sent come come' (export_name n is) (abort n' is') = absurd (omega arith)
same_come export size flags sent come come' (export_name n is) (list n' is') = absurd (omega arith)
same_come export size flags sent come come' (export_name n is) (info n' is') = absurd (omega arith)
same_come export size flags sent come come' (export_name n is) (go n' is') = absurd (omega arith)
same_come export size flags sent come come' (export_name n is) (unsupported n' is') = absurd (n'.not_export_name n)
same_come export size flags sent come come' (abort n is) (export_name n' is') = absurd (omega arith)
same_come export size flags sent come come' (abort n is) (abort n' is') = is ∙ sym is'
same_come export size flags sent come come' (abort n is) (list n' is') = absurd (omega arith)
same_come export size flags sent come come' (abort n is) (info n' is') = absurd (omega arith)
same_come export size flags sent come come' (abort n is) (go n' is') = absurd (omega arith)
same_come export size flags sent come come' (abort n is) (unsupported n' is') = absurd (n'.not_abort n)
same_come export size flags sent come come' (list n is) (export_name n' is') = absurd (omega arith)
same_come export size flags sent come come' (list n is) (abort n' is') = absurd (omega arith)
same_come export size flags sent come come' (list n is) (list n' is') = same_list export sent.given come come' is is'
same_come export size flags sent come come' (list n is) (info n' is') = absurd (omega arith)
same_come export size flags sent come come' (list n is) (go n' is') = absurd (omega arith)
same_come export size flags sent come come' (list n is) (unsupported n' is') = absurd (n'.not_list n)
same_come export size flags sent come come' (info n is) (export_name n' is') = absurd (omega arith)
same_come export size flags sent come come' (info n is) (abort n' is') = absurd (omega arith)
same_come export size flags sent come come' (info n is) (list n' is') = absurd (omega arith)
same_come export size flags sent come come' (info n is) (info n' is') = same_info export size opt_info sent.given More come come' is is'
same_come export size flags sent come come' (info n is) (go n' is') = absurd (omega arith)
same_come export size flags sent come come' (info n is) (unsupported n' is') = absurd (n'.not_info n)
same_come export size flags sent come come' (go n is) (export_name n' is') = absurd (omega arith)
same_come export size flags sent come come' (go n is) (abort n' is') = absurd (omega arith)
same_come export size flags sent come come' (go n is) (list n' is') = absurd (omega arith)
same_come export size flags sent come come' (go n is) (info n' is') = absurd (omega arith)
same_come export size flags sent come come' (go n is) (go n' is') = same_info export size opt_go sent.given Go come come' is is'
same_come export size flags sent come come' (go n is) (unsupported n' is') = absurd (n'.not_go n)
same_come export size flags sent come come' (unsupported n is) (export_name n' is') = absurd (n.not_export_name n')
same_come export size flags sent come come' (unsupported n is) (abort n' is') = absurd (n.not_abort n')
same_come export size flags sent come come' (unsupported n is) (list n' is') = absurd (n.not_list n')
same_come export size flags sent come come' (unsupported n is) (info n' is') = absurd (n.not_info n')
same_come export size flags sent come come' (unsupported n is) (go n' is') = absurd (n.not_go n')
same_come export size flags sent come come' (unsupported n is) (unsupported n' is') = is ∙ sym is'

-- an option's bytes, with bytes behind them, begin with its head
pub begins : (sent : Sent) (rest : List ℕ) → option_bytes sent ++ rest ≡ head_bytes sent.option (length sent.given) ++ (sent.given ++ rest)
begins sent rest = append_assoc (head_bytes sent.option (length sent.given)) sent.given rest

-- options that begin the same bytes are one
pub same_sent : (sent sent' : Sent) (rest rest' : List ℕ) → IsOption sent → IsOption sent' → option_bytes sent ++ rest ≡ option_bytes sent' ++ rest' → (sent ≡ sent') × (rest ≡ rest')
same_sent sent sent' rest rest' is is' same =
    let head = same_head sent.option (length sent.given) sent'.option (length sent'.given) (sent.given ++ rest) (sent'.given ++ rest') is.number (omega (arith, is.not_long)) is'.number (omega (arith, is'.not_long)) (sym (begins sent rest) ∙ same ∙ begins sent' rest') in
    let parts = same_fronts sent.given sent'.given rest rest' head.same_len head.same_rest in
    let numbers : sent ≡ record { option = sent'.option; given = sent.given } = ap (λ n. record { option = n; given = sent.given }) head.same_option in
    (numbers ∙ ap (λ bytes. record { option = sent'.option; given = bytes }) parts.0, parts.1)

-- turns that begin the same bytes are one
pub same_turn : (export : List ℕ) (size flags : ℕ) (turn turn' : Turn) (rest rest' : List ℕ) → IsTurn export size flags turn → IsTurn export size flags turn' → option_bytes turn.sent ++ rest ≡ option_bytes turn'.sent ++ rest'
    → (turn.come ≡ turn'.come) × (rest ≡ rest')
same_turn export size flags turn turn' rest rest' is is' same =
    let sents = same_sent turn.sent turn'.sent rest rest' is.option is'.option same in
    (same_come export size flags turn'.sent turn.come turn'.come (rw sents.0 at is.comes) is'.comes, sents.1)

-- How a negotiation stands after its last turn that goes on, by the bytes that follow it.
pub data Tail (export : List ℕ) (size flags : ℕ) (tail said : List ℕ) (next : Step) : Type 0 where
  part : IsPart tail → said ≡ [] → next ≡ More → Tail export size flags tail said next
  last : (turn : Turn) → IsTurn export size flags turn → turn.come.next ≢ More → tail ≡ option_bytes turn.sent → said ≡ turn.come.said → next ≡ turn.come.next → Tail export size flags tail said next
  no_magic : length tail ≡ 16 → take 8 tail ≢ big_bytes 8 0x49484156454f5054 → said ≡ [] → next ≡ Closed WrongMagic → Tail export size flags tail said next
  too_long : (option len : ℕ) → option < 2 ^ 32 → max_data < len → len < 2 ^ 32 → tail ≡ head_bytes option len → said ≡ [] → next ≡ Closed TooLong → Tail export size flags tail said next

-- less than a whole option has less data than its head says
part_short : (tail given : List ℕ) (option len : ℕ) → IsPart tail → option < 2 ^ 32 → len < 2 ^ 32 → tail ≡ head_bytes option len ++ given → (length given < len) × (len ≤ max_data)
part_short tail given option len (inl short) o l same =
    absurd (omega (arith, ap length same, length-append (head_bytes option len) given, length-head_bytes option len))
part_short tail given option len (inr some) o l same =
    let one = same_head some.0 some.1 option len some.2 given some.3 (omega (arith, some.4)) o l (sym some.6 ∙ same) in
    (omega (arith, some.5, one.same_len, ap length one.same_rest), omega (arith, some.4, one.same_len))

-- 16 bytes with no magic number are no part of an option
part_magic : (tail : List ℕ) → IsPart tail → length tail ≡ 16 → take 8 tail ≡ big_bytes 8 0x49484156454f5054
part_magic tail (inl short) len = absurd (omega arith)
part_magic tail (inr some) len = ap (take 8) some.6 ∙ take-head_bytes some.0 some.1 some.2

-- an option does not stand where the bytes end otherwise
module _ (export : List ℕ) (size flags : ℕ) (turn : Turn) (rest tail said : List ℕ) (next : Step) (is : IsTurn export size flags turn) (same : tail ≡ option_bytes turn.sent ++ rest) where
  in_head : tail ≡ head_bytes turn.sent.option (length turn.sent.given) ++ (turn.sent.given ++ rest)
  in_head = same ∙ begins turn.sent rest

  not_part : IsPart tail → ⊥
  not_part some =
      let short = part_short tail (turn.sent.given ++ rest) turn.sent.option (length turn.sent.given) some is.option.number (omega (arith, is.option.not_long)) in_head in
      omega (arith, short.0, length-append turn.sent.given rest)

  pub not_magic : take 8 tail ≢ big_bytes 8 0x49484156454f5054 → ⊥
  not_magic wrong = wrong (ap (take 8) in_head ∙ take-head_bytes turn.sent.option (length turn.sent.given) (turn.sent.given ++ rest))

  pub not_long : (option len : ℕ) (behind : List ℕ) → option < 2 ^ 32 → max_data < len → len < 2 ^ 32 → tail ≡ head_bytes option len ++ behind → ⊥
  not_long option len behind o over l is_head =
      let one = same_head turn.sent.option (length turn.sent.given) option len (turn.sent.given ++ rest) behind is.option.number (omega (arith, is.option.not_long)) o l (sym in_head ∙ is_head) in
      omega (arith, one.same_len, is.option.not_long)

-- the bytes of an option alone
alone : (tail : List ℕ) (turn : Turn) → tail ≡ option_bytes turn.sent → tail ≡ option_bytes turn.sent ++ []
alone tail turn same = same ∙ sym (append-nil (option_bytes turn.sent))

-- a turn after which the negotiation goes on does not stand at its end
not_passed : (export : List ℕ) (size flags : ℕ) (turn : Turn) (rest tail said : List ℕ) (next : Step) → IsPassed export size flags turn → tail ≡ option_bytes turn.sent ++ rest → Tail export size flags tail said next → ⊥
not_passed export size flags turn rest tail said next is same (part some s n) = not_part export size flags turn rest tail said next is.turn_taken same some
not_passed export size flags turn rest tail said next is same (last other is_other over o s n) =
    let comes = same_turn export size flags turn other rest [] is.turn_taken is_other (sym same ∙ alone tail other o) in
    over (ap (λ come. come.next) (sym comes.0) ∙ is.goes_on)
not_passed export size flags turn rest tail said next is same (no_magic len wrong s n) = not_magic export size flags turn rest tail said next is.turn_taken same wrong
not_passed export size flags turn rest tail said next is same (too_long option len o over l h s n) = not_long export size flags turn rest tail said next is.turn_taken same option len [] o over l (h ∙ sym (append-nil (head_bytes option len)))

-- Two answers are one.
abbrev Same : List ℕ → List ℕ → Step → Step → Type 0
Same said said' next next' = (said ≡ said') × (next ≡ next')

-- a head that announces too much is no part of an option
long_part : (tail : List ℕ) (option len : ℕ) → IsPart tail → option < 2 ^ 32 → max_data < len → len < 2 ^ 32 → tail ≡ head_bytes option len → ⊥
long_part tail option len some o over l h =
    let short = part_short tail [] option len some o l (h ∙ sym (append-nil (head_bytes option len))) in
    omega (arith, short.1)

-- a head has the magic number
long_magic : (tail : List ℕ) (option len : ℕ) → tail ≡ head_bytes option len → take 8 tail ≡ big_bytes 8 0x49484156454f5054
long_magic tail option len h = ap (take 8) (h ∙ sym (append-nil (head_bytes option len))) ∙ take-head_bytes option len []

-- by the bytes behind the last turn that goes on
same_tail : (export : List ℕ) (size flags : ℕ) (tail said said' : List ℕ) (next next' : Step) → Tail export size flags tail said next → Tail export size flags tail said' next' → Same said said' next next'
same_tail export size flags tail said said' next next' (part some s n) (part some' s' n') = (s ∙ sym s', n ∙ sym n')
same_tail export size flags tail said said' next next' (part some s n) (last turn is over t s' n') = absurd (not_part export size flags turn [] tail said next is (alone tail turn t) some)
same_tail export size flags tail said said' next next' (part some s n) (no_magic len wrong s' n') = absurd (wrong (part_magic tail some len))
same_tail export size flags tail said said' next next' (part some s n) (too_long option len o over l h s' n') = absurd (long_part tail option len some o over l h)
same_tail export size flags tail said said' next next' (last turn is over t s n) (part some s' n') = absurd (not_part export size flags turn [] tail said next is (alone tail turn t) some)
same_tail export size flags tail said said' next next' (last turn is over t s n) (last turn' is' over' t' s' n') =
    let comes = same_turn export size flags turn turn' [] [] is is' (sym (alone tail turn t) ∙ alone tail turn' t') in
    (s ∙ ap (λ come. come.said) comes.0 ∙ sym s', n ∙ ap (λ come. come.next) comes.0 ∙ sym n')
same_tail export size flags tail said said' next next' (last turn is over t s n) (no_magic len wrong s' n') = absurd (not_magic export size flags turn [] tail said next is (alone tail turn t) wrong)
same_tail export size flags tail said said' next next' (last turn is over t s n) (too_long option len o long l h s' n') = absurd (not_long export size flags turn [] tail said next is (alone tail turn t) option len [] o long l (h ∙ sym (append-nil (head_bytes option len))))
same_tail export size flags tail said said' next next' (no_magic len wrong s n) (part some s' n') = absurd (wrong (part_magic tail some len))
same_tail export size flags tail said said' next next' (no_magic len wrong s n) (last turn is over t s' n') = absurd (not_magic export size flags turn [] tail said next is (alone tail turn t) wrong)
same_tail export size flags tail said said' next next' (no_magic len wrong s n) (no_magic len' wrong' s' n') = (s ∙ sym s', n ∙ sym n')
same_tail export size flags tail said said' next next' (no_magic len wrong s n) (too_long option long o over l h s' n') = absurd (wrong (long_magic tail option long h))
same_tail export size flags tail said said' next next' (too_long option len o over l h s n) (part some s' n') = absurd (long_part tail option len some o over l h)
same_tail export size flags tail said said' next next' (too_long option len o long l h s n) (last turn is over t s' n') = absurd (not_long export size flags turn [] tail said next is (alone tail turn t) option len [] o long l (h ∙ sym (append-nil (head_bytes option len))))
same_tail export size flags tail said said' next next' (too_long option long o over l h s n) (no_magic len wrong s' n') = absurd (wrong (long_magic tail option long h))
same_tail export size flags tail said said' next next' (too_long option len o over l h s n) (too_long option' len' o' over' l' h' s' n') = (s ∙ sym s', n ∙ sym n')

-- the first of several turns, and what follows it
pub first_turn : (turn : Turn) (turns : List Turn) (tail : List ℕ) → turns_heard (turn ∷ turns) ++ tail ≡ option_bytes turn.sent ++ (turns_heard turns ++ tail)
first_turn turn turns tail = append_assoc (option_bytes turn.sent) (turns_heard turns) tail

first_said : (turn : Turn) (turns : List Turn) (said : List ℕ) → turns_said (turn ∷ turns) ++ said ≡ turn.come.said ++ (turns_said turns ++ said)
first_said turn turns said = append_assoc turn.come.said (turns_said turns) said

-- by all turns
same_turns : (export : List ℕ) (size flags : ℕ) (turns turns' : List Turn) (tail tail' said said' : List ℕ) (next next' : Step)
    → AllByRecursion (IsPassed export size flags) turns → AllByRecursion (IsPassed export size flags) turns' → Tail export size flags tail said next → Tail export size flags tail' said' next'
    → turns_heard turns ++ tail ≡ turns_heard turns' ++ tail' → Same (turns_said turns ++ said) (turns_said turns' ++ said') next next'
same_turns export size flags [] [] tail tail' said said' next next' all all' end end' same =
    same_tail export size flags tail said said' next next' end (rw (← same) at end')
same_turns export size flags (turn ∷ turns) [] tail tail' said said' next next' all all' end end' same =
    absurd (not_passed export size flags turn (turns_heard turns ++ tail) tail' said' next' all.0 (sym same ∙ first_turn turn turns tail) end')
same_turns export size flags [] (turn ∷ turns) tail tail' said said' next next' all all' end end' same =
    absurd (not_passed export size flags turn (turns_heard turns ++ tail') tail said next all'.0 (same ∙ first_turn turn turns tail') end)
same_turns export size flags (turn ∷ turns) (turn' ∷ turns') tail tail' said said' next next' all all' end end' same =
    let first = same_turn export size flags turn turn' (turns_heard turns ++ tail) (turns_heard turns' ++ tail') all.0.turn_taken all'.0.turn_taken (sym (first_turn turn turns tail) ∙ same ∙ first_turn turn' turns' tail') in
    let rest = same_turns export size flags turns turns' tail tail' said said' next next' all.1 all'.1 end end' first.1 in (
      first_said turn turns said ∙ ap (λ bytes. bytes ++ (turns_said turns ++ said)) (ap (λ come. come.said) first.0) ∙ ap (λ bytes. turn'.come.said ++ bytes) rest.0 ∙ sym (first_said turn' turns' said'),
      rest.1,
    )

-- What a negotiation has heard: less than flags, flags that are refused, or flags and options.
pub data Heard (export : List ℕ) (size : ℕ) (heard said : List ℕ) (next : Step) : Type 0 where
  few : length heard < 4 → said ≡ [] → next ≡ More → Heard export size heard said next
  refused : (flags : ℕ) → flags < 2 ^ 32 → (AreKnown flags → ⊥) → heard ≡ big_bytes 4 flags → said ≡ [] → next ≡ Closed UnknownFlag → Heard export size heard said next
  options : (flags : ℕ) (turns : List Turn) (tail end : List ℕ) → AreKnown flags → AllByRecursion (IsPassed export size flags) turns → Tail export size flags tail end next
      → heard ≡ big_bytes 4 flags ++ (turns_heard turns ++ tail) → said ≡ turns_said turns ++ end → Heard export size heard said next

-- what opens a negotiation, and a tail behind it
opened : (export : List ℕ) (size flags : ℕ) (turns : List Turn) (front tail before end heard said : List ℕ) (next : Step) → Opens export size flags turns front before → Tail export size flags tail end next
    → heard ≡ front ++ tail → said ≡ before ++ end → Heard export size heard said next
opened export size flags turns front tail before end heard said next opens tails h s =
    options flags turns tail end opens.known opens.passed tails
    (h ∙ ap (λ bytes. bytes ++ tail) opens.from_client ∙ append_assoc (big_bytes 4 flags) (turns_heard turns) tail)
    (s ∙ ap (λ bytes. bytes ++ end) opens.from_server)

pub heard_as : (export : List ℕ) (size : ℕ) (heard said : List ℕ) (next : Step) → Negotiates export size heard said next → Heard export size heard said next
heard_as export size heard said next (hears_flags short s n) = few short s n
heard_as export size heard said next (refuses_flags flags f never h s n) = refused flags f never h s n
heard_as export size heard said next (hears_options flags turns front rest opens some h n) =
    opened export size flags turns front rest said [] heard said next opens (part some refl n) h (sym (append-nil said))
heard_as export size heard said next (ends flags turns front before turn opens is over h s n) =
    opened export size flags turns front (option_bytes turn.sent) before turn.come.said heard said next opens (last turn is over refl refl n) h s
heard_as export size heard said next (refuses_magic flags turns front head opens len wrong h n) =
    opened export size flags turns front head said [] heard said next opens (no_magic len wrong refl n) h (sym (append-nil said))
heard_as export size heard said next (refuses_length flags turns front option len opens o over l h n) =
    opened export size flags turns front (head_bytes option len) said [] heard said next opens (too_long option len o over l refl refl n) h (sym (append-nil said))

-- flags with bytes behind them are at least four
flags_len : (flags : ℕ) (heard rest : List ℕ) → heard ≡ big_bytes 4 flags ++ rest → 4 ≤ length heard
flags_len flags heard rest h = omega (arith, ap length h)

-- the same bytes begin with the same flags
pub same_flags : (flags flags' : ℕ) (heard rest rest' : List ℕ) → flags < 2 ^ 32 → flags' < 2 ^ 32 → heard ≡ big_bytes 4 flags ++ rest → heard ≡ big_bytes 4 flags' ++ rest' → (flags ≡ flags') × (rest ≡ rest')
same_flags flags flags' heard rest rest' f f' h h' =
    (sym (big_number-reads_back 4 flags rest f) ∙ ap (big_number 4) (sym h ∙ h') ∙ big_number-reads_back 4 flags' rest' f', ap (drop 4) (sym h ∙ h'))

-- flags that are refused are alone
pub flags_alone : (flags : ℕ) (heard : List ℕ) → heard ≡ big_bytes 4 flags → heard ≡ big_bytes 4 flags ++ []
flags_alone flags heard h = h ∙ sym (append-nil (big_bytes 4 flags))

same_heard : (export : List ℕ) (size : ℕ) (heard said said' : List ℕ) (next next' : Step) → Heard export size heard said next → Heard export size heard said' next' → Same said said' next next'
same_heard export size heard said said' next next' (few short s n) (few short' s' n') = (s ∙ sym s', n ∙ sym n')
same_heard export size heard said said' next next' (few short s n) (refused flags f never h s' n') = absurd (omega (arith, flags_len flags heard [] (flags_alone flags heard h)))
same_heard export size heard said said' next next' (few short s n) (options flags turns tail end is all tails h s') = absurd (omega (arith, flags_len flags heard (turns_heard turns ++ tail) h))
same_heard export size heard said said' next next' (refused flags f never h s n) (few short s' n') = absurd (omega (arith, flags_len flags heard [] (flags_alone flags heard h)))
same_heard export size heard said said' next next' (refused flags f never h s n) (refused flags' f' never' h' s' n') = (s ∙ sym s', n ∙ sym n')
same_heard export size heard said said' next next' (refused flags f never h s n) (options flags' turns tail end is all tails h' s') =
    absurd (never (rw (same_flags flags flags' heard [] (turns_heard turns ++ tail) f (omega arith) (flags_alone flags heard h) h').0 is))
same_heard export size heard said said' next next' (options flags turns tail end is all tails h s) (few short s' n') = absurd (omega (arith, flags_len flags heard (turns_heard turns ++ tail) h))
same_heard export size heard said said' next next' (options flags' turns tail end is all tails h' s') (refused flags f never h s n) =
    absurd (never (rw (same_flags flags flags' heard [] (turns_heard turns ++ tail) f (omega arith) (flags_alone flags heard h) h').0 is))
same_heard export size heard said said' next next' (options flags turns tail end is all tails h s) (options flags' turns' tail' end' is' all' tails' h' s') =
    let rests = same_flags flags flags' heard (turns_heard turns ++ tail) (turns_heard turns' ++ tail') (omega arith) (omega arith) h h' in
    let one = same_turns export size flags turns turns' tail tail' end end' next next' all (rw (← rests.0) at all') tails (rw (← rests.0) at tails') rests.1 in
    (s ∙ one.0 ∙ sym s', one.1)

pub one_answer : (export : List ℕ) (size : ℕ) (heard said said' : List ℕ) (next next' : Step) → Negotiates export size heard said next → Negotiates export size heard said' next' → (said ≡ said') × (next ≡ next')
one_answer export size heard said said' next next' is is' =
    same_heard export size heard said said' next next' (heard_as export size heard said next is) (heard_as export size heard said' next' is')
