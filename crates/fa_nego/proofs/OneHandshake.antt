-- The client's bytes determine where a negotiation ends.
use Rattle.std.proofs.Common.{◌≡◌, ◌≢◌, ℕ, List, [], ◌∷◌, ◌++◌, length, take, sym, ap, ◌∙◌, arith, append_assoc}
use Rattle.std.specs.List.{AllByRecursion}
use Rattle.std.proofs.lemmas.List.{take-append-le}
use Rattle.byteorder.specs.Endian.{big_bytes}
use Rattle.fa_nego_head.specs.Heads.{head_bytes}
use Rattle.fa_nego.specs.Negotiation.{Turn, IsPassed, turns_heard, Negotiates, option_bytes}
use Rattle.fa_nego.specs.declared.step.Step.{Step}
use Rattle.fa_nego.specs.declared.step.Step.TheVariants.{More}
use Rattle.fa_nego.proofs.Heads.{length-head_bytes, take-head_bytes}
use Rattle.fa_nego.proofs.OneAnswer.{same_fronts, same_sent, same_turn, Tail, part, last, no_magic, too_long, not_magic, not_long, first_turn, Heard, few, refused, options, heard_as, same_flags, one_answer}

-- the magic number of a head with bytes behind it
magic_of_head : (option len : ℕ) (tail more : List ℕ) → tail ≡ head_bytes option len → take 8 (tail ++ more) ≡ big_bytes 8 0x49484156454f5054
magic_of_head option len tail more h = ap (λ bytes. take 8 (bytes ++ more)) h ∙ take-head_bytes option len more

-- 16 bytes with bytes behind them begin as they do
front_of : (tail more : List ℕ) → length tail ≡ 16 → take 8 (tail ++ more) ≡ take 8 tail
front_of tail more long = take-append-le 8 tail more (omega arith)

-- a turn after which the negotiation goes on does not stand where it ends
not_passed : (export : List ℕ) (size flags : ℕ) (turn : Turn) (rest tail more said : List ℕ) (next : Step) → next ≢ More → IsPassed export size flags turn → tail ++ more ≡ option_bytes turn.sent ++ rest
    → Tail export size flags tail said next → ⊥
not_passed export size flags turn rest tail more said next over is same (part some s n) = over n
not_passed export size flags turn rest tail more said next over is same (last other is_other ends t s n) =
    let comes = same_turn export size flags turn other rest more is.turn_taken is_other (sym same ∙ ap (λ bytes. bytes ++ more) t) in
    ends (ap (λ come. come.next) (sym comes.0) ∙ is.goes_on)
not_passed export size flags turn rest tail more said next over is same (no_magic len wrong s n) =
    not_magic export size flags turn rest (tail ++ more) said next is.turn_taken same (λ e. wrong (sym (front_of tail more len) ∙ e))
not_passed export size flags turn rest tail more said next over is same (too_long option len o long l h s n) =
    not_long export size flags turn rest (tail ++ more) said next is.turn_taken same option len more o long l (ap (λ bytes. bytes ++ more) h)

-- by the bytes behind the last turn that goes on
same_ends : (export : List ℕ) (size flags : ℕ) (tail tail' more more' said said' : List ℕ) (next next' : Step) → next ≢ More → next' ≢ More
    → Tail export size flags tail said next → Tail export size flags tail' said' next' → tail ++ more ≡ tail' ++ more' → tail ≡ tail'
same_ends export size flags tail tail' more more' said said' next next' over over' (part some s n) end' same = absurd (over n)
same_ends export size flags tail tail' more more' said said' next next' over over' end (part some s n) same = absurd (over' n)
same_ends export size flags tail tail' more more' said said' next next' over over' (last turn is ends t s n) (last turn' is' ends' t' s' n') same =
    let sents = same_sent turn.sent turn'.sent more more' is.option is'.option (ap (λ bytes. bytes ++ more) (sym t) ∙ same ∙ ap (λ bytes. bytes ++ more') t') in
    t ∙ ap option_bytes sents.0 ∙ sym t'
same_ends export size flags tail tail' more more' said said' next next' over over' (last turn is ends t s n) (no_magic len wrong s' n') same =
    absurd (not_magic export size flags turn more (tail' ++ more') said next is (sym same ∙ ap (λ bytes. bytes ++ more) t) (λ e. wrong (sym (front_of tail' more' len) ∙ e)))
same_ends export size flags tail tail' more more' said said' next next' over over' (last turn is ends t s n) (too_long option len o long l h s' n') same =
    absurd (not_long export size flags turn more (tail' ++ more') said next is (sym same ∙ ap (λ bytes. bytes ++ more) t) option len more' o long l (ap (λ bytes. bytes ++ more') h))
same_ends export size flags tail tail' more more' said said' next next' over over' (no_magic len wrong s n) (last turn is ends t s' n') same =
    absurd (not_magic export size flags turn more' (tail ++ more) said next is (same ∙ ap (λ bytes. bytes ++ more') t) (λ e. wrong (sym (front_of tail more len) ∙ e)))
same_ends export size flags tail tail' more more' said said' next next' over over' (no_magic len wrong s n) (no_magic len' wrong' s' n') same =
    (same_fronts tail tail' more more' (len ∙ sym len') same).0
same_ends export size flags tail tail' more more' said said' next next' over over' (no_magic len wrong s n) (too_long option announced o long l h s' n') same =
    absurd (wrong (sym (front_of tail more len) ∙ ap (take 8) same ∙ magic_of_head option announced tail' more' h))
same_ends export size flags tail tail' more more' said said' next next' over over' (too_long option len o long l h s n) (last turn is ends t s' n') same =
    absurd (not_long export size flags turn more' (tail ++ more) said next is (same ∙ ap (λ bytes. bytes ++ more') t) option len more o long l (ap (λ bytes. bytes ++ more) h))
same_ends export size flags tail tail' more more' said said' next next' over over' (too_long option announced o long l h s n) (no_magic len wrong s' n') same =
    absurd (wrong (sym (front_of tail' more' len) ∙ ap (take 8) (sym same) ∙ magic_of_head option announced tail more h))
same_ends export size flags tail tail' more more' said said' next next' over over' (too_long option len o long l h s n) (too_long option' len' o' long' l' h' s' n') same =
    (same_fronts tail tail' more more' ((ap length h ∙ length-head_bytes option len) ∙ sym (ap length h' ∙ length-head_bytes option' len')) same).0

-- by all turns
same_turns_heard : (export : List ℕ) (size flags : ℕ) (turns turns' : List Turn) (tail tail' more more' said said' : List ℕ) (next next' : Step) → next ≢ More → next' ≢ More
    → AllByRecursion (IsPassed export size flags) turns → AllByRecursion (IsPassed export size flags) turns' → Tail export size flags tail said next → Tail export size flags tail' said' next'
    → turns_heard turns ++ (tail ++ more) ≡ turns_heard turns' ++ (tail' ++ more') → turns_heard turns ++ tail ≡ turns_heard turns' ++ tail'
same_turns_heard export size flags [] [] tail tail' more more' said said' next next' over over' all all' end end' same =
    same_ends export size flags tail tail' more more' said said' next next' over over' end end' same
same_turns_heard export size flags (turn ∷ turns) [] tail tail' more more' said said' next next' over over' all all' end end' same =
    absurd (not_passed export size flags turn (turns_heard turns ++ (tail ++ more)) tail' more' said' next' over' all.0 (sym same ∙ first_turn turn turns (tail ++ more)) end')
same_turns_heard export size flags [] (turn ∷ turns) tail tail' more more' said said' next next' over over' all all' end end' same =
    absurd (not_passed export size flags turn (turns_heard turns ++ (tail' ++ more')) tail more said next over all'.0 (same ∙ first_turn turn turns (tail' ++ more')) end)
same_turns_heard export size flags (turn ∷ turns) (turn' ∷ turns') tail tail' more more' said said' next next' over over' all all' end end' same =
    let sents = same_sent turn.sent turn'.sent (turns_heard turns ++ (tail ++ more)) (turns_heard turns' ++ (tail' ++ more')) all.0.turn_taken.option all'.0.turn_taken.option
    (sym (first_turn turn turns (tail ++ more)) ∙ same ∙ first_turn turn' turns' (tail' ++ more')) in
    let rest = same_turns_heard export size flags turns turns' tail tail' more more' said said' next next' over over' all.1 all'.1 end end' sents.1 in
    first_turn turn turns tail ∙ ap (λ bytes. bytes ++ (turns_heard turns ++ tail)) (ap option_bytes sents.0) ∙ ap (λ bytes. option_bytes turn'.sent ++ bytes) rest ∙ sym (first_turn turn' turns' tail')

-- flags and options, with bytes behind them
with_more : (flags : ℕ) (turns : List Turn) (tail heard more : List ℕ) → heard ≡ big_bytes 4 flags ++ (turns_heard turns ++ tail) → heard ++ more ≡ big_bytes 4 flags ++ (turns_heard turns ++ (tail ++ more))
with_more flags turns tail heard more h =
    ap (λ bytes. bytes ++ more) h ∙ append_assoc (big_bytes 4 flags) (turns_heard turns ++ tail) more ∙ ap (λ bytes. big_bytes 4 flags ++ bytes) (append_assoc (turns_heard turns) tail more)

same_all_heard : (export : List ℕ) (size : ℕ) (heard heard' more more' said said' : List ℕ) (next next' : Step) → next ≢ More → next' ≢ More
    → Heard export size heard said next → Heard export size heard' said' next' → heard ++ more ≡ heard' ++ more' → heard ≡ heard'
same_all_heard export size heard heard' more more' said said' next next' over over' (few short s n) end' same = absurd (over n)
same_all_heard export size heard heard' more more' said said' next next' over over' end (few short s n) same = absurd (over' n)
same_all_heard export size heard heard' more more' said said' next next' over over' (refused flags f never h s n) (refused flags' f' never' h' s' n') same =
    (same_fronts heard heard' more more' (omega (arith, ap length h, ap length h')) same).0
same_all_heard export size heard heard' more more' said said' next next' over over' (refused flags f never h s n) (options flags' turns tail end is all tails h' s') same =
    let one = same_flags flags flags' (heard ++ more) more (turns_heard turns ++ (tail ++ more')) f (omega arith) (ap (λ bytes. bytes ++ more) h) (same ∙ with_more flags' turns tail heard' more' h') in
    absurd (never (rw one.0 is))
same_all_heard export size heard heard' more more' said said' next next' over over' (options flags turns tail end is all tails h s) (refused flags' f' never' h' s' n') same =
    let one = same_flags flags' flags (heard' ++ more') more' (turns_heard turns ++ (tail ++ more)) f' (omega arith) (ap (λ bytes. bytes ++ more') h') (sym same ∙ with_more flags turns tail heard more h) in
    absurd (never' (rw one.0 is))
same_all_heard export size heard heard' more more' said said' next next' over over' (options flags turns tail end is all tails h s) (options flags' turns' tail' end' is' all' tails' h' s') same =
    let one = same_flags flags flags' (heard ++ more) (turns_heard turns ++ (tail ++ more)) (turns_heard turns' ++ (tail' ++ more')) (omega arith) (omega arith)
    (with_more flags turns tail heard more h) (same ∙ with_more flags' turns' tail' heard' more' h') in
    let rest = same_turns_heard export size flags turns turns' tail tail' more more' end end' next next' over over' all (rw (← one.0) at all') tails (rw (← one.0) at tails') one.1 in
    h ∙ ap (λ n. big_bytes 4 n ++ (turns_heard turns ++ tail)) one.0 ∙ ap (λ bytes. big_bytes 4 flags' ++ bytes) rest ∙ sym h'

pub one_handshake : (export : List ℕ) (size : ℕ) (heard heard' more more' said said' : List ℕ) (next next' : Step) → Negotiates export size heard said next → Negotiates export size heard' said' next'
    → next ≢ More → next' ≢ More → heard ++ more ≡ heard' ++ more' → (heard ≡ heard') × (said ≡ said') × (next ≡ next')
one_handshake export size heard heard' more more' said said' next next' is is' over over' same =
    let bytes = same_all_heard export size heard heard' more more' said said' next next' over over' (heard_as export size heard said next is) (heard_as export size heard' said' next' is') same in
    let one = one_answer export size heard' said said' next next' (rw bytes at is) is' in
    (bytes, one.0, one.1)
