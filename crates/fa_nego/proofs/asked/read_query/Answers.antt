use Rattle.std.proofs.Common.{◌≡◌, ◌++◌, length, take, drop, sym, ap, ◌∙◌, arith, append_assoc}
use Rattle.std.proofs.lemmas.List.{take-append-drop}
use Rattle.byteorder.specs.Endian.{big_number}
use Rattle.fa_types.proofs.BigEndian.{AreBytes, AreBytes-take, AreBytes-drop}
use Rattle.fa_nego.proofs.Asking.{is_spelled, asks_for}
use Rattle.fa_nego.proofs.asked.read_query.Goals as goal

pub returns-then-given-lt6-clause-none : goal.returns-then-given-lt6-clause-none
returns-then-given-lt6-clause-none c asked asks = omega (arith, (is_spelled c.args.given.now asked asks).len)

pub returns-then-rest-len-clause-none : goal.returns-then-rest-len-clause-none
returns-then-rest-len-clause-none c asked asks =
    let is = is_spelled c.args.given.now asked asks in
    let len : c.read_u32-len.result ≡ big_number 4 (take 4 c.args.given.now) =
    c.read_u32-len.ensures ∙ ap (big_number 4) c.split_at.ensures.front in
    omega (arith, is.len, is.name_len, len, c.split_at.ensures.back_len)

pub returns-then-kinds-read_u16-clause-none : goal.returns-then-kinds-read_u16-clause-none
returns-then-kinds-read_u16-clause-none c asked asks =
    let is = is_spelled c.args.given.now asked asks in
    let len : c.read_u32-len.result ≡ length asked.name =
    c.read_u32-len.ensures ∙ ap (big_number 4) c.split_at.ensures.front ∙ is.name_len in
    let behind : c.split_at-3.result.0.now ≡ take 2 (drop (length asked.name) (drop 4 c.args.given.now)) =
    c.split_at-3.ensures.front
    ∙ ap (take 2) (c.split_at-2.ensures.back ∙ ap (λ n. drop n c.split_at.result.1.now) len ∙ ap (drop (length asked.name)) c.split_at.ensures.back) in
    let count : c.read_u16.result ≡ length asked.kinds = c.read_u16.ensures ∙ ap (big_number 2) behind ∙ is.count in
    c.if-kinds-read_u16.true (omega (arith, is.len, len, count, c.split_at.ensures.back_len, c.split_at-2.ensures.back_len, c.split_at-3.ensures.back_len))

pub returns-clause-some : goal.returns-clause-some
returns-clause-some c =
    let given = c.args.given.now in
    let rest = c.split_at.result.1.now in
    let behind = c.split_at-2.result.1.now in
    let fits : AreBytes given = λ i. omega (arith, c.type_inv.given i) in
    let rest_fits : AreBytes rest = rw c.split_at.ensures.back (AreBytes-drop 4 given fits) in
    let behind_fits : AreBytes behind = rw c.split_at-2.ensures.back (AreBytes-drop c.read_u32-len.result rest rest_fits) in
    let fourth : take 4 given ++ drop 4 given ≡ given = take-append-drop 4 given in
    let named : take c.read_u32-len.result rest ++ drop c.read_u32-len.result rest ≡ rest = take-append-drop c.read_u32-len.result rest in
    let counted : take 2 behind ++ drop 2 behind ≡ behind = take-append-drop 2 behind in
    let whole : given ≡ c.split_at.result.0.now ++ (c.split_at-2.result.0.now ++ (c.split_at-3.result.0.now ++ c.split_at-3.result.1.now)) = cc in
    asks_for given c.split_at.result.0.now c.split_at-2.result.0.now c.split_at-3.result.0.now c.split_at-3.result.1.now
    (whole ∙ sym (append_assoc c.split_at.result.0.now c.split_at-2.result.0.now _) ∙ sym (append_assoc (c.split_at.result.0.now ++ c.split_at-2.result.0.now) c.split_at-3.result.0.now c.split_at-3.result.1.now))
    (rw c.split_at.ensures.front (AreBytes-take 4 given fits))
    (rw c.split_at-3.ensures.front (AreBytes-take 2 behind behind_fits))
    (rw c.split_at-3.ensures.back (AreBytes-drop 2 behind behind_fits))
    c.split_at.ensures.front_len
    c.split_at-3.ensures.front_len
    (sym c.read_u32-len.ensures ∙ sym c.split_at-2.ensures.front_len)
    (omega (arith, c.if-kinds-read_u16.false, c.read_u16.ensures))
