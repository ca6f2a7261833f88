use Rattle.std.proofs.Common.{◌≡◌, ℕ, ◌+◌, ◌-◌, ◌≤◌, List, ◌++◌, Option, Result, Ok, Err, arith, length, take, ap, ◌∙◌, subst, length-take-le}
use Rattle.std.proofs.lemmas.Grind.{common_steps}
use Rattle.fa_io.specs.Streams.{Fills}
use Rattle.fa_io.specs.declared.reading.ReadEnd.{ReadEnd}
use Rattle.fa_io.proofs.StreamLemmas.{take-put_mid-more}
use Rattle.fa_session_memory.specs.Memory.{FillsPart}
use borrow.Rule.Slice.PartMut.{put_mid}
use Rattle.fa_session_memory.proofs.memory.fill_part.Goals as goal

take-whole : (xs : List ℕ) → take (length xs) xs ≡ xs
take-whole xs = search (arith, common_steps)

-- a part that is filled
of_fills : (a b : Option (List ℕ)) (at end : ℕ) (xs ys : List ℕ) (r : Result (Unit {0}) ReadEnd) → at ≤ end → end ≤ length xs → length ys ≡ end - at → Fills a b ys r → FillsPart a b at end xs (put_mid at (end - at) xs ys) r
of_fills a b at end xs ys (Ok done) ordered within long filled =
    let to_end : at + length ys ≡ end = omega (arith, ordered, long) in
    let inside : at ≤ length xs = omega (arith, ordered, within) in
    let front = take-put_mid-more at (end - at) (length ys) xs ys inside (omega arith) in
    (ys, to_end, filled, subst (λ n. take n (put_mid at (end - at) xs ys) ≡ take at xs ++ ys) to_end (front ∙ ap (λ l. take at xs ++ l) (take-whole ys)))
of_fills a b at end xs ys (Err fault) ordered within long filled =
    let n = filled.0.0 in
    let e = length-take-le n ys (omega (arith, filled.0.1)) in
    ((take n ys, omega (arith, e, long, filled.0.1, ordered), filled.0.2), filled.1)

pub returns-clause-filled : goal.returns-clause-filled
returns-clause-filled g c =
    let long : length c.fill.new.into ≡ c.args.end - c.args.at = grind (arith, common_steps) in
    of_fills _ _ c.args.at c.args.end c.args.buffer.now c.fill.new.into c.fill.result c.requires.ordered c.requires.within long c.fill.ensures.filled
