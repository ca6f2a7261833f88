use Rattle.std.proofs.Common.{◌≡◌, ℕ, List, ◌++◌, take, drop, Option, Result, Ok, Err, sym, ap, ◌∙◌, subst, append_assoc, take-append-drop}
use Rattle.std.specs.Io.{WritesAtMost}
use Rattle.std.specs.Io.KnownBytes.{Appends, WriteAppends}
use Rattle.std.proofs.lemmas.List.{take-append-le}
use Rattle.fa_io.proofs.faulty.FaultyWriteBoth.write_both.Goals as goal

-- what was taken of a front was taken of the whole
of_whole : {E : Type 0} (old new : Option (List ℕ)) (r : Result ℕ E) (first second : List ℕ) (room : ℕ) → WritesAtMost r (first ++ take room second) → WriteAppends old new r (first ++ take room second) → WriteAppends old new r (first ++ second)
of_whole old new (Ok n) first second room most appended =
    let whole : (first ++ take room second) ++ drop room second ≡ first ++ second =
    append_assoc first (take room second) (drop room second) ∙ ap (λ l. first ++ l) (take-append-drop room second) in
    let same : take n (first ++ take room second) ≡ take n (first ++ second) =
    sym (take-append-le n (first ++ take room second) (drop room second) most) ∙ ap (take n) whole in
    subst (Appends old new) same appended
of_whole old new (Err e) first second room most kept = kept

-- the call that was counted before left what the writer holds
of_begun : {E : Type 0} (old begun new : Option (List ℕ)) (r : Result ℕ E) (bytes : List ℕ) → begun ≡ old → WriteAppends begun new r bytes → WriteAppends old new r bytes
of_begun old begun new r bytes same appended = subst (λ held. WriteAppends held new r bytes) same appended

pub returns-clause-bytes : goal.returns-clause-bytes
returns-clause-bytes g c =
    of_begun _ _ _ c.write_both.result (c.args.first.now ++ c.args.second.now) (ap g.W.Write.contents c.begin.ensures.0)
    (of_whole _ _ c.write_both.result c.args.first.now c.args.second.now _ c.write_both.ensures.bound c.write_both.ensures.bytes)
