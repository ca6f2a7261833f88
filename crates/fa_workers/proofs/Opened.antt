-- What is told of jobs whose slots are opened.
use Rattle.std.proofs.Common.{ap, arith, drop, map, refl, take, subst, sym, List, [], length, suc, ℕ, ◌++◌, ◌≡◌, ◌∙◌, ◌∷◌}
use Rattle.fa_shared_lock.specs.Only.{IsPart, dies_told}
use Rattle.fa_types.specs.declared.numbers.Die.{Die}
use Rattle.fa_workers.specs.Held.{told_of}
use Rattle.fa_workers_making.specs.Begun.{OpensReads}
use Rattle.fa_workers_making.specs.declared.bench.MadeJob.{MadeJob}
use Rattle.std.proofs.Math.Seq.{take-append_seam}

module _ {A : Type 0} where
  -- what is opened stays told of the same dies
  pub opens_told : (old new : List (MadeJob A)) → OpensReads old new → dies_told (map told_of new) ≡ dies_told (map told_of old)
  opens_told [] [] opens = refl
  opens_told [] (n ∷ new) opens = absurd (omega (arith, opens.0))
  opens_told (o ∷ old) [] opens = absurd (omega (arith, opens.0))
  opens_told (o ∷ old) (n ∷ new) opens =
      ap (λ (d : Die). d.0 ∷ dies_told (map told_of new)) (opens.1 0 o (omega arith)).0
      ∙ ap (λ ds. o.die.0 ∷ ds) (opens_told old new (omega (arith, opens.0), λ k m within. opens.1 (suc k) m (omega (arith, within))))

  -- so it is where they are written back to a list of so many
  pub opens_kept : (old new : List (MadeJob A)) (n : ℕ) → OpensReads old new → length old ≡ n → (dies : List ℕ)
      → IsPart (dies_told (map told_of old)) dies → IsPart (dies_told (map told_of (take n (new ++ drop (length new) old)))) dies
  opens_kept old new n opens is dies part =
      subst (λ ds. IsPart ds dies)
      (sym (ap (λ jobs. dies_told (map told_of jobs))
      (ap (λ k. take k (new ++ drop (length new) old)) (sym (opens.0 ∙ is)) ∙ take-append_seam new (drop (length new) old))
      ∙ opens_told old new opens))
      part
