-- The headline of a run: what its batches answer, how the plain array changes in it, and that each of its plans is least.
use Rattle.std.specs.Prelude.{ℕ, List}
use Rattle.fa_headline.specs.Points.{HappensIn}
use Rattle.fa_headline.specs.Reads.{AnswersRight}
use Rattle.fa_headline.specs.Writes.{ChangesAtCommit}
use Rattle.fa_laws.specs.Least.{PlansLeast}
use Rattle.fa_machine.specs.Run.{Event, Happening}
use Rattle.fa_machine.specs.Step.{Act, EndBatch}
use Rattle.fa_machine.specs.World.{World}

pub record IsHeadline (first : World) (happenings : List Happening) (last : World) : Type 0 where
  -- each page that an EndBatch answers has the bytes that the plain array had as its read was taken, or as the batch was admitted
  pub reads : (before : List Happening) (at after : World) (batch : ℕ) (answer : List (ℕ × List ℕ))
      → HappensIn first happenings last before at (Event (EndBatch batch answer)) after → AnswersRight first before at batch answer
  -- the plain array changes where a Commit is accepted, by the bytes that were reserved, and nowhere else
  pub plain : (before : List Happening) (at after : World) (happening : Happening)
      → HappensIn first happenings last before at happening after → ChangesAtCommit first before at happening after
  -- each accepted Admit and Replan has a plan of the least number of rounds at this point, with what shows it
  pub plans : (before : List Happening) (at after : World) (act : Act)
      → HappensIn first happenings last before at (Event act) after → PlansLeast at.core act
