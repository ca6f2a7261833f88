-- The headline of each point of a run.
use Rattle.fa_headline.proofs.Reading.{answers_right}
use Rattle.fa_headline.proofs.Reserving.{GeometryLaw, changes_at_commit}
use Rattle.fa_headline.specs.Headline.{IsHeadline}
use Rattle.fa_laws.specs.Least.{PlansLeast}
use Rattle.fa_laws.specs.Reached.{IsReached}
use Rattle.fa_machine.specs.Beginning.{IsBeginning}
use Rattle.fa_machine.specs.Run.{Happening, HappensEvent, Run}
use Rattle.fa_machine.specs.Step.{Act}
use Rattle.fa_machine.specs.World.{World}
use Rattle.std.proofs.Common.{List}

abbrev pub PlansLaw : Type 0
PlansLaw = (w after : World) (act : Act) → IsReached w → HappensEvent w act after → PlansLeast w.core act

pub headline_of : GeometryLaw → PlansLaw → (first last : World) (happenings : List Happening) → IsBeginning first → Run first happenings last
    → IsHeadline first happenings last
headline_of geometry plans first last happenings beginning run = record {
  reads = λ before at after batch answer p. answers_right first beginning before at after p.led batch answer p.happens;
  plain = λ before at after happening p. changes_at_commit geometry first beginning before at happening after p.led p.happens;
  plans = λ before at after act p. plans at after act (record { first = first; happenings = before; beginning = beginning; run = p.led }) p.happens;
}
