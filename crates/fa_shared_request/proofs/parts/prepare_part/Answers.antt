use Rattle.fa_shared_request.proofs.PartTallies.{op_prepared}
use Rattle.fa_shared_request.proofs.parts.prepare_part.Goals as goal

pub returns-then-not-has_content : goal.returns-then-not-has_content
returns-then-not-has_content g c =
    λ commits.
    op_prepared commits c.args.part.now.op c.prepare.new.self c.unwrap_or-own.result.now
    c.prepare.ensures.prepared c.prepare.ensures.task

pub returns-in-Some : goal.returns-in-Some
returns-in-Some g c =
    λ commits.
    op_prepared commits c.args.part.now.op c.prepare_with.new.self c.unwrap_or-own.result.now
    c.prepare_with.ensures.prepared c.prepare_with.ensures.task

pub returns-in_default : goal.returns-in_default
returns-in_default g c =
    λ commits.
    op_prepared commits c.args.part.now.op c.prepare-in_default.new.self c.unwrap_or-own.result.now
    c.prepare-in_default.ensures.prepared c.prepare-in_default.ensures.task
