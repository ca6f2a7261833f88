use Rattle.std.proofs.Common.{ap}
use Rattle.std.specs.Prelude.{is_some}
use Rattle.fa_mount_scan.proofs.MountedFacts.{current_once, held_found, live_within, none_found, none_reserved, used_within, written_held, written_within}
use Rattle.fa_mount_scan.proofs.laws.the_mounted_content_is_sound.Goals as goal

pub returns-clause-live : goal.returns-clause-live
returns-clause-live c = λ geometry contents m die are is. live_within geometry contents m are is die

pub returns-clause-used : goal.returns-clause-used
returns-clause-used c = λ geometry contents m die slot are is. used_within geometry contents m are is die slot

pub returns-clause-reserved : goal.returns-clause-reserved
returns-clause-reserved c = λ geometry contents m die slot are is. none_reserved geometry contents m are is die slot

pub returns-clause-erased : goal.returns-clause-erased
returns-clause-erased c = λ geometry contents m die slot are is. none_found geometry contents m are is die slot

pub returns-clause-held : goal.returns-clause-held
returns-clause-held c = λ geometry contents m die slot page version are is. held_found geometry contents m are is die slot page version

pub returns-clause-once : goal.returns-clause-once
returns-clause-once c = λ geometry contents m page die slot other are is. current_once geometry contents m are is page die slot other

pub returns-clause-written : goal.returns-clause-written
returns-clause-written c = λ geometry contents m page version are is written.
    let at = written_held geometry contents m are is page version written in
    (written_within geometry contents m are is page.0 (ap is_some written), at.0, at.1, at.2)
