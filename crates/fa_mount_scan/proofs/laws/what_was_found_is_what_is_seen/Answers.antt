use Rattle.fa_mount_scan.proofs.SlotCells.{copy_is_sealed, erased_is_empty, found_cell}
use Rattle.fa_mount_scan.proofs.laws.what_was_found_is_what_is_seen.Goals as goal

pub returns-clause-seen : goal.returns-clause-seen
returns-clause-seen c = λ bytes pages die slot content holds. found_cell bytes pages die slot content holds

pub returns-clause-erased : goal.returns-clause-erased
returns-clause-erased c = λ bytes pages die slot content cell holds seen. erased_is_empty bytes pages die slot content holds cell seen

pub returns-clause-copy : goal.returns-clause-copy
returns-clause-copy c = λ bytes pages die slot content cell page version holds seen.
    copy_is_sealed bytes pages die slot content holds cell seen page version
