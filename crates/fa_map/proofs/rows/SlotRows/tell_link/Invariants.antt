use Rattle.std.proofs.Common.{set}
use Rattle.fa_map.proofs.rows.SlotRows.tell_link.Given as goal

abbrev pub ghost-note : goal.ghost-note
ghost-note g a = λ new links. set links new.index new.link
