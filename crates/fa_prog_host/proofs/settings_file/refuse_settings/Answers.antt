use Rattle.std.proofs.Common.{inl}
use Rattle.fa_prog_host.proofs.settings_file.refuse_settings.Goals as goal

pub returns-in-Unread : goal.returns-in-Unread
returns-in-Unread g c = inl (inl c.print.ensures)
