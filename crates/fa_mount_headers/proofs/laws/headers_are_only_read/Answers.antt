use Rattle.fa_mount_headers.proofs.Reading.{are_only_read, are_of}
use Rattle.fa_mount_headers.proofs.laws.headers_are_only_read.Goals as goal

pub returns-clause-kept : goal.returns-clause-kept
returns-clause-kept g c = are_only_read g.I.Image.view g.I.Image.honest g.I.Image.made g.met.I.Image.meets

pub returns-clause-told : goal.returns-clause-told
returns-clause-told g c = are_of g.I.Image.view g.I.Image.honest g.I.Image.made g.met.I.Image.meets
