use Rattle.fa_prog_images.proofs.look.json_of.Goals as goal

pub returns-clause-document : goal.returns-clause-document
returns-clause-document g c = (
  c.in_ok-rows.rows.items,
  rw (← c.as_slice-paths.ensures.value) c.in_ok-rows.ensures.each,
  c.in_ok-rows.ensures.all,
  rw (← c.deref.ensures.value) c.in_ok-text.ensures,
)
