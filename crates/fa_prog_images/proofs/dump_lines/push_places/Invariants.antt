use Rattle.std.proofs.Common.{◌≡◌, ◌++◌, string_bytes}
use Rattle.fa_prog_images.specs.Lines.{copies_text}
use Rattle.fa_prog_images.proofs.dump_lines.push_places.Given as goal

-- what was told, and the places that are left, are all places of the page
abbrev pub invariant-loop-die : goal.invariant-loop-die
invariant-loop-die g l = string_bytes l.out ++ copies_text l.die-iterator ≡ string_bytes l.fn.out ++ copies_text l.page.places
