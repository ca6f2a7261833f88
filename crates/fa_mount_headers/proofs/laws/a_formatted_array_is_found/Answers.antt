use Rattle.std.proofs.Common.{ℕ, ap, ◌∙◌, map, arith}
use Rattle.std.specs.List.{range_with_len}
use Rattle.fa_mount_headers.proofs.FoundAgain.{all_found}
use Rattle.fa_mount_headers.proofs.Reading.{are_of}
use Rattle.fa_mount_headers.specs.NewArray.{new_found}
use Rattle.fa_mount_headers.proofs.laws.a_formatted_array_is_found.Goals as goal

pub returns : goal.returns
returns g c = λ format geometry array old new read founds known whole many shapes all reads length all_honest none_refused.
    let view = g.I.Image.view in
    let honest = g.I.Image.honest in
    let of = are_of view honest g.I.Image.made g.met.I.Image.meets new read founds reads all_honest in
    all_found format geometry array known whole view honest 0 old new founds (omega (arith, many)) shapes all of length none_refused
    ∙ ap (λ (n : ℕ). map (new_found geometry array) (range_with_len 0 n)) many
