-- Each field is read where the header has it.
use Rattle.std.proofs.Common.{◌≡◌, ◌∙◌, ap, not, nat_eq, bit_and, ℕ, Some, ◌<◌}
use Rattle.fa_tag.specs.declared.header.Header.{Header}
use Rattle.fa_tag.proofs.Headers.{reads_spelled, same_header, same_number}
use Rattle.fa_tag.proofs.header.fields_in.Goals as goal

pub returns : goal.returns
returns c header spells =
    let reads = reads_spelled c.args.bytes.now header spells in
    let given = c.in_ok-geometry.ensures header spells in
    let die : c.in_ok-die.die ≡ header.die.0 = same_number c.try_from.result (c.u32_at-number.result < 256) c.u32_at-number.result c.in_ok-die.die c.try_from.ensures c.in_ok-die.ensures.value ∙ c.u32_at-number.ensures ∙ reads.die in
    let geometry : c.in_ok-geometry.geometry ≡ header.geometry = cc given in
    let marks = c.u32_at-marks.result in
    let found : Header = record {
      die = record { 0 = c.in_ok-die.die };
      geometry = c.in_ok-geometry.geometry;
      clean = not (nat_eq (bit_and marks 1) 0);
      spare = not (nat_eq (bit_and marks 2) 0);
      epoch = c.u64_at-epoch.result;
      mask = c.u64_at-mask.result;
      array = c.array_at-array.result;
    } in
    ap Some (same_header found header die geometry (ap (λ (n : ℕ). not (nat_eq (bit_and n 1) 0)) c.u32_at-marks.ensures ∙ reads.clean)
    (ap (λ (n : ℕ). not (nat_eq (bit_and n 2) 0)) c.u32_at-marks.ensures ∙ reads.spare)
    (c.u64_at-epoch.ensures ∙ reads.epoch) (c.u64_at-mask.ensures ∙ reads.mask) (c.array_at-array.ensures ∙ reads.array))
