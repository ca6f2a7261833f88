use Rattle.std.proofs.Common.{◌≡◌, sym, ◌∙◌, ap, is_ok, Ok, true, false}
use Rattle.hex.specs.Hex.{decode_sized}
use Rattle.hex.proofs.HexLemmas.{IsOk-decode_sized, decode_sized-twice}
use Rattle.fa_settings.proofs.values.read_identity.Goals as goal

pub returns-in-Ok : goal.returns-in-Ok
returns-in-Ok c =
    let sized : decode_sized c.args.text.now 16 ≡ Ok c.in-Ok.array = sym c.in-Ok.ensures in
    let digits = (IsOk-decode_sized c.args.text.now 16).0 (ap is_ok sized) in
    (digits, sym (decode_sized-twice c.args.text.now 16 digits.0) ∙ sized)

pub returns-in-Err : goal.returns-in-Err
returns-in-Err c digits =
    let refused : false ≡ true = ap is_ok c.in-Err.ensures ∙ (IsOk-decode_sized c.args.text.now 16).1 digits in
    absurd (cc)
