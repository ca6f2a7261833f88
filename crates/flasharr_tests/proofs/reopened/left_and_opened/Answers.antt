use Rattle.std.proofs.Common.{◌≡◌, false, Result, Ok, Err, OnOk, is_err}
use Rattle.std.proofs.lemmas.Bool.{true≢false}
use Rattle.fa_image.specs.declared.fault.ImageFault.{ImageFault}
use Rattle.fa_image.specs.ReadBack.{read_back}
use Rattle.flasharr_tests.proofs.reopened.left_and_opened.Goals as goal

-- what an accepted call ensures
of_ok : (answer : Result (Unit {0}) ImageFault) (P : Type 0) → OnOk answer P → is_err answer ≡ false → P
of_ok (Ok done) P ensured accepted = ensured
of_ok (Err fault) P ensured accepted = absurd (true≢false accepted)

pub returns : goal.returns
returns g c honest =
    let programmed = of_ok c.program.result _ c.program.ensures.done (cc) in
    let synced = of_ok c.sync.result _ c.sync.ensures.done (cc) in
    let gave = of_ok c.read_slot.result _ c.read_slot.ensures.gave (cc) in
    read_back c.in_ok-image.image c.program.new.self c.sync.new.self c.in_ok-again.again c.read_slot.new.self c.args.slot.0 c.args.bytes.now
    c.read_slot.new.into programmed synced c.in_ok-again.ensures.view gave honest
