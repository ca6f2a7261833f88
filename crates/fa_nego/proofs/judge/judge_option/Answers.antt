use Rattle.std.proofs.Common.{◌≡◌, drop, refl}
use Rattle.std.proofs.lemmas.List.{append-nil}
use Rattle.fa_nego.specs.Negotiation.{Turn}
use Rattle.fa_nego.proofs.Stages.{magic_refused, length_refused, holds_option, passes, is_over}
use Rattle.fa_nego.proofs.judge.judge_option.Goals as goal
use Rattle.fa_nego.proofs.judge.judge_option.Goals.{in-More, in_default}

pub returns-in-WrongMagic : goal.returns-in-WrongMagic
returns-in-WrongMagic g c heard said at =
    let head = c.in-WrongMagic.ensures in
    rw (c.closed.ensures.next, c.closed.ensures.said, append-nil)
    (magic_refused c.args.export.now c.args.size c.args.flags c.args.held.now heard said head.0 at head.1)

pub returns-in-TooLong : goal.returns-in-TooLong
returns-in-TooLong g c heard said at =
    let long = c.in-TooLong.ensures.0 in
    let head = c.in-TooLong.ensures.1 in
    rw (c.closed-in-TooLong.ensures.next, c.closed-in-TooLong.ensures.said, append-nil)
    (length_refused c.args.export.now c.args.size c.args.flags c.args.held.now heard said long at head.0 head.1 head.2 head.3 head.4 head.5)

pub returns-after-come : goal.returns-after-come
returns-after-come g c heard said at =
    let option = c.in-Whole.ensures in
    let head = option.1 in
    let come = c.in_ok-come-in-Whole.come in
    let held = c.args.held.now in
    let given : c.in-Whole.given.now ≡ drop 16 held = option.2 in
    let whole = holds_option held c.in-Whole.option option.0 at.3 head.0 head.1 head.2 (rw (← given) option.3) in
    let comes = rw given at c.in_ok-come-in-Whole.ensures in
    let turn : Turn = record {
      sent = record { option = c.in-Whole.option; given = drop 16 held };
      come = record { said = come.said.items; next = come.next };
    } in
    elim c.match-come.branch [
      | in-More w ↦ rw w.next-is (passes c.args.export.now c.args.size c.args.flags held heard said at turn whole comes w.in-More.is)
      | in_default w ↦ rw w.next-is (is_over c.args.export.now c.args.size c.args.flags held heard said at turn whole comes come.next refl w.in_default.not-More)
    ]
