use Rattle.std.proofs.Common.{◌≡◌, ◌-◌, All, length, subst, sym}
use Rattle.flasharr_lab_calls.proofs.digests.all_at_once.Goals as goal

pub digest_all-requires-clause-one_length : goal.digest_all-requires-clause-one_length
digest_all-requires-clause-one_length c =
    (c.args.bytes - 0, subst (All (λ part. length part.now ≡ c.args.bytes - 0)) (sym c.as_slice.ensures.value) c.in_ok-list.ensures)
