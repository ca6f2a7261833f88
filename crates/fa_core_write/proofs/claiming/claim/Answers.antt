use Rattle.std.proofs.Common.{ap, refl, sym, ◌∙◌, None}
use Rattle.fa_core_tables.specs.Claims.{claims_of}
use Rattle.fa_core_state.specs.Core.{core_of}
use Rattle.std.specs.FinMap.{contains_key, insert}
use Rattle.fa_core_write.proofs.claiming.claim.Goals as goal

pub claim-requires : goal.claim-requires
claim-requires g c = sym c.is_claimed.ensures.number ∙ c.if-is_claimed.false

pub returns-then-is_claimed-clause-claims : goal.returns-then-is_claimed-clause-claims
returns-then-is_claimed-clause-claims g c = (sym c.is_claimed.ensures.claimed ∙ c.if-is_claimed.true, refl)

pub returns-in-Ok-clause-claims : goal.returns-in-Ok-clause-claims
returns-in-Ok-clause-claims g c =
    let claims = claims_of c.args.state.now.claims in (
      sym c.is_claimed.ensures.claimed ∙ c.if-is_claimed.false,
      ap (contains_key claims) c.in-Ok.ensures.number ∙ sym c.is_claimed.ensures.number ∙ c.if-is_claimed.false,
      λ i. record (core_of g.M.Map.view c.args.state.now) {
        claims = (c.in-Ok.ensures.claimed
            ∙ ap (λ n. insert claims n (record { page = c.args.page.0; reserved = None })) (sym c.in-Ok.ensures.number)) i;
      },
    )

pub returns-in-Err-clause-claims : goal.returns-in-Err-clause-claims
returns-in-Err-clause-claims g c = (
  sym c.is_claimed.ensures.claimed ∙ c.if-is_claimed.false,
  λ i. record (core_of g.M.Map.view c.args.state.now) { claims = c.in-Err.ensures.refused i },
)
