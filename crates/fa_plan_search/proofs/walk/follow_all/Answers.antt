use Rattle.std.proofs.Common.{arith, subst, sym, ap, ◌∙◌, inl, inr}
use Rattle.std.proofs.lemmas.Bool.{cases_eq}
use Rattle.fa_plan_search.specs.Reading.{die_of}
use Rattle.fa_plan_search.specs.Search.{IsWalk, AreFull, GoesOn, IsFollowed}
use Rattle.fa_plan_search.proofs.Walks.{then, followed_still, at_none}
use Rattle.fa_plan_search.proofs.walk.follow_all.Goals as goal
use Rattle.fa_plan_search.proofs.walk.follow_all.Goals.{then-given-page+else-is_some, else-given-page}

pub loop-page-preserved : goal.loop-page-preserved
loop-page-preserved g c =
    let i = c.loop-page.invariant in
    elim c.if-given-page.branch [
      | then-given-page+else-is_some w ↦
          (let none = sym w.is_some.ensures ∙ w.if-is_some.false in
          let after = w.follow-found.new.walk in
          let full : AreFull c.args.given.now c.args.tables.now.open_counts after = at_none w.follow-found.result (AreFull c.args.given.now c.args.tables.now.open_counts after) none w.follow-found.ensures.full in
          let here = at_none w.follow-found.result (IsFollowed c.args.batch.now after c.loop-page.page) none w.follow-found.ensures.followed in
          record {
            walk = subst (λ v. IsWalk c.args.batch.now c.args.given.now v) (sym w.walk-is) w.follow-found.ensures.walk;
            full = subst (λ v. AreFull c.args.given.now c.args.tables.now.open_counts v) (sym w.walk-is) full;
            goes = subst (λ v. GoesOn c.args.walk.now v) (sym w.walk-is) (then c.args.walk.now c.loop-page.walk after i.goes w.follow-found.ensures.goes);
            followed = λ page below is. elim (cases_eq page c.loop-page.page) [
              | inl e ↦ subst (λ v. IsFollowed c.args.batch.now v page) (sym w.walk-is) (subst (λ n. IsFollowed c.args.batch.now after n) (sym e) here)
              | inr other ↦ subst (λ v. IsFollowed c.args.batch.now v page) (sym w.walk-is) (followed_still c.args.batch.now c.loop-page.walk after page w.follow-found.ensures.goes (i.followed page (omega (arith, below, other)) is))
            ];
          })
      | else-given-page w ↦
          record {
            walk = subst (λ v. IsWalk c.args.batch.now c.args.given.now v) (sym w.walk-is) i.walk;
            full = subst (λ v. AreFull c.args.given.now c.args.tables.now.open_counts v) (sym w.walk-is) i.full;
            goes = subst (λ v. GoesOn c.args.walk.now v) (sym w.walk-is) i.goes;
            followed = λ page below is. subst (λ v. IsFollowed c.args.batch.now v page) (sym w.walk-is)
                (elim (cases_eq page c.loop-page.page) [
                  | inl e ↦ absurd (w.if-given-page.false (ap (λ n. die_of c.args.given.now n) (sym e) ∙ is))
                  | inr other ↦ i.followed page (omega (arith, below, other)) is
                ]);
          }
    ]
