use Rattle.std.proofs.Common.{◌≡◌, ◌∙◌, ◌<◌, Bool, Ok, ap, arith, false, refl, subst, sym, true, ℕ}
use borrow.Author.Count.{below_more}
use Rattle.fa_machine.specs.State.{Core}
use Rattle.fa_machine.specs.Step.{SpareIn, Step}
use Rattle.fa_shared_lock.proofs.Holds.{join_rest}
use Rattle.fa_types.specs.declared.geometry.Geometry.{Geometry}
use Rattle.fa_shared.specs.Spares.{BringsIn, BringsInOne, Brought, HasNone, IsNoSpare, Lowest, NoSpare, WantsNone, wants_spare}
use Rattle.fa_shared.proofs.spares.bring_in_spare.Goals as goal

lowest : (old mid : Core) (die : ℕ) (brought : Bool) (new : Core) → BringsInOne mid die brought new → mid ≡ old → brought ≡ true
    → wants_spare old.page_map ≡ true → ((lower : ℕ) → lower < die → IsNoSpare old lower) → BringsIn old true new
lowest old mid die brought new (Brought is step) same _ wants none =
    Lowest die refl wants none (subst (λ (c : Core). Step c (SpareIn die (Ok tt)) new) same step)
lowest old mid die brought new (NoSpare is spare same_new) same brings wants none = let other : true ≡ false = sym brings ∙ is in cc

not_brought : (old mid : Core) (die : ℕ) (brought : Bool) (new : Core) → BringsInOne mid die brought new → mid ≡ old → brought ≡ false
    → IsNoSpare old die × (new ≡ old)
not_brought old mid die brought new (Brought is step) same not_so = let other : true ≡ false = sym is ∙ not_so in cc
not_brought old mid die brought new (NoSpare is spare same_new) same _ =
    (subst (λ (c : Core). IsNoSpare c die) same spare, same_new ∙ same)

pub returns-then-not-wants_spare-clause-brings : goal.returns-then-not-wants_spare-clause-brings
returns-then-not-wants_spare-clause-brings g c =
    WantsNone refl (ap (λ (core : Core). wants_spare core.page_map) (sym c.array.ensures.state) ∙ sym c.wants_spare.ensures
    ∙ c.if-not-wants_spare.true) refl

pub returns-then-bring_in-clause-brings : goal.returns-then-bring_in-clause-brings
returns-then-bring_in-clause-brings g c =
    lowest _ _ _ _ _ c.bring_in.ensures.brings c.loop-die.invariant.same c.if-bring_in.true
    (ap (λ (core : Core). wants_spare core.page_map) (sym c.array.ensures.state) ∙ sym c.wants_spare.ensures
    ∙ c.if-not-wants_spare.false) c.loop-die.invariant.none

pub loop-die-preserved : goal.loop-die-preserved
loop-die-preserved g c =
    let old = c.args.locked.now.core in
    let both = not_brought old _ _ _ _ c.bring_in.ensures.brings c.loop-die.invariant.same c.if-bring_in.false in record {
      same = both.1;
      none = below_more (λ (die : ℕ). IsNoSpare old die) c.loop-die.die c.loop-die.invariant.none both.0;
      account = join_rest c.loop-die.invariant.account c.bring_in.ensures.account;
    }

pub returns-clause-brings : goal.returns-clause-brings
returns-clause-brings g c =
    let same : c.geometry-die-end.result.dies ≡ c.args.locked.now.core.page_map.geometry.dies =
    ap (λ (geometry : Geometry). geometry.dies) c.geometry-die-end.ensures
    ∙ ap (λ (core : Core). core.page_map.geometry.dies) c.array-2.ensures.state in let high = c.loop-die-test.false in
    HasNone refl (λ die low. c.loop-die.invariant.none die (omega (arith, low, same, high))) c.loop-die.invariant.same
