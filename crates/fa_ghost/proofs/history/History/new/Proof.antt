-- `new` makes a value of no bytes, which shows what its caller picks.
use mathlib.Core.Path.{refl}
use mathlib.Core.List.{[], ◌∷◌}
use seplogic.Ra.Ura.{Ura}
use mir.Syntax.{Fn, a_type}
use mir.Val.{Val, vstruct, vcons, vnil}
use mir.MapTy.{inst_fn}
use base.Logic.{SProp, ent}
use base.Fml.{Fml}
use prog.Memory.{Memory}
use prog.Routine.{Routine}
use prog.Wp.{Calls, Loops, WpFn, Tables}
use types.Logic.{Logic}
use contract.Monad.{Fun}
use contract.Running.{tables, tables_of}
use sound.WpLaws.{WpFn-mono}
use types.Kit.{‵, raw, ◌⊛◌, ◌$◌, ◌∵◌, !, qed, move, keep, split, use0, suffices, done}
use types.Run.{no_more, and_then, returns, enter}
use types.Part.{agg}
use types.ByLocal.{alloc_all, pass_all, free_all, look_at, get, sets}
use denote.RattleType.{RattleType, owns}
use denote.Param.{layouts}
use denote.Shadow.{makes_shadow}
use denote.Signature.{types_at, type_at}
use denote.Steps.{nothing}
use denote.Triple.Clauses.{Clauses, closing}
use denote.Triple.Entry.{alive}
use denote.Triple.Spec.{Meets, triple_of}
use denote.Triple.Table.{entered}
use denote.Triple.Walked.{says, Stays, walk_of, ends_at, walk_Meets}
use Rattle.fa_ghost.specs.contracts.history.History.new.{ended, clauses}
use Rattle.fa_ghost.specs.contracts.history.History.new.Key.{name as #self}
use Rattle.fa_ghost.proofs.history.History.new.Statement as stated
use Rattle.fa_ghost.proofs.history.History.new.Code as code

module _ (Y : RattleType) where
  abbrev function : Fn
  function = inst_fn (layouts (a_type ∷ []) (Y, tt)) code.function

  abbrev stayed : Stays (ended Y).signature.params (ended Y).kept
  stayed = tt

  module _ {M : Type 1} {𝓤 : Ura M} (𝓛 : Logic 𝓤) (at_mem : Memory → SProp 𝓤) (run : Routine → Fun 𝓤) where
    open 𝓛 use {H}

    abbrev held : Clauses 𝓤 (ended Y)
    held = clauses Y 𝓛 at_mem run

    module _ (C : Calls 𝓤 H) (Λ : Loops 𝓤 H) (z : (walk_of 𝓛 (ended Y) stayed held).Ghost) where
      abbrev Post : Val → SProp 𝓤
      Post = (walk_of 𝓛 (ended Y) stayed held).post z

      abbrev toks : SProp 𝓤
      toks = alive 𝓛 (ended Y).signature z.0.0 z.0.1

      walks : ent 𝓤 ((walk_of 𝓛 (ended Y) stayed held).pre z) (WpFn 𝓤 H C Λ function ((walk_of 𝓛 (ended Y) stayed held).args z) Post)
      walks =
          let v : Val = vstruct (vcons (vstruct vnil) vnil) in
          let r : denote.Triple.Entry.Res (ended Y).signature z.0.0 = record { marker = record {}; shown = z.1 } in
          let O : Fml = (type_at (ended Y).signature.result z.0.0).own_val r (v ∷ []) in
          qed 𝓛 ((raw toks ⊛ ‵ (owns (types_at (ended Y).signature.params z.0.0) z.0.3 z.0.4)) ∷ raw ((held z.0.0 z.0.3).requires z.1) ∷ []) ∵
          keep ! (0 ∷ []) $ split ! $ keep ! (0 ∷ []) $
          enter ! C Λ function [] Post $ alloc_all ! (λ l. pass_all ! refl tt $
          sets ! (agg ! (no_more !)) refl (tt, tt) $
          sets ! (agg ! (and_then ! (get ! refl) (no_more !))) refl (tt, (tt, tt)) $
          returns ! (look_at ! 0 refl) $ free_all ! refl $
          use0 𝓛 (‵ O) (makes_shadow 𝓛 O ((λ vss. (tt, ((λ uss. (tt, tt)), tt))), tt) (((vstruct vnil ∷ [], tt), (refl, ((tt, (refl, tt)), tt))), tt)) $
          suffices ! _ (ends_at 𝓛 (ended Y) stayed held z v r tt tt) $ says ! refl $
          nothing ! $ move ! (2 ∷ 0 ∷ 1 ∷ []) $ done !)

    meets : (𝓣 : Tables 𝓤 H) → Meets 𝓛 (ended Y).signature (WpFn 𝓤 H 𝓣.C 𝓣.Λ function) (closing 𝓛 (ended Y) held)
    meets 𝓣 =
        walk_Meets 𝓛 (ended Y) stayed tt held
        (WpFn 𝓤 H 𝓣.C 𝓣.Λ function) (WpFn-mono 𝓤 H 𝓛.laws 𝓣 function) (walks 𝓣.C 𝓣.Λ)

pub new_spec : {M : Type 1} → stated.statement M
unfolding tables_of
new_spec 𝓤 𝓛 𝓜 𝓡 wired Y laws =
    let 𝓣 : Tables 𝓤 𝓛.H = tables_of 𝓤 𝓛.H 𝓜 (tables 𝓤 𝓛.H 𝓜 𝓡 𝓡.env) in
    entered 𝓤 𝓛.H (triple_of 𝓛 (ended Y).signature (closing 𝓛 (ended Y) (clauses Y 𝓛 𝓜.mem 𝓡.returns))) 𝓣.C 𝓣.Λ (#self (layouts (a_type ∷ []) (Y, tt))) (function Y) (code.unfolded 𝓤 𝓛.H 𝓜 𝓡 wired (Y, tt))
    (meets Y 𝓛 𝓜.mem 𝓡.returns 𝓣)
