-- `into_loose` compares the pointer with null.
use Rattle.std.proofs.Common.{◌≡◌, List, [], ◌∷◌, ◌++◌, None, Some, option_map, refl, sym, ap, ◌∙◌, subst, lit<}
use mir.Val.{Val, vptr, vcons, vnil, has_ty}
use mir.Syntax.{ty_ptr}
use base.Logic.{SProp, ent, emp, id⊢}
use base.Fml.{ftrue}
use prog.Wp.{WpFn}
use types.Kit.{‵, raw, ◌⊛◌, at_ret, ◌$◌, ◌∵◌, !, qed, by, move, keep, split, fsplit, fjoin, suffices, use0, use1}
use types.Run.{stop, fld, lit, of_opd, bin, no_more, and_then, first, branches, exec, returns, enter}
use types.ByLocal.{alloc_all, pass_all, free_all, look_at, get, get_in, sets, sets_last, env}
use types.Part.{agg, sub, whole}
use types.Match.{live}
use contract.Monad.{fact, fact_i}
use contract.Running.{tables}
use denote.Exit.{yes}
use denote.RattleType.{RattleType, owns}
use denote.Signature.{types_at, type_at, plain}
use denote.RawPtr.{Ptr, block_ptr, null_ptr, ptr_val, rawptr_Lawful, tests_null}
use denote.Steps.{nothing}
use denote.Param.{layout}
use denote.Triple.Walked.{Stays, stay_dropped, walk_of, Goes-dropped}
use Rattle.core.proofs.alloc.Calls.{handle_tells}
use Rattle.core.proofs.alloc.Shapes.{after}
use Rattle.core.proofs.cell.Inside.{Good}
use Rattle.core.proofs.option.Made.{Some-of, none_of}
use Rattle.std.specs.contracts.alloc.Global as heap
use Rattle.std.proofs.alloc.Global.TheLaws as heap_laws
use Rattle.std.specs.contracts.impls.GlobalAllocator.TheImpl.{ghosts}
use Rattle.std.proofs.raw_atomic.Walks.{proved_at, leaves}
use Rattle.std_alloc.proofs.ResultValues.{and_tt}
use Rattle.spvk.specs.Buffer.{Octets}
use Rattle.spvk.proofs.Values.{both, Loose, loose_good, loose_in, al}
use Rattle.spvk.proofs.BufferValues.{buffer_out, either_kept, three}
use Rattle.spvk.specs.contracts.buffer.Buffer as buffer
use Rattle.spvk.specs.contracts.buffer.Buffer.into_loose.{ended, clauses}
use Rattle.spvk.specs.contracts.buffer.Buffer.into_loose.Key.{name as #self}
use Rattle.spvk.proofs.buffer.Buffer.into_loose.Statement.{statement}
use Rattle.spvk.proofs.buffer.Buffer.into_loose.Code as code

pub into_loose_spec : {M : Type 1} → statement M
into_loose_spec 𝓤 𝓛 𝓜 𝓡 wired =
    let H = 𝓛.H in let 𝓣 = tables 𝓤 H 𝓜 𝓡 𝓡.env in let c = clauses 𝓛 𝓜.mem 𝓡.returns in let R : RattleType = Octets in
    let Z : RattleType = heap.the_row in let LZ = heap_laws.the_row_laws in let fn = code.function in
    let Lr : RattleType = Loose R Z LZ ghosts in
    let hs : Stays ended.signature.params ended.kept =
    (stay_dropped (plain (λ _. buffer.the_row)) yes, (stay_dropped (plain (λ _. Z)) yes, tt)) in
    proved_at 𝓛 ended hs c 𝓜 𝓡 (
      Goes-dropped 𝓛 0 (plain (λ _. buffer.the_row)) yes (λ κs x f. refl),
      (Goes-dropped 𝓛 0 (plain (λ _. Z)) yes (λ κs x f. refl), tt),
    ) #self fn (code.unfolded 𝓤 H 𝓜 𝓡 wired) (λ z are.
    let κs = z.0.0 in let v = z.0.3.0 in let a = z.0.3.1.0 in let Post : Val
    → SProp 𝓤 = (walk_of 𝓛 ended hs c).post z in let Run : List Val → SProp 𝓤 = λ ws. WpFn 𝓤 H 𝓣.C 𝓣.Λ fn ws Post in
    let Out : RattleType = type_at ended.signature.result κs in
    let Run₂ : Val → Val → SProp 𝓤 = λ w h. Run (w ∷ h ∷ []) in
    let tp = ((rawptr_Lawful 𝓛).typed v.start (ptr_val v.start ∷ []) refl).0 in
    qed 𝓛 ((‵ ftrue ⊛ ‵ (owns (types_at ended.signature.params κs) z.0.3 z.0.4)) ∷ raw ((c κs z.0.3).requires z.1)
    ∷ []) ∵ split ! $ move ! (1 ∷ []) $ fsplit ! $ buffer_out ! v z.0.4.0 (λ small ws. move ! (1 ∷ []) $ fsplit ! $
    handle_tells (al R Z LZ ghosts) ! a z.0.4.1.0
    (λ h eh gh. move ! (2 ∷ []) $ either_kept ! v.start v.size v.held v.bytes
    (λ is none. let w : Val = three v.start v.size null_ptr in let o₁ : Val = live 0 vnil in
    let told : option_map (λ (l : Lr.Denot). l.value.items) None ≡ v.bytes = sym none in
    suffices ! (Run₂ w h) (subst (λ (us : List Val). ent 𝓤 (Run₂ w h) (Run us))
    (sym ((λ i. ws i ++ (eh i ++ [])) ∙ ap (λ (p : Ptr). three v.start v.size p ∷ h ∷ []) is)) (id⊢ 𝓤 (Run₂ w h))) $
    enter ! 𝓣.C 𝓣.Λ fn (w ∷ h ∷ []) Post $ alloc_all !
    (λ l. pass_all ! refl (
      (
        and_tt (has_ty ty_ptr (ptr_val v.start)) tp.0,
        (tp.1, (record { fits = small }, (record { fits = lit< tt }, tt))),
      ),
      (gh, tt),
    ) $ let Ev = env fn.locals l in
    sets ! (of_opd ! (get_in ! (fld ! refl (stop !)) (sub ! 0 refl (whole !)))) refl tp $ sets !
    (of_opd ! (get_in ! (fld ! refl (stop !)) (sub ! 1 refl (whole !)))) refl (tt, record { fits = small }) $ sets !
    (of_opd ! (get_in ! (fld ! refl (stop !)) (sub ! 2 refl (whole !)))) refl
    (tt, record { fits = lit< tt }) $ sets ! (bin ! (get ! refl) (lit ! tt) tt) refl (tt, tt) $ first ! $ branches !
    (get ! refl)
    (λ _. sets_last ! (agg ! (and_then ! (lit ! tt) (no_more !))) refl
    (tt, (record { fits = lit< tt }, tt)) $ exec ! 𝓣.C 𝓣.Λ Ev (after 5 fn.body) (at_ret Ev Post) $ sets !
    (of_opd ! (get ! refl)) refl (tt, (record { fits = lit< tt }, tt)) $
    use0 𝓛 (‵ (Out.own_val None (o₁ ∷ []))) (none_of 𝓛 Lr) $ use0 𝓛
    (raw (fact 𝓤 (option_map (λ (l : Lr.Denot). l.value.items) None ≡ v.bytes)))
    (fact_i 𝓤 _ (emp 𝓤) told) $ nothing ! $ nothing ! $ fjoin ! $ nothing ! $ fjoin ! $
    returns ! (look_at ! 0 refl) $ free_all ! refl $ keep ! (5 ∷ 0 ∷ 2 ∷ 1 ∷ []) $ by !
    (leaves 𝓛 ended hs c z o₁ None (tt, (tt, tt)) (tt, (tt, tt)))) (λ wrong. absurd wrong)))
    (λ b o G is some t. let w : Val = three v.start v.size (block_ptr b o) in let made : Val = both (vptr b o) h in
    let typed = loose_good R Z LZ ghosts b o h gh in let o₁ : Val = live 1 (vcons made vnil) in
    let d : Lr.Denot = record { at = block_ptr b o; alloc = a; value = G } in
    let told : option_map (λ (l : Lr.Denot). l.value.items) (Some d) ≡ v.bytes = sym some in
    let good : Good (layout Out) o₁ = (and_tt _ typed.0, (record { fits = lit< tt }, (typed.1, tt))) in
    suffices ! (Run₂ w h) (subst (λ (us : List Val). ent 𝓤 (Run₂ w h) (Run us))
    (sym ((λ i. ws i ++ (eh i ++ [])) ∙ ap (λ (p : Ptr). three v.start v.size p ∷ h ∷ []) is)) (id⊢ 𝓤 (Run₂ w h))) $
    enter ! 𝓣.C 𝓣.Λ fn (w ∷ h ∷ []) Post $ alloc_all !
    (λ l. pass_all ! refl (
      (
        and_tt (has_ty ty_ptr (ptr_val v.start)) tp.0,
        (tp.1, (record { fits = small }, (tt, tt))),
      ),
      (gh, tt),
    ) $ let Ev = env fn.locals l in
    sets ! (of_opd ! (get_in ! (fld ! refl (stop !)) (sub ! 0 refl (whole !)))) refl tp $ sets !
    (of_opd ! (get_in ! (fld ! refl (stop !)) (sub ! 1 refl (whole !)))) refl (tt, record { fits = small }) $ sets !
    (of_opd ! (get_in ! (fld ! refl (stop !)) (sub ! 2 refl (whole !)))) refl (tt, tt) $ sets !
    (bin ! (get ! refl) (lit ! tt) (tests_null (block_ptr b o) t)) refl (tt, tt) $ first ! $ branches ! (get ! refl)
    (λ wrong. absurd wrong) (λ _.
    sets ! (of_opd ! (get ! refl)) refl (tt, tt) $ sets !
    (agg ! (and_then ! (get ! refl) (and_then ! (get ! refl) (no_more !)))) refl typed $ sets_last !
    (agg ! (and_then ! (lit ! tt) (and_then ! (get ! refl) (no_more !)))) refl good $
    exec ! 𝓣.C 𝓣.Λ Ev (after 5 fn.body) (at_ret Ev Post) $ sets !
    (of_opd ! (get ! refl)) refl good $ loose_in R Z LZ ghosts ! b o h a G $
    use1 𝓛 (‵ (Out.own_val (Some d) (o₁ ∷ []))) (Some-of 𝓛 Lr d made) $ use0 𝓛
    (raw (fact 𝓤 (option_map (λ (l : Lr.Denot). l.value.items) (Some d) ≡ v.bytes)))
    (fact_i 𝓤 _ (emp 𝓤) told) $ nothing ! $ nothing ! $ fjoin ! $ nothing ! $ fjoin ! $
    returns ! (look_at ! 0 refl) $ free_all ! refl $ keep ! (4 ∷ 0 ∷ 2 ∷ 1 ∷ []) $ by !
    (leaves 𝓛 ended hs c z o₁ (Some d) (tt, (tt, tt)) (tt, (tt, tt)))))))))
