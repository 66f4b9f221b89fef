-- `spvk_raw_check_with` compares the pointer with null, and lends what is shown of the table to `answer_with_by`.
use Rattle.std.proofs.Common.{◌≡◌, ◌^◌, ℕ, List, [], ◌∷◌, ◌++◌, length, refl, sym, ap, ◌∙◌, subst, lit<, w32}
use mir.Syntax.{named}
use mir.Val.{Val, vptr, vint}
use base.Logic.{SProp, ent, emp, id⊢}
use base.Fml.{ftrue, flft}
use prog.Wp.{WpFn}
use types.Kit.{‵, raw, ◌⊛◌, some, later, at_ret, ◌$◌, ◌∵◌, !, qed, by, move, keep, drop, split, join, fsplit, fjoin}
use types.Kit.{fpick, fpack, pick, suffices, use0, use1, use2, await, rewrite, feq_i, feq_l, flt_i, flt_l}
use types.Run.{stop, lit, of_opd, addr, bin, no_more, and_then, first, branches, exec, returns, enter}
use types.ByLocal.{alloc_all, pass_all, free_all, look_at, get, through, sets, lands_last, env}
use contract.Monad.{fact, fact_i}
use contract.Running.{tables}
use denote.Builtin.{RawPtr, u8, u32}
use denote.Exit.{yes}
use denote.Laws.{Is, shows}
use denote.Opens.{shr_dup}
use denote.RattleType.{RattleType, owns}
use denote.RawPtr.{Ptr, block_ptr, null_ptr, ptr_val, Testable, tests_null}
use denote.Ref.{Bor}
use denote.Signature.{types_at, plain, shr_slice_of}
use denote.Slice.{ShrSlice, slice_val, shr_slice_Tells}
use denote.Steps.{nothing, heard, peeks}
use denote.Triple.Call.{calls_at_last}
use denote.Triple.Clauses.{Lasts, lasts}
use denote.Triple.Spec.{triple_of}
use denote.Triple.Walked.{Stays, stay_dropped, walk_of, Goes-dropped}
use Rattle.core.proofs.alloc.Calls.{handle_tells}
use Rattle.core.proofs.alloc.Shapes.{after}
use Rattle.core.proofs.atomic.Steps.{fm}
use Rattle.std.specs.contracts.alloc.Global as heap
use Rattle.std.proofs.alloc.Global.TheLaws as heap_laws
use Rattle.std.specs.contracts.impls.GlobalAllocator.TheImpl.{ghosts}
use Rattle.std.proofs.raw_atomic.Walks.{proved_at, leaves}
use Rattle.spv_table.specs.Table.{Table}
use Rattle.spv_table.specs.contracts.table.Table.{the_row as the_table}
use Rattle.spv_table.proofs.table.Table.TheLaws as table_laws
use Rattle.spvk.specs.Answer.{AnswersAsked, AnswersWith, status_alone}
use Rattle.spvk.specs.Flags.{asked_by}
use Rattle.spvk.specs.Held.{shown}
use Rattle.spvk.proofs.Values.{al}
use Rattle.spvk.proofs.Handles.{either_shown}
use Rattle.spvk.specs.contracts.numbers.Answer.{the_row as Out}
use Rattle.spvk.proofs.numbers.Answer.TheLaws as out_laws
use Rattle.spvk.specs.contracts.checking.answer_with_by as by_table
use Rattle.spvk.proofs.checking.answer_with_by.Met as by_table_thm
use Rattle.spvk.specs.contracts.checking.no_grammar as without
use Rattle.spvk.proofs.checking.no_grammar.Met as without_thm
use Rattle.spvk.specs.contracts.checking.spvk_raw_check_with.{ended, clauses}
use Rattle.spvk.specs.contracts.checking.spvk_raw_check_with.Key.{name as #self}
use Rattle.spvk.proofs.checking.spvk_raw_check_with.Statement.{statement}
use Rattle.spvk.proofs.checking.spvk_raw_check_with.Code as code

at_null : (p : Ptr) (G : Table) (f : ℕ) (bytes : List ℕ) (r : Out.Denot) → p ≡ null_ptr → r ≡ status_alone 2
    → AnswersWith p G f bytes r
at_null p G f bytes r e alone = subst (λ (q : Ptr). AnswersWith q G f bytes r) (sym e) alone

at_block : (p : Ptr) (b o : ℕ) (G : Table) (f : ℕ) (bytes : List ℕ) (r : Out.Denot) → p ≡ block_ptr b o
    → AnswersAsked (asked_by f) G bytes r → AnswersWith p G f bytes r
at_block p b o G f bytes r e answers = subst (λ (q : Ptr). AnswersWith q G f bytes r) (sym e) answers

pub spvk_raw_check_with_spec : {M : Type 1} → statement M
spvk_raw_check_with_spec 𝓤 𝓛 𝓜 𝓡 wired =
    let H = 𝓛.H in let 𝓣 = tables 𝓤 H 𝓜 𝓡 𝓡.env in let c = clauses 𝓛 𝓜.mem 𝓡.returns in
    let Z : RattleType = heap.the_row in let LZ = heap_laws.the_row_laws in let fn = code.function in
    let hs : Stays ended.signature.params ended.kept = (
      stay_dropped (plain (λ _. Z)) yes,
      (
        stay_dropped (plain (λ _. RawPtr)) yes,
        (stay_dropped (shr_slice_of (0 ∷ []) tt (plain (λ _. u8))) yes, (stay_dropped (plain (λ _. u32)) yes, tt)),
      ),
    ) in
    proved_at 𝓛 ended hs c 𝓜 𝓡 (
      Goes-dropped 𝓛 1 (plain (λ _. Z)) yes (λ κs x f. refl),
      (
        Goes-dropped 𝓛 1 (plain (λ _. RawPtr)) yes (λ κs x f. refl),
        (
          Goes-dropped 𝓛 1 (shr_slice_of (0 ∷ []) tt (plain (λ _. u8))) yes (λ κs x f. refl),
          (Goes-dropped 𝓛 1 (plain (λ _. u32)) yes (λ κs x f. refl), tt),
        ),
      ),
    ) #self fn (code.unfolded 𝓤 H 𝓜 𝓡 wired)
    (λ z are.
    let κs = z.0.0 in let qs = z.0.1 in let a = z.0.3.0 in let p = z.0.3.1.0 in let x : Bor (List ℕ) = z.0.3.1.1.0 in
    let f : ℕ = z.0.3.1.1.1.0 in let s = z.1 in let κ = s.0 in let q = s.1 in let G : Table = s.2 in
    let Post : Val → SProp 𝓤 = (walk_of 𝓛 ended hs c).post z in let Run : List Val
    → SProp 𝓤 = λ ws. WpFn 𝓤 H 𝓣.C 𝓣.Λ fn ws Post in let Slice = (ShrSlice (named 0) κs.0 u8).own_val x in
    let sl : Val = slice_val x.ref_ptr (length x.now) in
    let eb = shr_slice_Tells (named 0) κs.0 u8 x z.0.4.1.1.0 are.1.1.0 in let gs = are.1.1.0.0.1.0 in
    let toks = ‵ (flft κs.0 qs.0) ⊛ ‵ ftrue in let toks₂ = ‵ (flft κ q) ⊛ (‵ (flft κs.0 qs.0) ⊛ ‵ ftrue) in
    qed 𝓛 ((toks ⊛ ‵ (owns (types_at ended.signature.params κs) z.0.3 z.0.4)) ∷ ‵ (shown p s) ∷ []) ∵ split ! $ move !
    (1 ∷ []) $ fsplit ! $
    handle_tells (al the_table Z LZ ghosts) ! a z.0.4.0
    (λ h eh gh. move ! (1 ∷ []) $ fsplit ! $ feq_l !
    (λ ep. fsplit ! $ rewrite ! 0 (λ (us : List Val). ‵ (Slice us)) eb refl $ move !
    (1 ∷ []) $ fsplit ! $ fsplit ! $ feq_l ! (λ en. flt_l ! (λ small.
    -- [nothing; the slice; the allocator; the token; what is shown]
    move ! (1 ∷ 0 ∷ []) $
    let passed : Ptr → List Val = λ p'. h ∷ ptr_val p' ∷ sl ∷ vint w32 f ∷ [] in
    move ! (4 ∷ []) $ either_shown ! p s
    (λ is. let k = triple_of 𝓛 without.signature (without.spec 𝓛 𝓜.mem 𝓡.returns) in
    let y : k.Ghost = ((tt, tt, tt, tt, tt), tt) in
    suffices ! (Run (passed null_ptr)) (subst (λ (us : List Val). ent 𝓤 (Run (passed null_ptr)) (Run us))
    (sym ((λ i. eh i ++ (ep i ++ (eb i ++ (en i ++ [])))) ∙ ap passed is)) (id⊢ 𝓤 (Run (passed null_ptr)))) $
    enter ! 𝓣.C 𝓣.Λ fn (passed null_ptr) Post $ alloc_all !
    (λ l. pass_all ! refl (
      gh,
      (
        (tt, record { fits = lit< tt }),
        ((tt, (tt, (record { fits = gs }, tt))), ((tt, record { fits = small }), tt)),
      ),
    ) $ let Ev = env fn.locals l in
    sets ! (bin ! (get ! refl) (lit ! tt) tt) refl (tt, tt) $ first ! $ branches ! (get ! refl) (λ _.
    nothing ! $ nothing ! $ join ! $ nothing ! $ move ! (1 ∷ 0 ∷ []) $ use2 𝓛 (raw (k.pre y)) (id⊢ 𝓤 _) $
    calls_at_last ! (fm 𝓛 𝓜 𝓡) k (without_thm.met 𝓤 𝓛 𝓜 𝓡 (code.calls-spvk::checking::no_grammar 𝓡.env wired)) y
    (no_more !) (λ u.
    use1 𝓛 (later (some (λ (r : Out.Denot). (‵ ftrue ⊛ ‵ (Out.own_val r (u ∷ []))) ⊛ some
    (λ (ls : Lasts without.ended y.0.0 y.0.3). ‵ (lasts without.ended y.0.0 y.0.3 ls) ⊛ raw
    (fact 𝓤 (r ≡ status_alone 2)))))) (id⊢ 𝓤 (k.post y u)) $
    await ! tt $ pick ! (λ r. split ! $ move ! (1 ∷ []) $ pick !
    (λ _. split ! $ drop ! $ heard ! (r ≡ status_alone 2)
    (λ told. split ! $ drop ! $ peeks ! Out (Is Out) (shows 𝓛 Out) r (u ∷ [])
    (λ ok. let good = ((out_laws.the_row_laws.lawful 𝓛).typed r (u ∷ []) ok).0 in
    lands_last ! refl good $ exec ! 𝓣.C 𝓣.Λ Ev (after 2 fn.body) (at_ret Ev Post) $ sets !
    (of_opd ! (get ! refl)) refl good $
    -- [the result; what is shown; the slice; nothing; the allocator; the token]
    move ! (1 ∷ []) $ rewrite ! 0 (λ (p' : Ptr). ‵ (shown p' s)) (sym is) refl $ use0 𝓛
    (raw (fact 𝓤 (AnswersWith p G f x.now r))) (fact_i 𝓤 _ (emp 𝓤) (at_null p G f x.now r is told)) $ move !
    (1 ∷ 0 ∷ []) $ join ! $
    nothing ! $ nothing ! $ fjoin ! $ nothing ! $ fjoin ! $ nothing ! $ fjoin ! $ nothing ! $ fjoin ! $
    returns ! (look_at ! 0 refl) $ free_all ! refl $ keep ! (6 ∷ 0 ∷ 2 ∷ 1 ∷ []) $ by !
    (leaves 𝓛 ended hs c z u r (tt, (tt, (tt, (tt, tt)))) (tt, (tt, (tt, (tt, tt)))))))))))
    (λ wrong. absurd wrong)))
    (λ b o is. let t : Bor Table = record { ref_ptr = (b, o); now = G } in
    let k = triple_of 𝓛 by_table.signature (by_table.spec 𝓛 𝓜.mem 𝓡.returns) in
    let y : k.Ghost = (
      (
        (κ, (κs.0, tt)),
        (q, (qs.0, tt)),
        tt,
        (a, (t, (x, (f, tt)))),
        (h ∷ [], (vptr b o ∷ [], (sl ∷ [], (vint w32 f ∷ [], tt)))),
      ),
      tt,
    ) in
    fsplit ! $ move ! (1 ∷ []) $ fsplit ! $ move ! (1 ∷ []) $ fpick !
    (λ tests. drop ! $ shr_dup ! the_table table_laws.the_row_laws.shr_laws G b o κ $ move ! (6 ∷ []) $ split ! $
    suffices ! (Run (passed (block_ptr b o)))
    (subst (λ (us : List Val). ent 𝓤 (Run (passed (block_ptr b o))) (Run us))
    (sym ((λ i. eh i ++ (ep i ++ (eb i ++ (en i ++ [])))) ∙ ap passed is)) (id⊢ 𝓤 (Run (passed (block_ptr b o))))) $
    enter ! 𝓣.C 𝓣.Λ fn (passed (block_ptr b o)) Post $ alloc_all !
    (λ l. pass_all ! refl (
      gh,
      (
        (tt, tt),
        ((tt, (tt, (record { fits = gs }, tt))), ((tt, record { fits = small }), tt)),
      ),
    ) $ let Ev = env fn.locals l in
    sets ! (bin ! (get ! refl) (lit ! tt) (tests_null (block_ptr b o) tests)) refl (tt, tt) $ first ! $ branches !
    (get ! refl) (λ wrong. absurd wrong) (λ _.
    sets ! (of_opd ! (get ! refl)) refl (tt, tt) $ sets ! (addr ! (through ! refl (stop !))) refl (tt, tt) $
    -- [the slice's token; nothing; the table twice; the table's token; the slice; nothing; the allocator]
    move ! (6 ∷ []) $ flt_i ! f (2 ^ 32) small $ feq_i ! (List Val) (vint w32 f ∷ [])
    (vint w32 f ∷ []) refl $ fjoin ! $ fjoin ! $ move ! (6 ∷ 0 ∷ []) $ fjoin ! $ move ! (3 ∷ []) $ feq_i !
    (List Val) (vptr b o ∷ []) (vptr b o ∷ []) refl $ fjoin ! $ fjoin ! $ move ! (5 ∷ 0 ∷ []) $ fjoin ! $
    move ! (1 ∷ 2 ∷ []) $ join ! $ move ! (3 ∷ 0 ∷ []) $ join ! $ join ! $ nothing ! $ move ! (1 ∷ 0 ∷ []) $ use2 𝓛
    (raw (k.pre y)) (id⊢ 𝓤 _) $
    calls_at_last ! (fm 𝓛 𝓜 𝓡) k (by_table_thm.met 𝓤 𝓛 𝓜 𝓡 (code.calls-spvk::checking::answer_with_by 𝓡.env wired)) y
    (and_then ! (get ! refl) (and_then ! (get ! refl)
    (and_then ! (get ! refl) (and_then ! (get ! refl) (no_more !))))) (λ u.
    use1 𝓛 (later (some (λ (r : Out.Denot). (toks₂ ⊛ ‵ (Out.own_val r (u ∷ []))) ⊛ some
    (λ (ls : Lasts by_table.ended y.0.0 y.0.3). ‵ (lasts by_table.ended y.0.0 y.0.3 ls) ⊛ raw
    (fact 𝓤 (AnswersAsked (asked_by f) G x.now r)))))) (id⊢ 𝓤 (k.post y u)) $
    await ! tt $ pick ! (λ r. split ! $ move ! (1 ∷ []) $ pick !
    (λ _. split ! $ drop ! $ heard ! (AnswersAsked (asked_by f) G x.now r)
    (λ told. split ! $ move ! (1 ∷ []) $ peeks ! Out (Is Out) (shows 𝓛 Out) r (u ∷ [])
    (λ ok. let good = ((out_laws.the_row_laws.lawful 𝓛).typed r (u ∷ []) ok).0 in
    lands_last ! refl good $ exec ! 𝓣.C 𝓣.Λ Ev (after 2 fn.body) (at_ret Ev Post) $ sets !
    (of_opd ! (get ! refl)) refl good $
    -- [the result; the tokens; the table]
    move ! (1 ∷ []) $ split ! $ nothing ! $ fpack ! (Testable (block_ptr b o)) (λ _. ftrue) tests $ move !
    (4 ∷ 0 ∷ []) $ fjoin ! $ move ! (1 ∷ 0 ∷ []) $ fjoin ! $ rewrite ! 0 (λ (p' : Ptr). ‵ (shown p' s))
    (sym is) refl $
    use0 𝓛 (raw (fact 𝓤 (AnswersWith p G f x.now r))) (fact_i 𝓤 _ (emp 𝓤) (at_block p b o G f x.now r is told)) $ move ! (1 ∷ 0 ∷ []) $ join ! $ nothing ! $ nothing ! $ fjoin ! $ nothing ! $ fjoin ! $ nothing ! $ fjoin ! $ nothing ! $ fjoin ! $
    returns ! (look_at ! 0 refl) $ free_all ! refl $ keep ! (2 ∷ 0 ∷ 3 ∷ 1 ∷ []) $ by !
    (leaves 𝓛 ended hs c z u r (tt, (tt, (tt, (tt, tt)))) (tt, (tt, (tt, (tt, tt)))))))))))))))))))
