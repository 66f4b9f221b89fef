-- A call by the table behind a pointer compares the pointer with null, and lends what is shown of the table, and the
-- answer, to a call by the table. Assumes `Logic`.
use Rattle.std.proofs.Common.{◌≡◌, ◌^◌, ℕ, List, [], ◌∷◌, ◌++◌, length, refl, sym, ap, ◌∙◌, subst, lit<, w8, w32, w64}
use Rattle.std.proofs.Common.{MutBor}
use mir.Syntax.{Callee, Fn, Ty, named, erased, imm, mut, local, value_local, ty_int, ty_ptr, ty_bool, ty_ref, ty_struct}
use mir.Syntax.{tcons, tnil, place, deref, int, copy, ptr_eq, op2, rv_opd, addr_of, seq, assign, cond, call, return}
use mir.Val.{Val, vptr, vint}
use base.Logic.{SProp, ent, emp, sep, id⊢}
use base.Fml.{Lft, Share, ftrue, flft}
use base.Fraction.{full_share}
use prog.Model.{Model}
use prog.Wp.{Heap, WpFn, Closed}
use seplogic.Ra.Ura.{Ura}
use types.Logic.{Logic, sem}
use types.Kit.{‵, raw, ◌⊛◌, some, later, at_ret, ◌$◌, ◌∵◌, !, qed, by, move, keep, drop, split, join, fsplit, fjoin}
use types.Kit.{fpick, fpack, pick, suffices, use0, use1, use2, use3, await, rewrite, feq_i, feq_l, flt_i}
use types.Run.{stop, lit, of_opd, addr, bin, no_more, and_then, first, branches, exec, returns, enter}
use types.ByLocal.{alloc_all, pass_all, free_all, look_at, get, through, sets, sets_last, lands_last, env}
use types.Tokens.{lft_new, lft_end}
use contract.Monad.{fact, fact_i}
use contract.Running.{Running, MachineTables, tables}
use denote.Builtin.{One, RawPtr, RefMutOf, RefOf, SliceRefOf, u8, u32}
use denote.Exit.{yes}
use denote.Laws.{Is, shows}
use denote.Lend.{lends_again, comes_back, LentAgain}
use denote.Opens.{shr_dup}
use denote.Param.{layout}
use denote.Plain.{uint_Lawful}
use denote.RattleType.{RattleType, owns}
use denote.RawPtr.{Ptr, block_ptr, null_ptr, ptr_val, Testable, tests_null}
use denote.Ref.{Bor, MutRef, mut_Tells}
use denote.Signature.{types_at, plain, shr_slice_of}
use denote.Slice.{ShrSlice, slice_val, shr_slice_Tells}
use denote.Steps.{nothing, heard, peeks}
use denote.Triple.Call.{calls_at_last}
use denote.Triple.Clauses.{Clauses, Ended, Lasts, closing, lasts}
use denote.Triple.Spec.{Meets, triple_of}
use denote.Triple.Walked.{Stays, stay_dropped, stay_ref, walk_of, Goes-dropped, Goes-ref}
use Rattle.core.proofs.alloc.Calls.{handle_tells}
use Rattle.core.proofs.alloc.Shapes.{after}
use Rattle.core.proofs.atomic.Steps.{fm}
use Rattle.std.specs.contracts.alloc.Global as heap
use Rattle.std.proofs.alloc.Global.TheLaws as heap_laws
use Rattle.std.specs.contracts.impls.GlobalAllocator.TheImpl.{ghosts}
use Rattle.std.proofs.raw_atomic.Walks.{proved_at, leaves}
use Rattle.spv_table.specs.Table.{Table}
use Rattle.spv_table.specs.contracts.table.Table.{the_row as the_table}
use Rattle.spv_table.proofs.table.Table.TheLaws as table_laws
use Rattle.spvk.specs.Held.{shown}
use Rattle.spvk.proofs.Values.{al}
use Rattle.spvk.proofs.Handles.{either_shown}

-- what a call comes to: of a table, bytes, what was there, what is there then, and a status
abbrev pub Says : RattleType → Type 1
Says Told = Table → List ℕ → Told.Denot → Told.Denot → ℕ → Type 0

abbrev pub by_pointer : (Told : RattleType) → One Told.mir → Ended
by_pointer Told one = record {
  signature = record {
    lifetimes = 2;
    outlives = [];
    params = plain (λ _. heap.the_row) ∷ plain (λ _. RawPtr) ∷ SliceRefOf (0 ∷ []) tt (plain (λ _. u8)) (λ _. tt)
        ∷ RefMutOf (1 ∷ []) tt (plain (λ _. Told)) (λ _. one) ∷ [];
    result = plain (λ _. u32);
  };
  kept = (yes, (yes, (yes, (yes, tt))));
}

abbrev pub by_table : (Told : RattleType) → One Told.mir → Ended
by_table Told one = record {
  signature = record {
    lifetimes = 3;
    outlives = [];
    params = plain (λ _. heap.the_row) ∷ RefOf (0 ∷ []) tt (plain (λ _. the_table)) (λ _. tt)
        ∷ SliceRefOf (1 ∷ []) tt (plain (λ _. u8)) (λ _. tt)
        ∷ RefMutOf (2 ∷ []) tt (plain (λ _. Told)) (λ _. one) ∷ [];
    result = plain (λ _. u32);
  };
  kept = (yes, (yes, (yes, (yes, tt))));
}

-- The code of a call by the pointer, with its callee, and the names and the forms of the table and of the answer.
abbrev pub function : Ty → Ty → Ty → Ty → Callee → Fn
function τ τ′ σ σ′ n = record {
  lifetimes = 2;
  outlives = [];
  ty_params = [];
  givens = 0;
  params = 4;
  locals = local (ty_int w32) value_local ∷ local (layout heap.the_row) value_local ∷ local ty_ptr value_local
      ∷ local (ty_struct (38 ∷ 91 ∷ 93 ∷ []) (tcons (ty_ref (named 0) imm (ty_int w8)) (tcons (ty_int w64) tnil)))
      value_local
      ∷ local (ty_ref (named 1) mut σ) value_local ∷ local ty_bool value_local ∷ local (ty_int w32) value_local
      ∷ local ty_ptr value_local
      ∷ local (ty_ref erased imm τ) value_local ∷ local (ty_ref erased mut σ) value_local ∷ [];
  body = seq (assign (place 5 []) (op2 ptr_eq (copy (place 2 [])) (int w64 0))) (seq
      (cond (copy (place 5 [])) (assign (place 6 []) (rv_opd (int w32 2))) (seq
      (assign (place 7 []) (rv_opd (copy (place 2 [])))) (seq
      (assign (place 8 []) (addr_of (place 7 (deref τ′ ∷ [])))) (seq
      (assign (place 9 []) (addr_of (place 4 (deref σ′ ∷ []))))
      (call n (copy (place 1 []) ∷ copy (place 8 []) ∷ copy (place 3 []) ∷ copy (place 9 []) ∷ []) (place 6 []))))))
      (seq (assign (place 0 []) (rv_opd (copy (place 6 [])))) return));
}

module _ {M : Type 1} {𝓤 : Ura M} (𝓛 : Logic 𝓤) (Told : RattleType) (one : One Told.mir) (R : Says Told)
    (At : Ptr → Says Told) where
  abbrev pub asking : Clauses 𝓤 (by_pointer Told one)
  asking = λ κs a. record {
    ghost = Lft × Share × Table;
    requires = λ s. sem 𝓛 (shown a.1.0 s);
    ensures = λ s r e. sep 𝓤 (sem 𝓛 (shown a.1.0 s)) (fact 𝓤 (At a.1.0 s.2 a.1.1.0.now a.1.1.1.0.now e.1.1.1.0.now r));
  }

  abbrev pub answering : Clauses 𝓤 (by_table Told one)
  answering = λ κs a. record {
    ghost = Unit {0};
    requires = λ _. emp 𝓤;
    ensures = λ _ r e. fact 𝓤 (R a.1.0.now a.1.1.0.now a.1.1.1.0.now e.1.1.1.0.now r);
  }

  module _ (𝓜 : Model 𝓤 𝓛.H) (𝓡 : Running 𝓤 𝓛.H 𝓜) where
    abbrev H : Heap 𝓤
    H = 𝓛.H

    abbrev 𝓣 : MachineTables 𝓤 𝓛.H 𝓜
    𝓣 = tables 𝓤 𝓛.H 𝓜 𝓡 𝓡.env

    module _ (null : (G : Table) (bytes : List ℕ) (old : Told.Denot) → At null_ptr G bytes old old 2)
        (block : (b o : ℕ) (G : Table) (bytes : List ℕ) (old new : Told.Denot) (r : ℕ) → R G bytes old new r
        → At (block_ptr b o) G bytes old new r) where
      at_null : (p : Ptr) (G : Table) (bytes : List ℕ) (old : Told.Denot) → p ≡ null_ptr → At p G bytes old old 2
      at_null p G bytes old e = subst (λ (q : Ptr). At q G bytes old old 2) (sym e) (null G bytes old)

      at_block : (p : Ptr) (b o : ℕ) (G : Table) (bytes : List ℕ) (old new : Told.Denot) (r : ℕ) → p ≡ block_ptr b o
          → R G bytes old new r → At p G bytes old new r
      at_block p b o G bytes old new r e answers =
          subst (λ (q : Ptr). At q G bytes old new r) (sym e) (block b o G bytes old new r answers)

      pub lends_to : (τ τ′ σ σ′ : Ty) (self n : Callee) → Closed 𝓤 H 𝓣.C 𝓣.Λ self (function τ τ′ σ σ′ n)
          → Meets 𝓛 (by_table Told one).signature (𝓣.C n) (closing 𝓛 (by_table Told one) answering)
          → Meets 𝓛 (by_pointer Told one).signature (𝓣.C self) (closing 𝓛 (by_pointer Told one) asking)
      lends_to τ τ′ σ σ′ self n closed met =
          let c = asking in let Z : RattleType = heap.the_row in let LZ = heap_laws.the_row_laws in
          let fn = function τ τ′ σ σ′ n in
          let hs : Stays (by_pointer Told one).signature.params (by_pointer Told one).kept = (
            stay_dropped (plain (λ _. Z)) yes,
            (
              stay_dropped (plain (λ _. RawPtr)) yes,
              (
                stay_dropped (shr_slice_of (0 ∷ []) tt (plain (λ _. u8))) yes,
                (stay_ref (1 ∷ []) tt (plain (λ _. Told)), tt),
              ),
            ),
          ) in
          proved_at 𝓛 (by_pointer Told one) hs c 𝓜 𝓡 (
            Goes-dropped 𝓛 2 (plain (λ _. Z)) yes (λ κs x f. refl),
            (
              Goes-dropped 𝓛 2 (plain (λ _. RawPtr)) yes (λ κs x f. refl),
              (
                Goes-dropped 𝓛 2 (shr_slice_of (0 ∷ []) tt (plain (λ _. u8))) yes (λ κs x f. refl),
                (Goes-ref 𝓛 2 1 tt (plain (λ _. Told)), tt),
              ),
            ),
          ) self fn closed (λ z are.
          let κs = z.0.0 in let qs = z.0.1 in let a = z.0.3.0 in let p = z.0.3.1.0 in
          let x : Bor (List ℕ) = z.0.3.1.1.0 in let m : MutBor Told.Denot = z.0.3.1.1.1.0 in let s = z.1 in
          let κ = s.0 in let q = s.1 in let G : Table = s.2 in
          let κ₁ = κs.1.0 in let q₁ = qs.1.0 in let bm = m.ref_ptr.0 in let om = m.ref_ptr.1 in
          let Post : Val → SProp 𝓤 = (walk_of 𝓛 (by_pointer Told one) hs c).post z in let Run : List Val
          → SProp 𝓤 = λ ws. WpFn 𝓤 H 𝓣.C 𝓣.Λ fn ws Post in let Slice = (ShrSlice (named 0) κs.0 u8).own_val x in
          let Mut = (MutRef (named 1) κ₁ Told).own_val m in
          let sl : Val = slice_val x.ref_ptr (length x.now) in
          let eb = shr_slice_Tells (named 0) κs.0 u8 x z.0.4.1.1.0 are.1.1.0 in let gs = are.1.1.0.0.1.0 in
          let em = mut_Tells (named 1) κ₁ Told m z.0.4.1.1.1.0 are.1.1.1.0 in
          let toks = ‵ (flft κs.0 qs.0) ⊛ (‵ (flft κ₁ q₁) ⊛ ‵ ftrue) in
          qed 𝓛 ((toks ⊛ ‵ (owns (types_at (by_pointer Told one).signature.params κs) z.0.3 z.0.4)) ∷ ‵ (shown p s)
          ∷ []) ∵ split ! $ move ! (1 ∷ []) $ fsplit ! $
          handle_tells (al the_table Z LZ ghosts) ! a z.0.4.0
          (λ h eh gh. move ! (1 ∷ []) $ fsplit ! $ feq_l !
          (λ ep. fsplit ! $ rewrite ! 0 (λ (us : List Val). ‵ (Slice us)) eb refl $
          -- [the slice; what is left; the allocator; the tokens; what is shown]
          move ! (1 ∷ []) $ fsplit ! $ rewrite ! 0 (λ (us : List Val). ‵ (Mut us)) em refl $
          -- [the answer; nothing; the slice; the allocator; the tokens; what is shown]
          let passed : Ptr → List Val = λ p'. h ∷ ptr_val p' ∷ sl ∷ vptr bm om ∷ [] in
          move ! (5 ∷ []) $ either_shown ! p s
          (λ is.
          suffices ! (Run (passed null_ptr))
          (subst (λ (us : List Val). ent 𝓤 (Run (passed null_ptr)) (Run us))
          (sym ((λ i. eh i ++ (ep i ++ (eb i ++ (em i ++ [])))) ∙ ap passed is)) (id⊢ 𝓤 (Run (passed null_ptr)))) $
          enter ! 𝓣.C 𝓣.Λ fn (passed null_ptr) Post $ alloc_all !
          (λ l. pass_all ! refl (
            gh,
            (
              (tt, record { fits = lit< tt }),
              ((tt, (tt, (record { fits = gs }, tt))), ((tt, tt), tt)),
            ),
          ) $ let Ev = env fn.locals l in
          sets ! (bin ! (get ! refl) (lit ! tt) tt) refl (tt, tt) $ first ! $ branches ! (get ! refl) (λ _.
          sets_last ! (of_opd ! (lit ! tt)) refl (tt, record { fits = lit< tt }) $ exec ! 𝓣.C 𝓣.Λ Ev (after 2 fn.body)
          (at_ret Ev Post) $ sets ! (of_opd ! (get ! refl)) refl (tt, record { fits = lit< tt }) $
          flt_i ! 2 (2 ^ 32) (lit< tt) $ feq_i ! (List Val) (vint w32 2 ∷ []) (vint w32 2 ∷ []) refl $ fjoin ! $
          -- [the result; what is shown; the answer; nothing; the slice; the allocator; the tokens]
          move ! (1 ∷ []) $ rewrite ! 0 (λ (p' : Ptr). ‵ (shown p' s)) (sym is) refl $ use0 𝓛
          (raw (fact 𝓤 (At p G x.now m.now m.now 2))) (fact_i 𝓤 _ (emp 𝓤) (at_null p G x.now m.now is)) $ move !
          (1 ∷ 0 ∷ []) $ join ! $
          nothing ! $ move ! (3 ∷ 0 ∷ []) $ rewrite ! 0 (λ (us : List Val). ‵ (Mut us))
          (sym em) refl $ fjoin ! $ nothing ! $ fjoin ! $ nothing ! $ fjoin ! $ nothing ! $ fjoin ! $
          returns ! (look_at ! 0 refl) $ free_all ! refl $ keep ! (6 ∷ 0 ∷ 2 ∷ 1 ∷ []) $ by !
          (leaves 𝓛 (by_pointer Told one) hs c z (vint w32 2) 2 (tt, (tt, (tt, (m.now, tt))))
          (tt, (tt, (tt, (tt, tt)))))) (λ wrong. absurd wrong)))
          (λ b o is. let t : Bor Table = record { ref_ptr = (b, o); now = G } in
          let k = triple_of 𝓛 (by_table Told one).signature (closing 𝓛 (by_table Told one) answering) in
          fsplit ! $ move ! (1 ∷ []) $ fsplit ! $ move ! (1 ∷ []) $ fpick !
          (λ tests. drop ! $ shr_dup ! the_table table_laws.the_row_laws.shr_laws G b o κ $
          -- [the table twice; its token; the answer; nothing; the slice; the allocator; the tokens]
          move ! (7 ∷ []) $ split ! $ move ! (1 ∷ []) $ split ! $
          -- [the answer's token; nothing; the slice's token; the table twice; its token; the answer; nothing; the
          -- slice; the allocator]
          suffices ! (Run (passed (block_ptr b o)))
          (subst (λ (us : List Val). ent 𝓤 (Run (passed (block_ptr b o))) (Run us))
          (sym ((λ i. eh i ++ (ep i ++ (eb i ++ (em i ++ [])))) ∙ ap passed is))
          (id⊢ 𝓤 (Run (passed (block_ptr b o))))) $
          enter ! 𝓣.C 𝓣.Λ fn (passed (block_ptr b o)) Post $ alloc_all !
          (λ l. pass_all ! refl (gh, ((tt, tt), ((tt, (tt, (record { fits = gs }, tt))), ((tt, tt), tt)))) $
          let Ev = env fn.locals l in
          sets ! (bin ! (get ! refl) (lit ! tt) (tests_null (block_ptr b o) tests)) refl (tt, tt) $ first ! $ branches !
          (get ! refl) (λ wrong. absurd wrong) (λ _.
          sets ! (of_opd ! (get ! refl)) refl (tt, tt) $ sets ! (addr ! (through ! refl (stop !))) refl
          (tt, tt) $ sets ! (addr ! (through ! refl (stop !))) refl (tt, tt) $
          lft_new ! tt (λ α. move ! (7 ∷ 1 ∷ []) $
          use2 𝓛 (later (some (λ (δ : ℕ). ‵
          ((MutRef (named 2) (α ∷ []) Told).own_val (record m { ghost_name = δ }) (vptr bm om ∷ [])) ⊛ ‵
          (LentAgain Told κ₁ (α ∷ []) q₁ m.ghost_name bm om δ m.now))))
          (lends_again 𝓛 Told (named 1) κ₁ (α ∷ []) q₁ m.ghost_name bm om (named 2) m.now) $ await ! tt $ pick !
          (λ δ. split ! $
          -- [the loan; what its lender keeps; its token; nothing; the slice's token; the table twice; its token;
          -- nothing; the slice; the allocator]
          let toks₃ = ‵ (flft κ q) ⊛ (‵ (flft κs.0 qs.0) ⊛ (‵ (flft (α ∷ []) full_share) ⊛ ‵ ftrue)) in
          let y : k.Ghost = (
            (
              (κ, (κs.0, (α ∷ [], tt))),
              (q, (qs.0, (full_share, tt))),
              tt,
              (a, (t, (x, (record m { ghost_name = δ }, tt)))),
              (h ∷ [], (vptr b o ∷ [], (sl ∷ [], (vptr bm om ∷ [], tt)))),
            ),
            tt,
          ) in
          move ! (0 ∷ 3 ∷ []) $ fjoin ! $ move ! (8 ∷ 0 ∷ []) $ fjoin ! $
          move ! (4 ∷ []) $ feq_i ! (List Val) (vptr b o ∷ []) (vptr b o ∷ []) refl $ fjoin ! $ fjoin ! $ move !
          (7 ∷ 0 ∷ []) $ fjoin ! $
          -- [the arguments; what the lender keeps; the loan's token; the slice's token; the table; its token; nothing]
          move ! (2 ∷ 6 ∷ []) $ join ! $ move ! (3 ∷ 0 ∷ []) $ join ! $ move !
          (4 ∷ 0 ∷ []) $ join ! $ join ! $ nothing ! $ move ! (1 ∷ 0 ∷ []) $ use2 𝓛 (raw (k.pre y)) (id⊢ 𝓤 _) $
          calls_at_last ! (fm 𝓛 𝓜 𝓡) k met y
          (and_then ! (get ! refl) (and_then ! (get ! refl)
          (and_then ! (get ! refl) (and_then ! (get ! refl) (no_more !))))) (λ u.
          use1 𝓛 (later (some (λ (r : ℕ). (toks₃ ⊛ ‵ (u32.own_val r (u ∷ []))) ⊛ some
          (λ (ls : Lasts (by_table Told one) y.0.0 y.0.3). ‵ (lasts (by_table Told one) y.0.0 y.0.3 ls) ⊛ raw
          (fact 𝓤 (R G x.now m.now ls.1.1.1.0 r)))))) (id⊢ 𝓤 (k.post y u)) $
          await ! tt $ pick ! (λ r. split ! $ move ! (1 ∷ []) $ pick !
          (λ ls. split ! $ move ! (1 ∷ []) $ heard ! (R G x.now m.now ls.1.1.1.0 r)
          (λ told. move ! (1 ∷ []) $ split ! $ move ! (1 ∷ []) $
          -- [the result; the tokens; what was left of the arguments; what the lender keeps; the table]
          peeks ! u32 (Is u32) (shows 𝓛 u32) r (u ∷ []) (λ ok. let good = ((uint_Lawful 𝓛 w32).typed r (u ∷ []) ok).0 in
          lands_last ! refl good $ exec ! 𝓣.C 𝓣.Λ Ev (after 2 fn.body) (at_ret Ev Post) $ sets !
          (of_opd ! (get ! refl)) refl good $
          let w : Told.Denot = ls.1.1.1.0 in
          move ! (1 ∷ []) $ split ! $ move ! (1 ∷ []) $ split ! $ move ! (1 ∷ []) $ split ! $ lft_end ! tt $
          -- [the loan is over; nothing; the slice's token; the table's token; the result; what was left of the
          -- arguments; what the lender keeps; the table]
          move ! (5 ∷ []) $ fsplit ! $ drop ! $ fsplit ! $ drop ! $ fsplit ! $ drop ! $ fsplit ! $ fsplit ! $
          -- [the loan's last value; its borrow; nothing; the loan is over; nothing; the slice's token; the table's
          -- token; the result; what the lender keeps; the table]
          move ! (3 ∷ 8 ∷ 0 ∷ []) $ use3 𝓛
          (later (‵ ((MutRef (named 1) κ₁ Told).own_val (record m { now = w }) (vptr bm om ∷ [])) ⊛ ‵ (flft κ₁ q₁)))
          (comes_back 𝓛 Told (named 1) κ₁ (α ∷ []) q₁ m.ghost_name bm om δ m.now w) $ await ! tt $ split ! $
          -- [the answer; its token; a borrow; nothing; nothing; the slice's token; the table's token; the result; the
          -- table]
          nothing ! $ fpack ! (Testable (block_ptr b o)) (λ _. ftrue) tests $ move ! (9 ∷ 0 ∷ []) $ fjoin ! $ move !
          (7 ∷ 0 ∷ []) $ fjoin ! $ rewrite ! 0 (λ (p' : Ptr). ‵ (shown p' s)) (sym is) refl $
          use0 𝓛 (raw (fact 𝓤 (At p G x.now m.now w r)))
          (fact_i 𝓤 _ (emp 𝓤) (at_block p b o G x.now m.now w r is told)) $ move ! (1 ∷ 0 ∷ []) $ join ! $
          -- [what the clause says; the answer; its token; a borrow; nothing; nothing; the slice's token; the result]
          nothing ! $ move ! (2 ∷ 0 ∷ []) $ rewrite ! 0
          (λ (us : List Val). ‵ ((MutRef (named 1) κ₁ Told).own_val (record m { now = w }) us))
          (sym em) refl $ fjoin ! $ nothing ! $ fjoin ! $ nothing ! $ fjoin ! $ nothing ! $ fjoin ! $
          move ! (2 ∷ 5 ∷ []) $ join ! $ move ! (5 ∷ 0 ∷ []) $ join ! $
          returns ! (look_at ! 0 refl) $ free_all ! refl $ keep ! (0 ∷ 1 ∷ 5 ∷ 2 ∷ []) $ by !
          (leaves 𝓛 (by_pointer Told one) hs c z u r (tt, (tt, (tt, (w, tt))))
          (tt, (tt, (tt, (tt, tt)))))))))))))))))))
