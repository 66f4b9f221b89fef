-- `keep` keeps the pointers, and forgets the allocator's handle, which has no bytes.
use Rattle.std.proofs.Common.{◌≡◌, ℕ, List, [], ◌∷◌, ◌++◌, Some, refl, sym, subst, w64}
use mir.Val.{Val, vptr, vint, has_ty}
use mir.Syntax.{ty_ptr}
use base.Logic.{SProp, ent, emp, id⊢}
use base.Fml.{ftrue, fex, fsep}
use prog.Wp.{WpFn}
use types.Kit.{‵, raw, ◌⊛◌, ◌$◌, ◌∵◌, !, qed, by, move, keep, split, fsplit, fjoin, fpack, feq_l, flt_l, suffices, use0}
use types.Run.{stop, fld, of_opd, no_more, and_then, returns, enter}
use types.ByLocal.{alloc_all, pass_all, free_all, look_at, get, get_in, sets}
use types.Part.{agg, sub, whole}
use contract.Monad.{fact, fact_i}
use contract.Running.{tables}
use denote.Exit.{yes}
use denote.RattleType.{RattleType, owns}
use denote.Signature.{types_at, plain}
use denote.RawPtr.{Ptr, RawPtr, block_ptr, ptr_val, rawptr_Lawful}
use denote.Steps.{nothing, heard}
use denote.Triple.Walked.{Stays, stay_dropped, walk_of, Goes-dropped}
use Rattle.std.specs.contracts.alloc.Global as heap
use Rattle.std.proofs.alloc.Global.TheLaws as heap_laws
use Rattle.std.specs.contracts.impls.GlobalAllocator.TheImpl.{ghosts}
use Rattle.std.specs.Box.Ownership.{box_owns}
use Rattle.std_alloc.proofs.ResultValues.{and_tt}
use Rattle.spvk.specs.Held.{heap as the_heap}
use denote.Builtin.{usize}
use Rattle.std.proofs.raw_atomic.Walks.{proved_at, leaves}
use Rattle.spvk.proofs.Values.{both, Loose, loose_good, loose_out}
use Rattle.spvk.proofs.BufferValues.{buffer_in, three}
use Rattle.spvk.specs.Buffer.{LieAt, Octets}
use Rattle.spvk.specs.contracts.buffer.Buffer.keep.{ended, clauses}
use Rattle.spvk.specs.contracts.buffer.Buffer.keep.Key.{name as #self}
use Rattle.spvk.proofs.buffer.Buffer.keep.Statement.{statement}
use Rattle.spvk.proofs.buffer.Buffer.keep.Code as code

pub keep_spec : {M : Type 1} → statement M
keep_spec 𝓤 𝓛 𝓜 𝓡 wired =
    let H = 𝓛.H in let 𝓣 = tables 𝓤 H 𝓜 𝓡 𝓡.env in let c = clauses 𝓛 𝓜.mem 𝓡.returns in let R : RattleType = Octets in
    let Z : RattleType = heap.the_row in let LZ = heap_laws.the_row_laws in
    let Lr : RattleType = Loose R Z LZ ghosts in
    let hs : Stays ended.signature.params ended.kept = (
      stay_dropped (plain (λ _. RawPtr)) yes,
      (stay_dropped (plain (λ _. usize)) yes, (stay_dropped (plain (λ _. Lr)) yes, tt)),
    ) in
    proved_at 𝓛 ended hs c 𝓜 𝓡 (
      Goes-dropped 𝓛 0 (plain (λ _. RawPtr)) yes (λ κs x f. refl),
      (
        Goes-dropped 𝓛 0 (plain (λ _. usize)) yes (λ κs x f. refl),
        (Goes-dropped 𝓛 0 (plain (λ _. Lr)) yes (λ κs x f. refl), tt),
      ),
    ) #self code.function
    (code.unfolded 𝓤 H 𝓜 𝓡 wired) (λ z are.
    let κs = z.0.0 in let p : Ptr = z.0.3.0 in let n : ℕ = z.0.3.1.0 in let v = z.0.3.1.1.0 in let Post : Val
    → SProp 𝓤 = (walk_of 𝓛 ended hs c).post z in let Run : List Val
    → SProp 𝓤 = λ ws. WpFn 𝓤 H 𝓣.C 𝓣.Λ code.function ws Post in
    qed 𝓛 ((‵ ftrue ⊛ ‵ (owns (types_at ended.signature.params κs) z.0.3 z.0.4))
    ∷ raw (fact 𝓤 (LieAt p n v.value.items v.value)) ∷ []) ∵ move ! (1 ∷ []) $ heard !
    (LieAt p n v.value.items v.value) (λ lies.
    split ! $ move ! (1 ∷ []) $ fsplit ! $ feq_l !
    (λ ep. fsplit ! $ fsplit ! $ feq_l !
    (λ en. flt_l ! (λ small. fsplit ! $ loose_out R Z LZ ghosts ! v z.0.4.1.1.0 (λ b o h e ws fits.
    let w : Val = both (vptr b o) h in let passed : List Val = ptr_val p ∷ vint w64 n ∷ w ∷ [] in
    let typed = ((rawptr_Lawful 𝓛).typed p (ptr_val p ∷ []) refl).0 in
    suffices ! (Run passed) (subst (λ (us : List Val). ent 𝓤 (Run passed) (Run us))
    (sym (λ i. ep i ++ (en i ++ (ws i ++ [])))) (id⊢ 𝓤 (Run passed))) $
    enter ! 𝓣.C 𝓣.Λ code.function passed Post $ alloc_all !
    (λ l. pass_all ! refl (typed, ((tt, record { fits = small }), (loose_good R Z LZ ghosts b o h fits, tt))) $
    sets ! (of_opd ! (get_in ! (fld ! refl (stop !)) (sub ! 0 refl (whole !)))) refl (tt, tt) $ sets !
    (of_opd ! (get_in ! (fld ! refl (stop !)) (sub ! 1 refl (whole !)))) refl fits $
    sets ! (of_opd ! (get ! refl)) refl (tt, tt) $ sets !
    (agg ! (and_then ! (get ! refl) (and_then ! (get ! refl) (and_then ! (get ! refl) (no_more !))))) refl
    (and_tt (has_ty ty_ptr (ptr_val p)) typed.0, (typed.1, (record { fits = small }, (tt, tt)))) $
    nothing ! $ fpack ! (LieAt p n v.value.items v.value) (λ _. ftrue) lies $ move ! (1 ∷ 0 ∷ []) $ fjoin ! $
    fpack ! Octets.Denot (λ (u : Octets.Denot). fsep (box_owns (ghosts.dealloc_token the_heap) Octets (block_ptr b o) u)
    (fex (LieAt p n v.value.items u) (λ _. ftrue))) v.value $
    buffer_in ! p n (block_ptr b o) (Some v.value.items) small $
    -- [the buffer; the allocator; nothing; nothing]
    use0 𝓛 (raw (fact 𝓤 (Some v.value.items ≡ Some v.value.items)))
    (fact_i 𝓤 (Some v.value.items ≡ Some v.value.items)
    (emp 𝓤) refl) $ nothing ! $ nothing ! $ fjoin ! $ nothing ! $ fjoin ! $ nothing ! $ fjoin ! $
    returns ! (look_at ! 0 refl) $ free_all ! refl $ keep ! (5 ∷ 0 ∷ 2 ∷ 1 ∷ []) $ by !
    (leaves 𝓛 ended hs c z (three p n (block_ptr b o))
    (record { start = p; size = n; held = block_ptr b o; bytes = Some v.value.items }) (tt, (tt, (tt, tt)))
    (tt, (tt, (tt, tt)))))))))))
