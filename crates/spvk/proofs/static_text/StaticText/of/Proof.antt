-- `of` keeps the pointer of the slice, and what a reference for ever to its octets holds.
use Rattle.std.proofs.Common.{◌≡◌, ℕ, List, [], ◌∷◌, ◌++◌, length, Some, refl, sym, subst}
use mir.Syntax.{static}
use mir.Val.{Val}
use base.Logic.{SProp, ent, emp, id⊢}
use base.Fml.{ftrue}
use prog.Wp.{WpFn}
use types.Kit.{‵, raw, ◌⊛◌, ◌$◌, ◌∵◌, !, qed, by, move, keep, drop, split, fsplit, fjoin, suffices, use0}
use types.Run.{stop, fld, hop, from, addr, no_more, and_then, returns, enter}
use types.ByLocal.{alloc_all, pass_all, free_all, look_at, look_in_at, get, sets}
use types.Part.{agg, sub, whole}
use contract.Monad.{fact, fact_i}
use contract.Running.{tables}
use denote.Builtin.{u8}
use denote.Exit.{yes}
use denote.RattleType.{owns}
use denote.RawPtr.{block_ptr}
use denote.Ref.{Bor}
use denote.Signature.{types_at, plain, shr_slice_of}
use denote.Slice.{slice_val, shr_slice_Tells}
use denote.Steps.{nothing}
use denote.Triple.Walked.{Stays, stay_dropped, walk_of, Goes-dropped}
use Rattle.std.proofs.raw_atomic.Walks.{proved_at, leaves}
use Rattle.spvk.proofs.StaticTexts.{text_in, word}
use Rattle.spvk.specs.contracts.static_text.StaticText.of.{ended, clauses}
use Rattle.spvk.specs.contracts.static_text.StaticText.of.Key.{name as #self}
use Rattle.spvk.proofs.static_text.StaticText.of.Statement.{statement}
use Rattle.spvk.proofs.static_text.StaticText.of.Code as code

pub of_spec : {M : Type 1} → statement M
of_spec 𝓤 𝓛 𝓜 𝓡 wired =
    let H = 𝓛.H in let 𝓣 = tables 𝓤 H 𝓜 𝓡 𝓡.env in let c = clauses 𝓛 𝓜.mem 𝓡.returns in
    let hs : Stays ended.signature.params ended.kept =
    (stay_dropped (shr_slice_of [] tt (plain (λ _. u8))) yes, tt) in
    proved_at 𝓛 ended hs c 𝓜 𝓡 (Goes-dropped 𝓛 0 (shr_slice_of [] tt (plain (λ _. u8))) yes (λ κs x f. refl), tt) #self
    code.function (code.unfolded 𝓤 H 𝓜 𝓡 wired) (λ z are.
    let κs = z.0.0 in let x : Bor (List ℕ) = z.0.3.0 in let b = x.ref_ptr.0 in let o = x.ref_ptr.1 in let Post : Val
    → SProp 𝓤 = (walk_of 𝓛 ended hs c).post z in let Run : List Val
    → SProp 𝓤 = λ ws. WpFn 𝓤 H 𝓣.C 𝓣.Λ code.function ws Post in
    let w : Val = slice_val x.ref_ptr (length x.now) in let e = shr_slice_Tells static [] u8 x z.0.4.0 are.0 in
    let fits = are.0.0.1.0 in
    qed 𝓛 ((‵ ftrue ⊛ ‵ (owns (types_at ended.signature.params κs) z.0.3 z.0.4)) ∷ raw ((c κs z.0.3).requires z.1)
    ∷ []) ∵ split ! $ move ! (1 ∷ []) $ fsplit ! $ fsplit ! $ drop ! $
    suffices ! (Run (w ∷ [])) (subst (λ (us : List Val). ent 𝓤 (Run (w ∷ [])) (Run us)) (sym (λ i. e i ++ []))
    (id⊢ 𝓤 (Run (w ∷ [])))) $
    enter ! 𝓣.C 𝓣.Λ code.function (w ∷ []) Post $ alloc_all !
    (λ l. pass_all ! refl ((tt, (tt, (record { fits = fits }, tt))), tt) $
    sets ! (addr ! (from ! (fld ! refl (hop ! (look_in_at ! 1 (sub ! 0 refl (whole !))) (stop !))))) refl (tt, tt) $
    sets ! (agg ! (and_then ! (get ! refl) (no_more !))) refl (tt, (tt, tt)) $
    text_in ! (block_ptr b o) (Some x.now) $
    use0 𝓛 (raw (fact 𝓤 (Some x.now ≡ Some x.now)))
    (fact_i 𝓤 (Some x.now ≡ Some x.now) (emp 𝓤) refl) $ nothing ! $ nothing ! $ fjoin ! $
    returns ! (look_at ! 0 refl) $ free_all ! refl $ keep ! (4 ∷ 0 ∷ 2 ∷ 1 ∷ []) $ by !
    (leaves 𝓛 ended hs c z (word (block_ptr b o)) (record { start = block_ptr b o; octets = Some x.now }) (tt, tt)
    (tt, tt))))
