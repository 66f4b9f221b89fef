-- `lends` makes a lifetime. On the way what is shown is cut for two threads, and joined again.
use Rattle.std.proofs.Common.{ℕ, List, [], ◌∷◌, refl}
use mir.Val.{Val, vunit}
use base.Share
use base.Fraction.{full_share}
use base.Logic.{ex, ex_i, never, fst∗}
use prog.Wp.{WpFn}
use types.Logic.{sem}
use types.Kit.{‵, raw, prop, ◌⊛◌, some, later, ◌$◌, ◌∵◌, !, qed, done, move, drop, split, fsplit, fjoin, join, pick}
use types.Kit.{await, use1, use2, feq_i, regoal, suffices, group}
use types.Run.{enter, of_opd, unit_lit, returns}
use types.ByLocal.{alloc_all, pass_all, free_all, look_at, sets}
use mir.Raw.{raw as bare}
use contract.Running.{tables}
use denote.Exit.{yes}
use denote.Memory.{lone}
use denote.RawPtr.{Ptr, RawPtr, block_ptr, null_ptr, rawptr_vals, rawptr_Tells, in_a_block}
use denote.Signature.{plain}
use denote.Steps.{nothing}
use denote.Triple.Entry.{on_entry}
use denote.Triple.Walked.{Stays, walk_of, stay_dropped, Goes-dropped, ends_at}
use Rattle.std.proofs.raw_atomic.Walks.{proved}
use Rattle.std.specs.contracts.impls.GlobalAllocator.TheImpl.{ghosts}
use Rattle.spv_table.specs.contracts.table.Table.{the_row as the_table}
use Rattle.spvk.specs.Held.{boxed, heap, lent, shown}
use Rattle.spvk.proofs.Lending.{cut, joined, lend_out}
use Rattle.spvk.specs.contracts.laws.lends as f
use Rattle.spvk.proofs.laws.lends.Statement.{statement}
use Rattle.spvk.proofs.laws.lends.Code as code

abbrev stayed : Stays f.ended.signature.params f.ended.kept
stayed = (stay_dropped _ yes, tt)

pub lends_spec : {M : Type 1} → statement M
lends_spec 𝓤 𝓛 𝓜 𝓡 wired =
    let c = f.clauses 𝓛 𝓜.mem 𝓡.returns in let W = walk_of 𝓛 f.ended stayed c in let 𝓣 = tables 𝓤 𝓛.H 𝓜 𝓡 𝓡.env in
    proved 𝓛 f.ended stayed c 𝓜 𝓡 (Goes-dropped 𝓛 0 (plain (λ _. RawPtr)) yes (λ κs x w. refl), tt)
    f.Key.name code.function (code.unfolded 𝓤 𝓛.H 𝓜 𝓡 wired)
    (λ κs. (rawptr_vals, tt)) (λ κs. (rawptr_Tells, tt)) (λ κs qs bounds a G are.
    let y : Ptr → W.Ghost = λ p. ((κs, qs, bounds, (p, tt), (rawptr_vals p, tt)), G) in
    qed 𝓛 (raw (on_entry 𝓛 f.signature κs qs a (y a.0).0.4) ∷ ‵ (boxed a.0 G) ∷ []) ∵ drop ! $
    in_a_block ! a.0 (λ p. boxed p G) (fst∗ 𝓤 (never 𝓤)
    (sem 𝓛 (ghosts.dealloc_token heap (bare (lone the_table.mir)) null_ptr))) (λ b o e.
    regoal ! (λ p. prop (WpFn 𝓤 𝓛.H 𝓣.C 𝓣.Λ code.function (rawptr_vals p) (W.post (y p)))) e refl $
    enter ! _ _ _ _ _ $ alloc_all ! (λ l. pass_all ! refl ((tt, tt), tt) $
    use1 𝓛 (later (some (λ (ν : ℕ). ‵ (lent (block_ptr b o) G ν)))) (lend_out 𝓛 b o G) $ await ! tt $ pick !
    (λ ν. let κ = ν ∷ [] in
    fsplit ! $ use1 𝓛 (‵ (shown (block_ptr b o) (κ, Share.left full_share, G)) ⊛ ‵
    (shown (block_ptr b o) (κ, Share.right full_share, G))) (cut 𝓛 b o G κ full_share) $ split ! $
    use2 𝓛 (‵ (shown (block_ptr b o) (κ, full_share, G))) (joined 𝓛 b o G κ full_share) $ fjoin ! $
    sets ! (of_opd ! (unit_lit !)) refl (tt, tt) $
    returns ! (look_at ! 0 refl) $ free_all ! refl $
    suffices ! _ (ends_at 𝓛 f.ended stayed c (y (block_ptr b o)) vunit tt (tt, tt) (tt, tt)) $
    move ! (0 ∷ []) $ use1 𝓛 (raw (ex 𝓤 (λ (k : ℕ). sem 𝓛 (lent (block_ptr b o) G k))))
    (ex_i 𝓤 (λ (k : ℕ). sem 𝓛 (lent (block_ptr b o) G k)) ν) $ feq_i ! (List Val) (vunit ∷ [])
    (vunit ∷ []) refl $ nothing ! $ nothing ! $ join ! $ nothing ! $ group ! 3 $ done !))))
