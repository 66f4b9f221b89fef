-- The machine values of a handle, and what it owns. Assumes `Logic`.
use Rattle.std.proofs.Common.{◌≡◌, ℕ, List, [], ◌∷◌, ◌++◌, Option, Some, None, refl, subst}
use seplogic.Ra.Ura.{Ura}
use mir.Raw.{raw as bare}
use mir.Val.{Val, vstruct, vcons, vnil, of_list}
use base.Fraction.{full_share}
use base.Logic.{ent, guard, guard_i, via, snd∗, never_e}
use base.Fml.{Lft, Share, ftrue}
use types.Logic.{Logic, sem}
use types.Kit.{Item, Goal, Seq, Step, step, ‵, given, ◌$◌, drop, learn, use1, fsplit, fjoin, fpick, fpack, feq_i, feq_l}
use contract.Monad.{fact_use}
use denote.RattleType.{Valss}
use denote.Builtin.{RawPtr}
use denote.Memory.{lone}
use denote.RawPtr.{Ptr, block_ptr, null_ptr, ptr_val, lies_at, Testable}
use denote.Steps.{nothing}
use denote.Struct.Struct.{within}
use denote.Struct.Owning.{shape}
use Rattle.std.proofs.GlobalToken.{dealloc_token-Testable}
use Rattle.std.specs.contracts.impls.GlobalAllocator.TheImpl.{ghosts}
use Rattle.spv_table.specs.Table.{Table}
use Rattle.spv_table.specs.contracts.table.Table.{the_row as the_table}
use Rattle.spvk.specs.Held.{boxed, heap, held, shown}
use Rattle.spvk.specs.contracts.handle.Grammar as grammar

abbrev pub word : Ptr → Val
word p = vstruct (vcons (ptr_val p) vnil)

module _ {M : Type 1} {𝓤 : Ura M} (𝓛 : Logic 𝓤) where
  -- a table that may be freed lies at the start of a block, so its pointer may be compared with null
  pub tested : (p : Ptr) (G : Table) → ent 𝓤 (sem 𝓛 (boxed p G)) (guard 𝓤 (Testable p) (sem 𝓛 (boxed p G)))
  tested p G = fact_use 𝓤 (Testable p) (via 𝓤 _
      (snd∗ 𝓤 (sem 𝓛 (lies_at the_table full_share p G))
      (sem 𝓛 (ghosts.dealloc_token heap (bare (lone the_table.mir)) p)))
      (dealloc_token-Testable 𝓛 heap (bare (lone the_table.mir)) p)) (guard_i 𝓤 (Testable p) (sem 𝓛 (boxed p G)))

module _ {M : Type 1} {𝓤 : Ura M} {𝓛 : Logic 𝓤} {K : Type 0} {Γ : List (Item 𝓤)} {G : Goal 𝓤 𝓛.H} where
  pub grammar_out : K → (d : grammar.the_row.Denot) (vs : List Val)
      → (vs ≡ word d.at ∷ [] → Seq K 𝓛 (‵ (held d.at d.table) ∷ Γ) G) → Seq K 𝓛 (‵ (grammar.the_row.own_val d vs) ∷ Γ) G
  grammar_out t d vs k =
      fsplit t $ fpick t (λ vss. fsplit t $ feq_l t
      (λ ev. fsplit t $ feq_l t (λ ep. drop t $ k
      (subst (λ (ps : List Val). vs ≡ vstruct (of_list (ps ++ [])) ∷ []) ep ev))))

  pub grammar_in : K → (p : Ptr) (x : Option Table)
      → Step K 𝓛 (‵ (grammar.the_row.own_val (record { at = p; table = x }) (word p ∷ [])) ∷ Γ) G (‵ (held p x) ∷ Γ) G
  grammar_in t p x = step (λ s.
      nothing t $ feq_i t (List Val) (ptr_val p ∷ []) (ptr_val p ∷ []) refl $ fjoin t $ feq_i t (List Val) (word p ∷ [])
      (word p ∷ []) refl $ fjoin t $
      fpack t (Valss (RawPtr ∷ [])) (within (shape grammar.the_type) (p, tt) (word p ∷ []))
      (ptr_val p ∷ [], tt) $ fjoin t $ s)

  pub either_held : K → (p : Ptr) (x : Option Table) → (p ≡ null_ptr → x ≡ None → Seq K 𝓛 Γ G)
      → ((b o : ℕ) (H : Table) → p ≡ block_ptr b o → x ≡ Some H → Testable (block_ptr b o)
      → Seq K 𝓛 (‵ (boxed (block_ptr b o) H) ∷ Γ) G) → Seq K 𝓛 (‵ (held p x) ∷ Γ) G
  either_held t null_ptr None none some = drop t $ none refl refl
  either_held t (block_ptr b o) (Some H) none some =
      use1 𝓛 (given (Testable (block_ptr b o)) (‵ (boxed (block_ptr b o) H))) (tested 𝓛 (block_ptr b o) H) $ learn t
      (λ tests. some b o H refl refl tests)
  either_held t null_ptr (Some H) none some = use1 𝓛 (given ⊥ (‵ ftrue)) (never_e 𝓤 _) $ learn t (λ z. absurd z)
  either_held t (block_ptr b o) None none some = use1 𝓛 (given ⊥ (‵ ftrue)) (never_e 𝓤 _) $ learn t (λ z. absurd z)

module _ {M : Type 1} {𝓤 : Ura M} {𝓛 : Logic 𝓤} {K : Type 0} {Γ : List (Item 𝓤)} {G : Goal 𝓤 𝓛.H} where
  pub either_shown : K → (p : Ptr) (s : Lft × Share × Table) → (p ≡ null_ptr → Seq K 𝓛 (‵ (shown null_ptr s) ∷ Γ) G)
      → ((b o : ℕ) → p ≡ block_ptr b o → Seq K 𝓛 (‵ (shown (block_ptr b o) s) ∷ Γ) G) → Seq K 𝓛 (‵ (shown p s) ∷ Γ) G
  either_shown t null_ptr s none some = none refl
  either_shown t (block_ptr b o) s none some = some b o refl
