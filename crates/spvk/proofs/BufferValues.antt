-- The machine values of a buffer, and what it owns. Assumes `Logic`.
use Rattle.std.proofs.Common.{◌≡◌, ◌<◌, ◌^◌, ℕ, List, [], ◌∷◌, ◌++◌, Option, Some, None, refl, sym, ap, subst, w64}
use seplogic.Ra.Ura.{Ura}
use mir.Raw.{raw as bare}
use mir.Val.{Val, vstruct, vcons, vnil, vint, of_list}
use base.Fraction.{full_share}
use base.Logic.{ent, guard, guard_i, via, snd∗, never_e}
use base.Fml.{ftrue}
use types.Logic.{Logic, sem}
use types.Kit.{Item, Goal, Seq, Step, step, ‵, given, ◌$◌, drop, learn, move, use1, fsplit, fjoin, fpick, fpack, feq_i}
use types.Kit.{feq_l, flt_i, flt_l}
use contract.Monad.{fact_use}
use denote.RattleType.{Valss}
use denote.Builtin.{RawPtr, usize}
use denote.Memory.{lone}
use denote.RawPtr.{Ptr, block_ptr, null_ptr, ptr_val, lies_at, Testable}
use denote.Steps.{nothing}
use denote.Struct.Struct.{within}
use denote.Struct.Owning.{shape}
use Rattle.std.proofs.GlobalToken.{dealloc_token-Testable}
use Rattle.std.specs.Box.Ownership.{box_owns}
use Rattle.std.specs.contracts.impls.GlobalAllocator.TheImpl.{ghosts}
use Rattle.spvk.specs.Held.{heap}
use Rattle.spvk.specs.Buffer.{Octets, kept}
use Rattle.spvk.specs.contracts.buffer.Buffer as buffer

abbrev pub three : Ptr → ℕ → Ptr → Val
three p n q = vstruct (vcons (ptr_val p) (vcons (vint w64 n) (vcons (ptr_val q) vnil)))

module _ {M : Type 1} {𝓤 : Ura M} (𝓛 : Logic 𝓤) where
  -- a vector that may be freed lies at the start of a block, so its pointer may be compared with null
  pub tested : (p : Ptr) (v : Octets.Denot)
      → ent 𝓤 (sem 𝓛 (box_owns (ghosts.dealloc_token heap) Octets p v))
      (guard 𝓤 (Testable p) (sem 𝓛 (box_owns (ghosts.dealloc_token heap) Octets p v)))
  tested p v = fact_use 𝓤 (Testable p) (via 𝓤 _
      (snd∗ 𝓤 (sem 𝓛 (lies_at Octets full_share p v)) (sem 𝓛 (ghosts.dealloc_token heap (bare (lone Octets.mir)) p)))
      (dealloc_token-Testable 𝓛 heap (bare (lone Octets.mir)) p))
      (guard_i 𝓤 (Testable p) (sem 𝓛 (box_owns (ghosts.dealloc_token heap) Octets p v)))

module _ {M : Type 1} {𝓤 : Ura M} {𝓛 : Logic 𝓤} {K : Type 0} {Γ : List (Item 𝓤)} {G : Goal 𝓤 𝓛.H} where
  pub buffer_out : K → (d : buffer.the_row.Denot) (vs : List Val)
      → (d.size < 2 ^ 64 → vs ≡ three d.start d.size d.held ∷ []
      → Seq K 𝓛 (‵ (kept d.start d.size d.held d.bytes) ∷ Γ) G) → Seq K 𝓛 (‵ (buffer.the_row.own_val d vs) ∷ Γ) G
  buffer_out t d vs k =
      fsplit t $ fpick t (λ vss. fsplit t $ feq_l t
      (λ ev. fsplit t $ feq_l t (λ ep. fsplit t $ fsplit t $ feq_l t
      (λ en. flt_l t (λ fits. fsplit t $ feq_l t (λ eq. drop t $ k fits
      (subst (λ (rs : List Val). vs ≡ vstruct (of_list (ptr_val d.start ∷ vint w64 d.size ∷ (rs ++ []))) ∷ []) eq
      (subst (λ (ns : List Val). vs ≡ vstruct (of_list (ptr_val d.start ∷ (ns ++ (vss.1.1.0 ++ [])))) ∷ []) en
      (subst (λ (ps : List Val). vs ≡ vstruct (of_list (ps ++ (vss.1.0 ++ (vss.1.1.0 ++ [])))) ∷ []) ep ev)))))))))

  pub buffer_in : K → (p : Ptr) (n : ℕ) (q : Ptr) (x : Option (List ℕ)) → n < 2 ^ 64
      → Step K 𝓛 (‵ (buffer.the_row.own_val (record { start = p; size = n; held = q; bytes = x }) (three p n q ∷ []))
      ∷ Γ) G (‵ (kept p n q x) ∷ Γ) G
  buffer_in t p n q x fits = step (λ s.
      nothing t $ feq_i t (List Val) (ptr_val q ∷ []) (ptr_val q ∷ []) refl $ fjoin t $
      flt_i t n (2 ^ 64) fits $ feq_i t (List Val) (vint w64 n ∷ []) (vint w64 n ∷ []) refl $ fjoin t $ fjoin t $
      feq_i t (List Val) (ptr_val p ∷ []) (ptr_val p ∷ []) refl $ fjoin t $ feq_i t (List Val) (three p n q ∷ [])
      (three p n q ∷ []) refl $ fjoin t $
      fpack t (Valss (RawPtr ∷ usize ∷ RawPtr ∷ []))
      (within (shape buffer.the_type) (p, (n, (q, tt))) (three p n q ∷ []))
      (ptr_val p ∷ [], (vint w64 n ∷ [], (ptr_val q ∷ [], tt))) $ fjoin t $ s)

  pub either_kept : K → (p : Ptr) (n : ℕ) (q : Ptr) (x : Option (List ℕ)) → (q ≡ null_ptr → x ≡ None → Seq K 𝓛 Γ G)
      → ((b o : ℕ) (v : Octets.Denot) → q ≡ block_ptr b o → x ≡ Some v.items → Testable (block_ptr b o)
      → Seq K 𝓛 (‵ (box_owns (ghosts.dealloc_token heap) Octets (block_ptr b o) v) ∷ Γ) G)
      → Seq K 𝓛 (‵ (kept p n q x) ∷ Γ) G
  either_kept t p n null_ptr None none some = fpick t (λ _. drop t $ none refl refl)
  either_kept t p n (block_ptr b o) (Some xs) none some =
      fpick t (λ v. fsplit t $ move t (1 ∷ []) $ fpick t (λ lies. drop t $
      use1 𝓛 (given (Testable (block_ptr b o)) (‵ (box_owns (ghosts.dealloc_token heap) Octets (block_ptr b o) v)))
      (tested 𝓛 (block_ptr b o) v) $ learn t (λ tests. some b o v refl (ap Some (sym lies.items)) tests)))
  either_kept t p n null_ptr (Some xs) none some = use1 𝓛 (given ⊥ (‵ ftrue)) (never_e 𝓤 _) $ learn t (λ z. absurd z)
  either_kept t p n (block_ptr b o) None none some = use1 𝓛 (given ⊥ (‵ ftrue)) (never_e 𝓤 _) $ learn t (λ z. absurd z)
