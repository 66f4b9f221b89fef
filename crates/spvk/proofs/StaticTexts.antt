-- The machine value of a text's place, and what it holds. Assumes `Logic`.
use Rattle.std.proofs.Common.{ℕ, List, [], ◌∷◌, Option, refl}
use seplogic.Ra.Ura.{Ura}
use mir.Val.{Val, vstruct, vcons, vnil}
use types.Logic.{Logic}
use types.Kit.{Item, Goal, Step, step, ‵, ◌$◌, fjoin, fpack, feq_i}
use denote.RattleType.{Valss}
use denote.Builtin.{RawPtr}
use denote.RawPtr.{Ptr, ptr_val}
use denote.Steps.{nothing}
use denote.Struct.Struct.{within}
use denote.Struct.Owning.{shape}
use Rattle.spvk.specs.StaticText.{lasting}
use Rattle.spvk.specs.contracts.static_text.StaticText as text

abbrev pub word : Ptr → Val
word p = vstruct (vcons (ptr_val p) vnil)

module _ {M : Type 1} {𝓤 : Ura M} {𝓛 : Logic 𝓤} {K : Type 0} {Γ : List (Item 𝓤)} {G : Goal 𝓤 𝓛.H} where
  pub text_in : K → (p : Ptr) (x : Option (List ℕ))
      → Step K 𝓛 (‵ (text.the_row.own_val (record { start = p; octets = x }) (word p ∷ [])) ∷ Γ) G
      (‵ (lasting p x) ∷ Γ) G
  text_in t p x = step (λ s.
      nothing t $ feq_i t (List Val) (ptr_val p ∷ []) (ptr_val p ∷ []) refl $ fjoin t $ feq_i t (List Val) (word p ∷ [])
      (word p ∷ []) refl $ fjoin t $
      fpack t (Valss (RawPtr ∷ [])) (within (shape text.the_type) (p, tt) (word p ∷ []))
      (ptr_val p ∷ [], tt) $ fjoin t $ s)
