-- Types that match. [3.49.8 OpCopyLogical]
use Rattle.std.specs.Prelude.{◌≡◌, ℕ, List, [], ◌∷◌, Bool, true, false, Option, Some, IsTrue}
use Rattle.spv_module.specs.Operand.{Plain, Id, PlainInst}
use Rattle.spv_type_forms.specs.declared.form.Form.{Form}
use Rattle.spv_type_forms.specs.declared.form.Form.TheVariants as form
use Rattle.spv_type_forms.specs.Form.{form_of}
use Rattle.spv_type_forms.specs.Parts.{members_of}
use Rattle.spv_type_forms.specs.Null.{IsEarlier}

-- an array or a struct [2.2.2 Aggregate]
abbrev pub is_aggregate : Option Form → Bool
is_aggregate (Some (form.Array e l)) = true
is_aggregate (Some form.Struct) = true
is_aggregate _ = false

-- The type a is declared before t, if it is an aggregate. So is each part of a type in a module whose ids are sound: a
-- member that is declared later is a pointer. [2.4]
abbrev pub IsDeclaredFor : List PlainInst → ℕ → ℕ → Type 0
IsDeclaredFor is a t = IsTrue (is_aggregate (form_of is a)) → IsEarlier is a t

-- Two types match: they are one type; or arrays of one length operand, whose element types match; or structs, whose
-- members match in order. [3.49.8 OpCopyLogical]
mutual
  pub data Matches (is : List PlainInst) : ℕ → ℕ → Type 0 where
    same : (t : ℕ) → Matches is t t
    arrays : (t u d e l : ℕ) → form_of is t ≡ Some (form.Array d l) → form_of is u ≡ Some (form.Array e l)
        → IsDeclaredFor is d t → IsDeclaredFor is e u → Matches is d e → Matches is t u
    structs : (t u : ℕ) (ms ns : List Plain) → form_of is t ≡ Some form.Struct → form_of is u ≡ Some form.Struct
        → members_of is t ≡ Some ms → members_of is u ≡ Some ns → AreMatching is t u ms ns → Matches is t u

  -- Members of t and members of u match in order, and are as many.
  pub data AreMatching (is : List PlainInst) : ℕ → ℕ → List Plain → List Plain → Type 0 where
    none : (t u : ℕ) → AreMatching is t u [] []
    more : (t u a b : ℕ) (ms ns : List Plain) → IsDeclaredFor is a t → IsDeclaredFor is b u → Matches is a b
        → AreMatching is t u ms ns → AreMatching is t u (Id a ∷ ms) (Id b ∷ ns)
