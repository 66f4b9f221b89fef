-- What a declaration asks of its operands, all together, is what Y2 demands of it.
use Rattle.std.proofs.Common.{◌≡◌, ◌+◌, ◌↔◌, ℕ, zero, suc, List, [], ◌∷◌, Option, Some, None, refl}
use Rattle.std.specs.Prelude.{slice_get, IsSomeAnd}
use Rattle.std.specs.List.{AllByRecursion}
use Rattle.spv_module.specs.Operand.{Plain, Result, Id, Word, Value, PlainInst}
use Rattle.spv_type_forms.specs.declared.form.Scalar.{Scalar}
use Rattle.spv_type_forms.specs.Form.{form_of}
use Rattle.spv_type_kinds.specs.Operands.{ids_in}
use Rattle.spv_type_forms.specs.Types.{scalar_in, IsData}
use Rattle.spv_type_rules.specs.declared.declaration.Declaration.{Declaration}
use Rattle.spv_type_rules.specs.declared.declaration.Declaration.TheVariants as kind
use Rattle.spv_type_forms.specs.declared.objects.Image.{Image}
use Rattle.spv_type_forms.specs.Objects.{image_in}
use Rattle.spv_type_rules.specs.Declaration.{DeclaresSoundly, IsSoundImage}
use Rattle.spv_type_rules.specs.Asked.{IsVectorCount}
use Rattle.spv_type_evidence.specs.types.Declaration.{Asks, AsksImage}

pub all_at : (P : ℕ → Type 0) (xs : List ℕ) (j x : ℕ) → AllByRecursion P xs → slice_get xs j ≡ Some x → P x
all_at P [] j x h e = cc
all_at P (y ∷ ys) zero x h e = let same : y ≡ x = cc in rw (← same) h.0
all_at P (y ∷ ys) (suc j) x h e = all_at P ys j x h.1 e

pub at_all : (P : ℕ → Type 0) (xs : List ℕ) → ((j x : ℕ) → slice_get xs j ≡ Some x → P x) → AllByRecursion P xs
at_all P [] h = tt
at_all P (y ∷ ys) h = (h 0 y refl, at_all P ys (λ j x e. h (suc j) x e))

scalar_there : (P : Type 0) (o : Option Scalar) → IsSomeAnd o (λ s. P) → (s : Scalar) × (o ≡ Some s)
scalar_there P None h = absurd h
scalar_there P (Some s) h = (s, refl)

scalar_holds : (P : Type 0) (o : Option Scalar) → IsSomeAnd o (λ s. P) → P
scalar_holds P None h = absurd h
scalar_holds P (Some s) h = h

scalar_with : (P : Type 0) (o : Option Scalar) (s : Scalar) → o ≡ Some s → P → IsSomeAnd o (λ s. P)
scalar_with P o s e h = rw e h

image_asks : (is : List PlainInst) (o : Option Image) (k : ℕ) → IsSomeAnd o (IsSoundImage is)
    → IsSomeAnd o (AsksImage is k)
image_asks is None k h = h
image_asks is (Some m) k h = (λ e. h.0, λ e. h.1, λ e. h.2, λ e. h.3, λ e. h.4)

image_declares : (is : List PlainInst) (o : Option Image) → ((k : ℕ) → IsSomeAnd o (AsksImage is k))
    → IsSomeAnd o (IsSoundImage is)
image_declares is None h = h 0
image_declares is (Some m) h =
    ((h 1).0 refl, (h 3).1 refl, (h 4).2 refl, (h 5).3 refl, (h 6).4 refl)

pub declares_asks : (is : List PlainInst) (n : ℕ) (d : Declaration) (os : List Plain) → DeclaresSoundly is n d os
    → (k : ℕ) → Asks is n d os k
declares_asks is n kind.Int (Result t ∷ Word w ∷ Word s ∷ []) h k = (λ e. h.0, λ e. h.1)
declares_asks is n kind.Float (Result t ∷ Word w ∷ []) h k = λ e. h
declares_asks is n kind.Vector (Result t ∷ Id c ∷ Word m ∷ []) h k =
    let o = scalar_in (form_of is c) in
    (λ e. scalar_there (IsVectorCount m) o h, λ e. scalar_holds (IsVectorCount m) o h)
declares_asks is n kind.Array (Result t ∷ Id a ∷ Id l ∷ []) h k = (λ e. h.0, λ e. h.1)
declares_asks is n kind.Struct (Result t ∷ os) h k = λ j x e at. all_at (IsData is) (ids_in os) j x h at
declares_asks is n kind.Pointer (Result t ∷ Value j class ∷ Id p ∷ []) h k = λ e. h
declares_asks is n kind.Function (Result t ∷ Id r ∷ os) h k =
    (λ e. h.0, λ j x e at. all_at (IsData is) (ids_in os) j x h.1 at)
declares_asks is n kind.Forward (Id p ∷ Value j class ∷ []) h k = λ e. h
declares_asks is n kind.Image os h k = image_asks is (image_in os) k h
declares_asks is n kind.SampledImage (Result t ∷ Id i ∷ []) h k = λ e. h
declares_asks is n d os h k = h

pub asks_declares : (is : List PlainInst) (n : ℕ) (d : Declaration) (os : List Plain) → ((k : ℕ) → Asks is n d os k)
    → DeclaresSoundly is n d os
asks_declares is n kind.Int (Result t ∷ Word w ∷ Word s ∷ []) h = ((h 1).0 refl, (h 2).1 refl)
asks_declares is n kind.Float (Result t ∷ Word w ∷ []) h = h 1 refl
asks_declares is n kind.Vector (Result t ∷ Id c ∷ Word m ∷ []) h =
    let s = (h 1).0 refl in
    scalar_with (IsVectorCount m) (scalar_in (form_of is c)) s.0 s.1 ((h 2).1 refl)
asks_declares is n kind.Array (Result t ∷ Id a ∷ Id l ∷ []) h = ((h 1).0 refl, (h 2).1 refl)
asks_declares is n kind.Struct (Result t ∷ os) h = at_all (IsData is) (ids_in os) (λ j x e. h (1 + j) j x refl e)
asks_declares is n kind.Pointer (Result t ∷ Value j class ∷ Id p ∷ []) h = h 2 refl
asks_declares is n kind.Function (Result t ∷ Id r ∷ os) h =
    ((h 1).0 refl, at_all (IsData is) (ids_in os) (λ j x e. (h (2 + j)).1 j x refl e))
asks_declares is n kind.Forward (Id p ∷ Value j class ∷ []) h = h 0 refl
asks_declares is n kind.Image os h = image_declares is (image_in os) h
asks_declares is n kind.SampledImage (Result t ∷ Id i ∷ []) h = h 1 refl
asks_declares is n d os h = h 0

pub operands_declare : (is : List PlainInst) (n : ℕ) (d : Declaration) (os : List Plain)
    → ((k : ℕ) → Asks is n d os k) ↔ DeclaresSoundly is n d os
operands_declare is n d os = (asks_declares is n d os, declares_asks is n d os)
