-- Y5 at an instruction, by its uses, and by the places where the code looks for them.
use Rattle.std.proofs.Common.{◌≡◌, ◌≢◌, ◌↔◌, ◌⊎◌, inl, inr, ℕ, List, Option, Some, None, refl, sym, ◌∙◌, subst}
use Rattle.std.specs.Prelude.{slice_get, IsSomeAnd}
use Rattle.std.proofs.lemmas.Option.{none-some}
use Rattle.spv_table.specs.Table.{Table}
use Rattle.spv_module.specs.Operand.{PlainInst}
use Rattle.spv_layout.specs.Shape.{FitsShape}
use Rattle.spv_ops.specs.declared.table.Places.{Places}
use Rattle.spv_ops.specs.declared.table.Places.TheVariants as places
use Rattle.spv_ops.specs.Table.{places_of}
use Rattle.spv_ops.proofs.Rows.{free_asks}
use Rattle.spv_type_forms.specs.Values.{AreValues, types_of}
use Rattle.spv_ops.specs.Values.{values_of}
use Rattle.spv_ops.specs.Typed.{Typed, IsTyped, IsTypedAt}
use Rattle.spv_ops.specs.inner.Typed.{IsTypedIn}
use Rattle.spv_ops.proofs.ValuePlaces.{values_agree}

pub free_or : (p : Places) → (p ≡ places.Free) ⊎ (p ≢ places.Free)
free_or places.Free = inl refl
free_or places.Nothing = inr (λ e. cc)
free_or places.Ids = inr (λ e. cc)
free_or places.Many = inr (λ e. cc)
free_or places.One = inr (λ e. cc)
free_or places.Pairs = inr (λ e. cc)
free_or places.Initializers = inr (λ e. cc)
free_or places.Around = inr (λ e. cc)
free_or (places.Beside k) = inr (λ e. cc)
free_or places.Enqueued = inr (λ e. cc)
free_or places.Copied = inr (λ e. cc)

pub some_and : (P : List ℕ → Type 0) (o : Option (List ℕ)) → IsSomeAnd o P ↔ ((ts : List ℕ) × (o ≡ Some ts) × P ts)
some_and P None = (λ n. absurd n, λ a. none-some a.0 a.1)
some_and P (Some us) = (λ p. (us, refl, p), λ a. let same : a.0 ≡ us = cc (a.1) in subst P same a.2)

-- nothing is asked of an instruction of which no line speaks
pub free_holds : (is : List PlainInst) (n : ℕ) (i : PlainInst) → places_of i.opcode ≡ places.Free → IsTypedIn is n i
free_holds is n i e = rw (e, free_asks i.opcode e) tt

rightward : (G : Table) (is : List PlainInst) (n : ℕ) (i : PlainInst) → slice_get is n ≡ Some i → FitsShape G i
    → IsTypedIn is n i → IsTypedAt G is n
rightward G is n i at fits h = elim (free_or (places_of i.opcode)) [
  | inl e ↦ record { inst = i; there = at; typed = inl e }
  | inr ne ↦
      let some = (some_and (Typed is n i) (types_of is (values_of i))).0 h in
      record {
        inst = i;
        there = at;
        typed = inr (
          values_of i,
          some.0,
          record
              { forms = fits.forms; has = fits.has; values = values_agree G i fits.forms fits.has ne },
          some.1,
          some.2,
        );
      }
]

typed_by : (G : Table) (is : List PlainInst) (n : ℕ) (i : PlainInst) → places_of i.opcode ≢ places.Free
    → IsTyped G is n i → IsTypedIn is n i
typed_by G is n i ne (inl e) = absurd (ne e)
typed_by G is n i ne (inr t) =
    let values : AreValues G i t.0 = t.2 in
    let same : values_of i ≡ t.0 = sym (values_agree G i values.forms values.has ne) ∙ values.values in
    (some_and (Typed is n i) (types_of is (values_of i))).1 (t.1, rw same t.3, t.4)

leftward : (G : Table) (is : List PlainInst) (n : ℕ) (i : PlainInst) → slice_get is n ≡ Some i → IsTypedAt G is n
    → IsTypedIn is n i
leftward G is n i at t = elim (free_or (places_of i.opcode)) [
  | inl e ↦ free_holds is n i e
  | inr ne ↦
      let same : t.inst ≡ i = let e : Some t.inst ≡ Some i = sym t.there ∙ at in cc in
      typed_by G is n i ne (subst (λ j. IsTyped G is n j) same t.typed)
]

pub told : (G : Table) (is : List PlainInst) (n : ℕ) (i : PlainInst) → slice_get is n ≡ Some i → FitsShape G i
    → IsTypedIn is n i ↔ IsTypedAt G is n
told G is n i at fits = (rightward G is n i at fits, leftward G is n i at)
