-- What OpCopyLogical asks, as the code decides it.
use Rattle.std.proofs.Common.{◌≡◌, ◌∙◌, ◌↔◌, ◌<◌, ◌≤◌, ◌⊎◌, inl, inr, ℕ, List, [], ◌∷◌, Option, Some, None}
use Rattle.std.proofs.Common.{Bool, true, false}
use Rattle.std.proofs.Common.{refl, sym, subst, ap, length, take, get_or, arith, length-take-le}
use Rattle.std.specs.Prelude.{IsTrue, IsSomeAnd}
use Rattle.std.specs.List.{AllByRecursion}
use Rattle.std.proofs.lemmas.Option.{none-some, same_Some}
use Rattle.spv_module.specs.Operand.{Plain, PlainInst}
use Rattle.spv_module.specs.declared.opcode.TheConstants as opcode
use Rattle.spv_type_kinds.specs.Operands.{ids_in, after_head, result_type_in}
use Rattle.spv_type_forms.specs.Values.{types_of}
use Rattle.spv_conditions.specs.declared.asked.Asked.TheVariants as asked
use Rattle.spv_conditions.specs.declared.asked.Asks.{Asks}
use Rattle.spv_conditions.specs.declared.asked.Asks.TheVariants as asks
use Rattle.spv_type_kinds.specs.declared.kinds.Relation.TheVariants as relation
use Rattle.spv_conditions.specs.declared.seat.Seat.TheVariants as seat
use Rattle.spv_conditions.specs.Asks.{HoldsOf, conditions_in}
use Rattle.spv_conditions.specs.Condition.{Agrees}
use Rattle.spv_ops.specs.declared.table.Places.{Places}
use Rattle.spv_ops.specs.declared.table.Places.TheVariants as places
use Rattle.spv_ops.specs.Table.{lines, places_of, asks_of}
use Rattle.spv_ops.specs.inner.Copy.{IsCopy}
use Rattle.spv_ops.specs.inner.Typed.{IsTypedIn, IsUncopied}
use Rattle.spv_ops.proofs.Parts.{iff_to, typed_by}
use Rattle.spv_ops.proofs.Rows.{asks_first, copied_first}

abbrev pub copy_line : List Asks
copy_line = asks.Once (asked.Operands true 1)
    ∷ asks.Once (asked.Relation relation.Matches (seat.Value 0) seat.Result) ∷ []

copy_asks : asks_of opcode.COPY_LOGICAL ≡ copy_line
unfolding lines
copy_asks = refl

pub copied_asks : (n : ℕ) → places_of n ≡ places.Copied → asks_of n ≡ copy_line
copied_asks n e = asks_first n opcode.COPY_LOGICAL (copied_first n e) ∙ copy_asks

abbrev LineOf : List PlainInst → ℕ → PlainInst → Option ℕ → List ℕ → Type 0
LineOf is n i r ts = AllByRecursion (HoldsOf is n i r ts) (conditions_in copy_line (length ts))

there : (is : List PlainInst) (n : ℕ) (i : PlainInst) (t u : ℕ) → Agrees is relation.Matches u t
    → LineOf is n i (Some t) (u ∷ [])
there is n i t u m = ((tt, refl), (m, tt))

copy_holds : (is : List PlainInst) (n : ℕ) (i : PlainInst) (r : Option ℕ) (ts : List ℕ) → IsCopy is r (Some ts)
    → LineOf is n i r ts
copy_holds is n i r ts c =
    let one : ts ≡ c.from ∷ [] = same_Some ts (c.from ∷ []) c.value in
    subst (λ us. LineOf is n i r us) (sym one)
    (subst (λ o. LineOf is n i o (c.from ∷ [])) (sym c.result) (there is n i c.to c.from c.match))

holds_copy : (is : List PlainInst) (n : ℕ) (i : PlainInst) (r : Option ℕ) (ts : List ℕ) → LineOf is n i r ts
    → IsCopy is r (Some ts)
holds_copy is n i None ts h = absurd h.0.0
holds_copy is n i (Some t) [] h = absurd (let few : 0 ≡ 1 = h.0.1 in cc)
holds_copy is n i (Some t) (u ∷ []) h =
    record { to = t; from = u; result = refl; value = refl; match = h.1.0 }
holds_copy is n i (Some t) (u ∷ v ∷ ts) h = absurd (let many : length (u ∷ v ∷ ts) ≡ 1 = h.0.1 in omega arith)

by_types : (is : List PlainInst) (n : ℕ) (i : PlainInst) (r : Option ℕ) (o : Option (List ℕ))
    → IsCopy is r o ↔ IsSomeAnd o (LineOf is n i r)
by_types is n i r None = (λ c. none-some (c.from ∷ []) c.value, λ h. absurd h)
by_types is n i r (Some ts) = (copy_holds is n i r ts, holds_copy is n i r ts)

pub copy_told : (is : List PlainInst) (n : ℕ) (i : PlainInst) → places_of i.opcode ≡ places.Copied
    → IsCopy is (result_type_in i.operands) (types_of is (ids_in (after_head i.operands))) ↔ IsTypedIn is n i
copy_told is n i e =
    let r = result_type_in i.operands in
    let line : asks_of i.opcode ≡ copy_line = copied_asks i.opcode e in
    iff_to (by_types is n i r (types_of is (ids_in (after_head i.operands))))
    (typed_by is n i places.Copied copy_line r (after_head i.operands) e line refl refl)

-- As it is decided.

-- where there is a result type, and the one value has a type
pub one_value : (is : List PlainInst) (r : Option ℕ) (o : Option (List ℕ)) (t u : ℕ) (b : Bool) → r ≡ Some t
    → o ≡ Some (u ∷ []) → (IsTrue b ↔ Agrees is relation.Matches u t) → IsTrue b ↔ IsCopy is r o
one_value is r o t u b e f d = (
  λ y. record { to = t; from = u; result = e; value = f; match = d.0 y },
  λ c.
      let to : c.to ≡ t = same_Some c.to t (sym c.result ∙ e) in
      let all : c.from ∷ [] ≡ u ∷ [] = same_Some (c.from ∷ []) (u ∷ []) (sym c.value ∙ f) in
      let from : c.from ≡ u = cc in
      d.1 (subst (λ v. Agrees is relation.Matches u v) to
      (subst (λ v. Agrees is relation.Matches v c.to) from c.match)),
)

-- a copy, or not
pub copied_or : (p : Places) → (p ≡ places.Copied) ⊎ IsUncopied p
copied_or places.Copied = inl refl
copied_or places.Free = inr tt
copied_or places.Nothing = inr tt
copied_or places.Ids = inr tt
copied_or places.Many = inr tt
copied_or places.One = inr tt
copied_or places.Pairs = inr tt
copied_or places.Initializers = inr tt
copied_or places.Around = inr tt
copied_or (places.Beside k) = inr tt
copied_or places.Enqueued = inr tt

pub either_told : (p : Places) (P : Type 0) (a b : Bool) → a ≡ false → (IsUncopied p → P → IsTrue a)
    → (IsTrue b ↔ ((p ≡ places.Copied) × P)) → IsTrue b ↔ P
either_told p P a b e f d = (
  λ y. (d.0 y).1,
  λ h. elim (copied_or p) [
    | inl copied ↦ d.1 (copied, h)
    | inr u ↦ absurd (let no : false ≡ true = sym e ∙ f u h in cc)
  ],
)

pub not_copied : (p : Places) (P : Type 0) → (p ≡ places.Copied → ⊥) → IsTrue false ↔ ((p ≡ places.Copied) × P)
not_copied p P n = (λ y. absurd (let no : false ≡ true = y in cc), λ h. absurd (n h.0))

pub copied_told : (is : List PlainInst) (n : ℕ) (i : PlainInst) (os : List Plain) (b : Bool) → os ≡ i.operands
    → places_of i.opcode ≡ places.Copied
    → (IsTrue b ↔ IsCopy is (result_type_in os) (types_of is (ids_in (after_head os))))
    → IsTrue b ↔ ((places_of i.opcode ≡ places.Copied) × IsTypedIn is n i)
copied_told is n i os b same e d =
    let told = copy_told is n i e in
    let here = subst (λ ps. IsTrue b ↔ IsCopy is (result_type_in ps) (types_of is (ids_in (after_head ps)))) same d in
    (λ y. (e, told.0 (here.0 y)), λ h. here.1 (told.1 h.1))

pub no_copy : (is : List PlainInst) (r : Option ℕ) (o : Option (List ℕ)) → ((t u : ℕ) → r ≡ Some t → o ≡ Some (u ∷ [])
    → ⊥) → IsTrue false ↔ IsCopy is r o
no_copy is r o never =
    (λ y. absurd (let no : false ≡ true = y in cc), λ c. absurd (never c.to c.from c.result c.value))

-- the types that are gathered, where there is one
pub one_gathered : (xs : List ℕ) (d : ℕ) → 0 < length xs → take 1 xs ≡ get_or xs 0 d ∷ []
one_gathered [] d l = absurd (omega arith)
one_gathered (x ∷ xs) d l = refl

pub other_gathered : (xs : List ℕ) (n t : ℕ) (o : Option (List ℕ)) → n ≤ length xs → (n ≡ 1 → ⊥)
    → o ≡ Some (take n xs) → o ≡ Some (t ∷ []) → ⊥
other_gathered xs n t o l apart e f =
    let same : take n xs ≡ t ∷ [] = same_Some (take n xs) (t ∷ []) (sym e ∙ f) in
    let all : length (take n xs) ≡ 1 = ap length same in
    let some : length (take n xs) ≡ n = length-take-le n xs l in
    apart (omega arith)
