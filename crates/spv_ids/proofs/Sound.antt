-- Where no rule on ids is broken, each use is sound.
use Rattle.std.proofs.Common.{◌≡◌, ◌∙◌, ◌<◌, ◌⊎◌, ◌+◌, ℕ, zero, suc, List, refl, sym, ap, inl, inr, Option, Some, None}
use Rattle.std.proofs.Common.{length, get_or, arith}
use Rattle.std.specs.Prelude.{slice_get}
use Rattle.std.proofs.lemmas.Bool.{cases_lt, cases_eq}
use Rattle.std.proofs.lemmas.Option.{slice_get_within, slice_get-get_or}
use Rattle.spv_table.specs.Table.{Table}
use Rattle.spv_module.specs.Operand.{PlainInst}
use Rattle.spv_module.specs.declared.fault.Rule.TheVariants.{D4, D5}
use Rattle.spv_module.specs.declared.opcode.TheConstants as opcode
use Rattle.spv_layout.specs.declared.form.Role.{Role}
use Rattle.spv_layout.specs.declared.place.Place.{Place}
use Rattle.spv_layout.specs.First.{IsUnbroken}
use Rattle.spv_layout.specs.Place.{IsOfSection}
use Rattle.spv_layout.specs.Plan.{IsPlan}
use Rattle.spv_layout.specs.Stage.{of_ids}
use Rattle.spv_layout.proofs.Places.{section_same, function_same}
use Rattle.spv_ids.specs.Definition.{IsDefinedAt, IsUsedAt, IsLocal}
use Rattle.spv_ids.specs.Order.{HasOpcode, Announces, IsInOrder, IsInScope, IsOrdered}
use Rattle.spv_ids.specs.Broken.{Broken}
use Rattle.spv_ids.specs.inner.Known.{IsFunctionOf}
use Rattle.spv_ids.specs.inner.Test.{announced_id}
use Rattle.spv_ids.specs.Sound.{IsSoundUse}
use Rattle.spv_ids.proofs.Defined.{one_of, defined}
use Rattle.spv_ids.proofs.Defining.{below_or, same_inst}
use Rattle.spv_ids.proofs.Homes.{of_moved}
use Rattle.spv_ids.proofs.Steps.{announces_id, announces_none, announces_moved}

-- whether an instruction before n announces the id
data Told (is : List PlainInst) (n x : ℕ) : Type 0 where
  yes : (m : ℕ) → m < n → Announces is m x → Told is n x
  not_yet : ((m : ℕ) → m < n → ¬ (Announces is m x)) → Told is n x

told_here : (is : List PlainInst) (n x : ℕ) (o : Option PlainInst) → slice_get is n ≡ o
    → Announces is n x ⊎ (¬ (Announces is n x))
told_here is n x None h = inr (λ a. let t = a.there in cc)
told_here is n x (Some i) h = by_id (announced_id i) refl where
  by_id : (q : Option ℕ) → announced_id i ≡ q → Announces is n x ⊎ (¬ (Announces is n x))
  by_id None e = inr (announces_none is n i h (sym e) x)
  by_id (Some y) e = elim (cases_eq y x) [
    | inl s ↦ inl (announces_id is n x i h (ap Some (sym s) ∙ sym e))
    | inr d ↦ inr (λ a. let b = announces_id is n y i h (sym e) in
        let f = same_inst is n a.inst b.inst a.there b.there in let g = rw f at a.named in let k = b.named in d cc)
  ]

told_more : (is : List PlainInst) (n x : ℕ) → Announces is n x ⊎ (¬ (Announces is n x)) → Told is n x
    → Told is (n + 1) x
told_more is n x (inl a) t = Told.yes n (omega arith) a
told_more is n x (inr h) (Told.yes m l a) = Told.yes m (omega arith) a
told_more is n x (inr h) (Told.not_yet f) =
    Told.not_yet (λ m l a. elim (below_or m n (omega arith)) [
      | inl b ↦ f m b a
      | inr e ↦
          h (announces_moved is x m n e a)
    ])

told_moved : (is : List PlainInst) (m n x : ℕ) → m ≡ n → Told is m x → Told is n x
told_moved is m n x e t = rw (← e) t

told : (is : List PlainInst) (n x : ℕ) → Told is n x
told is zero x = Told.not_yet (λ m l. absurd (omega arith))
told is (suc n) x = told_moved is (n + 1) (suc n) x (omega arith)
    (told_more is n x (told_here is n x (slice_get is n) refl) (told is n x))

not_in_order : (is : List PlainInst) (n x : ℕ) → ((m : ℕ) → m < n → ¬ (IsDefinedAt is x m))
    → (IsOfSection is n 11 → HasOpcode is n opcode.TYPE_FORWARD_POINTER → ⊥)
    → (IsOfSection is n 11 → HasOpcode is n opcode.TYPE_STRUCT → (m : ℕ) → m < n → ¬ (Announces is m x))
    → ¬ (IsInOrder is n x)
not_in_order is n x f g h (IsInOrder.lower m l d) = f m l d
not_in_order is n x f g h (IsInOrder.announced s o) = g s o
not_in_order is n x f g h (IsInOrder.member m s o l a) = h s o m l a

opcode_is : (is : List PlainInst) (n a : ℕ) (i : PlainInst) → slice_get is n ≡ Some i → HasOpcode is n a → i.opcode ≡ a
opcode_is is n a i h o = let e = same_inst is n o.inst i o.there h in let s = o.same in rw e at s

has_opcode : (is : List PlainInst) (n a : ℕ) (i : PlainInst) → slice_get is n ≡ Some i → i.opcode ≡ a → HasOpcode is n a
has_opcode is n a i h e = record { inst = i; there = h; same = e }

-- in order, or not
order_or : (is : List PlainInst) (n x : ℕ) (i : PlainInst) → slice_get is n ≡ Some i → (m : ℕ) → IsDefinedAt is x m
    → ((l : ℕ) → IsDefinedAt is x l → l ≡ m) → IsOrdered is n → IsInOrder is n x ⊎ (¬ (IsInOrder is n x))
order_or is n x i h m d only s = elim (cases_lt m n) [
  | inl l ↦ inl (IsInOrder.lower m l d)
  | inr l ↦
      let late : (k : ℕ) → k < n → ¬ (IsDefinedAt is x k) = λ k b e. let q = only k e in absurd (omega arith) in
      elim s [
        | inl seven ↦ inr (not_in_order is n x late
            (λ c o. let e = section_same is n 7 11 seven c in absurd (omega (arith, e)))
            (λ c o. let e = section_same is n 7 11 seven c in absurd (omega (arith, e))))
        | inr nine ↦ by_opcode late nine (cases_eq i.opcode opcode.TYPE_FORWARD_POINTER)
            (cases_eq i.opcode opcode.TYPE_STRUCT) (told is n x)
      ]
] where
  by_opcode : ((k : ℕ) → k < n → ¬ (IsDefinedAt is x k)) → IsOfSection is n 11
      → (i.opcode ≡ opcode.TYPE_FORWARD_POINTER) ⊎ (i.opcode ≡ opcode.TYPE_FORWARD_POINTER → ⊥)
      → (i.opcode ≡ opcode.TYPE_STRUCT) ⊎ (i.opcode ≡ opcode.TYPE_STRUCT → ⊥) → Told is n x
      → IsInOrder is n x ⊎ (¬ (IsInOrder is n x))
  by_opcode f c (inl e) b t = inl (IsInOrder.announced c (has_opcode is n opcode.TYPE_FORWARD_POINTER i h e))
  by_opcode f c (inr e) (inl b) (Told.yes k l a) =
      inl (IsInOrder.member k c (has_opcode is n opcode.TYPE_STRUCT i h b) l a)
  by_opcode f c (inr e) (inl b) (Told.not_yet g) =
      inr (not_in_order is n x f (λ q o. e (opcode_is is n opcode.TYPE_FORWARD_POINTER i h o)) (λ q o. g))
  by_opcode f c (inr e) (inr b) t =
      inr (not_in_order is n x f (λ q o. e (opcode_is is n opcode.TYPE_FORWARD_POINTER i h o))
      (λ q o k l. absurd (b (opcode_is is n opcode.TYPE_STRUCT i h o))))

-- in scope, or not
scope_or : (is : List PlainInst) (n x m : ℕ) (o : Option ℕ) → IsFunctionOf is n o
    → ((l : ℕ) → IsDefinedAt is x l → l ≡ m) → IsLocal is x → IsInScope is n x ⊎ (¬ (IsInScope is n x))
scope_or is n x m None h only l = inr (λ i. h i.function i.of)
scope_or is n x m (Some g) h only (f, t) = elim (cases_eq g f) [
  | inl e ↦ inl (record { function = f; of = rw e at h; local = t })
  | inr e ↦ inr (λ i.
      let a = only i.local.place i.local.defined in
      let b = only t.place t.defined in
      let q = function_same is t.place i.function f
      (of_moved is i.local.place t.place i.function (a ∙ sym b) i.local.of) t.of in
      let p = function_same is n g i.function h i.of in
      e (p ∙ q))
]

place_there : (places : List Place) (n : ℕ) → n < length places → (p : Place) × (slice_get places n ≡ Some p)
place_there places n l =
    let d : Place = record { section = 0; function = None; block = None; word = 0 } in
    (get_or places n d, slice_get-get_or places n d l)

settle : (A : Type 0) → A ⊎ (¬ A) → ¬ (¬ A) → A
settle A (inl a) n = a
settle A (inr h) n = absurd (n h)

pub sound_use : (G : Table) (bound : ℕ) (is : List PlainInst) (places : List Place) (n k x : ℕ) (r : Role)
    → IsPlan G is places → IsUnbroken (Broken G bound is) of_ids → IsUsedAt G is n k x r → IsSoundUse is n x
sound_use G bound is places n k x r p u w =
    let o = one_of G bound is n k x r u w (defined is x) in
    let b = slice_get_within is n w.inst w.there in
    let c = p.count in
    let q = place_there places n (omega arith) in
    record {
      definition = o.place;
      one = record { there = o.there; only = o.only };
      order = λ s. settle (IsInOrder is n x) (order_or is n x w.inst w.there o.place o.there o.only s)
          (λ h. u D4 n refl (Broken.not_in_order n k x r w s h));
      scope = λ s l. settle (IsInScope is n x)
          (scope_or is n x o.place q.0.function (p.place n q.0 q.1).function o.only l)
          (λ h. u D5 n refl (Broken.not_in_scope n k x r w s l h));
    }
