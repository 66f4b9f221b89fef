-- What the rules C1, C2, M1, E1 and E2 demand: decided.
use Rattle.std.proofs.Common.{◌≡◌, ◌⊎◌, ℕ, zero, suc, List, [], ◌∷◌, Option, Some, None, refl, sym, subst, inl, inr}
use Rattle.std.proofs.Common.{length, arith}
use Rattle.std.specs.Prelude.{Contains, filter_map, slice_get, codes, nat_eq, option_and_then}
use Rattle.std.proofs.lemmas.Bool.{cases_eq, cases_Bool, eqb-true}
use Rattle.std.proofs.lemmas.Option.{slice_get_within}
use Rattle.spv_table.specs.declared.table.Enumerant.{Enumerant}
use Rattle.spv_table.specs.Table.{Table, kind_of, entry_of, enumerant_of}
use Rattle.spv_table.specs.Lookups.{value_named, number_named}
use Rattle.spv_table.specs.Implied.{Lists, CapabilityChain, Implied, capabilities_in}
use Rattle.spv_module.specs.Operand.{Plain, Id, Value, Mask, PlainInst, type_in}
use Rattle.spv_module.specs.Spelling.{set_bits}
use Rattle.spv_module.specs.declared.fault.Rule.{Rule}
use Rattle.spv_module.specs.declared.fault.Rule.TheVariants as rule
use Rattle.spv_layout.specs.Place.{IsDefinition}
use Rattle.spv_ids.specs.Definition.{IsDefinedAt}
use Rattle.spv_ids.specs.Order.{HasOpcode}
use Rattle.spv_capabilities.specs.Capable.{Has, HasNamed, IsCovered, IsCoveredValue, IsCoveredMask, IsCoveredOperand}
use Rattle.spv_capabilities.specs.Capable.{needs_of, HasOneOf, IsCapable}
use Rattle.spv_capabilities.specs.Asked.{IsCoveredEntry, IsOtherKind}
use Rattle.spv_capabilities.specs.inner.Capable.{declared_by, IsKernel}
use Rattle.spv_capabilities.specs.Memory.{IsModel}
use Rattle.spv_capabilities.specs.Entry.{IsNamed, ReturnsVoid, IsKernelFunction, IsSoundEntry, IsSoundMode, called_by}
use Rattle.spv_capabilities.specs.Entry.{entered_by, imported_by}
use Rattle.spv_capabilities.specs.Asked.{IsImported, HasEntry}
use Rattle.spv_capabilities.specs.inner.Entry.{IsCalled, IsEntered, IsSoundLinkage}
use Rattle.spv_capabilities.specs.Keeps.{KeepsEntries, Keeps}
use Rattle.spv_check.proofs.Decided.{Decided, anew, both, three, either, opposite, given, some_and, matched, pinned}
use Rattle.spv_check.proofs.Decided.{number_same, numbers_same, list_same, all_or_not, somewhere}
use Rattle.spv_check.proofs.Standing.{defined_or_not, opcode_or_not, defined_with, definition_or_not}

-- an element of a list of which something holds

module _ {A : Type 0} where
  contains_tail : (y x : A) (xs : List A) → Contains xs x → Contains (y ∷ xs) x
  contains_tail y x xs (k, lt, e) = (suc k, omega (arith, lt), e)

  contains_cons : (y x : A) (xs : List A) → Contains (y ∷ xs) x → (y ≡ x) ⊎ Contains xs x
  contains_cons y x xs (zero, lt, e) = inl e
  contains_cons y x xs (suc k, lt, e) = inr (k, omega (arith, lt), e)

  contains_none : (x : A) → ¬ (Contains [] x)
  contains_none x (k, lt, e) = omega (arith, lt)

  contained : (P : A → Type 0) → ((x : A) → Decided (P x)) → (xs : List A) → Decided ((x : A) × Contains xs x × P x)
  contained P d [] = inr (λ h. contains_none h.0 h.1)
  contained P d (x ∷ xs) = elim (d x) [
    | inl p ↦ inl (x, (0, omega arith, refl), p)
    | inr none ↦ anew (λ h. (h.0, contains_tail x h.0 xs h.1, h.2))
        (λ h. elim (contains_cons x h.0 xs h.1) [ inl e ↦ absurd (none (subst P (sym e) h.2)) | inr t ↦ (h.0, t, h.2) ])
        (contained P d xs)
  ]

-- which capabilities a chain leads to: chains by way of some capabilities alone, one after another

lists_or_not : (G : Table) (a b : ℕ) → Decided (Lists G a b)
lists_or_not G a b = anew (λ h. record { enumerant = h.0; is = h.1; name = h.2.0; listed = h.2.1; names = h.2.2 })
    (λ l. (l.enumerant, l.is, (l.name, l.listed, l.names)))
    (pinned (enumerant_of (capabilities_in G) a)
    (λ e. (name : List ℕ) × Contains e.capabilities name × (value_named (capabilities_in G) name ≡ Some b))
    (λ e. contained (λ (name : List ℕ). value_named (capabilities_in G) name ≡ Some b)
    (λ name. number_same (value_named (capabilities_in G) name) (Some b)) e.capabilities))

abbrev ByWay : Table → List ℕ → ℕ → ℕ → Type 0
ByWay G [] a c = (a ≡ c) ⊎ Lists G a c
ByWay G (k ∷ ks) a c = ByWay G ks a c ⊎ (ByWay G ks a k × ByWay G ks k c)

by_way_or_not : (G : Table) (ks : List ℕ) (a c : ℕ) → Decided (ByWay G ks a c)
by_way_or_not G [] a c = either (cases_eq a c) (lists_or_not G a c)
by_way_or_not G (k ∷ ks) a c = either (by_way_or_not G ks a c) (both (by_way_or_not G ks a k) (by_way_or_not G ks k c))

chain_on : (G : Table) (a b c : ℕ) → CapabilityChain G a b → CapabilityChain G b c → CapabilityChain G a c
chain_on G _ _ c (CapabilityChain.here a) q = q
chain_on G _ _ c (CapabilityChain.step a b d l r) q = CapabilityChain.step a b c l (chain_on G b d c r q)

of_way : (G : Table) (ks : List ℕ) (a c : ℕ) → ByWay G ks a c → CapabilityChain G a c
of_way G [] a c (inl e) = subst (λ (k : ℕ). CapabilityChain G a k) e (CapabilityChain.here a)
of_way G [] a c (inr l) = CapabilityChain.step a c c l (CapabilityChain.here c)
of_way G (k ∷ ks) a c (inl b) = of_way G ks a c b
of_way G (k ∷ ks) a c (inr p) = chain_on G a k c (of_way G ks a k p.0) (of_way G ks k c p.1)

straight : (G : Table) (ks : List ℕ) (a c : ℕ) → (a ≡ c) ⊎ Lists G a c → ByWay G ks a c
straight G [] a c h = h
straight G (k ∷ ks) a c h = inl (straight G ks a c h)

abbrev IsMember : List ℕ → ℕ → Type 0
IsMember [] k = ⊥
IsMember (j ∷ ks) k = (j ≡ k) ⊎ IsMember ks k

leaves : (G : Table) (ks : List ℕ) (j k a : ℕ) → j ≡ k → ByWay G (j ∷ ks) a k → ByWay G ks a j
leaves G ks j k a e (inl p) = subst (λ (x : ℕ). ByWay G ks a x) (sym e) p
leaves G ks j k a e (inr p) = p.0

comes : (G : Table) (ks : List ℕ) (j k c : ℕ) → j ≡ k → ByWay G (j ∷ ks) k c → ByWay G ks j c
comes G ks j k c e (inl p) = subst (λ (x : ℕ). ByWay G ks x c) (sym e) p
comes G ks j k c e (inr p) = p.1

through : (G : Table) (ks : List ℕ) (k a c : ℕ) → IsMember ks k → ByWay G ks a k → ByWay G ks k c → ByWay G ks a c
through G [] k a c m p q = absurd m
through G (j ∷ ks) k a c (inl e) p q = inr (leaves G ks j k a e p, comes G ks j k c e q)
through G (j ∷ ks) k a c (inr m) (inl p) (inl q) = inl (through G ks k a c m p q)
through G (j ∷ ks) k a c (inr m) (inl p) (inr q) = inr (through G ks k a j m p q.0, q.1)
through G (j ∷ ks) k a c (inr m) (inr p) (inl q) = inr (p.0, through G ks k j c m p.1 q)
through G (j ∷ ks) k a c (inr m) (inr p) (inr q) = inr (p.0, q.1)

abbrev values : List Enumerant → List ℕ
values [] = []
values (e ∷ es) = e.value ∷ values es

value_of : (es : List Enumerant) (a : ℕ) (e : Enumerant) → enumerant_of es a ≡ Some e → IsMember (values es) a
value_of [] a e h = absurd (let no : None ≡ Some e = h in cc)
value_of (d ∷ es) a e h = elim
    (cases_Bool (nat_eq d.value a)) [ inl t ↦ inl (eqb-true d.value a t) | inr f ↦ inr (value_of es a e (rw f at h)) ]

on_from : (G : Table) (b c : ℕ) → CapabilityChain G b c → (b ≡ c) ⊎ IsMember (values (capabilities_in G)) b
on_from G _ _ (CapabilityChain.here a) = inl refl
on_from G _ _ (CapabilityChain.step a b c l r) = inr (value_of (capabilities_in G) a l.enumerant l.is)

by_chain : (G : Table) (a c : ℕ) → CapabilityChain G a c → ByWay G (values (capabilities_in G)) a c
by_chain G _ _ (CapabilityChain.here a) = straight G (values (capabilities_in G)) a a (inl refl)
by_chain G _ _ (CapabilityChain.step a b c l r) = elim (on_from G b c r) [
  | inl e ↦ subst (λ (x : ℕ). ByWay G (values (capabilities_in G)) a x) e
      (straight G (values (capabilities_in G)) a b (inr l))
  | inr m ↦ through G (values (capabilities_in G)) b a c m (straight G (values (capabilities_in G)) a b (inr l))
      (by_chain G b c r)
]

chain_or_not : (G : Table) (a c : ℕ) → Decided (CapabilityChain G a c)
chain_or_not G a c = anew (of_way G (values (capabilities_in G)) a c) (by_chain G a c)
    (by_way_or_not G (values (capabilities_in G)) a c)

pub implied_or_not : (G : Table) (declared : List ℕ) (c : ℕ) → Decided (Implied G declared c)
implied_or_not G declared c = anew (λ h. record { first = h.0; declares = h.1; chain = h.2 })
    (λ i. (i.first, i.declares, i.chain))
    (contained (λ (a : ℕ). CapabilityChain G a c) (λ a. chain_or_not G a c) declared)

has_or_not : (G : Table) (is : List PlainInst) (c : ℕ) → Decided (Has G is c)
has_or_not G is c = implied_or_not G (filter_map declared_by is) c

-- C1 and C2

kernel_or_not : (G : Table) (is : List PlainInst) → Decided (IsKernel G is)
kernel_or_not G is = both (has_or_not G is 6) (opposite (has_or_not G is 1))

named_or_not : (G : Table) (is : List PlainInst) (names : List (List ℕ)) → Decided (HasNamed G is names)
named_or_not G is [] = inr (λ h. h)
named_or_not G is (name ∷ names) = either
    (some_and (value_named (capabilities_in G) name) (Has G is) (has_or_not G is)) (named_or_not G is names)

covered_or_not : (G : Table) (is : List PlainInst) (names : List (List ℕ)) → Decided (IsCovered G is names)
covered_or_not G is names = either (list_same numbers_same names []) (named_or_not G is names)

covered_entry : (G : Table) (is : List PlainInst) (n : ℕ) → Decided (IsCoveredEntry G is n)
covered_entry G is n = matched (entry_of G n) (Unit {0}) (λ e. IsCovered G is e.capabilities) (inl tt)
    (λ e. covered_or_not G is e.capabilities)

covered_value : (G : Table) (is : List PlainInst) (k v : ℕ) → Decided (IsCoveredValue G is k v)
covered_value G is k v = matched (option_and_then (λ s. enumerant_of s.enumerants v) (kind_of G k)) (Unit {0})
    (λ e. IsCovered G is e.capabilities) (inl tt) (λ e. covered_or_not G is e.capabilities)

covered_mask : (G : Table) (is : List PlainInst) (k m : ℕ) → Decided (IsCoveredMask G is k m)
unfolding IsCoveredMask
covered_mask G is k m = all_or_not (IsCoveredValue G is k) (covered_value G is k) (set_bits m)

other_kind : (G : Table) (k : ℕ) → Decided (IsOtherKind G k)
other_kind G k = opposite (number_same (number_named G (codes "Capability")) (Some k))

covered_operand : (G : Table) (is : List PlainInst) (o : Plain) → Decided (IsCoveredOperand G is o)
covered_operand G is (Value k v) = given (other_kind G k) (covered_value G is k v)
covered_operand G is (Mask k m) = given (other_kind G k) (covered_mask G is k m)
covered_operand G is _ = inl tt

one_of_or_not : (G : Table) (is : List PlainInst) (cs : List ℕ) → Decided (HasOneOf G is cs)
one_of_or_not G is [] = inr (λ h. h)
one_of_or_not G is (c ∷ cs) = either (has_or_not G is c) (one_of_or_not G is cs)

capable_or_not : (G : Table) (is : List PlainInst) (i : PlainInst) → Decided (IsCapable G is i)
capable_or_not G is i = anew (λ h. record { entry = h.0; operands = h.1; needs = h.2 })
    (λ c. (c.entry, c.operands, c.needs))
    (three (covered_entry G is i.opcode) (all_or_not (IsCoveredOperand G is) (covered_operand G is) i.operands)
    (all_or_not (HasOneOf G is) (one_of_or_not G is) (needs_of i)))

-- M1

model_or_not : (os : List Plain) → Decided (IsModel os)
model_or_not (Value k a ∷ Value l m ∷ []) = both (either (cases_eq a 1) (cases_eq a 2)) (cases_eq m 2)
model_or_not _ = inr (λ h. h)

-- E1 and E2

entry_or_not : (G : Table) (is : List PlainInst) → Decided (HasEntry G is)
entry_or_not G is = either (somewhere (λ (n : ℕ). HasOpcode is n 15) (λ n. opcode_or_not is n 15) (length is)
    (λ n h. slice_get_within is n h.inst h.there)) (has_or_not G is 5)

names_or_not : (names : PlainInst → Option ℕ) (is : List PlainInst) (f : ℕ) → Decided (IsNamed names is f)
names_or_not names is f = anew
    (λ h. record { place = h.0; inst = h.1.0; there = h.1.1; id = h.1.2.0; named = h.1.2.1; defined = h.1.2.2 })
    (λ m. (m.place, (m.inst, m.there, (m.id, m.named, m.defined))))
    (somewhere (λ (n : ℕ). (i : PlainInst) × (slice_get is n ≡ Some i) ×
    ((x : ℕ) × (names i ≡ Some x) × IsDefinedAt is x f))
    (λ n. pinned (slice_get is n) (λ i. (x : ℕ) × (names i ≡ Some x) × IsDefinedAt is x f)
    (λ i. pinned (names i) (λ x. IsDefinedAt is x f) (λ x. defined_or_not is x f)))
    (length is) (λ n h. slice_get_within is n h.0 h.1))

void_function : (is : List PlainInst) (f : ℕ) → Decided (ReturnsVoid is f)
void_function is f = anew
    (λ h. record {
      inst = h.0;
      there = h.1;
      type = h.2.0;
      returns = h.2.1;
      place = h.2.2.0;
      defined = h.2.2.1.0;
      void = h.2.2.1.1;
    })
    (λ r. (r.inst, r.there, (r.type, r.returns, (r.place, (r.defined, r.void)))))
    (pinned (slice_get is f) (λ i. (t : ℕ) × (type_in i.operands ≡ Some t) ×
    ((n : ℕ) × (IsDefinedAt is t n × HasOpcode is n 19)))
    (λ i. pinned (type_in i.operands) (λ t. (n : ℕ) × (IsDefinedAt is t n × HasOpcode is n 19))
    (λ t. defined_with is t (λ n. HasOpcode is n 19) (λ n. opcode_or_not is n 19))))

kernel_function : (is : List PlainInst) (x : ℕ) → Decided (IsKernelFunction is x)
kernel_function is x = anew
    (λ h. record { function = h.0; defined = h.1.0; definition = h.1.1.0; void = h.1.1.1; uncalled = h.1.1.2 })
    (λ k. (k.function, (k.defined, (k.definition, k.void, k.uncalled))))
    (defined_with is x (λ f. IsDefinition is f × ReturnsVoid is f × ¬ (IsCalled is f))
    (λ f. three (definition_or_not is f) (void_function is f) (opposite (names_or_not called_by is f))))

sound_entry : (is : List PlainInst) (os : List Plain) → Decided (IsSoundEntry is os)
sound_entry is (Value k m ∷ Id x ∷ os) = both (cases_eq m 6) (kernel_function is x)
sound_entry is _ = inr (λ h. h)

sound_mode : (is : List PlainInst) (os : List Plain) → Decided (IsSoundMode is os)
sound_mode is (Id x ∷ os) = anew (λ h. (h.0, h.1.0, h.1.1)) (λ h. (h.0, (h.1, h.2)))
    (defined_with is x (λ f. IsEntered is f) (λ f. names_or_not entered_by is f))
sound_mode is _ = inr (λ h. h)

imported_or_not : (G : Table) (is : List PlainInst) (f : ℕ) → Decided (IsImported G is f)
imported_or_not G is f = names_or_not (imported_by (number_named G (codes "LinkageType"))) is f

sound_linkage : (G : Table) (is : List PlainInst) (f : ℕ) → Decided (IsSoundLinkage G is f)
sound_linkage G is f = both (given (imported_or_not G is f) (opposite (definition_or_not is f)))
    (given (opposite (definition_or_not is f)) (imported_or_not G is f))

entries_or_not : (G : Table) (is : List PlainInst) (n : ℕ) (i : PlainInst) → Decided (KeepsEntries G is n i)
entries_or_not G is n i = anew (λ h. record { entry = h.0; mode = h.1; linkage = h.2 })
    (λ k. (k.entry, k.mode, k.linkage))
    (three (given (cases_eq i.opcode 15) (sound_entry is i.operands))
    (given (either (cases_eq i.opcode 16) (cases_eq i.opcode 331)) (sound_mode is i.operands)) (given (cases_eq i.opcode 54) (sound_linkage G is n)))

pub capability_or_not : (G : Table) (is : List PlainInst) (r : Rule) (n : ℕ) (i : PlainInst)
    → Decided (Keeps G is r n i)
capability_or_not G is rule.C1 n i = given (cases_eq i.opcode 14) (kernel_or_not G is)
capability_or_not G is rule.C2 n i = capable_or_not G is i
capability_or_not G is rule.M1 n i = given (cases_eq i.opcode 14) (model_or_not i.operands)
capability_or_not G is rule.E1 n i = given (cases_eq i.opcode 14) (entry_or_not G is)
capability_or_not G is rule.E2 n i = entries_or_not G is n i
capability_or_not G is _ n i = inl tt
