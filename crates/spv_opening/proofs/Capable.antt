-- What the rules on capabilities and entry points demand is kept where it is kept of the opened module.
use Rattle.std.proofs.Common.{◌≡◌, ◌≢◌, ◌∙◌, ◌⊎◌, inl, inr, ℕ, suc, List, [], ◌∷◌, Bool, true, false, nat_eq}
use Rattle.std.proofs.Common.{if◌then◌else◌, Option, Some, None, map, refl, sym, ap, subst, codes}
use Rattle.std.specs.Prelude.{filter_map, IfSome, IsSomeAnd, option_and_then}
use Rattle.std.specs.List.{AllByRecursion}
use Rattle.std.proofs.lemmas.Bool.{eqb-true}
use Rattle.spv_table.specs.declared.table.Entry.{Entry}
use Rattle.spv_table.specs.declared.table.Enumerant.{Enumerant}
use Rattle.spv_table.specs.Table.{Table, entry_of, enumerant_of, kind_of}
use Rattle.spv_table.specs.Implied.{Implied, capabilities_in}
use Rattle.spv_table.specs.Lookups.{value_named, number_named}
use Rattle.spv_module.specs.Operand.{Plain, OfType, Result, Id, Word, Value, Mask, PlainInst}
use Rattle.spv_module.specs.Spelling.{set_bits}
use Rattle.spv_module.specs.declared.opcode.TheConstants as opcode
use Rattle.spv_module.specs.declared.fault.Rule.{Rule}
use Rattle.spv_module.specs.declared.fault.Rule.TheVariants as rule
use Rattle.spv_extended.specs.declared.set.Set.{Set}
use Rattle.spv_extended.specs.declared.signature.Signature.{Signature}
use Rattle.spv_extended.specs.Facts.{signature_of, is_literal}
use Rattle.spv_extended.specs.Opened.{opened_inst, opened_operand, opened_operands, opened_from}
use Rattle.spv_ids.specs.Order.{HasOpcode}
use Rattle.spv_capabilities.specs.Capable.{Has, HasNamed, HasOneOf, IsCovered, IsCoveredMask, IsCoveredOperand}
use Rattle.spv_capabilities.specs.Capable.{IsCoveredValue, IsCapable, first_value, needs_of}
use Rattle.spv_capabilities.specs.Entry.{IsNamed, IsKernelFunction, IsSoundEntry, IsSoundMode, ReturnsVoid, called_by}
use Rattle.spv_capabilities.specs.Entry.{entered_by, imported_by}
use Rattle.spv_capabilities.specs.Memory.{IsModel}
use Rattle.spv_capabilities.specs.Keeps.{Keeps, KeepsEntries}
use Rattle.spv_opening.proofs.Alike.{Alike, Looks, alike_opened, back, defined, looks_back, looks_opened, other_at}
use Rattle.spv_opening.proofs.Alike.{told_same}
use Rattle.spv_opening.proofs.Spots.{definition}
use Rattle.spv_opening.proofs.Ids.{has_opcode}

-- What only instructions of another opcode tell.

pub told_by : (A : Type 0) (code : ℕ) (told : List Plain → Option A) → code ≢ opcode.EXT_INST → (i j : PlainInst)
    → Looks i j
    → (if nat_eq i.opcode code then told i.operands else None) ≡
    (if nat_eq j.opcode code then told j.operands else None)
told_by A code told never i j l = by (nat_eq i.opcode code) refl
  where
    by : (b : Bool) → nat_eq i.opcode code ≡ b
        → (if nat_eq i.opcode code then told i.operands else None) ≡
        (if nat_eq j.opcode code then told j.operands else None)
    by true e = ap (λ (k : PlainInst). if nat_eq k.opcode code then told k.operands else None)
        (l.other (λ call. never (sym (eqb-true i.opcode code e) ∙ call)))
    by false e =
        let f : nat_eq j.opcode code ≡ false = subst (λ n. nat_eq n code ≡ false) l.opcode e in
        ap (λ c. if c then told i.operands else None) e ∙ sym (ap (λ c. if c then told j.operands else None) f)

abbrev add : (A : Type 0) → Option A → List A → List A
add A None xs = xs
add A (Some x) xs = x ∷ xs

filtered : (A : Type 0) (p : PlainInst → Option A) (i : PlainInst) (is : List PlainInst)
    → filter_map p (i ∷ is) ≡ add A (p i) (filter_map p is)
filtered A p i is = by (p i) refl
  where
    by : (o : Option A) → p i ≡ o → filter_map p (i ∷ is) ≡ add A o (filter_map p is)
    by None e = rw e refl
    by (Some x) e = rw e refl

same_filtered : (A : Type 0) (p : PlainInst → Option A) → ((i j : PlainInst) → Looks i j → p i ≡ p j)
    → (is js : List PlainInst) → Alike is js → filter_map p is ≡ filter_map p js
same_filtered A p h _ _ Alike.none = refl
same_filtered A p h _ _ (Alike.more i j is js l a) =
    filtered A p i is ∙ (ap (λ o. add A o (filter_map p is)) (h i j l)
    ∙ (ap (add A (p j)) (same_filtered A p h is js a) ∙ sym (filtered A p j js)))

-- Capabilities.

has : (G : Table) (is js : List PlainInst) → Alike is js → (c : ℕ) → Has G is c → Has G js c
has G is js a c h =
    subst (λ (cs : List ℕ). Implied G cs c)
    (same_filtered ℕ (λ i. if nat_eq i.opcode opcode.CAPABILITY then first_value i.operands else None)
    (told_by ℕ opcode.CAPABILITY first_value (λ e. cc)) is js a) h

on_some : (A : Type 0) (P Q : A → Type 0) (o : Option A) → ((x : A) → P x → Q x) → IsSomeAnd o P → IsSomeAnd o Q
on_some A P Q (Some x) f h = f x h
on_some A P Q None f h = h

if_some : (A : Type 0) (P Q : A → Type 0) (o : Option A) → ((x : A) → P x → Q x) → IfSome o P → IfSome o Q
if_some A P Q (Some x) f h = f x h
if_some A P Q None f h = tt

all_by : (A : Type 0) (P Q : A → Type 0) (xs : List A) → ((x : A) → P x → Q x) → AllByRecursion P xs
    → AllByRecursion Q xs
all_by A P Q [] f h = tt
all_by A P Q (x ∷ xs) f h = (f x h.0, all_by A P Q xs f h.1)

named_one : (G : Table) (is js : List PlainInst) → Alike is js → (names : List (List ℕ)) → HasNamed G is names
    → HasNamed G js names
named_one G is js a [] h = h
named_one G is js a (name ∷ names) (inl h) =
    inl (on_some ℕ (Has G is) (Has G js) (value_named (capabilities_in G) name) (has G is js a) h)
named_one G is js a (name ∷ names) (inr h) = inr (named_one G is js a names h)

covered : (G : Table) (is js : List PlainInst) → Alike is js → (names : List (List ℕ)) → IsCovered G is names
    → IsCovered G js names
covered G is js a names (inl e) = inl e
covered G is js a names (inr h) = inr (named_one G is js a names h)

covered_value : (G : Table) (is js : List PlainInst) → Alike is js → (k v : ℕ) → IsCoveredValue G is k v
    → IsCoveredValue G js k v
covered_value G is js a k v h =
    if_some Enumerant (λ e. IsCovered G is e.capabilities) (λ e. IsCovered G js e.capabilities)
    (option_and_then (λ s. enumerant_of s.enumerants v) (kind_of G k)) (λ e c. covered G is js a e.capabilities c) h

covered_mask : (G : Table) (is js : List PlainInst) → Alike is js → (k m : ℕ) → IsCoveredMask G is k m
    → IsCoveredMask G js k m
unfolding IsCoveredMask
covered_mask G is js a k m h =
    all_by ℕ (IsCoveredValue G is k) (IsCoveredValue G js k) (set_bits m) (covered_value G is js a k) h

covered_operand : (G : Table) (is js : List PlainInst) → Alike is js → (o : Plain) → IsCoveredOperand G is o
    → IsCoveredOperand G js o
covered_operand G is js a (Value k v) h = λ never. covered_value G is js a k v (h never)
covered_operand G is js a (Mask k m) h = λ never. covered_mask G is js a k m (h never)
covered_operand G is js a _ h = tt

one_of : (G : Table) (is js : List PlainInst) → Alike is js → (cs : List ℕ) → HasOneOf G is cs → HasOneOf G js cs
one_of G is js a [] h = h
one_of G is js a (c ∷ cs) (inl h) = inl (has G is js a c h)
one_of G is js a (c ∷ cs) (inr h) = inr (one_of G is js a cs h)

-- The operands of an instruction are covered where those of the opened one are.

closed_operand : (G : Table) (is : List PlainInst) (s : Set) (o : Plain) → IsCoveredOperand G is (opened_operand s o)
    → IsCoveredOperand G is o
closed_operand G is s (Id x) h = tt
closed_operand G is s o h = h

closed_or : (G : Table) (is : List PlainInst) (s : Set) (o : Plain) (b : Bool)
    → IsCoveredOperand G is (if b then o else opened_operand s o) → IsCoveredOperand G is o
closed_or G is s o true h = h
closed_or G is s o false h = closed_operand G is s o h

closed_from : (G : Table) (is : List PlainInst) (s : Set) (g : Signature) (place : ℕ) (os : List Plain)
    → AllByRecursion (IsCoveredOperand G is) (opened_from s g place os)
    → AllByRecursion (IsCoveredOperand G is) os
closed_from G is s g place [] h = tt
closed_from G is s g place (o ∷ os) h =
    (closed_or G is s o (is_literal g place) h.0, closed_from G is s g (suc place) os h.1)

closed_operands : (G : Table) (is : List PlainInst) (sets : ℕ → Set) (os : List Plain)
    → AllByRecursion (IsCoveredOperand G is) (opened_operands sets os) → AllByRecursion (IsCoveredOperand G is) os
closed_operands G is sets (OfType t ∷ Result x ∷ Id s ∷ Word n ∷ os) h =
    (h.0, (h.1.0, (h.1.1.0, (h.1.1.1.0, closed_from G is (sets s) (signature_of (sets s) n) 0 os h.1.1.1.1))))
closed_operands G is sets os h = h

closed_inst : (G : Table) (is : List PlainInst) (sets : ℕ → Set) (i : PlainInst)
    → AllByRecursion (IsCoveredOperand G is) (opened_inst sets i).operands
    → AllByRecursion (IsCoveredOperand G is) i.operands
closed_inst G is sets i = by (nat_eq i.opcode opcode.EXT_INST)
  where
    by : (b : Bool) → AllByRecursion (IsCoveredOperand G is)
        (if b then record { opcode = i.opcode; operands = opened_operands sets i.operands } else i).operands
        → AllByRecursion (IsCoveredOperand G is) i.operands
    by true h = closed_operands G is sets i.operands h
    by false h = h

needs_nothing : (i j : PlainInst) → Looks i j → needs_of i ≡ needs_of j
needs_nothing = told_same (List (List ℕ)) needs_of [] (λ k call. rw call refl)

-- Entry points.

is_named : (names : PlainInst → Option ℕ) → ((i j : PlainInst) → Looks i j → names i ≡ names j)
    → (is js : List PlainInst) → Alike is js → (f : ℕ) → IsNamed names is f → IsNamed names js f
is_named names same is js a f h =
    let o = other_at is js a h.place h.inst h.there in
    record {
      place = h.place;
      inst = o.inst;
      there = o.there;
      id = h.id;
      named = sym (same h.inst o.inst o.looks)
          ∙ h.named;
      defined = defined is js a h.id f h.defined;
    }

returns_void : (is js : List PlainInst) → Alike is js → (f : ℕ) → ReturnsVoid is f → ReturnsVoid js f
returns_void is js a f r =
    let o = other_at is js a f r.inst r.there in
    record {
      inst = o.inst;
      there = o.there;
      type = r.type;
      returns = sym o.looks.type ∙ r.returns;
      place = r.place;
      defined = defined is js a r.type r.place r.defined;
      void = has_opcode is js a r.place opcode.TYPE_VOID r.void;
    }

same_called : (i j : PlainInst) → Looks i j → called_by i ≡ called_by j
same_called = told_by ℕ opcode.FUNCTION_CALL _ (λ e. cc)

same_entered : (i j : PlainInst) → Looks i j → entered_by i ≡ entered_by j
same_entered = told_by ℕ opcode.ENTRY_POINT _ (λ e. cc)

same_imported : (l : Option ℕ) (i j : PlainInst) → Looks i j → imported_by l i ≡ imported_by l j
same_imported l = told_by ℕ opcode.DECORATE _ (λ e. cc)

kernel_function : (is js : List PlainInst) → Alike is js → (x : ℕ) → IsKernelFunction is x → IsKernelFunction js x
kernel_function is js a x k = record {
  function = k.function;
  defined = defined is js a x k.function k.defined;
  definition = definition is js a k.function k.definition;
  void = returns_void is js a k.function k.void;
  uncalled = λ c. k.uncalled (is_named called_by same_called js is (back is js a) k.function c);
}

sound_entry : (is js : List PlainInst) → Alike is js → (os : List Plain) → IsSoundEntry is os → IsSoundEntry js os
sound_entry is js a (Value k m ∷ Id x ∷ os) h = (h.0, kernel_function is js a x h.1)
sound_entry is js a _ h = absurd h

sound_mode : (is js : List PlainInst) → Alike is js → (os : List Plain) → IsSoundMode is os → IsSoundMode js os
sound_mode is js a (Id x ∷ os) (f, d, n) = (f, defined is js a x f d, is_named entered_by same_entered is js a f n)
sound_mode is js a _ h = absurd h

-- of an instruction that is no OpExtInst
entries : (G : Table) (is js : List PlainInst) → Alike is js → (n : ℕ) (i j : PlainInst) → Looks i j
    → KeepsEntries G is n i → KeepsEntries G js n j
entries G is js a n i j l k = record {
  entry = λ e. subst (λ (x : PlainInst). IsSoundEntry js x.operands)
      (l.other (λ call. let never : opcode.ENTRY_POINT ≡ opcode.EXT_INST = sym e ∙ (sym l.opcode ∙ call) in cc))
      (sound_entry is js a i.operands (k.entry (l.opcode ∙ e)));
  mode = λ e. subst (λ (x : PlainInst). IsSoundMode js x.operands)
      (l.other (λ call. elim e [
        | inl q ↦ (let never : opcode.EXECUTION_MODE ≡ opcode.EXT_INST = sym q ∙ (sym l.opcode ∙ call) in cc)
        | inr q ↦ (let never : opcode.EXECUTION_MODE_ID ≡ opcode.EXT_INST = sym q ∙ (sym l.opcode ∙ call) in cc)
      ]))
      (sound_mode is js a i.operands
      (k.mode (elim e [ inl q ↦ inl (l.opcode ∙ q) | inr q ↦ inr (l.opcode ∙ q) ])));
  linkage = λ e.
      let b = back is js a in
      let m = number_named G (codes "LinkageType") in
      let both = k.linkage (l.opcode ∙ e) in (
        λ x d. both.0 (is_named (imported_by m) (same_imported m) js is b n x) (definition js is b n d),
        λ never. is_named (imported_by m) (same_imported m) is js a n (both.1 (λ d. never (definition is js a n d))),
      );
}

entry_somewhere : (G : Table) (is js : List PlainInst) → Alike is js
    → ((p : ℕ) × HasOpcode is p opcode.ENTRY_POINT) ⊎ Has G is 5
    → ((p : ℕ) × HasOpcode js p opcode.ENTRY_POINT) ⊎ Has G js 5
entry_somewhere G is js a (inl (p, h)) = inl (p, has_opcode is js a p opcode.ENTRY_POINT h)
entry_somewhere G is js a (inr h) = inr (has G is js a 5 h)

-- What is kept of a module at an instruction is kept at the alike one of an alike module.

keeps_kernel : (G : Table) (is js : List PlainInst) → Alike is js → (Has G is 6 × (¬ (Has G is 1)))
    → Has G js 6 × (¬ (Has G js 1))
keeps_kernel G is js a h = (has G is js a 6 h.0, λ c. h.1 (has G js is (back is js a) 1 c))

at_model : (P Q : List Plain → Type 0) (i j : PlainInst) → Looks i j → ((os : List Plain) → P os → Q os)
    → (i.opcode ≡ opcode.MEMORY_MODEL → P i.operands) → j.opcode ≡ opcode.MEMORY_MODEL → Q j.operands
at_model P Q i j l f k e =
    subst (λ (x : PlainInst). Q x.operands)
    (l.other (λ call. let never : opcode.MEMORY_MODEL ≡ opcode.EXT_INST = sym e ∙ (sym l.opcode ∙ call) in cc))
    (f i.operands (k (l.opcode ∙ e)))

capable : (G : Table) (is js : List PlainInst) → Alike is js → (i j : PlainInst) → Looks i j
    → (AllByRecursion (IsCoveredOperand G js) i.operands → AllByRecursion (IsCoveredOperand G js) j.operands)
    → IsCapable G is i → IsCapable G js j
capable G is js a i j l closed k = record {
  entry = subst (λ code. IfSome (entry_of G code) (λ e. IsCovered G js e.capabilities)) l.opcode
      (if_some Entry (λ e. IsCovered G is e.capabilities) (λ e. IsCovered G js e.capabilities) (entry_of G i.opcode)
      (λ e c. covered G is js a e.capabilities c) k.entry);
  operands = closed (all_by Plain (IsCoveredOperand G is) (IsCoveredOperand G js) i.operands
      (covered_operand G is js a) k.operands);
  needs = subst (AllByRecursion (HasOneOf G js)) (needs_nothing i j l)
      (all_by (List ℕ) (HasOneOf G is) (HasOneOf G js) (needs_of i) (one_of G is js a) k.needs);
}

kept_by : (G : Table) (is js : List PlainInst) → Alike is js → (r : Rule) (n : ℕ) (i j : PlainInst) → Looks i j
    → (AllByRecursion (IsCoveredOperand G js) i.operands → AllByRecursion (IsCoveredOperand G js) j.operands)
    → Keeps G is r n i → Keeps G js r n j
kept_by G is js a rule.C1 n i j l closed k = λ e. keeps_kernel G is js a (k (l.opcode ∙ e))
kept_by G is js a rule.C2 n i j l closed k = capable G is js a i j l closed k
kept_by G is js a rule.M1 n i j l closed k = at_model IsModel IsModel i j l (λ os h. h) k
kept_by G is js a rule.E1 n i j l closed k = λ e. entry_somewhere G is js a (k (l.opcode ∙ e))
kept_by G is js a rule.E2 n i j l closed k = entries G is js a n i j l k
kept_by G is js a _ n i j l closed k = tt

pub capabilities_kept : (G : Table) (sets : ℕ → Set) (is : List PlainInst) (r : Rule) (n : ℕ) (i : PlainInst)
    → Keeps G (map (opened_inst sets) is) r n (opened_inst sets i) → Keeps G is r n i
capabilities_kept G sets is r n i k =
    let js = map (opened_inst sets) is in
    let l = looks_back i (opened_inst sets i) (looks_opened sets i) in
    kept_by G js is (back is js (alike_opened sets is)) r n (opened_inst sets i) i l (closed_inst G is sets i) k
