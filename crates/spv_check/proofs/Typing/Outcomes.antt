-- The worked examples of what `type_check` answers.
use Rattle.std.proofs.Common.{◌≡◌, ◌≤◌, ℕ, zero, suc, List, [], ◌∷◌, Some, true, false, refl, ap, subst, inl, inr}
use Rattle.std.proofs.Common.{arith, lit≤}
use Rattle.std.specs.Prelude.{slice_get}
use Rattle.spv_table.specs.Table.{Table}
use Rattle.spv_module.specs.Operand.{OfType, Result, Word, Number, Value, PlainInst}
use Rattle.spv_module.specs.declared.fault.Rule.{Rule}
use Rattle.spv_module.specs.declared.fault.Rule.TheVariants.{C1, M1}
use Rattle.spv_module.specs.declared.fault.Stop.TheVariants.{Fault}
use Rattle.spv_module.specs.declared.opcode.TheConstants as opcode
use Rattle.spv_layout.specs.declared.form.Role.{Role}
use Rattle.spv_layout.specs.declared.form.Role.TheVariants as role
use Rattle.spv_layout.specs.Shape.{IsUse}
use Rattle.spv_type_forms.specs.Example.{inst}
use Rattle.spv_type_rules.specs.declared.roles.asked.Asked.{Asked}
use Rattle.spv_type_rules.specs.roles.Role.{Plays}
use Rattle.spv_type_rules.specs.roles.Outcome.{AreInRole}
use Rattle.spv_type_rules.proofs.lemmas.roles.Casting.{unbroken}
use Rattle.spv_type_rules.proofs.lemmas.roles.Worked.{played}
use Rattle.spv_capabilities.specs.Capable.{Has}
use Rattle.spv_capabilities.specs.inner.Subject.{Subject}
use Rattle.spv_capabilities.specs.Keeps as capabilities
use Rattle.spv_capabilities.proofs.Firsts as capable
use Rattle.spv_ops.specs.Table.{lines}
use Rattle.spv_ops.specs.Typed.{IsTyped}
use Rattle.spv_type_rules.specs.Keeps as rules
use Rattle.spv_type_rules.specs.Repeat.{Repeats}
use Rattle.spv_check.proofs.Typing.Operations.{all_typed}
use Rattle.spv_check.specs.types.Broken.{Broken}
use Rattle.spv_check.specs.types.Example.{logical, numbers, table}
use Rattle.spv_check.specs.types.Outcome.{AreTypes, IsRefusal}
use Rattle.spv_check.specs.inner.Pass.{IsFirstFault}
use Rattle.spv_check.proofs.Typing.Firsts.{capable_fault, fault_first, none_kept, roles_unbroken}

abbrev int : PlainInst
int = inst opcode.TYPE_INT (Result 1 ∷ Word 32 ∷ Word 0 ∷ [])

abbrev seven : PlainInst
seven = inst opcode.CONSTANT (OfType 1 ∷ Result 2 ∷ Number 7 0 1 ∷ [])

abbrev model : PlainInst
model = inst opcode.MEMORY_MODEL (Value 3 0 ∷ Value 4 2 ∷ [])

-- nothing more is asked of ids than types
abbrev types_alone : Asked
types_alone = record { first = role.Any; others = role.Any; masked = role.Any }

-- A type and a constant: each use is in its role.

numbers_used : (G : Table) (n k x : ℕ) (r : Role) (i : PlainInst) → slice_get numbers n ≡ Some i → IsUse G i k x r
    → Plays numbers r x
numbers_used G zero k x r i at u =
    let same : i ≡ int = cc in
    played G numbers int types_alone refl (tt, (tt, (tt, tt))) k x r (subst (λ (j : PlainInst). IsUse G j k x r) same u)
numbers_used G (suc zero) k x r i at u =
    let same : i ≡ seven = cc in
    played G numbers seven types_alone refl (inl (lit≤ tt, lit≤ tt), (tt, (tt, tt))) k x r
    (subst (λ (j : PlainInst). IsUse G j k x r) same u)
numbers_used G (suc (suc n)) k x r i at u = cc

numbers_in_role : (G : Table) → AreInRole G numbers
numbers_in_role G = record { each = λ n k x r u. numbers_used G n k x r u.inst u.there u.used }

-- and each rule is kept.

int_capable : (r : Rule) (n : ℕ) → capabilities.Keeps table numbers r n int
int_capable r n =
    capable.all_kept table numbers n int
    (λ e. absurd (omega (arith, e)))
    (record { entry = tt; operands = (tt, (tt, (tt, tt))); needs = tt })
    (λ e. absurd (omega (arith, e)))
    (λ e. absurd (omega (arith, e)))
    (record {
      entry = λ e. absurd (omega (arith, e));
      mode = λ e. absurd (elim e [ inl q ↦ omega (arith, q) | inr q ↦ omega (arith, q) ]);
      linkage = λ e. absurd (omega (arith, e));
    })
    r

seven_capable : (r : Rule) (n : ℕ) → capabilities.Keeps table numbers r n seven
seven_capable r n =
    capable.all_kept table numbers n seven
    (λ e. absurd (omega (arith, e)))
    (record { entry = tt; operands = (tt, (tt, (tt, tt))); needs = tt })
    (λ e. absurd (omega (arith, e)))
    (λ e. absurd (omega (arith, e)))
    (record {
      entry = λ e. absurd (omega (arith, e));
      mode = λ e. absurd (elim e [ inl q ↦ omega (arith, q) | inr q ↦ omega (arith, q) ]);
      linkage = λ e. absurd (omega (arith, e));
    })
    r

first_alone : ¬ (Repeats numbers 0 int)
first_alone r = let l = r.earlier in absurd (omega (arith, l))

int_typed : (r : Rule) → rules.Keeps (IsTyped table numbers) numbers r 0 int
unfolding lines
int_typed r =
    all_typed table numbers 0 int (inr (inr (inl refl)), refl) first_alone tt (inl refl)
    (record { function = λ e. absurd (omega (arith, e)); parameter = λ e. absurd (omega (arith, e)) })
    (record { nothing = λ e. absurd (omega (arith, e)); value = λ e. absurd (omega (arith, e)) })
    (λ e. absurd (omega (arith, e)))
    r

no_type : (n : ℕ) → ¬ (Repeats numbers n seven)
no_type n r = let no : false ≡ true = r.once in cc

seven_typed : (r : Rule) (n : ℕ) → rules.Keeps (IsTyped table numbers) numbers r n seven
unfolding lines
seven_typed r n =
    all_typed table numbers n seven tt (no_type n) (32, inl refl, λ l. absurd (omega (arith, l))) (inl refl)
    (record { function = λ e. absurd (omega (arith, e)); parameter = λ e. absurd (omega (arith, e)) })
    (record { nothing = λ e. absurd (omega (arith, e)); value = λ e. absurd (omega (arith, e)) })
    (λ e. absurd (omega (arith, e)))
    r

numbers_capable : (r : Rule) (n : ℕ) (i : PlainInst) → slice_get numbers n ≡ Some i
    → capabilities.Keeps table numbers r n i
numbers_capable r zero i at = let same : int ≡ i = cc in
    subst (λ (j : PlainInst). capabilities.Keeps table numbers r 0 j) same (int_capable r 0)
numbers_capable r (suc zero) i at = let same : seven ≡ i = cc in
    subst (λ (j : PlainInst). capabilities.Keeps table numbers r 1 j) same (seven_capable r 1)
numbers_capable r (suc (suc n)) i at = cc

numbers_typed : (r : Rule) (n : ℕ) (i : PlainInst) → slice_get numbers n ≡ Some i
    → rules.Keeps (IsTyped table numbers) numbers r n i
numbers_typed r zero i at = let same : int ≡ i = cc in
    subst (λ (j : PlainInst). rules.Keeps (IsTyped table numbers) numbers r 0 j) same (int_typed r)
numbers_typed r (suc zero) i at = let same : seven ≡ i = cc in
    subst (λ (j : PlainInst). rules.Keeps (IsTyped table numbers) numbers r 1 j) same (seven_typed r 1)
numbers_typed r (suc (suc n)) i at = cc

pub numbers_told : AreTypes table numbers (record { table = table; insts = numbers })
numbers_told = record {
  roles = numbers_in_role table;
  capabilities = numbers_capable;
  rules = numbers_typed;
  same = refl;
}

pub nothing_told : ¬ (AreTypes table numbers (record { table = table; insts = [] }))
nothing_told a = let e : ◌≡◌ {A = List PlainInst} [] numbers = ap (λ (s : Subject). s.insts) a.same in cc

-- A memory model alone: no id is used, and no capability is declared.

model_used : (G : Table) (n k x : ℕ) (r : Role) (i : PlainInst) → slice_get logical n ≡ Some i → IsUse G i k x r
    → Plays logical r x
model_used G zero k x r i at u =
    let same : i ≡ model = cc in
    played G logical model types_alone refl (tt, (tt, tt)) k x r (subst (λ (j : PlainInst). IsUse G j k x r) same u)
model_used G (suc n) k x r i at u = cc

model_in_role : (G : Table) → AreInRole G logical
model_in_role G = record { each = λ n k x r u. model_used G n k x r u.inst u.there u.used }

none_declared : (G : Table) (c : ℕ) → ¬ (Has G logical c)
none_declared G c h = let l = h.declares in absurd (omega (arith, l.1))

not_kernel : (G : Table) → ¬ (capabilities.Keeps G logical C1 0 model)
not_kernel G k = none_declared G 6 (k refl).0

logical_fault : (G : Table) → IsFirstFault G logical C1 0
logical_fault G = capable_fault G logical 0 model C1 refl (not_kernel G) (capable.kept_before_c1 G logical 0 model)
    (none_kept G logical)

pub logical_refused : (G : Table) → IsRefusal G logical (Fault (record { rule = C1; inst = 0; word = 5 }))
logical_refused G = (
  inr (
    roles_unbroken G logical (unbroken G logical (model_in_role G)),
    fault_first G logical C1 0 (logical_fault G),
  ),
  refl,
)

pub no_later : (G : Table) → ¬ (IsRefusal G logical (Fault (record { rule = M1; inst = 0; word = 5 })))
no_later G h = elim h.0 [
  | inl f ↦ (let wrong : 5 ≡ 4 = f.of_stage in absurd (omega (arith, wrong)))
  | inr p ↦ elim (p.1.least C1 0 refl (Broken.of_capabilities C1 0 model refl (not_kernel G))) [
    | inl l ↦
        absurd (omega (arith, l))
    | inr e ↦ absurd (let l : 23 ≤ 21 = e.1 in omega arith)
  ]
]
