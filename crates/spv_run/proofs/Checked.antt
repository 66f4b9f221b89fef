-- What a verdict says of a list of instructions, as far as a run rests on it: each field is (a part of) a rule.
use Rattle.std.specs.Prelude.{◌≡◌, ℕ, List, [], ◌∷◌, map, Some, Contains, slice_get}
use Rattle.spv_table.specs.Table.{Table}
use Rattle.spv_module.specs.Operand.{PlainInst, Id, type_in}
use Rattle.spv_module.specs.Width.{type_of}
use Rattle.spv_layout.specs.declared.form.Role.TheVariants.{Any}
use Rattle.spv_layout.specs.Layout.{IsLayout, classes}
use Rattle.spv_ids.specs.Definition.{IsUsedAt}
use Rattle.spv_type_rules.specs.Function.{signature_of}
use Rattle.spv_flow.specs.branches.Ready.{IsLocalValue}
use Rattle.spv_flow.specs.calls.Chain.{Chain}
use Rattle.spv_flow.specs.calls.Calls.{Calls, IsEntryFunction}
use Rattle.spv_run.specs.Act.{Act, act_of}
use Rattle.spv_run.specs.At.{act_at}
use Rattle.spv_run.specs.inner.At.{targets}
use Rattle.spv_run.specs.Head.{Binding, IsDefined}
use Rattle.spv_run.proofs.Place.{IsOf, IsLabel}
use Rattle.spv_run.proofs.Fit.{AllFit, HasOneDefinition}
use Rattle.spv_run.proofs.LaidOut.{IsLaidOut}
use Rattle.spv_run.proofs.Walk.{Walk, Defined}
use Rattle.spv_run.proofs.Flow.{HasLabels, HasParents, IsReady}
use Rattle.spv_run.specs.Row.{values_of, Row}

-- Rule D5, for the labels of a terminator: they are of its function. [2.16.1]
abbrev pub HasLabelsInScope : List PlainInst → Type 0
HasLabelsInScope is = (f n m x : ℕ) (a : Act) → IsOf is f n → act_at is n ≡ Some a → Contains (targets a) x
    → IsLabel is m x → IsOf is f m

-- ids have these declared types
abbrev pub HaveTypes : List PlainInst → List ℕ → List ℕ → Type 0
HaveTypes is [] [] = Unit {0}
HaveTypes is (x ∷ xs) (t ∷ ts) = (type_of is x ≡ Some t) × HaveTypes is xs ts
HaveTypes is [] (t ∷ ts) = ⊥
HaveTypes is (x ∷ xs) [] = ⊥

-- Rules D3 and Y1 for values, Y5, Y7 and Y8: in a function, the values that an instruction uses have declared types,
-- and its row
-- holds with them.
abbrev pub IsTyped : List PlainInst → Type 0
IsTyped is = (f n : ℕ) (i : PlainInst) → IsOf is f n → slice_get is n ≡ Some i
    → (tags : List ℕ) × HaveTypes is (values_of i (act_of i)) tags × Row is f n i (act_of i) tags

-- Rule Y6: an OpFunction and its parameters have the types of its signature.
abbrev pub HasSignatures : List PlainInst → Type 0
HasSignatures is = (g e : ℕ) (bs : List Binding) (i : PlainInst) → slice_get is g ≡ Some i → IsDefined is g e bs
    → (r : ℕ) × (type_in i.operands ≡ Some r) × (signature_of is i ≡ Some (map Id (r ∷ map (λ b. b.tag) bs)))

-- Rule A1, for uses in the role any.
abbrev pub AreOthersReady : Table → List PlainInst → Type 0
AreOthersReady G is = (f n k x : ℕ) (past : List ℕ) → Walk is f past n → IsUsedAt G is n k x Any → IsLocalValue is x
    → Defined is past x

-- Rule E2, in part: an entry point's function is a definition.
abbrev pub HasEntries : List PlainInst → Type 0
HasEntries is = (g : ℕ) → IsEntryFunction is g → (e : ℕ) × (bs : List Binding) × IsDefined is g e bs

-- Rule G1: no call on a cycle of calls that an entry point reaches.
abbrev pub HasNoCycle : List PlainInst → Type 0
HasNoCycle is = (e f g : ℕ) → IsEntryFunction is e → Chain (Calls is) e f → Calls is f g → ¬ (Chain (Calls is) g f)

pub record IsChecked (G : Table) (is : List PlainInst) : Type 0 where
  pub fits : AllFit G is
  pub laying : IsLayout (classes is)
  pub layout : IsLaidOut is
  pub once : HasOneDefinition is
  pub scope : HasLabelsInScope is
  pub typed : IsTyped is
  pub signatures : HasSignatures is
  pub labels : HasLabels is
  pub parents : HasParents is
  pub ready : IsReady is
  pub others : AreOthersReady G is
  pub entries : HasEntries is
  pub acyclic : HasNoCycle is
