-- The smallest kernel breaks no rule under a small grammar table.
use Rattle.std.proofs.Common.{◌≡◌, ◌≤◌, ◌<◌, ◌+◌, ◌∙◌, ◌⊎◌, inl, inr, ℕ, zero, suc, List, [], ◌∷◌, Option, Some, None}
use Rattle.std.proofs.Common.{Bool, true, false, Contains, nat_eq, refl, sym, ap, subst, arith, length, append-nil}
use Rattle.std.proofs.Common.{eq-eqb, codes}
use Rattle.std.specs.Prelude.{slice_get, slice_index_or, IsSomeAnd, IsTrue}
use Rattle.std.specs.List.{AllByRecursion}
use Rattle.std.specs.Option.{is_some}
use Rattle.std.proofs.lemmas.Option.{none-some, same_Some}
use Rattle.spv_table.specs.declared.table.Enumerant.{Enumerant}
use Rattle.spv_table.specs.Table.{enumerant_of}
use Rattle.spv_table.specs.Lookups.{number_named}
use Rattle.spv_table.specs.Implied.{Lists, CapabilityChain, capabilities_in}
use Rattle.spv_module.specs.Operand.{Plain, PlainInst, result_in}
use Rattle.spv_module.specs.declared.profile.Profile.TheVariants.{Own}
use Rattle.spv_module.specs.Operand as operand
use Rattle.spv_module.specs.declared.fault.Rule.{Rule}
use Rattle.spv_module.specs.declared.fault.Rule.TheVariants as rule
use Rattle.spv_module.specs.declared.opcode.TheConstants as opcode
use Rattle.spv_layout.specs.declared.class.Class.{Class}
use Rattle.spv_layout.specs.declared.class.Class.TheVariants as class
use Rattle.spv_layout.specs.declared.form.Form.{Form}
use Rattle.spv_layout.specs.declared.form.Form.TheVariants as form
use Rattle.spv_layout.specs.declared.form.Named.TheVariants as named
use Rattle.spv_layout.specs.declared.form.Role.{Role}
use Rattle.spv_layout.specs.declared.form.Role.TheVariants as role
use Rattle.spv_layout.specs.declared.state.State.TheVariants as at
use Rattle.spv_layout.specs.Class.{is_among}
use Rattle.spv_layout.specs.Example as layout
use Rattle.spv_layout.specs.Layout.{IsLayout, classes, seen_classes}
use Rattle.spv_layout.specs.Plan.{IsLaidOut}
use Rattle.spv_layout.specs.Profile.{has_row}
use Rattle.spv_layout.specs.Place.{IsAt, IsOfFunction, IsDefinition, IsOfSection}
use Rattle.spv_layout.specs.Row.{RowEnding, closed, repeated}
use Rattle.spv_layout.specs.inner.Row.{row}
use Rattle.spv_layout.specs.Rows.{rows, row_of}
use Rattle.spv_layout.specs.Shape.{Ends, HasForms, FitsShape, IsUse, role_of, id_of}
use Rattle.spv_layout.specs.inner.Test.{are_of}
use Rattle.spv_layout.proofs.Layouts.{leads_end}
use Rattle.spv_layout.proofs.Places.{section_same}
use Rattle.spv_layout.proofs.Shapes.{forms_same}
use Rattle.spv_layout.proofs.Tested.{tested_are}
use Rattle.spv_layout.proofs.Worked.{leads_by}
use Rattle.spv_ids.specs.Broken as id_rules
use Rattle.spv_ids.specs.Definition.{IsDefinedAt, IsUsedAt, IsMentionedAt, IsLocal}
use Rattle.spv_ids.specs.Order.{IsInOrder, IsOrdered}
use Rattle.spv_capabilities.specs.Capable.{Has, IsCoveredMask, IsCoveredOperand, IsCapable, needs_of}
use Rattle.spv_capabilities.specs.Asked.{IsCoveredEntry, HasNeeded}
use Rattle.spv_capabilities.specs.Entry.{IsNamed, IsSoundEntry, IsSoundMode, called_by, imported_by}
use Rattle.spv_capabilities.specs.inner.Entry.{IsSoundLinkage}
use Rattle.spv_capabilities.specs.Example.{enumerant}
use Rattle.spv_capabilities.specs.Keeps as capability_rules
use Rattle.spv_capabilities.specs.Memory.{IsModel}
use Rattle.spv_ops.specs.Table.{lines}
use Rattle.spv_ops.specs.Typed.{IsTyped}
use Rattle.spv_type_rules.specs.inner.Constant.{IsSoundConstant}
use Rattle.spv_type_rules.specs.inner.Declaration.{IsSoundDeclaration}
use Rattle.spv_type_rules.specs.inner.Function.{IsSoundFunction, IsSoundParameter, IsSoundReturn, IsSoundReturnValue}
use Rattle.spv_type_rules.specs.inner.Function.{IsSoundCall}
use Rattle.spv_type_rules.specs.Keeps as type_rules
use Rattle.spv_type_rules.specs.Repeat.{Repeats}
use Rattle.spv_flow.specs.branches.Broken as flow_rules
use Rattle.spv_flow.specs.declared.branches.fork.Fork.{Fork}
use Rattle.spv_flow.specs.branches.Target.{is_phi, is_merge, is_branch, IsOp}
use Rattle.spv_flow.proofs.lemmas.branches.Firsts.{at_other}
use Rattle.spv_flow.proofs.lemmas.walks.Staged.{IsStaged, staged}
use Rattle.spv_flow.specs.calls.Broken as call_rules
use Rattle.spv_check.specs.Kernel.{grammar, capability, model, entry_point, void, of_void, function, label, return_op}
use Rattle.spv_check.specs.Kernel.{end, kernel}
use Rattle.spv_check.proofs.Elements.{each, Where, off, found, some_of}

-- no instruction passes the test
pub nowhere : Where (λ (i : PlainInst). false) (λ n i. ⊥) kernel
nowhere = (tt, (tt, (tt, (tt, (tt, (tt, (tt, (tt, (tt, (tt, tt))))))))))

opcode_at : (opcode : ℕ) (P : ℕ → PlainInst → Type 0) → Where (λ (i : PlainInst). nat_eq i.opcode opcode) P kernel
    → (n : ℕ) (i : PlainInst) → slice_get kernel n ≡ Some i → i.opcode ≡ opcode → P n i
opcode_at opcode P w n i there e =
    found (λ (j : PlainInst). nat_eq j.opcode opcode) P kernel w n i there (eq-eqb i.opcode opcode e)

no_op : (test : ℕ → Bool) → Where (λ (i : PlainInst). test i.opcode) (λ n i. ⊥) kernel → (n : ℕ)
    → ¬ (IsOp kernel n test)
no_op test w n a =
    let s = some_of (λ (i : PlainInst). IsTrue (test i.opcode)) (slice_get kernel n) a in
    found (λ (i : PlainInst). test i.opcode) (λ m i. ⊥) kernel w n s.0 s.1 s.2

-- P: each fits its row.

has : (i : PlainInst) (a b : ℕ) (c : Class) (fs : List Form) (e : RowEnding) → row_of i.opcode ≡ Some (row a b c fs e)
    → Ends e [] → are_of grammar fs i.operands ≡ true → HasForms grammar i fs
has i a b c fs e known ending test =
    record {
      row = row a b c fs e;
      rest = [];
      known = known;
      forms = sym (append-nil fs);
      ending = ending;
      each = tested_are grammar fs i.operands test;
    }

abbrev capability_forms : List Form
capability_forms = form.Kind named.Capability ∷ []

abbrev model_forms : List Form
model_forms = form.Kind named.AddressingModel ∷ form.Kind named.MemoryModel ∷ []

abbrev entry_forms : List Form
entry_forms = form.Kind named.ExecutionModel ∷ form.Id role.Function ∷ form.Text ∷ []

abbrev type_forms : List Form
type_forms = form.Result ∷ form.Id role.OfType ∷ []

abbrev function_forms : List Form
function_forms = form.OfType ∷ form.Result ∷ form.Kind named.FunctionControl ∷ form.Id role.OfType ∷ []

abbrev result_forms : List Form
result_forms = form.Result ∷ []

has_capability_4 : HasForms grammar (capability 4) capability_forms
unfolding rows
has_capability_4 = has (capability 4) 17 17 class.Capability capability_forms closed refl Ends.nothing refl

has_capability_6 : HasForms grammar (capability 6) capability_forms
unfolding rows
has_capability_6 = has (capability 6) 17 17 class.Capability capability_forms closed refl Ends.nothing refl

has_model : HasForms grammar model model_forms
unfolding rows
has_model = has model 14 14 class.MemoryModel model_forms closed refl Ends.nothing refl

has_entry : HasForms grammar entry_point entry_forms
unfolding rows
has_entry = has entry_point 15 15 class.EntryPoint entry_forms (repeated (form.Id role.Global ∷ [])) refl
    (Ends.done (form.Id role.Global ∷ [])) refl

has_void : HasForms grammar void result_forms
unfolding rows
has_void = has void 19 20 class.Declaration result_forms closed refl Ends.nothing refl

has_type : HasForms grammar of_void type_forms
unfolding rows
has_type = has of_void 33 33 class.Declaration type_forms (repeated (form.Id role.OfType ∷ [])) refl
    (Ends.done (form.Id role.OfType ∷ [])) refl

has_function : HasForms grammar function function_forms
unfolding rows
has_function = has function 54 54 class.Function function_forms closed refl Ends.nothing refl

has_label : HasForms grammar label result_forms
unfolding rows
has_label = has label 248 248 class.Label result_forms closed refl Ends.nothing refl

has_return : HasForms grammar return_op []
unfolding rows
has_return = has return_op 253 253 class.Return [] closed refl Ends.nothing refl

has_end : HasForms grammar end []
unfolding rows
has_end = has end 56 56 class.FunctionEnd [] closed refl Ends.nothing refl

fit : (i : PlainInst) (fs : List Form) → HasForms grammar i fs → FitsShape grammar i
fit i fs h = record { forms = fs; has = h }

pub fits : (n : ℕ) (i : PlainInst) → slice_get kernel n ≡ Some i → FitsShape grammar i
fits =
    each (λ n (i : PlainInst). FitsShape grammar i) kernel (
      fit (capability 4) capability_forms has_capability_4,
      (
        fit (capability 6) capability_forms has_capability_6,
        (
          fit model model_forms has_model,
          (
            fit entry_point entry_forms has_entry,
            (
              fit void result_forms has_void,
              (
                fit of_void type_forms has_type,
                (
                  fit function function_forms has_function,
                  (
                    fit label result_forms has_label,
                    (fit return_op [] has_return, (fit end [] has_end, tt)),
                  ),
                ),
              ),
            ),
          ),
        ),
      ),
    )

-- L: the classes, and where those of functions stand.

abbrev pub laid : List Class
laid = class.Capability ∷ layout.kernel

pub laid_out : classes kernel ≡ laid
unfolding rows
laid_out = refl

pub is_layout : IsLayout (classes kernel)
is_layout = subst IsLayout (sym laid_out) (leads_end laid at.Defined refl (leads_by laid at.Defined refl))

seen_laid_out : seen_classes Own kernel ≡ laid
unfolding rows
seen_laid_out = refl

abbrev known_row : PlainInst → Type 0
known_row i = has_row Own (row_of i.opcode) ≡ true

known : (n : ℕ) (i : PlainInst) → slice_get kernel n ≡ Some i → known_row i
unfolding rows
known = each (λ n (i : PlainInst). known_row i) kernel
    (refl, (refl, (refl, (refl, (refl, (refl, (refl, (refl, (refl, (refl, tt))))))))))

pub is_laid_out : IsLaidOut Own grammar kernel
is_laid_out = record {
  fits = λ n i h. record { known = known n i h; shape = fits n i h };
  layout = subst IsLayout (sym seen_laid_out) (leads_end laid at.Defined refl (leads_by laid at.Defined refl));
}

pub at_class : (P : ℕ → Type 0) (cs : List Class) → Where (λ (c : Class). is_among c cs) (λ n c. P n) laid → (n : ℕ)
    → IsAt kernel n cs → P n
at_class P cs w n a =
    let s = some_of (λ (c : Class). IsTrue (is_among c cs)) (slice_get laid n)
    (subst (λ (ds : List Class). IsSomeAnd (slice_get ds n) (λ c. IsTrue (is_among c cs))) laid_out a) in
    found (λ (c : Class). is_among c cs) (λ m c. P m) laid w n s.0 s.1 s.2

pub function_only : (n : ℕ) → IsAt kernel n (class.Function ∷ []) → n ≡ 6
function_only n a = at_class (λ m. m ≡ 6) (class.Function ∷ [])
    (tt, (tt, (tt, (tt, (tt, (tt, (refl, (tt, (tt, (tt, tt)))))))))) n a

end_only : (n : ℕ) → IsAt kernel n (class.FunctionEnd ∷ []) → n ≡ 9
end_only n a = at_class (λ m. m ≡ 9) (class.FunctionEnd ∷ [])
    (tt, (tt, (tt, (tt, (tt, (tt, (tt, (tt, (tt, (refl, tt)))))))))) n a

function_there : IsAt kernel 6 (class.Function ∷ [])
unfolding rows
function_there = refl

pub label_there : IsAt kernel 7 (class.Label ∷ [])
unfolding rows
label_there = refl

pub in_function : (n : ℕ) → 6 ≤ n → n ≤ 9 → IsOfFunction kernel n 6
in_function n l h = record {
  begun = record {
    within = omega (arith, h);
    up_to = l;
    there = function_there;
    last = λ k a b c.
        let e = function_only k c in absurd (omega (arith, a, e));
  };
  not_ended = λ k a b c. let e = end_only k c in absurd (omega (arith, b, h, e));
}

pub definition : IsDefinition kernel 6
definition = record { label = 7; there = label_there; of = in_function 7 (omega arith) (omega arith) }

entry_section : IsOfSection kernel 3 5
unfolding rows
entry_section = IsOfSection.early class.EntryPoint 5 refl refl

not_ordered : ¬ (IsOrdered kernel 3)
not_ordered o = elim o [
  | inl s ↦ let e = section_same kernel 3 7 5 s entry_section in omega (arith, e)
  | inr s ↦ let e = section_same kernel 3 11 5 s entry_section in omega (arith, e)
]

-- The definitions, and the uses with their roles.

pub defined_as : (P : ℕ → ℕ → Type 0) → P 4 1 → P 5 2 → P 6 3 → P 7 4 → (n x : ℕ) → IsDefinedAt kernel x n → P n x
defined_as P a b c d n x w =
    each (λ m (i : PlainInst). (y : ℕ) → result_in i.operands ≡ Some y → P m y) kernel
    (none 0, (none 1, (none 2, (none 3, (one 4 1 a, (one 5 2 b, (one 6 3 c, (one 7 4 d, (none 8, (none 9, tt)))))))))) n
    w.inst w.there x w.result where
      none : (m y : ℕ) → None ≡ Some y → P m y
      none m y e = absurd (none-some y e)

      one : (m z : ℕ) → P m z → (y : ℕ) → Some z ≡ Some y → P m y
      one m z h y e = subst (P m) (same_Some z y e) h

pub defined_1 : IsDefinedAt kernel 1 4
defined_1 = record { inst = void; there = refl; result = refl }

pub defined_2 : IsDefinedAt kernel 2 5
defined_2 = record { inst = of_void; there = refl; result = refl }

pub defined_3 : IsDefinedAt kernel 3 6
defined_3 = record { inst = function; there = refl; result = refl }

pub defined_4 : IsDefinedAt kernel 4 7
defined_4 = record { inst = label; there = refl; result = refl }

place_of : (n x : ℕ) → IsDefinedAt kernel x n → n ≡ x + 3
place_of n x d = defined_as (λ m y. m ≡ y + 3) refl refl refl refl n x d

-- what holds of each id that operands use
abbrev OnUse : (ℕ → Role → Type 0) → Option Role → Option ℕ → Type 0
OnUse P (Some r) (Some x) = P x r
OnUse P _ _ = Unit {0}

abbrev AllUses : (ℕ → Role → Type 0) → List Form → List Plain → Type 0
AllUses P (g ∷ gs) (o ∷ os) = OnUse P (role_of g o) (id_of o) × AllUses P gs os
AllUses P _ _ = Unit {0}

on_use : (P : ℕ → Role → Type 0) (q : Option Role) (y : Option ℕ) (r : Role) (x : ℕ) → OnUse P q y → q ≡ Some r
    → y ≡ Some x → P x r
on_use P q y r x h a b = subst (λ (z : Option ℕ). OnUse P (Some r) z) b (subst (λ (z : Option Role). OnUse P z y) a h)

all_uses : (P : ℕ → Role → Type 0) (gs : List Form) (os : List Plain) → AllUses P gs os
    → (k : ℕ) (g : Form) (o : Plain) (x : ℕ) (r : Role)
    → slice_get gs k ≡ Some g → slice_get os k ≡ Some o → role_of g o ≡ Some r → id_of o ≡ Some x → P x r
all_uses P [] os h k g o x r a b c d = absurd (none-some g a)
all_uses P (f ∷ gs) [] h k g o x r a b c d = absurd (none-some o b)
all_uses P (f ∷ gs) (p ∷ os) h zero g o x r a b c d =
    let s : f ≡ g = same_Some f g a in
    let u : p ≡ o = same_Some p o b in
    on_use P (role_of f p) (id_of p) r x h.0
    (ap (λ (z : Form). role_of z p) s ∙ (ap (λ (z : Plain). role_of g z) u ∙ c)) (ap (λ (z : Plain). id_of z) u ∙ d)
all_uses P (f ∷ gs) (p ∷ os) h (suc k) g o x r a b c d = all_uses P gs os h.1 k g o x r a b c d

use_of : (P : ℕ → Role → Type 0) (i : PlainInst) (fs : List Form) → HasForms grammar i fs → AllUses P fs i.operands
    → (k x : ℕ) (r : Role) → IsUse grammar i k x r → P x r
use_of P i fs known h k x r u =
    let same : u.forms ≡ fs = forms_same grammar i u.forms fs u.has known in
    all_uses P fs i.operands h k u.form u.operand x r
    (ap (λ (gs : List Form). slice_get gs k) (sym same) ∙ u.form_at) u.operand_at u.role u.id

pub each_use : (P : ℕ → ℕ → Role → Type 0) → P 3 3 role.Function → P 5 1 role.OfType → P 6 1 role.OfType
    → P 6 2 role.OfType → (n k x : ℕ) (r : Role) → IsUsedAt grammar kernel n k x r → P n x r
each_use P a b c d n k x r u =
    each (λ m (i : PlainInst). (j y : ℕ) (q : Role) → IsUse grammar i j y q → P m y q) kernel (
      use_of (P 0) (capability 4) capability_forms has_capability_4 (tt, tt),
      (
        use_of (P 1) (capability 6) capability_forms has_capability_6 (tt, tt),
        (
          use_of (P 2) model model_forms has_model (tt, (tt, tt)),
          (
            use_of (P 3) entry_point entry_forms has_entry (tt, (a, (tt, tt))),
            (
              use_of (P 4) void result_forms has_void (tt, tt),
              (
                use_of (P 5) of_void type_forms has_type (tt, (b, tt)),
                (
                  use_of (P 6) function function_forms has_function (c, (tt, (tt, (d, tt)))),
                  (
                    use_of (P 7) label result_forms has_label (tt, tt),
                    (use_of (P 8) return_op [] has_return tt, (use_of (P 9) end [] has_end tt, tt)),
                  ),
                ),
              ),
            ),
          ),
        ),
      ),
    ) n u.inst u.there k x r u.used

-- No operand is a mention.

abbrev NoMentions : List Plain → Type 0
NoMentions [] = Unit {0}
NoMentions (operand.Mention x ∷ os) = ⊥
NoMentions (o ∷ os) = NoMentions os

no_mention : (os : List Plain) → NoMentions os → (k x : ℕ) → slice_get os k ≡ Some (operand.Mention x) → ⊥
no_mention [] h k x e = absurd (none-some (operand.Mention x) e)
no_mention (operand.Mention y ∷ os) h k x e = h
no_mention (o ∷ os) h zero x e = cc
no_mention (o ∷ os) h (suc k) x e = no_mention os h k x e

never_mentioned : (n k x : ℕ) → ¬ (IsMentionedAt kernel n k x)
never_mentioned n k x m =
    each (λ l (i : PlainInst). (j y : ℕ) → slice_get i.operands j ≡ Some (operand.Mention y) → ⊥) kernel (
      no_mention (capability 4).operands tt,
      (
        no_mention (capability 6).operands tt,
        (
          no_mention model.operands tt,
          (
            no_mention entry_point.operands tt,
            (
              no_mention void.operands tt,
              (
                no_mention of_void.operands tt,
                (
                  no_mention function.operands tt,
                  (no_mention label.operands tt, (no_mention return_op.operands tt, (no_mention end.operands tt, tt))),
                ),
              ),
            ),
          ),
        ),
      ),
    ) n m.inst m.there k x m.named

-- Only the label is local, and nothing uses it.

pub used_below : (n k x : ℕ) (r : Role) → IsUsedAt grammar kernel n k x r → x ≤ 3
used_below n k x r u = each_use (λ m y q. y ≤ 3) (omega arith) (omega arith) (omega arith) (omega arith) n k x r u

pub not_local : (x : ℕ) → x ≤ 3 → ¬ (IsLocal kernel x)
not_local x h l =
    let w = l.1 in
    let p = place_of w.place x w.defined in
    let q = function_only l.0 w.of.begun.there in
    let a = w.after in
    omega (arith, h, p, q, a)

-- D

in_range : (x : ℕ) → 1 ≤ x → x < 5 → ¬ (id_rules.IsOutOfRange 5 x)
in_range x a b o = elim o [ inl e ↦ omega (arith, e, a) | inr h ↦ omega (arith, h, b) ]

pub ids_kept : (r : Rule) (n : ℕ) → id_rules.Broken grammar 5 kernel r n → ⊥
ids_kept _ _ (id_rules.result_out_of_range n x d o) =
    defined_as (λ m y. id_rules.IsOutOfRange 5 y → ⊥) (in_range 1 (omega arith) (omega arith))
    (in_range 2 (omega arith) (omega arith)) (in_range 3 (omega arith) (omega arith))
    (in_range 4 (omega arith) (omega arith)) n x d o
ids_kept _ _ (id_rules.use_out_of_range n k x r u o) =
    each_use (λ m y q. id_rules.IsOutOfRange 5 y → ⊥) (in_range 3 (omega arith) (omega arith))
    (in_range 1 (omega arith) (omega arith)) (in_range 1 (omega arith) (omega arith))
    (in_range 2 (omega arith) (omega arith)) n k x r u o
ids_kept _ _ (id_rules.defined_again n m x a l b) = let p = place_of n x a in let q = place_of m x b in
    omega (arith, p, q, l)
ids_kept _ _ (id_rules.undefined n k x r u h) =
    let d = each_use (λ m y q. (l : ℕ) × IsDefinedAt kernel y l) (6, defined_3) (4, defined_1) (4, defined_1)
    (5, defined_2) n k x r u in
    h d.0 d.1
ids_kept _ _ (id_rules.mention_out_of_range n k x m o) = never_mentioned n k x m
ids_kept _ _ (id_rules.mention_undefined n k x m h) = never_mentioned n k x m
ids_kept _ _ (id_rules.not_in_order n k x r u o h) =
    h (each_use (λ m y q. IsOrdered kernel m → IsInOrder kernel m y) (λ s. absurd (not_ordered s))
    (λ s. IsInOrder.lower 4 (omega arith) defined_1) (λ s. IsInOrder.lower 4 (omega arith) defined_1)
    (λ s. IsInOrder.lower 5 (omega arith) defined_2) n k x r u o)
ids_kept _ _ (id_rules.not_in_scope n k x r u s l h) = not_local x (used_below n k x r u) l

-- C, M and E

has_addresses : Has grammar kernel 4
has_addresses = record { first = 4; declares = (0, omega arith, refl); chain = CapabilityChain.here 4 }

has_kernel : Has grammar kernel 6
has_kernel = record { first = 6; declares = (1, omega arith, refl); chain = CapabilityChain.here 6 }

declared_at : (c k : ℕ) → k < 2 → slice_index_or (4 ∷ 6 ∷ []) k c ≡ c → (c ≡ 4) ⊎ (c ≡ 6)
declared_at c zero l e = inl (sym e)
declared_at c (suc zero) l e = inr (sym e)
declared_at c (suc (suc k)) l e = absurd (omega (arith, l))

-- neither of the two lists another
lists_nothing : (a b : ℕ) (e : Enumerant) → enumerant_of (capabilities_in grammar) a ≡ Some e
    → 0 ≡ length e.capabilities → ¬ (Lists grammar a b)
lists_nothing a b e known none l =
    let same : e ≡ l.enumerant = same_Some e l.enumerant (sym known ∙ l.is) in
    let p : length e.capabilities ≡ length l.enumerant.capabilities = ap
    (λ (z : Enumerant). length z.capabilities) same in
    let q : l.listed.0 < length l.enumerant.capabilities = l.listed.1 in
    omega (arith, none, p, q)

chain_ends : (a b : ℕ) → CapabilityChain grammar a b → (a ≡ 4) ⊎ (a ≡ 6) → a ≡ b
chain_ends _ _ (CapabilityChain.here a) h = refl
chain_ends _ _ (CapabilityChain.step a b c l d) h = absurd (elim h [
  | inl e ↦ lists_nothing 4 b (enumerant (codes "Addresses") 4 []) refl refl (subst (λ (z : ℕ). Lists grammar z b) e l)
  | inr e ↦ lists_nothing 6 b (enumerant (codes "Kernel") 6 []) refl refl (subst (λ (z : ℕ). Lists grammar z b) e l)
])

no_shader : ¬ (Has grammar kernel 1)
no_shader h =
    let d : Contains (4 ∷ 6 ∷ []) h.first = h.declares in
    let p = declared_at h.first d.0 d.1 d.2 in
    let q = chain_ends h.first 1 h.chain p in
    elim p [ inl e ↦ omega (arith, e, q) | inr e ↦ omega (arith, e, q) ]

control_covered : IsCoveredMask grammar kernel 4 0
unfolding IsCoveredMask
control_covered = tt

capable : (i : PlainInst) → IsCoveredEntry grammar kernel i.opcode
    → AllByRecursion (IsCoveredOperand grammar kernel) i.operands → HasNeeded grammar kernel (needs_of i)
    → IsCapable grammar kernel i
capable i a b c = record { entry = a; operands = b; needs = c }

all_capable : (n : ℕ) (i : PlainInst) → slice_get kernel n ≡ Some i → IsCapable grammar kernel i
all_capable =
    each (λ n (i : PlainInst). IsCapable grammar kernel i) kernel (
      capable (capability 4) (inl refl) (λ h. inl refl, tt) tt,
      (
        capable (capability 6) (inl refl) (λ h. inl refl, tt) tt,
        (
          capable model (inl refl) (λ h. inr (inl has_addresses), (λ h. inr (inl has_kernel), tt)) tt,
          (
            capable entry_point (inl refl) (λ h. inr (inl has_kernel), (tt, (tt, tt))) tt,
            (
              capable void (inl refl) (tt, tt) tt,
              (
                capable of_void (inl refl) (tt, (tt, tt)) tt,
                (
                  capable function (inl refl) (tt, (tt, (λ h. control_covered, (tt, tt)))) tt,
                  (
                    capable label (inl refl) (tt, tt) tt,
                    (capable return_op (inl refl) tt tt, (capable end (inl refl) tt tt, tt)),
                  ),
                ),
              ),
            ),
          ),
        ),
      ),
    )

unnamed : (names : PlainInst → Option ℕ) (f : ℕ) → Where (λ (i : PlainInst). is_some (names i)) (λ n i. ⊥) kernel
    → ¬ (IsNamed names kernel f)
unnamed names f w m =
    found (λ (i : PlainInst). is_some (names i)) (λ n i. ⊥) kernel w m.place m.inst m.there (ap is_some m.named)

sound_entry : IsSoundEntry kernel entry_point.operands
sound_entry = (
  refl,
  record {
    function = 6;
    defined = defined_3;
    definition = definition;
    void = record {
      inst = function;
      there = refl;
      type = 1;
      returns = refl;
      place = 4;
      defined = defined_1;
      void = record { inst = void; there = refl; same = refl };
    };
    uncalled = unnamed called_by 6 nowhere;
  },
)

sound_linkage : IsSoundLinkage grammar kernel 6
sound_linkage = (
  λ m. absurd (unnamed (imported_by (number_named grammar (codes "LinkageType"))) 6 nowhere m),
  λ d. absurd (d definition),
)

pub capabilities_kept : (r : Rule) (n : ℕ) (i : PlainInst) → slice_get kernel n ≡ Some i
    → capability_rules.Keeps grammar kernel r n i
capabilities_kept rule.C1 n i e = λ h. (has_kernel, no_shader)
capabilities_kept rule.C2 n i e = all_capable n i e
capabilities_kept rule.M1 n i e =
    opcode_at 14 (λ m j. IsModel j.operands)
    (tt, (tt, ((inr refl, refl), (tt, (tt, (tt, (tt, (tt, (tt, (tt, tt)))))))))) n i e
capabilities_kept rule.E1 n i e = λ h. inl (3, record { inst = entry_point; there = refl; same = refl })
capabilities_kept rule.E2 n i e = record {
  entry = opcode_at 15 (λ m j. IsSoundEntry kernel j.operands)
      (tt, (tt, (tt, (sound_entry, (tt, (tt, (tt, (tt, (tt, (tt, tt)))))))))) n i e;
  mode = λ h. elim h [
    | inl q ↦ opcode_at 16 (λ m j. IsSoundMode kernel j.operands) nowhere n i e q
    | inr q ↦ opcode_at 331 (λ m j. IsSoundMode kernel j.operands) nowhere n i e q
  ];
  linkage = opcode_at 54 (λ m j. IsSoundLinkage grammar kernel m)
      (tt, (tt, (tt, (tt, (tt, (tt, (sound_linkage, (tt, (tt, (tt, tt)))))))))) n i e;
}
capabilities_kept _ n i e = tt

-- Y2 to Y8

void_only : (n : ℕ) (i : PlainInst) → slice_get kernel n ≡ Some i → i.opcode ≡ opcode.TYPE_VOID → n ≡ 4
void_only = opcode_at 19 (λ m j. m ≡ 4) (tt, (tt, (tt, (tt, (refl, (tt, (tt, (tt, (tt, (tt, tt))))))))))

type_only : (n : ℕ) (i : PlainInst) → slice_get kernel n ≡ Some i → i.opcode ≡ opcode.TYPE_FUNCTION → n ≡ 5
type_only = opcode_at 33 (λ m j. m ≡ 5) (tt, (tt, (tt, (tt, (tt, (refl, (tt, (tt, (tt, (tt, tt))))))))))

not_repeated : (n : ℕ) (i : PlainInst) → slice_get kernel n ≡ Some i → ¬ (Repeats kernel n i)
not_repeated =
    each (λ n (i : PlainInst). ¬ (Repeats kernel n i)) kernel (
      λ r. off r.once,
      (
        λ r. off r.once,
        (
          λ r. off r.once,
          (
            λ r. off r.once,
            (
              λ r. let p = void_only r.place r.other r.there (sym r.alike.0) in let l = r.earlier in
                  omega (arith, p, l),
              (
                λ r. let p = type_only r.place r.other r.there (sym r.alike.0) in let l = r.earlier in
                    omega (arith, p, l),
                (λ r. off r.once, (λ r. off r.once, (λ r. off r.once, (λ r. off r.once, tt)))),
              ),
            ),
          ),
        ),
      ),
    )

sound_return : IsSoundReturn kernel 8
sound_return = (6, in_function 8 (omega arith) (omega arith), refl)

pub types_kept : (r : Rule) (n : ℕ) (i : PlainInst) → slice_get kernel n ≡ Some i
    → type_rules.Keeps (IsTyped grammar kernel) kernel r n i
unfolding lines
types_kept rule.Y2 n i e =
    each (λ m (j : PlainInst). IsSoundDeclaration kernel m j) kernel
    (tt, (tt, (tt, (tt, (tt, ((inr refl, tt), (tt, (tt, (tt, (tt, tt)))))))))) n i e
types_kept rule.Y3 n i e = not_repeated n i e
types_kept rule.Y4 n i e = each (λ m (j : PlainInst). IsSoundConstant kernel j) kernel nowhere n i e
types_kept rule.Y5 n i e =
    each (λ m (j : PlainInst). IsTyped grammar kernel m j) kernel (
      inl refl,
      (
        inl refl,
        (
          inl refl,
          (
            inl refl,
            (inl refl, (inl refl, (inl refl, (inl refl, (inl refl, (inl refl, tt)))))),
          ),
        ),
      ),
    ) n i e
types_kept rule.Y6 n i e = record {
  function = opcode_at 54 (λ m j. IsSoundFunction kernel m j)
      (tt, (tt, (tt, (tt, (tt, (tt, ((refl, refl), (tt, (tt, (tt, tt)))))))))) n i e;
  parameter = opcode_at 55 (λ m j. IsSoundParameter kernel m j) nowhere n i e;
}
types_kept rule.Y7 n i e = record {
  nothing = opcode_at 253 (λ m j. IsSoundReturn kernel m)
      (tt, (tt, (tt, (tt, (tt, (tt, (tt, (tt, (sound_return, (tt, tt)))))))))) n i e;
  value = opcode_at 254 (λ m j. IsSoundReturnValue kernel m j) nowhere n i e;
}
types_kept rule.Y8 n i e = opcode_at 57 (λ m j. IsSoundCall kernel j) nowhere n i e
types_kept _ n i e = tt

-- F and A: there is no branch and no OpPhi, and no local value.

pub flow_kept : (fork : Fork) (r : Rule) (n : ℕ) → flow_rules.Broken fork grammar kernel r n → ⊥
flow_kept fork r n b = unstaged r n b (staged fork grammar kernel r n b) where
  unstaged : (r : Rule) (n : ℕ) → flow_rules.Broken fork grammar kernel r n → IsStaged grammar kernel r n → ⊥
  unstaged _ _ b (IsStaged.branches r n s) =
      at_other fork grammar kernel r n (no_op is_phi nowhere n) (no_op is_merge nowhere n) (no_op is_branch nowhere n)
      s b
  unstaged _ _ b (IsStaged.missing n m) = not_local m.id (used_below n m.operand m.id m.role m.used) m.local.local
  unstaged _ _ b (IsStaged.pair_missing n m) = no_op is_phi nowhere n m.phi

-- G: there is no call.

pub calls_kept : (r : Rule) (n : ℕ) → call_rules.Broken kernel r n → ⊥
calls_kept _ _ (call_rules.on_cycle n e f g k h c d) = opcode_at 57 (λ m j. ⊥) nowhere n k.inst k.there k.opcode
