-- Where the code looks for value operands is where the rows of the table of shapes have them.
use Rattle.std.proofs.Common.{◌≡◌, ◌≢◌, ◌+◌, ◌<◌, ◌++◌, ◌&&◌, ◌||◌, ℕ, zero, suc, nat_eq, not, List, [], ◌∷◌, Some}
use Rattle.std.proofs.Common.{Bool, true, false, if◌then◌else◌}
use Rattle.std.proofs.Common.{take, refl, sym, ap, ◌∙◌, arith}
use Rattle.std.proofs.lemmas.Bool.{eq-eqb, eqb-true}
use Rattle.spv_table.specs.Table.{Table}
use Rattle.spv_module.specs.Operand.{Plain, PlainInst}
use Rattle.spv_module.specs.Operand as operand
use Rattle.spv_layout.specs.declared.form.Form.{Form}
use Rattle.spv_layout.specs.declared.form.Form.TheVariants as form
use Rattle.spv_layout.specs.declared.form.Role.{Role}
use Rattle.spv_layout.specs.declared.form.Role.TheVariants as role
use Rattle.spv_layout.specs.declared.form.Named.TheVariants as kind
use Rattle.spv_layout.specs.Row.{PlainRow, RowEnding, closed, maybe, file_and_text, repeated, others, maybe_others}
use Rattle.spv_layout.specs.Row.{row_in, maybe_repeated}
use Rattle.spv_layout.specs.Rows.{rows}
use Rattle.spv_layout.specs.Shape.{is_of, AreOf, Ends, HasForms}
use Rattle.spv_ops.specs.declared.table.Places.{Places}
use Rattle.spv_ops.specs.declared.table.Places.TheVariants as places
use Rattle.spv_ops.specs.Table.{lines, places_of}
use Rattle.spv_type_kinds.specs.Operands.{ids_in, after_head}
use Rattle.spv_type_forms.proofs.Opcodes.{both, and_yes, all_pass, one_passes}
use Rattle.spv_type_forms.specs.Values.{value_in, used_in, paired_ids_in}
use Rattle.spv_conditions.specs.Variable.{initializers_in}
use Rattle.spv_conditions.specs.Group.{all_ids_in}
use Rattle.spv_ops.specs.Values.{others_from, value_ids, values_of}

differ_by : (b : Bool) (n m : ℕ) → nat_eq n m ≡ b → (n ≡ m → ⊥) → b ≡ false
differ_by true n m e other = absurd (other (eqb-true n m e))
differ_by false n m e other = refl

differ : (n m : ℕ) → (n ≡ m → ⊥) → nat_eq n m ≡ false
differ n m other = differ_by (nat_eq n m) n m refl other

-- Tests of forms.
abbrev is_value : Form → Bool
is_value (form.Id role.Value) = true
is_value _ = false

abbrev is_no_id : Form → Bool
is_no_id form.Word = true
is_no_id (form.Kind k) = true
is_no_id _ = false

abbrev have_no_value : List Form → Bool
have_no_value [] = true
have_no_value (f ∷ fs) = not (is_value f) && have_no_value fs

-- nothing, or something that is no id, and no value
abbrev are_after : List Form → Bool
are_after [] = true
are_after (f ∷ fs) = is_no_id f && have_no_value (f ∷ fs)

-- values, and what comes after them
abbrev are_front : List Form → Bool
are_front [] = true
are_front (f ∷ fs) = if is_value f then are_front fs else are_after (f ∷ fs)

not_true : (b : Bool) → not b ≡ true → b ≡ false
not_true true h = cc
not_true false h = refl

is_it : (f : Form) → is_value f ≡ true → f ≡ form.Id role.Value
is_it form.OfType h = cc
is_it form.Result h = cc
is_it form.Word h = cc
is_it form.Number h = cc
is_it form.Text h = cc
is_it (form.Id role.OfType) h = cc
is_it (form.Id role.Function) h = cc
is_it (form.Id role.Text) h = cc
is_it (form.Id role.Set) h = cc
is_it (form.Id role.Label) h = cc
is_it (form.Id role.Global) h = cc
is_it (form.Id role.Any) h = cc
is_it form.Unseen h = cc
is_it (form.Kind k) h = cc
is_it form.Other h = cc
is_it (form.Id role.Value) h = refl

no_value : (f : Form) (o : Plain) → is_value f ≡ false → value_in f o ≡ []
no_value form.OfType o h = refl
no_value form.Result o h = refl
no_value form.Word o h = refl
no_value form.Number o h = refl
no_value form.Text o h = refl
no_value (form.Id role.OfType) o h = refl
no_value (form.Id role.Function) o h = refl
no_value (form.Id role.Text) o h = refl
no_value (form.Id role.Set) o h = refl
no_value (form.Id role.Label) o h = refl
no_value (form.Id role.Global) o h = refl
no_value (form.Id role.Any) o h = refl
no_value form.Unseen o h = refl
no_value (form.Kind k) o h = refl
no_value form.Other o h = refl
no_value (form.Id role.Value) o h = cc

an_id : (G : Table) (o : Plain) → is_of G (form.Id role.Value) o ≡ true → (x : ℕ) × (o ≡ operand.Id x)
an_id G (operand.OfType a) h = cc
an_id G (operand.Result a) h = cc
an_id G (operand.Id a) h = (a, refl)
an_id G (operand.Word a) h = cc
an_id G (operand.Argument a) h = cc
an_id G (operand.Mention a) h = cc
an_id G (operand.Number a b w) h = cc
an_id G (operand.Text a) h = cc
an_id G (operand.Value a b) h = cc
an_id G (operand.Mask a b) h = cc

a_label : (G : Table) (o : Plain) → is_of G (form.Id role.Label) o ≡ true → (x : ℕ) × (o ≡ operand.Id x)
a_label G (operand.OfType a) h = cc
a_label G (operand.Result a) h = cc
a_label G (operand.Id a) h = (a, refl)
a_label G (operand.Word a) h = cc
a_label G (operand.Argument a) h = cc
a_label G (operand.Mention a) h = cc
a_label G (operand.Number a b w) h = cc
a_label G (operand.Text a) h = cc
a_label G (operand.Value a b) h = cc
a_label G (operand.Mask a b) h = cc

a_type : (G : Table) (o : Plain) → is_of G form.OfType o ≡ true → (x : ℕ) × (o ≡ operand.OfType x)
a_type G (operand.OfType a) h = (a, refl)
a_type G (operand.Result a) h = cc
a_type G (operand.Id a) h = cc
a_type G (operand.Word a) h = cc
a_type G (operand.Argument a) h = cc
a_type G (operand.Mention a) h = cc
a_type G (operand.Number a b w) h = cc
a_type G (operand.Text a) h = cc
a_type G (operand.Value a b) h = cc
a_type G (operand.Mask a b) h = cc

a_result : (G : Table) (o : Plain) → is_of G form.Result o ≡ true → (x : ℕ) × (o ≡ operand.Result x)
a_result G (operand.OfType a) h = cc
a_result G (operand.Result a) h = (a, refl)
a_result G (operand.Id a) h = cc
a_result G (operand.Word a) h = cc
a_result G (operand.Argument a) h = cc
a_result G (operand.Mention a) h = cc
a_result G (operand.Number a b w) h = cc
a_result G (operand.Text a) h = cc
a_result G (operand.Value a b) h = cc
a_result G (operand.Mask a b) h = cc

not_an_id : (G : Table) (f : Form) (o : Plain) (os : List Plain) → is_no_id f ≡ true → is_of G f o ≡ true
    → ids_in (o ∷ os) ≡ []
not_an_id G form.OfType o os e h = cc
not_an_id G form.Result o os e h = cc
not_an_id G form.Word (operand.OfType a) os e h = refl
not_an_id G form.Word (operand.Result a) os e h = refl
not_an_id G form.Word (operand.Id a) os e h = cc
not_an_id G form.Word (operand.Word a) os e h = refl
not_an_id G form.Word (operand.Argument a) os e h = refl
not_an_id G form.Word (operand.Mention a) os e h = refl
not_an_id G form.Word (operand.Number a b w) os e h = refl
not_an_id G form.Word (operand.Text a) os e h = refl
not_an_id G form.Word (operand.Value a b) os e h = refl
not_an_id G form.Word (operand.Mask a b) os e h = refl
not_an_id G form.Number o os e h = cc
not_an_id G form.Text o os e h = cc
not_an_id G (form.Id role.OfType) o os e h = cc
not_an_id G (form.Id role.Function) o os e h = cc
not_an_id G (form.Id role.Text) o os e h = cc
not_an_id G (form.Id role.Set) o os e h = cc
not_an_id G (form.Id role.Label) o os e h = cc
not_an_id G (form.Id role.Global) o os e h = cc
not_an_id G (form.Id role.Any) o os e h = cc
not_an_id G form.Unseen o os e h = cc
not_an_id G (form.Kind k) (operand.OfType a) os e h = refl
not_an_id G (form.Kind k) (operand.Result a) os e h = refl
not_an_id G (form.Kind k) (operand.Id a) os e h = cc
not_an_id G (form.Kind k) (operand.Word a) os e h = refl
not_an_id G (form.Kind k) (operand.Argument a) os e h = refl
not_an_id G (form.Kind k) (operand.Mention a) os e h = refl
not_an_id G (form.Kind k) (operand.Number a b w) os e h = refl
not_an_id G (form.Kind k) (operand.Text a) os e h = refl
not_an_id G (form.Kind k) (operand.Value a b) os e h = refl
not_an_id G (form.Kind k) (operand.Mask a b) os e h = refl
not_an_id G form.Other o os e h = cc
not_an_id G (form.Id role.Value) o os e h = cc

-- forms without a value use none
none_used : (G : Table) (fs : List Form) (os : List Plain) → have_no_value fs ≡ true → used_in fs os ≡ []
none_used G [] os h = refl
none_used G (f ∷ fs) [] h = refl
none_used G (f ∷ fs) (o ∷ os) h =
    let two = both (not (is_value f)) (have_no_value fs) h in
    let e : value_in f o ≡ [] = no_value f o (not_true (is_value f) two.0) in
    rw e (none_used G fs os two.1)

after_used : (G : Table) (fs : List Form) (os : List Plain) → are_after fs ≡ true → AreOf G fs os
    → used_in fs os ≡ ids_in os
after_used G [] [] h AreOf.none = refl
after_used G [] (o ∷ os) h a = elim a [ ]
after_used G (f ∷ fs) [] h a = elim a [ ]
after_used G (f ∷ fs) (o ∷ os) h (AreOf.more _ _ _ _ i a) =
    let two = both (is_no_id f) (have_no_value (f ∷ fs)) h in
    none_used G (f ∷ fs) (o ∷ os) two.1 ∙ sym (not_an_id G f o os two.0 i)

front_more : (G : Table) (f : Form) (fs : List Form) (o : Plain) (os : List Plain) (b : Bool) → is_value f ≡ b
    → (if b then are_front fs else are_after (f ∷ fs)) ≡ true → is_of G f o ≡ true → AreOf G fs os
    → (are_front fs ≡ true → used_in fs os ≡ ids_in os) → used_in (f ∷ fs) (o ∷ os) ≡ ids_in (o ∷ os)
front_more G f fs o os false e h i a rest = after_used G (f ∷ fs) (o ∷ os) h (AreOf.more f o fs os i a)
front_more G f fs o os true e h i a rest =
    let same : f ≡ form.Id role.Value = is_it f e in
    let x = an_id G o (rw (← same) i) in
    rw (same, x.1) (ap (λ xs. x.0 ∷ xs) (rest h))

front_used : (G : Table) (fs : List Form) (os : List Plain) → are_front fs ≡ true → AreOf G fs os
    → used_in fs os ≡ ids_in os
front_used G [] [] h AreOf.none = refl
front_used G [] (o ∷ os) h a = elim a [ ]
front_used G (f ∷ fs) [] h a = elim a [ ]
front_used G (f ∷ fs) (o ∷ os) h (AreOf.more _ _ _ _ i a) =
    front_more G f fs o os (is_value f) refl h i a (λ r. front_used G fs os r a)

-- Tests of endings.
abbrev is_free_ending : RowEnding → Bool
is_free_ending closed = true
is_free_ending (maybe f) = not (is_value f)
is_free_ending file_and_text = true
is_free_ending (repeated fs) = have_no_value fs
is_free_ending others = true
is_free_ending (maybe_others f) = not (is_value f)
is_free_ending (maybe_repeated f g) = not (is_value f) && not (is_value g)

no_value_append : (fs gs : List Form) → have_no_value fs ≡ true → have_no_value gs ≡ true
    → have_no_value (fs ++ gs) ≡ true
no_value_append [] gs h k = k
no_value_append (f ∷ fs) gs h k =
    let two = both (not (is_value f)) (have_no_value fs) h in
    and_yes (not (is_value f)) (have_no_value (fs ++ gs)) two.0 (no_value_append fs gs two.1 k)

free_others : (gs : List Form) → Ends others gs → have_no_value gs ≡ true
free_others [] Ends.no_other = refl
free_others (g ∷ gs) (Ends.other _ e) = free_others gs e

free_ending : (e : RowEnding) (gs : List Form) → is_free_ending e ≡ true → Ends e gs → have_no_value gs ≡ true
free_ending closed gs h Ends.nothing = refl
free_ending (maybe f) gs h (Ends.absent _) = refl
free_ending (maybe f) gs h (Ends.present _) = and_yes (not (is_value f)) true h refl
free_ending file_and_text gs h Ends.no_file_or_text = refl
free_ending file_and_text gs h Ends.file = refl
free_ending file_and_text gs h Ends.text = refl
free_ending file_and_text gs h Ends.both = refl
free_ending (repeated fs) gs h (Ends.done _) = refl
free_ending (repeated fs) gs h (Ends.again _ hs e) = no_value_append fs hs h (free_ending (repeated fs) hs h e)
free_ending others gs h e = free_others gs e
free_ending (maybe_others f) gs h (Ends.no_kind _) = refl
free_ending (maybe_others f) gs h (Ends.kind _ hs e) =
    and_yes (not (is_value f)) (have_no_value hs) h (free_others hs e)
free_ending (maybe_repeated f g) gs h (Ends.no_first _ _) = refl
free_ending (maybe_repeated f g) gs h (Ends.first _ _ hs e) =
    let two = both (not (is_value f)) (not (is_value g)) h in
    and_yes (not (is_value f)) (have_no_value hs) two.0
    (free_ending (repeated (g ∷ [])) hs (and_yes (not (is_value g)) true two.1 refl) e)

no_id_no_value : (f : Form) → is_no_id f ≡ true → is_value f ≡ false
no_id_no_value form.OfType h = cc
no_id_no_value form.Result h = cc
no_id_no_value form.Word h = refl
no_id_no_value form.Number h = cc
no_id_no_value form.Text h = cc
no_id_no_value (form.Id role.OfType) h = cc
no_id_no_value (form.Id role.Value) h = cc
no_id_no_value (form.Id role.Function) h = cc
no_id_no_value (form.Id role.Text) h = cc
no_id_no_value (form.Id role.Set) h = cc
no_id_no_value (form.Id role.Label) h = cc
no_id_no_value (form.Id role.Global) h = cc
no_id_no_value (form.Id role.Any) h = cc
no_id_no_value form.Unseen h = cc
no_id_no_value (form.Kind k) h = refl
no_id_no_value form.Other h = cc

front_value : (f : Form) (fs : List Form) → is_value f ≡ true → are_front fs ≡ true → are_front (f ∷ fs) ≡ true
front_value f fs e h = rw e h

front_other : (f : Form) (fs : List Form) → is_no_id f ≡ true → have_no_value fs ≡ true → are_front (f ∷ fs) ≡ true
front_other f fs e h =
    let n : is_value f ≡ false = no_id_no_value f e in
    rw (n, e) h

-- what may come after values alone: nothing, more values, or what is no id, and no value after it
abbrev is_plain_list : List Form → Bool
is_plain_list [] = false
is_plain_list (f ∷ []) = is_value f || is_no_id f
is_plain_list (f ∷ g ∷ fs) = false

abbrev is_plain_ending : RowEnding → Bool
is_plain_ending closed = true
is_plain_ending (maybe f) = is_value f || is_no_id f
is_plain_ending file_and_text = false
is_plain_ending (repeated fs) = is_plain_list fs
is_plain_ending others = false
is_plain_ending (maybe_others f) = is_no_id f
is_plain_ending (maybe_repeated f g) = false

one_more : (f : Form) (hs : List Form) (b : Bool) → is_value f ≡ b → b || is_no_id f ≡ true → are_front hs ≡ true
    → (is_value f ≡ false → have_no_value hs ≡ true) → are_front (f ∷ hs) ≡ true
one_more f hs true e h r n = front_value f hs e r
one_more f hs false e h r n = front_other f hs h (n e)

free_of : (f : Form) → is_value f ≡ false → have_no_value (f ∷ []) ≡ true
free_of f e = rw e refl

plain_repeated : (f : Form) (gs : List Form) → is_value f || is_no_id f ≡ true → Ends (repeated (f ∷ [])) gs
    → are_front gs ≡ true
plain_repeated f [] h _ = refl
plain_repeated f gs h (Ends.again _ hs e) =
    one_more f hs (is_value f) refl h (plain_repeated f hs h e)
    (λ n. free_ending (repeated (f ∷ [])) hs (free_of f n) e)

plain_ending : (e : RowEnding) (gs : List Form) → is_plain_ending e ≡ true → Ends e gs → are_front gs ≡ true
plain_ending closed gs h Ends.nothing = refl
plain_ending (maybe f) gs h (Ends.absent _) = refl
plain_ending (maybe f) gs h (Ends.present _) = one_more f [] (is_value f) refl h refl (λ e. refl)
plain_ending file_and_text gs h e = cc
plain_ending (repeated []) gs h e = cc
plain_ending (repeated (f ∷ [])) gs h e = plain_repeated f gs h e
plain_ending (repeated (f ∷ g ∷ fs)) gs h e = cc
plain_ending others gs h e = cc
plain_ending (maybe_others f) gs h (Ends.no_kind _) = refl
plain_ending (maybe_others f) gs h (Ends.kind _ hs e) = front_other f hs h (free_others hs e)
plain_ending (maybe_repeated f g) gs h e = cc

abbrev is_plain : List Form → RowEnding → Bool
is_plain [] e = is_plain_ending e
is_plain (f ∷ fs) e = if is_value f then is_plain fs e else (is_no_id f && (have_no_value fs && is_free_ending e))

plain_more : (f : Form) (fs gs : List Form) (e : RowEnding) (b : Bool) → is_value f ≡ b
    → (if b then is_plain fs e else (is_no_id f && (have_no_value fs && is_free_ending e))) ≡ true
    → Ends e gs → (is_plain fs e ≡ true → are_front (fs ++ gs) ≡ true) → are_front (f ∷ (fs ++ gs)) ≡ true
plain_more f fs gs e true v h n rest = front_value f (fs ++ gs) v (rest h)
plain_more f fs gs e false v h n rest =
    let two = both (is_no_id f) (have_no_value fs && is_free_ending e) h in
    let more = both (have_no_value fs) (is_free_ending e) two.1 in
    front_other f (fs ++ gs) two.0 (no_value_append fs gs more.0 (free_ending e gs more.1 n))

plain_front : (fs gs : List Form) (e : RowEnding) → is_plain fs e ≡ true → Ends e gs → are_front (fs ++ gs) ≡ true
plain_front [] gs e h n = plain_ending e gs h n
plain_front (f ∷ fs) gs e h n = plain_more f fs gs e (is_value f) refl h n (λ r. plain_front fs gs e r n)

plain_used : (G : Table) (fs gs : List Form) (e : RowEnding) (os : List Plain) → is_plain fs e ≡ true → Ends e gs
    → AreOf G (fs ++ gs) os → used_in (fs ++ gs) os ≡ ids_in os
plain_used G fs gs e os h n a = front_used G (fs ++ gs) os (plain_front fs gs e h n) a

-- a variable: its storage class, and then values
abbrev is_class : Form → Bool
is_class (form.Kind kind.StorageClass) = true
is_class _ = false

abbrev is_variable : List Form → RowEnding → Bool
is_variable [] e = false
is_variable (f ∷ fs) e = is_class f && is_plain fs e

a_class : (f : Form) → is_class f ≡ true → f ≡ form.Kind kind.StorageClass
a_class form.OfType h = cc
a_class form.Result h = cc
a_class form.Word h = cc
a_class form.Number h = cc
a_class form.Text h = cc
a_class (form.Id role.OfType) h = cc
a_class (form.Id role.Value) h = cc
a_class (form.Id role.Function) h = cc
a_class (form.Id role.Text) h = cc
a_class (form.Id role.Set) h = cc
a_class (form.Id role.Label) h = cc
a_class (form.Id role.Global) h = cc
a_class (form.Id role.Any) h = cc
a_class form.Unseen h = cc
a_class (form.Kind kind.SourceLanguage) h = cc
a_class (form.Kind kind.AddressingModel) h = cc
a_class (form.Kind kind.MemoryModel) h = cc
a_class (form.Kind kind.ExecutionModel) h = cc
a_class (form.Kind kind.ExecutionMode) h = cc
a_class (form.Kind kind.Capability) h = cc
a_class (form.Kind kind.StorageClass) h = refl
a_class (form.Kind kind.Decoration) h = cc
a_class (form.Kind kind.FunctionControl) h = cc
a_class (form.Kind kind.MemoryAccess) h = cc
a_class (form.Kind kind.LoopControl) h = cc
a_class (form.Kind kind.SelectionControl) h = cc
a_class (form.Kind kind.Dim) h = cc
a_class (form.Kind kind.ImageFormat) h = cc
a_class (form.Kind kind.AccessQualifier) h = cc
a_class (form.Kind kind.SamplerAddressingMode) h = cc
a_class (form.Kind kind.SamplerFilterMode) h = cc
a_class (form.Kind kind.GroupOperation) h = cc
a_class (form.Kind kind.PackedVectorFormat) h = cc
a_class (form.Kind kind.ImageOperands) h = cc
a_class form.Other h = cc

a_value : (G : Table) (o : Plain) → is_of G (form.Kind kind.StorageClass) o ≡ true → (k x : ℕ) × (o ≡ operand.Value k x)
a_value G (operand.OfType a) h = cc
a_value G (operand.Result a) h = cc
a_value G (operand.Id a) h = cc
a_value G (operand.Word a) h = cc
a_value G (operand.Argument a) h = cc
a_value G (operand.Mention a) h = cc
a_value G (operand.Number a b w) h = cc
a_value G (operand.Text a) h = cc
a_value G (operand.Value a b) h = (a, b, refl)
a_value G (operand.Mask a b) h = cc

variable_used : (G : Table) (fs gs : List Form) (e : RowEnding) (os : List Plain) → is_variable fs e ≡ true → Ends e gs
    → AreOf G (fs ++ gs) os
    → used_in (fs ++ gs) os ≡ initializers_in os
variable_used G [] gs e os h n a = cc
variable_used G (f ∷ fs) gs e [] h n a = elim a [ ]
variable_used G (f ∷ fs) gs e (o ∷ os) h n (AreOf.more _ _ _ _ i a) =
    let two = both (is_class f) (is_plain fs e) h in
    let same : f ≡ form.Kind kind.StorageClass = a_class f two.0 in
    let x = a_value G o (rw (← same) i) in
    rw (same, x.2) (plain_used G fs gs e os two.1 n a)

-- pairs of a value and a label
abbrev is_label : Form → Bool
is_label (form.Id role.Label) = true
is_label _ = false

its_label : (f : Form) → is_label f ≡ true → f ≡ form.Id role.Label
its_label form.OfType h = cc
its_label form.Result h = cc
its_label form.Word h = cc
its_label form.Number h = cc
its_label form.Text h = cc
its_label (form.Id role.OfType) h = cc
its_label (form.Id role.Value) h = cc
its_label (form.Id role.Function) h = cc
its_label (form.Id role.Text) h = cc
its_label (form.Id role.Set) h = cc
its_label (form.Id role.Label) h = refl
its_label (form.Id role.Global) h = cc
its_label (form.Id role.Any) h = cc
its_label form.Unseen h = cc
its_label (form.Kind k) h = cc
its_label form.Other h = cc

abbrev are_pairs : List Form → Bool
are_pairs [] = false
are_pairs (f ∷ []) = false
are_pairs (f ∷ g ∷ []) = is_value f && is_label g
are_pairs (f ∷ g ∷ h ∷ fs) = false

abbrev is_phi : List Form → RowEnding → Bool
is_phi [] (repeated fs) = are_pairs fs
is_phi _ _ = false

pairs_used : (G : Table) (gs : List Form) (os : List Plain)
    → Ends (repeated (form.Id role.Value ∷ form.Id role.Label ∷ [])) gs → AreOf G gs os
    → used_in gs os ≡ paired_ids_in os
pairs_used G [] [] e a = refl
pairs_used G gs (o ∷ os) (Ends.done _) a = elim a [ ]
pairs_used G gs [] (Ends.again _ hs e) a = elim a [ ]
pairs_used G gs (o ∷ []) (Ends.again _ hs e) (AreOf.more _ _ _ _ i a) = elim a [ ]
pairs_used G gs (o ∷ p ∷ os) (Ends.again _ hs e) (AreOf.more _ _ _ _ i (AreOf.more _ _ _ _ j a)) =
    let x = an_id G o i in
    let y = a_label G p j in
    rw (x.1, y.1) (ap (λ xs. x.0 ∷ xs) (pairs_used G hs os e a))

phi_used : (G : Table) (fs gs : List Form) (e : RowEnding) (os : List Plain) → is_phi fs e ≡ true → Ends e gs
    → AreOf G (fs ++ gs) os → used_in (fs ++ gs) os ≡ paired_ids_in os
phi_used G [] gs closed os h n a = cc
phi_used G [] gs (maybe f) os h n a = cc
phi_used G [] gs file_and_text os h n a = cc
phi_used G [] gs (repeated []) os h n a = cc
phi_used G [] gs (repeated (f ∷ [])) os h n a = cc
phi_used G [] gs (repeated (f ∷ g ∷ [])) os h n a =
    let two = both (is_value f) (is_label g) h in
    let first : f ≡ form.Id role.Value = is_it f two.0 in
    let second : g ≡ form.Id role.Label = its_label g two.1 in
    pairs_used G gs os (rw (← first, ← second) n) a
phi_used G [] gs (repeated (f ∷ g ∷ k ∷ fs)) os h n a = cc
phi_used G [] gs others os h n a = cc
phi_used G [] gs (maybe_others f) os h n a = cc
phi_used G [] gs (maybe_repeated f g) os h n a = cc
phi_used G (f ∷ fs) gs e os h n a = cc

-- one value, and no other
abbrev is_one : List Form → RowEnding → Bool
is_one [] e = false
is_one (f ∷ fs) e = is_value f && (have_no_value fs && is_free_ending e)

one_used : (G : Table) (fs gs : List Form) (e : RowEnding) (os : List Plain) → is_one fs e ≡ true → Ends e gs
    → AreOf G (fs ++ gs) os → used_in (fs ++ gs) os ≡ take 1 (ids_in os)
one_used G [] gs e os h n a = cc
one_used G (f ∷ fs) gs e [] h n a = elim a [ ]
one_used G (f ∷ fs) gs e (o ∷ os) h n (AreOf.more _ _ _ _ i a) =
    let two = both (is_value f) (have_no_value fs && is_free_ending e) h in
    let more = both (have_no_value fs) (is_free_ending e) two.1 in
    let same : f ≡ form.Id role.Value = is_it f two.0 in
    let x = an_id G o (rw (← same) i) in
    rw (same, x.1) (ap (λ xs. x.0 ∷ xs) (none_used G (fs ++ gs) os
    (no_value_append fs gs more.0 (free_ending e gs more.1 n))))

-- values, and what is no id, in any order
abbrev is_around : Form → Bool
is_around f = is_value f || is_no_id f

abbrev are_around : List Form → Bool
are_around [] = true
are_around (f ∷ fs) = is_around f && are_around fs

abbrev is_around_ending : RowEnding → Bool
is_around_ending closed = true
is_around_ending (maybe f) = is_around f
is_around_ending file_and_text = false
is_around_ending (repeated fs) = are_around fs
is_around_ending others = false
is_around_ending (maybe_others f) = false
is_around_ending (maybe_repeated f g) = is_around f && is_around g

around_append : (fs gs : List Form) → are_around fs ≡ true → are_around gs ≡ true → are_around (fs ++ gs) ≡ true
around_append [] gs h k = k
around_append (f ∷ fs) gs h k =
    let two = both (is_around f) (are_around fs) h in
    and_yes (is_around f) (are_around (fs ++ gs)) two.0 (around_append fs gs two.1 k)

around_ending : (e : RowEnding) (gs : List Form) → is_around_ending e ≡ true → Ends e gs → are_around gs ≡ true
around_ending closed gs h Ends.nothing = refl
around_ending (maybe f) gs h (Ends.absent _) = refl
around_ending (maybe f) gs h (Ends.present _) = and_yes (is_around f) true h refl
around_ending file_and_text gs h e = cc
around_ending (repeated fs) gs h (Ends.done _) = refl
around_ending (repeated fs) gs h (Ends.again _ hs e) = around_append fs hs h (around_ending (repeated fs) hs h e)
around_ending others gs h e = cc
around_ending (maybe_others f) gs h e = cc
around_ending (maybe_repeated f g) gs h (Ends.no_first _ _) = refl
around_ending (maybe_repeated f g) gs h (Ends.first _ _ hs e) =
    let two = both (is_around f) (is_around g) h in
    and_yes (is_around f) (are_around hs) two.0
    (around_ending (repeated (g ∷ [])) hs (and_yes (is_around g) true two.1 refl) e)

other_ids : (o : Plain) (os : List Plain) → ids_in (o ∷ os) ≡ [] → all_ids_in (o ∷ os) ≡ all_ids_in os
other_ids (operand.OfType a) os h = refl
other_ids (operand.Result a) os h = refl
other_ids (operand.Id a) os h = cc
other_ids (operand.Word a) os h = refl
other_ids (operand.Argument a) os h = refl
other_ids (operand.Mention a) os h = refl
other_ids (operand.Number a b w) os h = refl
other_ids (operand.Text a) os h = refl
other_ids (operand.Value a b) os h = refl
other_ids (operand.Mask a b) os h = refl

around_more : (G : Table) (f : Form) (fs : List Form) (o : Plain) (os : List Plain) (b : Bool) → is_value f ≡ b
    → b || is_no_id f ≡ true → is_of G f o ≡ true → used_in fs os ≡ all_ids_in os
    → used_in (f ∷ fs) (o ∷ os) ≡ all_ids_in (o ∷ os)
around_more G f fs o os true e h i rest =
    let same : f ≡ form.Id role.Value = is_it f e in
    let x = an_id G o (rw (← same) i) in
    rw (same, x.1) (ap (λ xs. x.0 ∷ xs) rest)
around_more G f fs o os false e h i rest =
    let none : value_in f o ≡ [] = no_value f o e in
    rw none (rest ∙ sym (other_ids o os (not_an_id G f o os h i)))

around_used : (G : Table) (fs : List Form) (os : List Plain) → are_around fs ≡ true → AreOf G fs os
    → used_in fs os ≡ all_ids_in os
around_used G [] [] h AreOf.none = refl
around_used G [] (o ∷ os) h a = elim a [ ]
around_used G (f ∷ fs) [] h a = elim a [ ]
around_used G (f ∷ fs) (o ∷ os) h (AreOf.more _ _ _ _ i a) =
    let two = both (is_around f) (are_around fs) h in
    around_more G f fs o os (is_value f) refl two.0 i (around_used G fs os two.1 a)

-- values, a function after so many of them, and values
abbrev is_function : Form → Bool
is_function (form.Id role.Function) = true
is_function _ = false

its_function : (f : Form) → is_function f ≡ true → f ≡ form.Id role.Function
its_function form.OfType h = cc
its_function form.Result h = cc
its_function form.Word h = cc
its_function form.Number h = cc
its_function form.Text h = cc
its_function (form.Id role.OfType) h = cc
its_function (form.Id role.Value) h = cc
its_function (form.Id role.Function) h = refl
its_function (form.Id role.Text) h = cc
its_function (form.Id role.Set) h = cc
its_function (form.Id role.Label) h = cc
its_function (form.Id role.Global) h = cc
its_function (form.Id role.Any) h = cc
its_function form.Unseen h = cc
its_function (form.Kind k) h = cc
its_function form.Other h = cc

a_function : (G : Table) (o : Plain) → is_of G (form.Id role.Function) o ≡ true → (x : ℕ) × (o ≡ operand.Id x)
a_function G (operand.OfType a) h = cc
a_function G (operand.Result a) h = cc
a_function G (operand.Id a) h = (a, refl)
a_function G (operand.Word a) h = cc
a_function G (operand.Argument a) h = cc
a_function G (operand.Mention a) h = cc
a_function G (operand.Number a b w) h = cc
a_function G (operand.Text a) h = cc
a_function G (operand.Value a b) h = cc
a_function G (operand.Mask a b) h = cc

abbrev is_beside : ℕ → List Form → RowEnding → Bool
is_beside k [] e = false
is_beside zero (f ∷ fs) e = is_function f && is_plain fs e
is_beside (suc k) (f ∷ fs) e = is_value f && is_beside k fs e

-- ids past the one that is left out
pub past : (k n : ℕ) (xs : List ℕ) → k < n → others_from k n xs ≡ xs
past k n [] l = refl
past k n (x ∷ xs) l =
    let other : nat_eq n k ≡ false = differ n k (λ e. omega (arith, e, l)) in
    rw other (ap (λ ys. x ∷ ys) (past k (n + 1) xs (omega (arith, l))))

beside_used : (G : Table) (j k n : ℕ) (fs gs : List Form) (e : RowEnding) (os : List Plain) → k ≡ n + j
    → is_beside j fs e ≡ true → Ends e gs → AreOf G (fs ++ gs) os
    → used_in (fs ++ gs) os ≡ others_from k n (ids_in os)
beside_used G j k n [] gs e os q h m a = cc
beside_used G j k n (f ∷ fs) gs e [] q h m a = elim a [ ]
beside_used G zero k n (f ∷ fs) gs e (o ∷ os) q h m (AreOf.more _ _ _ _ i a) =
    let two = both (is_function f) (is_plain fs e) h in
    let same : f ≡ form.Id role.Function = its_function f two.0 in
    let x = a_function G o (rw (← same) i) in
    let here : nat_eq n k ≡ true = eq-eqb n k (omega (arith, q)) in
    rw (same, x.1) (rw here (plain_used G fs gs e os two.1 m a
    ∙ sym (past k (n + 1) (ids_in os) (omega (arith, q)))))
beside_used G (suc j) k n (f ∷ fs) gs e (o ∷ os) q h m (AreOf.more _ _ _ _ i a) =
    let two = both (is_value f) (is_beside j fs e) h in
    let same : f ≡ form.Id role.Value = is_it f two.0 in
    let x = an_id G o (rw (← same) i) in
    let other : nat_eq n k ≡ false = differ n k (λ p. omega (arith, p, q)) in
    rw (same, x.1) (rw other (ap (λ xs. x.0 ∷ xs)
    (beside_used G j k (n + 1) fs gs e os (omega (arith, q)) two.1 m a)))

-- Whether a row of types looks for its values where forms and an ending, without the type and the result, have them.
abbrev agrees : Places → List Form → RowEnding → Bool
agrees places.Free fs e = false
agrees places.Nothing fs e = have_no_value fs && is_free_ending e
agrees places.Initializers fs e = is_variable fs e
agrees places.Pairs fs e = is_phi fs e
agrees places.One fs e = is_one fs e
agrees places.Ids fs e = is_plain fs e
agrees places.Many fs e = is_plain fs e
agrees places.Around fs e = are_around fs && is_around_ending e
agrees (places.Beside k) fs e = is_beside k fs e
agrees places.Enqueued fs e = is_beside 6 fs e
agrees places.Copied fs e = is_plain fs e

agreed : (G : Table) (r : Places) (fs gs : List Form) (e : RowEnding) (os : List Plain) → agrees r fs e ≡ true
    → Ends e gs → AreOf G (fs ++ gs) os
    → used_in (fs ++ gs) os ≡ value_ids r os
agreed G places.Free fs gs e os h n a = cc
agreed G places.Nothing fs gs e os h n a =
    let two = both (have_no_value fs) (is_free_ending e) h in
    none_used G (fs ++ gs) os (no_value_append fs gs two.0 (free_ending e gs two.1 n))
agreed G places.Initializers fs gs e os h n a = variable_used G fs gs e os h n a
agreed G places.Pairs fs gs e os h n a = phi_used G fs gs e os h n a
agreed G places.One fs gs e os h n a = one_used G fs gs e os h n a
agreed G places.Ids fs gs e os h n a = plain_used G fs gs e os h n a
agreed G places.Many fs gs e os h n a = plain_used G fs gs e os h n a
agreed G places.Around fs gs e os h n a =
    let two = both (are_around fs) (is_around_ending e) h in
    around_used G (fs ++ gs) os (around_append fs gs two.0 (around_ending e gs two.1 n)) a
agreed G (places.Beside k) fs gs e os h n a = beside_used G k k 0 fs gs e os (omega arith) h n a
agreed G places.Enqueued fs gs e os h n a = beside_used G 6 6 0 fs gs e os (omega arith) h n a
agreed G places.Copied fs gs e os h n a = plain_used G fs gs e os h n a

-- The forms without the type and the result: where a row has these first, or has a value first.
abbrev is_type : Form → Bool
is_type form.OfType = true
is_type _ = false

abbrev is_result : Form → Bool
is_result form.Result = true
is_result _ = false

its_type : (f : Form) → is_type f ≡ true → f ≡ form.OfType
its_type form.OfType h = refl
its_type form.Result h = cc
its_type form.Word h = cc
its_type form.Number h = cc
its_type form.Text h = cc
its_type (form.Id role.OfType) h = cc
its_type (form.Id role.Value) h = cc
its_type (form.Id role.Function) h = cc
its_type (form.Id role.Text) h = cc
its_type (form.Id role.Set) h = cc
its_type (form.Id role.Label) h = cc
its_type (form.Id role.Global) h = cc
its_type (form.Id role.Any) h = cc
its_type form.Unseen h = cc
its_type (form.Kind k) h = cc
its_type form.Other h = cc

its_result : (f : Form) → is_result f ≡ true → f ≡ form.Result
its_result form.OfType h = cc
its_result form.Result h = refl
its_result form.Word h = cc
its_result form.Number h = cc
its_result form.Text h = cc
its_result (form.Id role.OfType) h = cc
its_result (form.Id role.Value) h = cc
its_result (form.Id role.Function) h = cc
its_result (form.Id role.Text) h = cc
its_result (form.Id role.Set) h = cc
its_result (form.Id role.Label) h = cc
its_result (form.Id role.Global) h = cc
its_result (form.Id role.Any) h = cc
its_result form.Unseen h = cc
its_result (form.Kind k) h = cc
its_result form.Other h = cc

-- an id in any role
abbrev is_use : Form → Bool
is_use (form.Id r) = true
is_use _ = false

an_any : (G : Table) (r : Role) (o : Plain) → is_of G (form.Id r) o ≡ true → (x : ℕ) × (o ≡ operand.Id x)
an_any G r (operand.OfType a) h = cc
an_any G r (operand.Result a) h = cc
an_any G r (operand.Id a) h = (a, refl)
an_any G r (operand.Word a) h = cc
an_any G r (operand.Argument a) h = cc
an_any G r (operand.Mention a) h = cc
an_any G r (operand.Number a b w) h = cc
an_any G r (operand.Text a) h = cc
an_any G r (operand.Value a b) h = cc
an_any G r (operand.Mask a b) h = cc

a_use : (G : Table) (f : Form) (o : Plain) → is_use f ≡ true → is_of G f o ≡ true → (x : ℕ) × (o ≡ operand.Id x)
a_use G form.OfType o e h = cc
a_use G form.Result o e h = cc
a_use G form.Word o e h = cc
a_use G form.Number o e h = cc
a_use G form.Text o e h = cc
a_use G (form.Id r) o e h = an_any G r o h
a_use G form.Unseen o e h = cc
a_use G (form.Kind k) o e h = cc
a_use G form.Other o e h = cc

-- a test of a row of types against forms and an ending
abbrev is_free : Places → Bool
is_free places.Free = true
is_free _ = false

abbrev agrees_whole : Places → List Form → RowEnding → Bool
agrees_whole r [] e = false
agrees_whole r (f ∷ []) e = is_use f && agrees r (f ∷ []) e
agrees_whole r (f ∷ g ∷ fs) e = (is_type f && (is_result g && agrees r fs e)) || (is_use f && agrees r (f ∷ g ∷ fs) e)

value_first : (G : Table) (r : Places) (f : Form) (fs gs : List Form) (e : RowEnding) (os : List Plain)
    → is_use f && agrees r (f ∷ fs) e ≡ true → Ends e gs → AreOf G (f ∷ (fs ++ gs)) os
    → used_in (f ∷ (fs ++ gs)) os ≡ value_ids r (after_head os)
value_first G r f fs gs e [] h n a = elim a [ ]
value_first G r f fs gs e (o ∷ os) h n (AreOf.more _ _ _ _ i a) =
    let two = both (is_use f) (agrees r (f ∷ fs) e) h in
    let x = a_use G f o two.0 i in
    let front : after_head (o ∷ os) ≡ o ∷ os = rw x.1 refl in
    agreed G r (f ∷ fs) gs e (o ∷ os) two.1 n (AreOf.more f o (fs ++ gs) os i a) ∙ ap (value_ids r) (sym front)

head_first : (G : Table) (r : Places) (f g : Form) (fs gs : List Form) (e : RowEnding) (os : List Plain)
    → is_type f && (is_result g && agrees r fs e) ≡ true → Ends e gs → AreOf G (f ∷ g ∷ (fs ++ gs)) os
    → used_in (f ∷ g ∷ (fs ++ gs)) os ≡ value_ids r (after_head os)
head_first G r f g fs gs e [] h n a = elim a [ ]
head_first G r f g fs gs e (o ∷ []) h n (AreOf.more _ _ _ _ i a) = elim a [ ]
head_first G r f g fs gs e (o ∷ p ∷ os) h n (AreOf.more _ _ _ _ i (AreOf.more _ _ _ _ j a)) =
    let two = both (is_type f) (is_result g && agrees r fs e) h in
    let more = both (is_result g) (agrees r fs e) two.1 in
    let first : f ≡ form.OfType = its_type f two.0 in
    let second : g ≡ form.Result = its_result g more.0 in
    let t = a_type G o (rw (← first) i) in
    let x = a_result G p (rw (← second) j) in
    rw (first, second, t.1, x.1) (agreed G r fs gs e os more.1 n a)

whole_two : (G : Table) (r : Places) (f g : Form) (fs gs : List Form) (e : RowEnding) (os : List Plain) (b : Bool)
    → is_type f && (is_result g && agrees r fs e) ≡ b
    → b || (is_use f && agrees r (f ∷ g ∷ fs) e) ≡ true → Ends e gs → AreOf G (f ∷ g ∷ (fs ++ gs)) os
    → used_in (f ∷ g ∷ (fs ++ gs)) os ≡ value_ids r (after_head os)
whole_two G r f g fs gs e os true y h n a = head_first G r f g fs gs e os y n a
whole_two G r f g fs gs e os false y h n a = value_first G r f (g ∷ fs) gs e os h n a

whole : (G : Table) (r : Places) (fs gs : List Form) (e : RowEnding) (os : List Plain) → agrees_whole r fs e ≡ true
    → Ends e gs → AreOf G (fs ++ gs) os
    → used_in (fs ++ gs) os ≡ value_ids r (after_head os)
whole G r [] gs e os h n a = cc
whole G r (f ∷ []) gs e os h n a = value_first G r f [] gs e os h n a
whole G r (f ∷ g ∷ fs) gs e os h n a =
    whole_two G r f g fs gs e os (is_type f && (is_result g && agrees r fs e)) refl h n a

-- The test of all rows of the table of shapes, opcode by opcode.
abbrev agrees_with : ℕ → PlainRow → Bool
agrees_with n r = is_free (places_of n) || agrees_whole (places_of n) r.fixed r.ending

all_fit : all_pass agrees_with rows ≡ true
unfolding rows lines
all_fit = refl

freed : (r : Places) (b : Bool) → is_free r || b ≡ true → r ≢ places.Free → b ≡ true
freed places.Free b h n = absurd (n refl)
freed places.Nothing b h n = h
freed places.Initializers b h n = h
freed places.Pairs b h n = h
freed places.One b h n = h
freed places.Ids b h n = h
freed places.Many b h n = h
freed places.Around b h n = h
freed (places.Beside k) b h n = h
freed places.Enqueued b h n = h
freed places.Copied b h n = h

-- The code's places of value operands are those of the instruction's forms.
pub values_agree : (G : Table) (i : PlainInst) (fs : List Form) → HasForms G i fs → places_of i.opcode ≢ places.Free
    → used_in fs i.operands ≡ values_of i
values_agree G i fs has n =
    let known : row_in rows i.opcode ≡ Some has.row = has.known in
    let h = freed (places_of i.opcode) (agrees_whole (places_of i.opcode) has.row.fixed has.row.ending)
    (one_passes agrees_with rows i.opcode has.row all_fit known) n in
    let e : fs ≡ has.row.fixed ++ has.rest = has.forms in
    rw e (whole G (places_of i.opcode) has.row.fixed has.rest has.row.ending i.operands h has.ending
    (rw (← e) has.each))
