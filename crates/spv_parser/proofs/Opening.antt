-- The kinds of the parameters that an operand brings, as the code finds them.
use Rattle.std.proofs.Common.{◌≡◌, ℕ, List, [], ◌∷◌, Bool, Option, Some, None, refl}
use Rattle.std.specs.Prelude.{IfSome, Ok, option_map}
use Rattle.spv_table.specs.Table.{Table, kind_of}
use Rattle.spv_table.specs.declared.form.Leaf as declared
use Rattle.spv_table.specs.declared.form.Leaf.TheVariants as leaf
use Rattle.spv_table.specs.declared.form.Form.TheVariants.{Leaf}
use Rattle.spv_module.specs.declared.operand.Operand.{Operand}
use Rattle.spv_table.specs.inner.Form.{form_at}
use Rattle.spv_module.specs.Operand.{Plain, Value, Mask, Context, result_in, type_in}
use Rattle.spv_module.specs.Module.{plain_operand}
use Rattle.spv_module.specs.Shape.{AsValue, AsMask, alone, shape_of}
use Rattle.spv_inst.specs.Reading.{enumerants_at}
use Rattle.spv_module.specs.Spelling.{parameters_of, mask_parameters}
use Rattle.spv_inst.specs.inner.Pending.{opened_kinds}
use Rattle.spv_inst.proofs.Masks.{whole_mask}
use Rattle.spv_inst.proofs.Shapes.{shape_leaf}
use Rattle.spv_lines.specs.inner.Answer.{IsTaken, IsToken}

pub value_opened : {A : Type 0} (now : A → List ℕ) (G : Table) (k x : ℕ) (o : Plain) (r : Option A) → o ≡ Value k x
    → option_map now r ≡ parameters_of (enumerants_at (kind_of G k)) x → IfSome r (λ ks. opened_kinds G o ≡ now ks)
value_opened now G k x o None e f = tt
value_opened now G k x o (Some ks) e f = rw (e, ← f) refl

pub mask_opened : {A : Type 0} (now : A → List ℕ) (G : Table) (k x : ℕ) (o : Plain) (r : Option A) → o ≡ Mask k x
    → IfSome r (λ ks. mask_parameters (enumerants_at (kind_of G k)) x ≡ Some (now ks))
    → IfSome r (λ ks. opened_kinds G o ≡ now ks)
mask_opened now G k x o None e f = tt
mask_opened now G k x o (Some ks) e f = rw e (whole_mask G k x (now ks) f)

-- a token of a kind of values, and one of a kind of masks
pub value_taken_at : (G : Table) (k : ℕ) (t : List ℕ) (l : declared.Leaf) (o : Operand) → form_at (kind_of G k) ≡ Leaf l
    → l ≡ leaf.Value → ((hex : Bool) → IsToken G hex k (AsValue (enumerants_at (kind_of G k))) t (Ok o))
    → (c : Context) (hex : Bool) → IsTaken G hex k (shape_of G c (alone k)) t (plain_operand o)
value_taken_at G k t l o e f h = λ c hex. rw (shape_leaf G c (alone k) l leaf.Value e f) (h hex)

pub mask_taken_at : (G : Table) (k : ℕ) (t : List ℕ) (l : declared.Leaf) (o : Operand) → form_at (kind_of G k) ≡ Leaf l
    → l ≡ leaf.Mask → ((hex : Bool) → IsToken G hex k (AsMask (enumerants_at (kind_of G k))) t (Ok o))
    → (c : Context) (hex : Bool) → IsTaken G hex k (shape_of G c (alone k)) t (plain_operand o)
mask_taken_at G k t l o e f h = λ c hex. rw (shape_leaf G c (alone k) l leaf.Mask e f) (h hex)

-- a value or a mask is neither a result nor a result type
pub value_plain : {A : Type 0} (k x : ℕ) (o : Plain) (r : Option A) → o ≡ Value k x
    → IfSome r (λ y. (result_in (o ∷ []) ≡ None) × (type_in (o ∷ []) ≡ None))
value_plain k x o None e = tt
value_plain k x o (Some y) e = rw e (refl, refl)

pub mask_plain : {A : Type 0} (k x : ℕ) (o : Plain) (r : Option A) → o ≡ Mask k x
    → IfSome r (λ y. (result_in (o ∷ []) ≡ None) × (type_in (o ∷ []) ≡ None))
mask_plain k x o None e = tt
mask_plain k x o (Some y) e = rw e (refl, refl)
