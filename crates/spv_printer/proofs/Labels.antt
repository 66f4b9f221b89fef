-- Names that stand for values and masks.
use Rattle.std.proofs.Common.{◌⊎◌, inl, inr, ◌≡◌, ◌≢◌, ◌++◌, ◌∙◌, ◌<◌, ◌+◌, ℕ, List, [], ◌∷◌, Option, Some, None, true}
use Rattle.std.proofs.Common.{option_map, option_and_then, is_some, length, set, take, refl, sym, ap, arith}
use Rattle.std.proofs.Common.{append_assoc, append-nil, length-set}
use Rattle.std.specs.Prelude.{IfSome, IsUtf8}
use Rattle.std.proofs.lemmas.List.{take_more_set}
use Rattle.std.proofs.lemmas.Str.{IsUtf8-append}
use Rattle.std.proofs.Math.Seq.{take-length}
use Rattle.spv_table.specs.declared.table.Enumerant.{Enumerant}
use Rattle.spv_table.specs.Table.{Table, enumerant_of, kind_of}
use Rattle.spv_table.specs.declared.form.Leaf as declared
use Rattle.spv_table.specs.declared.form.Form.TheVariants.{Leaf}
use Rattle.spv_table.specs.declared.form.Leaf.TheVariants as leaf
use Rattle.spv_table.specs.inner.Form.{form_at}
use Rattle.spv_module.specs.Operand.{Context, Value, Mask, Word}
use Rattle.spv_inst.specs.Reading.{enumerants_at}
use Rattle.spv_module.specs.Shape.{alone, shape_of}
use Rattle.spv_module.specs.Spelling.{Takes, set_bits, parameters_of, parameters_of_all, mask_parameters}
use Rattle.spv_inst.proofs.Opened.{kinds_begin, kinds_rest_at}
use Rattle.spv_inst.proofs.Shapes.{shape_leaf}
use Rattle.spv_lines.specs.Name.{names_from, shown_mask, shown_value}
use Rattle.spv_printer.specs.inner.Fast.{IsNamed, IsNamedBy}
use Rattle.spv_printer.proofs.Pieces.{space_utf8}
use Rattle.spv_printer.proofs.BitNames.{zero_mask}
use Rattle.spv_printer.proofs.Drafts.{front_copied}
use Rattle.spv_printer.proofs.OneBit.{bit_shown}

-- what is said of a value, if there is one, said otherwise
pub some_by : {A : Type 0} {P Q : A → Type 0} (o : Option A) → ((a : A) → P a → Q a) → IfSome o P → IfSome o Q
some_by None f h = tt
some_by (Some a) f h = f a h

-- a space and a name that are copied to a place
pub name_copied : (old octets name rest : List ℕ) (at : ℕ) → at < length old → octets ≡ name
    → take (at + 1 + length octets) (take (at + 1) (set old at 32) ++ (octets ++ rest)) ≡ take at old ++ (32 ∷ name)
name_copied old octets name rest at h v =
    let s = length-set old at 32 in
    let f = front_copied (set old at 32) octets rest (at + 1) (length octets) (omega arith) (omega arith) in
    f
    ∙ (ap (λ z. take (at + 1) (set old at 32) ++ z) (take-length octets ∙ v)
    ∙ (ap (λ z. z ++ name) (take_more_set old at 32 h) ∙ append_assoc (take at old) (32 ∷ []) name))

pub name_utf8 : (name : List ℕ) → IsUtf8 name → IsUtf8 (32 ∷ name)
name_utf8 name u = IsUtf8-append (32 ∷ []) name space_utf8 u

-- the mask without a bit
pub zero_label : (es : List Enumerant) (mask : ℕ) (name : List ℕ) → mask ≡ 0 → shown_value es 0 ≡ name
    → (shown_mask es mask ≡ name) × (mask_parameters es mask ≡ Some [])
zero_label es mask name e h =
    let k : mask_parameters es 0 ≡ Some [] = kinds_begin es 0 ∙ kinds_rest_at es 0 0 [] refl in
    rw e (sym (zero_mask es) ∙ h, k)

-- the parameters of a mask of one bit are those of its enumerant
bit_kinds : (es : List Enumerant) (x : ℕ) (e : Enumerant) → set_bits x ≡ x ∷ [] → enumerant_of es x ≡ Some e
    → mask_parameters es x ≡ Some e.parameters
unfolding mask_parameters
bit_kinds es x e b f =
    let s = b in
    let one : parameters_of es x ≡ Some e.parameters = ap (λ o. option_map (λ (a : Enumerant). a.parameters) o) f in
    ap (parameters_of_all es) s
    ∙ (ap (λ o. option_and_then (λ (ks : List ℕ). option_map (λ js. ks ++ js) (Some [])) o) one
    ∙ ap (λ z. Some z) (append-nil e.parameters))

pub bit_label : (es : List Enumerant) (x : ℕ) (name kinds : List ℕ) → x ≢ 0 → set_bits x ≡ x ∷ []
    → is_some (names_from es x 0) ≡ true → IsNamedBy es x name kinds
    → (shown_mask es x ≡ name) × (mask_parameters es x ≡ Some kinds)
bit_label es x name kinds n b h d = (
  bit_shown es x d.enumerant n b h d.found ∙ d.name_is,
  bit_kinds es x d.enumerant b d.found
      ∙ ap (λ z. Some z) d.kinds_are,
)

-- the operand that a word is, by what stands for it
pub value_is : (G : Table) (l : declared.Leaf) (kind x : ℕ) (name kinds : List ℕ) → l ≡ leaf.Value
    → form_at (kind_of G kind) ≡ Leaf l
    → (shown_value (enumerants_at (kind_of G kind)) x ≡ name)
    × (parameters_of (enumerants_at (kind_of G kind)) x ≡ Some kinds) → IsNamed G kind x name kinds
value_is G l kind x name kinds v e h =
    record {
      operand = Value kind x;
      takes = λ b. rw (shape_leaf G b (alone kind) l leaf.Value e v)
          (Takes.value (enumerants_at (kind_of G kind)) x kinds h.1);
      shown = h.0;
      steady = refl;
      result = refl;
      type_id = refl;
    }

pub mask_is : (G : Table) (l : declared.Leaf) (kind x : ℕ) (name kinds : List ℕ) → l ≡ leaf.Mask
    → form_at (kind_of G kind) ≡ Leaf l
    → (shown_mask (enumerants_at (kind_of G kind)) x ≡ name)
    × (mask_parameters (enumerants_at (kind_of G kind)) x ≡ Some kinds) → IsNamed G kind x name kinds
mask_is G l kind x name kinds v e h =
    record {
      operand = Mask kind x;
      takes = λ b. rw (shape_leaf G b (alone kind) l leaf.Mask e v)
          (Takes.mask (enumerants_at (kind_of G kind)) x kinds h.1);
      shown = h.0;
      steady = refl;
      result = refl;
      type_id = refl;
    }

-- a literal of one word
pub word_taken : (G : Table) (b : Context) (kind x : ℕ) (l : declared.Leaf) → form_at (kind_of G kind) ≡ Leaf l
    → (l ≡ leaf.Integer) ⊎ (l ≡ leaf.Word) → Takes kind (shape_of G b (alone kind)) (Word x) (x ∷ []) []
word_taken G b kind x l e (inl i) = rw (shape_leaf G b (alone kind) l leaf.Integer e i) (Takes.word x)
word_taken G b kind x l e (inr i) = rw (shape_leaf G b (alone kind) l leaf.Word e i) (Takes.word x)
