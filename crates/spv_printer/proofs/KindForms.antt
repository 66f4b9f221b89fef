-- What the form of a kind tells of the operand that it takes: the parameters that are due behind it, and the type of a
-- number.
use Rattle.std.proofs.Common.{◌≡◌, ℕ, List, [], Option, Some, Bool, true, false, ◌&&◌, nat_eq, map, refl, sym, ap}
use Rattle.std.specs.Prelude.{unwrap_or, if◌then◌else◌}
use Rattle.spv_table.specs.declared.table.Enumerant.{Enumerant}
use Rattle.spv_table.specs.Table.{Table, kind_of}
use Rattle.spv_table.specs.declared.form.Leaf as declared
use Rattle.spv_table.specs.declared.form.Leaf.TheVariants as leaf
use Rattle.spv_table.specs.declared.form.Form.TheVariants.{Leaf}
use Rattle.spv_table.specs.inner.Form.{form_at}
use Rattle.spv_module.specs.declared.opcode.TheConstants.{SWITCH}
use Rattle.spv_module.specs.Operand.{Plain, Number, Context}
use Rattle.spv_module.specs.Shape.{Slot, alone, Shape, AsNumber, AsWord, AsValue, AsMask, shape_of}
use Rattle.spv_module.specs.Width.{context_width, switch_width}
use Rattle.spv_module.specs.Spelling.{Takes, parameters_of, mask_parameters}
use Rattle.spv_inst.specs.Reading.{enumerants_at}
use Rattle.spv_inst.specs.inner.Pending.{opened_kinds}
use Rattle.spv_inst.proofs.Shapes.{leaf_shape, shape_leaf}
use Rattle.spv_inst.proofs.Masks.{whole_mask}

no_value : (b : Bool) (w : Option ℕ) (es : List Enumerant) → (if b then AsNumber w else AsWord) ≡ AsValue es → ⊥
no_value true w es h = cc
no_value false w es h = cc

no_mask : (b : Bool) (w : Option ℕ) (es : List Enumerant) → (if b then AsNumber w else AsWord) ≡ AsMask es → ⊥
no_mask true w es h = cc
no_mask false w es h = cc

value_of : (c : Context) (p : Bool) (es fs : List Enumerant) (l : declared.Leaf) → AsValue fs ≡ leaf_shape c p es l
    → fs ≡ es
value_of c p es fs leaf.Integer h = absurd (no_value (p && nat_eq c.opcode SWITCH) (switch_width c) fs (sym h))
value_of c p es fs _ h = cc

mask_of : (c : Context) (p : Bool) (es fs : List Enumerant) (l : declared.Leaf) → AsMask fs ≡ leaf_shape c p es l
    → fs ≡ es
mask_of c p es fs leaf.Integer h = absurd (no_mask (p && nat_eq c.opcode SWITCH) (switch_width c) fs (sym h))
mask_of c p es fs _ h = cc

opened_by : (G : Table) (k : ℕ) (c : Context) (p : Bool) (l : declared.Leaf) (sh : Shape) (o : Plain) (ws : List ℕ)
    (ss : List Slot) → Takes k sh o ws ss
    → sh ≡ leaf_shape c p (enumerants_at (kind_of G k)) l → ss ≡ map alone (opened_kinds G o)
opened_by G k c p l _ _ _ _ (Takes.value es x ks h) e =
    let f = value_of c p (enumerants_at (kind_of G k)) es l e in
    let g : parameters_of (enumerants_at (kind_of G k)) x ≡ Some ks = rw f at h in
    sym (ap (λ q. map alone (unwrap_or q [])) g)
opened_by G k c p l _ _ _ _ (Takes.mask es x ks h) e =
    let f = mask_of c p (enumerants_at (kind_of G k)) es l e in
    let g : mask_parameters (enumerants_at (kind_of G k)) x ≡ Some ks = rw f at h in
    sym (ap (map alone) (whole_mask G k x ks g))
opened_by G k c p l _ _ _ _ _ e = refl

-- the parameters that are due behind an operand are those that it opens
pub slots_opened : (G : Table) (c : Context) (s : Slot) (l : declared.Leaf) (o : Plain) (ws : List ℕ) (ss : List Slot)
    → form_at (kind_of G s.kind) ≡ Leaf l
    → Takes s.kind (shape_of G c s) o ws ss → ss ≡ map alone (opened_kinds G o)
slots_opened G c s l o ws ss e t =
    opened_by G s.kind c s.paired l (shape_of G c s) o ws ss t (shape_leaf G c s l l e refl)

-- the width of a number that is taken is known: that of the instruction's type, or in OpSwitch that of the selector
pub data Wide (c : Context) (l : declared.Leaf) : Type 0 where
  context : (w : ℕ) → l ≡ leaf.ContextNumber → context_width c ≡ Some w → Wide c l
  switch : (w : ℕ) → l ≡ leaf.Integer → switch_width c ≡ Some w → Wide c l

integer_wide : (c : Context) (w : ℕ) (b : Bool) → (if b then AsNumber (switch_width c) else AsWord) ≡ AsNumber (Some w)
    → switch_width c ≡ Some w
integer_wide c w true h = cc
integer_wide c w false h = cc

wide_of : (c : Context) (p : Bool) (es : List Enumerant) (l : declared.Leaf) (w : ℕ)
    → leaf_shape c p es l ≡ AsNumber (Some w) → Wide c l
wide_of c p es leaf.Integer w h = Wide.switch w refl (integer_wide c w (p && nat_eq c.opcode SWITCH) h)
wide_of c p es leaf.ContextNumber w h = Wide.context w refl (let e : context_width c ≡ Some w = cc in e)
wide_of c p es _ w h = cc

wide_by : (k : ℕ) (c : Context) (p : Bool) (es : List Enumerant) (l : declared.Leaf) (sh : Shape) (o : Plain)
    (ws : List ℕ) (ss : List Slot) (a b n : ℕ) → Takes k sh o ws ss
    → o ≡ Number a b n → sh ≡ leaf_shape c p es l → Wide c l
wide_by k c p es l _ _ _ _ a b n (Takes.narrow w x h) e f = wide_of c p es l w (sym f)
wide_by k c p es l _ _ _ _ a b n (Takes.wide w x y h) e f = wide_of c p es l w (sym f)
wide_by k c p es l _ _ _ _ a b n _ e f = cc

pub number_wide : (G : Table) (c : Context) (s : Slot) (l : declared.Leaf) (a b n : ℕ) (ws : List ℕ) (ss : List Slot)
    → form_at (kind_of G s.kind) ≡ Leaf l
    → Takes s.kind (shape_of G c s) (Number a b n) ws ss → Wide c l
number_wide G c s l a b n ws ss e t =
    wide_by s.kind c s.paired (enumerants_at (kind_of G s.kind)) l (shape_of G c s) (Number a b n) ws ss a b n t refl
    (shape_leaf G c s l l e refl)
