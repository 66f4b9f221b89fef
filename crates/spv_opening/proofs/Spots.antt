-- Where instructions of alike lists stand.
use Rattle.std.proofs.Common.{◌≡◌, ◌<◌, ℕ, List, [], ◌∷◌, Some, sym, ap, subst, length}
use Rattle.std.specs.Prelude.{slice_get, IsTrue, IsSomeAnd}
use Rattle.spv_module.specs.Operand.{PlainInst}
use Rattle.spv_layout.specs.declared.class.Class.{Class}
use Rattle.spv_layout.specs.declared.class.Class.TheVariants.{Function, FunctionEnd, Label}
use Rattle.spv_layout.specs.Class.{is_among}
use Rattle.spv_layout.specs.Layout.{classes}
use Rattle.spv_layout.specs.Place.{IsAt, IsLast, IsWithin, IsOfFunction, IsOfBlock, IsDefinition, IsOfSection}
use Rattle.spv_layout.specs.Place.{terminators}
use Rattle.spv_layout.specs.Rows.{class_of}
use Rattle.spv_ids.specs.Definition.{IsLocalTo, IsLocal}
use Rattle.spv_opening.proofs.Alike.{Alike, back, defined, same_length, same_map}

pub record Spots (is js : List PlainInst) : Type 0 where
  pub classes : classes is ≡ classes js
  pub count : length is ≡ length js

spots_back : (is js : List PlainInst) → Spots is js → Spots js is
spots_back is js s = record { classes = sym s.classes; count = sym s.count }

pub spots : (is js : List PlainInst) → Alike is js → Spots is js
spots is js a = record {
  classes = same_map Class (λ i. class_of i.opcode) (λ i j l. ap class_of l.opcode) is js a;
  count = same_length is js a;
}

at : (is js : List PlainInst) → Spots is js → (n : ℕ) (cs : List Class) → IsAt is n cs → IsAt js n cs
at is js s n cs a = subst (λ (ds : List Class). IsSomeAnd (slice_get ds n) (λ c. IsTrue (is_among c cs))) s.classes a

last : (is js : List PlainInst) → Spots is js → (c : Class) (n f : ℕ) → IsLast is c n f → IsLast js c n f
last is js s c n f l = record {
  within = subst (λ k. n < k) s.count l.within;
  up_to = l.up_to;
  there = at is js s f (c ∷ []) l.there;
  last = λ k x y z. l.last k x y (at js is (spots_back is js s) k (c ∷ []) z);
}

within : (is js : List PlainInst) → Spots is js → (c : Class) (others : List Class) (n f : ℕ) → IsWithin is c others n f
    → IsWithin js c others n f
within is js s c others n f w = record {
  begun = last is js s c n f w.begun;
  not_ended = λ k x y z. w.not_ended k x y (at js is (spots_back is js s) k others z);
}

definition_by : (is js : List PlainInst) → Spots is js → (f : ℕ) → IsDefinition is f → IsDefinition js f
definition_by is js s f d = record {
  label = d.label;
  there = at is js s d.label (Label ∷ []) d.there;
  of = within is js s Function (FunctionEnd ∷ []) d.label f d.of;
}

section_by : (is js : List PlainInst) → Spots is js → (n k : ℕ) → IsOfSection is n k → IsOfSection js n k
section_by is js s n _ (IsOfSection.early c k e g) =
    IsOfSection.early c k (subst (λ (ds : List Class). slice_get ds n ≡ Some c) s.classes e) g
section_by is js s n _ (IsOfSection.global c e g none) =
    IsOfSection.global c (subst (λ (ds : List Class). slice_get ds n ≡ Some c) s.classes e) g
    (λ f l. none f (last js is (spots_back is js s) Function n f l))
section_by is js s n _ (IsOfSection.declaration c f e g l not) =
    IsOfSection.declaration c f (subst (λ (ds : List Class). slice_get ds n ≡ Some c) s.classes e) g
    (last is js s Function n f l)
    (λ d. not (definition_by js is (spots_back is js s) f d))
section_by is js s n _ (IsOfSection.definition c f e g l d) =
    IsOfSection.definition c f (subst (λ (ds : List Class). slice_get ds n ≡ Some c) s.classes e) g
    (last is js s Function n f l) (definition_by is js s f d)

pub is_at : (is js : List PlainInst) → Alike is js → (n : ℕ) (cs : List Class) → IsAt is n cs → IsAt js n cs
is_at is js a n cs x = at is js (spots is js a) n cs x

pub of_function : (is js : List PlainInst) → Alike is js → (n f : ℕ) → IsOfFunction is n f → IsOfFunction js n f
of_function is js a n f w = within is js (spots is js a) Function (FunctionEnd ∷ []) n f w

pub of_block : (is js : List PlainInst) → Alike is js → (n f : ℕ) → IsOfBlock is n f → IsOfBlock js n f
of_block is js a n f w = within is js (spots is js a) Label terminators n f w

pub definition : (is js : List PlainInst) → Alike is js → (f : ℕ) → IsDefinition is f → IsDefinition js f
definition is js a f d = definition_by is js (spots is js a) f d

pub section : (is js : List PlainInst) → Alike is js → (n k : ℕ) → IsOfSection is n k → IsOfSection js n k
section is js a n k x = section_by is js (spots is js a) n k x

pub local_to : (is js : List PlainInst) → Alike is js → (x f : ℕ) → IsLocalTo is x f → IsLocalTo js x f
local_to is js a x f l = record {
  place = l.place;
  defined = defined is js a x l.place l.defined;
  of = of_function is js a l.place f l.of;
  after = l.after;
  before = λ e. l.before (is_at js is (back is js a) l.place (FunctionEnd ∷ []) e);
}

pub local : (is js : List PlainInst) → Alike is js → (x : ℕ) → IsLocal is x → IsLocal js x
local is js a x (f, l) = (f, local_to is js a x f l)
