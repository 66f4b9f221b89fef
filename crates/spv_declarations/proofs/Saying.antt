-- What single instructions say, and by which opcodes.
use Rattle.std.proofs.Common.{◌≡◌, ◌||◌, ◌&&◌, inl, inr, ℕ, Bool, true, false, refl, sym, subst, List, ◌∷◌, Option}
use Rattle.std.proofs.Common.{Some, None, nat_eq, if◌then◌else◌}
use Rattle.std.proofs.lemmas.Bool.{eqb-true}
use Rattle.spv_module.specs.declared.opcode.TheConstants as opcode
use Rattle.spv_module.specs.Operand.{Plain, Id, Value, Text, PlainInst}
use Rattle.spv_capabilities.specs.Entry.{imported_by, linked_id, entered_by, second_id}
use Rattle.spv_declarations.specs.Given.{is_decorate, is_member_decorate, is_of_member, given_in, given_by}
use Rattle.spv_declarations.specs.Given.{member_given_in, member_given_by, member_in, member_by, group_by, first_in}
use Rattle.spv_declarations.specs.Given.{Gives, NamesTarget, NamesMember}
use Rattle.spv_declarations.specs.inner.Early.{is_saying, is_early}
use Rattle.spv_declarations.specs.inner.Said.{NamesGroup}

pub gated : {A : Type 0} (b : Bool) (o : Option A) (a : A) → (if b then o else None) ≡ Some a → b ≡ true
gated true o a e = refl
gated false o a e = cc

pub opened : {A : Type 0} (b : Bool) (o : Option A) (a : A) → (if b then o else None) ≡ Some a → o ≡ Some a
opened true o a e = e
opened false o a e = cc

pub or_left : (a b : Bool) → a ≡ true → (a || b) ≡ true
or_left true b h = refl
or_left false b h = cc

pub or_right : (a b : Bool) → b ≡ true → (a || b) ≡ true
or_right true b h = refl
or_right false b h = h

decorate_early : (n : ℕ) → is_decorate n ≡ true → is_early n ≡ true
decorate_early n h = or_left (is_saying n) _ (or_left (is_decorate n) _ h)

of_member_early : (n : ℕ) → is_of_member n ≡ true → is_early n ≡ true
of_member_early n h = or_left (is_saying n) _ (or_right (is_decorate n) _ (or_left (is_of_member n) _ h))

pub early_by : (i : PlainInst) (n : ℕ) → nat_eq i.opcode n ≡ true → is_early n ≡ true → is_early i.opcode ≡ true
early_by i n t e = subst (λ (m : ℕ). is_early m ≡ true) (sym (eqb-true i.opcode n t)) e

pub given_early : (i : PlainInst) (x d : ℕ) → given_by i ≡ Some (x, d) → is_early i.opcode ≡ true
given_early i x d e = decorate_early i.opcode (gated (is_decorate i.opcode) (given_in i.operands) (x, d) e)

pub member_given_early : (i : PlainInst) (t k d : ℕ) → member_given_by i ≡ Some (t, k, d) → is_early i.opcode ≡ true
member_given_early i t k d e =
    of_member_early i.opcode (or_right (nat_eq i.opcode opcode.MEMBER_NAME) _
    (gated (is_member_decorate i.opcode) (member_given_in i.operands) (t, k, d) e))

pub member_early : (i : PlainInst) (t k : ℕ) → member_by i ≡ Some (t, k) → is_early i.opcode ≡ true
member_early i t k e = of_member_early i.opcode (gated (is_of_member i.opcode) (member_in i.operands) (t, k) e)

pub target_group : (i : PlainInst) (g : ℕ) → group_by opcode.GROUP_DECORATE i ≡ Some g
    → i.opcode ≡ opcode.GROUP_DECORATE
target_group i g e =
    eqb-true i.opcode opcode.GROUP_DECORATE (gated (nat_eq i.opcode opcode.GROUP_DECORATE) (first_in i.operands) g e)

pub member_group : (i : PlainInst) (g : ℕ) → group_by opcode.GROUP_MEMBER_DECORATE i ≡ Some g
    → i.opcode ≡ opcode.GROUP_MEMBER_DECORATE
member_group i g e = eqb-true i.opcode opcode.GROUP_MEMBER_DECORATE
    (gated (nat_eq i.opcode opcode.GROUP_MEMBER_DECORATE) (first_in i.operands) g e)

pub by_opcode : (i : PlainInst) (n : ℕ) → i.opcode ≡ n → is_early n ≡ true → is_early i.opcode ≡ true
by_opcode i n q e = subst (λ (m : ℕ). is_early m ≡ true) (sym q) e

pub target_early : (i : PlainInst) (g x : ℕ) → NamesTarget i g x → is_early i.opcode ≡ true
target_early i g x t = by_opcode i opcode.GROUP_DECORATE (target_group i g t.0) refl

pub pair_early : (i : PlainInst) (g t k : ℕ) → NamesMember i g t k → is_early i.opcode ≡ true
pair_early i g t k m = by_opcode i opcode.GROUP_MEMBER_DECORATE (member_group i g m.0) refl

pub group_early : (i : PlainInst) (g : ℕ) → NamesGroup i g → is_early i.opcode ≡ true
group_early i g o = elim o [
  | inl e ↦ by_opcode i opcode.GROUP_DECORATE (target_group i g e) refl
  | inr e ↦ by_opcode i opcode.GROUP_MEMBER_DECORATE (member_group i g e) refl
]

pub entered_early : (i : PlainInst) (x : ℕ) → entered_by i ≡ Some x → is_early i.opcode ≡ true
entered_early i x e =
    early_by i opcode.ENTRY_POINT (gated (nat_eq i.opcode opcode.ENTRY_POINT) (second_id i.operands) x e) refl

pub passed : {A : Type 0} (b : Bool) (o : Option A) (a : A) → b ≡ true → o ≡ Some a → (if b then o else None) ≡ Some a
passed true o a h e = e
passed false o a h e = cc

-- What is imported has LinkageAttributes.
first_holds : (a b c : Bool) → (a && b && c) ≡ true → a ≡ true
first_holds true b c h = refl
first_holds false b c h = cc

decorates : (n : ℕ) → nat_eq n opcode.DECORATE ≡ true → is_decorate n ≡ true
decorates n h = rw h refl

linked_gives : (l : Option ℕ) (os : List Plain) (x : ℕ) → linked_id l os ≡ Some x → given_in os ≡ Some (x, 41)
linked_gives (Some l) (Id f ∷ Value k d ∷ Text t ∷ Value j v ∷ os) x e =
    let b = nat_eq d 41 && nat_eq j l && nat_eq v 1 in
    let q : d ≡ 41 = eqb-true d 41 (first_holds (nat_eq d 41) (nat_eq j l) (nat_eq v 1) (gated b (Some f) x e)) in
    let p : Some f ≡ Some x = opened b (Some f) x e in
    cc
linked_gives _ _ x e = cc

pub imports_give : (l : Option ℕ) (i : PlainInst) (x : ℕ) → imported_by l i ≡ Some x → Gives 41 i x
imports_give l i x e =
    let b = nat_eq i.opcode opcode.DECORATE in
    passed (is_decorate i.opcode) (given_in i.operands) (x, 41)
    (decorates i.opcode (gated b (linked_id l i.operands) x e))
    (linked_gives l i.operands x (opened b (linked_id l i.operands) x e))
