-- What fits its row and is used where a module is not opened, and where it is.
use Rattle.std.proofs.Common.{◌≡◌, ◌∙◌, ◌++◌, ℕ, zero, suc, List, [], ◌∷◌, Bool, true, false, nat_eq, if◌then◌else◌}
use Rattle.std.proofs.Common.{map, Some, refl, sym, ap, subst}
use Rattle.std.specs.Prelude.{slice_get}
use Rattle.std.proofs.lemmas.Bool.{eqb-true}
use Rattle.std.proofs.lemmas.Option.{none-some, same_Some}
use Rattle.spv_table.specs.Table.{Table}
use Rattle.spv_module.specs.Operand.{Plain, OfType, Result, Id, Word, Mention, PlainInst}
use Rattle.spv_module.specs.declared.opcode.TheConstants.{EXT_INST}
use Rattle.spv_extended.specs.declared.set.Set.{Set}
use Rattle.spv_extended.specs.declared.set.Set.TheVariants.{OpenClStd, OpenClDebugInfo, DebugInfo}
use Rattle.spv_extended.specs.declared.set.Set.TheVariants as set
use Rattle.spv_extended.specs.declared.signature.Signature.{Signature}
use Rattle.spv_extended.specs.Facts.{signature_of, is_literal}
use Rattle.spv_extended.specs.Opened.{opened_id, opened_inst, opened_operand, opened_operands, opened_from}
use Rattle.spv_layout.specs.declared.class.Class.TheVariants as class
use Rattle.spv_layout.specs.declared.form.Form.{Form}
use Rattle.spv_layout.specs.declared.form.Form.TheVariants as form
use Rattle.spv_layout.specs.declared.form.Role.{Role}
use Rattle.spv_layout.specs.declared.form.Role.TheVariants as role
use Rattle.spv_layout.specs.Row.{PlainRow, repeated}
use Rattle.spv_layout.specs.inner.Row.{row}
use Rattle.spv_layout.specs.Rows.{rows, row_of}
use Rattle.spv_layout.specs.Shape.{is_of, AreOf, Ends, HasForms, FitsShape, IsUse, role_of}
use Rattle.spv_ids.specs.Definition.{IsUsedAt, IsMentionedAt}
use Rattle.spv_type_forms.specs.Values.{used_in, AreValues}
use Rattle.spv_opening.proofs.Alike.{Alike, same_at}

-- Instructions of the list that is opened.

pub opened_at : (f : PlainInst → PlainInst) (is : List PlainInst) (n : ℕ) (i : PlainInst) → slice_get is n ≡ Some i
    → slice_get (map f is) n ≡ Some (f i)
opened_at f [] n i e = absurd (none-some i e)
opened_at f (j ∷ is) zero i e = ap (λ x. Some (f x)) (same_Some j i e)
opened_at f (j ∷ is) (suc n) i e = opened_at f is n i e

-- The row of OpExtInst.

abbrev heads : List Form
heads = form.OfType ∷ form.Result ∷ form.Id role.Set ∷ form.Word ∷ []

abbrev unseen : List Form
unseen = form.Unseen ∷ []

row_of_call : row_of EXT_INST ≡ Some (row 12 12 class.Extended heads (repeated unseen))
unfolding rows
row_of_call = refl

record Called (fs : List Form) : Type 0 where
  pub rest : List Form
  pub ending : Ends (repeated unseen) rest
  pub same : fs ≡ heads ++ rest

called : (G : Table) (i : PlainInst) (fs : List Form) → i.opcode ≡ EXT_INST → HasForms G i fs → Called fs
called G i fs e h =
    let known : row_of i.opcode ≡ Some (row 12 12 class.Extended heads (repeated unseen)) = ap row_of e ∙ row_of_call in
    let same : h.row ≡ row 12 12 class.Extended heads (repeated unseen) = same_Some h.row
    (row 12 12 class.Extended heads (repeated unseen)) (sym h.known ∙ known) in
    record {
      rest = h.rest;
      ending = subst (λ (r : PlainRow). Ends r.ending h.rest) same h.ending;
      same = h.forms ∙ ap (λ (r : PlainRow). r.fixed ++ h.rest) same;
    }

-- Operands behind the number: each is of a form that is not looked at, opened or not.

of_id : (G : Table) (s : Set) (x : ℕ) → is_of G form.Unseen (opened_id s x) ≡ true
of_id G OpenClStd x = refl
of_id G OpenClDebugInfo x = refl
of_id G DebugInfo x = refl
of_id G set.Other x = refl

stays_unseen : (G : Table) (s : Set) (o : Plain) → is_of G form.Unseen (opened_operand s o) ≡ is_of G form.Unseen o
stays_unseen G s (Id x) = of_id G s x
stays_unseen G s o = refl

unseen_or : (G : Table) (s : Set) (o : Plain) (b : Bool)
    → is_of G form.Unseen (if b then o else opened_operand s o) ≡ is_of G form.Unseen o
unseen_or G s o true = refl
unseen_or G s o false = stays_unseen G s o

to_from : (G : Table) (s : Set) (g : Signature) (place : ℕ) (fs : List Form) (os : List Plain)
    → Ends (repeated unseen) fs → AreOf G fs os → AreOf G fs (opened_from s g place os)
to_from G s g place _ [] _ a = a
to_from G s g place _ (o ∷ os) (Ends.done _) a = elim a [ ]
to_from G s g place _ (o ∷ os) (Ends.again _ fs en) (AreOf.more _ _ _ _ i a) =
    AreOf.more form.Unseen (if is_literal g place then o else opened_operand s o) fs (opened_from s g (suc place) os)
    (unseen_or G s o (is_literal g place) ∙ i) (to_from G s g (suc place) fs os en a)

of_from : (G : Table) (s : Set) (g : Signature) (place : ℕ) (fs : List Form) (os : List Plain)
    → Ends (repeated unseen) fs → AreOf G fs (opened_from s g place os) → AreOf G fs os
of_from G s g place _ [] _ a = a
of_from G s g place _ (o ∷ os) (Ends.done _) a = elim a [ ]
of_from G s g place _ (o ∷ os) (Ends.again _ fs en) (AreOf.more _ _ _ _ i a) =
    AreOf.more form.Unseen o fs os (sym (unseen_or G s o (is_literal g place)) ∙ i)
    (of_from G s g (suc place) fs os en a)

to_opened : (G : Table) (sets : ℕ → Set) (fs : List Form) (os : List Plain) → Ends (repeated unseen) fs
    → AreOf G (heads ++ fs) os → AreOf G (heads ++ fs) (opened_operands sets os)
to_opened G sets fs (OfType t ∷ Result x ∷ Id s ∷ Word n ∷ os) en
    (AreOf.more _ _ _ _ i (AreOf.more _ _ _ _ j (AreOf.more _ _ _ _ k (AreOf.more _ _ _ _ l a)))) =
    AreOf.more _ _ _ _ i (AreOf.more _ _ _ _ j
    (AreOf.more _ _ _ _ k (AreOf.more _ _ _ _ l (to_from G (sets s) (signature_of (sets s) n) 0 fs os en a))))
to_opened G sets fs os en a = a

of_opened : (G : Table) (sets : ℕ → Set) (fs : List Form) (os : List Plain) → Ends (repeated unseen) fs
    → AreOf G (heads ++ fs) (opened_operands sets os) → AreOf G (heads ++ fs) os
of_opened G sets fs (OfType t ∷ Result x ∷ Id s ∷ Word n ∷ os) en
    (AreOf.more _ _ _ _ i (AreOf.more _ _ _ _ j (AreOf.more _ _ _ _ k (AreOf.more _ _ _ _ l a)))) =
    AreOf.more _ _ _ _ i (AreOf.more _ _ _ _ j
    (AreOf.more _ _ _ _ k (AreOf.more _ _ _ _ l (of_from G (sets s) (signature_of (sets s) n) 0 fs os en a))))
of_opened G sets fs os en a = a

abbrev pub opened_by : (ℕ → Set) → PlainInst → PlainInst
opened_by sets i = record { opcode = i.opcode; operands = opened_operands sets i.operands }

has_opened : (G : Table) (sets : ℕ → Set) (i : PlainInst) (fs : List Form) → i.opcode ≡ EXT_INST → HasForms G i fs
    → HasForms G (opened_by sets i) fs
has_opened G sets i fs e h =
    let c = called G i fs e h in
    record {
      row = h.row;
      rest = h.rest;
      known = h.known;
      forms = h.forms;
      ending = h.ending;
      each = subst (λ gs. AreOf G gs (opened_operands sets i.operands)) (sym c.same)
          (to_opened G sets c.rest i.operands c.ending (subst (λ gs. AreOf G gs i.operands) c.same h.each));
    }

has_closed : (G : Table) (sets : ℕ → Set) (i : PlainInst) (fs : List Form) → i.opcode ≡ EXT_INST
    → HasForms G (opened_by sets i) fs → HasForms G i fs
has_closed G sets i fs e h =
    let c = called G (opened_by sets i) fs e h in
    record {
      row = h.row;
      rest = h.rest;
      known = h.known;
      forms = h.forms;
      ending = h.ending;
      each = subst (λ gs. AreOf G gs i.operands) (sym c.same)
          (of_opened G sets c.rest i.operands c.ending
          (subst (λ gs. AreOf G gs (opened_operands sets i.operands)) c.same h.each));
    }

-- It takes no values, opened or not.

none_behind : (fs : List Form) (os : List Plain) → Ends (repeated unseen) fs → used_in fs os ≡ []
none_behind _ os (Ends.done _) = refl
none_behind _ [] (Ends.again _ fs en) = refl
none_behind _ (o ∷ os) (Ends.again _ fs en) = none_behind fs os en

none_among : (fs : List Form) (os : List Plain) → Ends (repeated unseen) fs → used_in (heads ++ fs) os ≡ []
none_among fs [] en = refl
none_among fs (a ∷ []) en = refl
none_among fs (a ∷ b ∷ []) en = refl
none_among fs (a ∷ b ∷ c ∷ []) en = refl
none_among fs (a ∷ b ∷ c ∷ d ∷ os) en = none_behind fs os en

no_values : (G : Table) (i : PlainInst) (fs : List Form) → i.opcode ≡ EXT_INST → HasForms G i fs
    → used_in fs i.operands ≡ []
no_values G i fs e h =
    let c = called G i fs e h in
    subst (λ gs. used_in gs i.operands ≡ []) (sym c.same) (none_among c.rest i.operands c.ending)

pub values_closed : (G : Table) (sets : ℕ → Set) (i : PlainInst) (xs : List ℕ) → i.opcode ≡ EXT_INST
    → AreValues G (opened_by sets i) xs → AreValues G i xs
values_closed G sets i xs e v =
    let h = has_closed G sets i v.forms e v.has in
    record {
      forms = v.forms;
      has = h;
      values = no_values G i v.forms e h ∙ (sym (no_values G (opened_by sets i) v.forms e v.has) ∙ v.values);
    }

pub fits : (G : Table) (sets : ℕ → Set) (i : PlainInst) → FitsShape G (opened_inst sets i) → FitsShape G i
fits G sets i = by (nat_eq i.opcode EXT_INST) refl
  where
    by : (b : Bool) → nat_eq i.opcode EXT_INST ≡ b → FitsShape G (if b then opened_by sets i else i) → FitsShape G i
    by true e s = record { forms = s.forms; has = has_closed G sets i s.forms (eqb-true i.opcode EXT_INST e) s.has }
    by false e s = s

-- An operand that is no id stays as it is.

abbrev IsNoId : Plain → Type 0
IsNoId o = (y : ℕ) → o ≡ Id y → ⊥

stays : (s : Set) (o : Plain) → IsNoId o → opened_operand s o ≡ o
stays s (Id x) never = absurd (never x refl)
stays s o never = refl

stays_or : (s : Set) (o : Plain) (b : Bool) → IsNoId o → (if b then o else opened_operand s o) ≡ o
stays_or s o true never = refl
stays_or s o false never = stays s o never

from_stays : (s : Set) (g : Signature) (place : ℕ) (os : List Plain) (k : ℕ) (o : Plain) → slice_get os k ≡ Some o
    → IsNoId o → slice_get (opened_from s g place os) k ≡ Some o
from_stays s g place [] k o e never = absurd (none-some o e)
from_stays s g place (p ∷ os) zero o e never =
    let same : p ≡ o = same_Some p o e in
    ap Some (subst (λ q. (if is_literal g place then q else opened_operand s q) ≡ o) (sym same)
    (stays_or s o (is_literal g place) never))
from_stays s g place (p ∷ os) (suc k) o e never = from_stays s g (suc place) os k o e never

pub operand_stays : (sets : ℕ → Set) (os : List Plain) (k : ℕ) (o : Plain) → slice_get os k ≡ Some o → IsNoId o
    → slice_get (opened_operands sets os) k ≡ Some o
operand_stays sets (OfType t ∷ Result x ∷ Id s ∷ Word n ∷ os) zero o e never = e
operand_stays sets (OfType t ∷ Result x ∷ Id s ∷ Word n ∷ os) (suc zero) o e never = e
operand_stays sets (OfType t ∷ Result x ∷ Id s ∷ Word n ∷ os) (suc (suc zero)) o e never = e
operand_stays sets (OfType t ∷ Result x ∷ Id s ∷ Word n ∷ os) (suc (suc (suc zero))) o e never = e
operand_stays sets (OfType t ∷ Result x ∷ Id s ∷ Word n ∷ os) (suc (suc (suc (suc k)))) o e never =
    from_stays (sets s) (signature_of (sets s) n) 0 os k o e never
operand_stays sets os k o e never = e

-- Uses.

all_unseen : (fs : List Form) (k : ℕ) (f : Form) → Ends (repeated unseen) fs → slice_get fs k ≡ Some f → f ≡ form.Unseen
all_unseen _ k f (Ends.done _) e = absurd (none-some f e)
all_unseen _ zero f (Ends.again _ fs en) e = sym (same_Some form.Unseen f e)
all_unseen _ (suc k) f (Ends.again _ fs en) e = all_unseen fs k f en e

no_role : (o : Plain) (r : Role) → role_of form.Unseen o ≡ Some r → IsNoId o
no_role (Id x) r e y same = absurd (none-some r e)
no_role o r e y same =
    let e' : role_of form.Unseen (Id y) ≡ Some r = subst (λ p. role_of form.Unseen p ≡ Some r) same e in
    absurd (none-some r e')

use_stays : (sets : ℕ → Set) (fs : List Form) (os : List Plain) (k : ℕ) (f : Form) (o : Plain) (r : Role)
    → Ends (repeated unseen) fs
    → slice_get (heads ++ fs) k ≡ Some f → slice_get os k ≡ Some o → role_of f o ≡ Some r
    → slice_get (opened_operands sets os) k ≡ Some o
use_stays sets fs (OfType t ∷ Result x ∷ Id s ∷ Word n ∷ os) zero f o r en a e told = e
use_stays sets fs (OfType t ∷ Result x ∷ Id s ∷ Word n ∷ os) (suc zero) f o r en a e told = e
use_stays sets fs (OfType t ∷ Result x ∷ Id s ∷ Word n ∷ os) (suc (suc zero)) f o r en a e told = e
use_stays sets fs (OfType t ∷ Result x ∷ Id s ∷ Word n ∷ os) (suc (suc (suc zero))) f o r en a e told = e
use_stays sets fs (OfType t ∷ Result x ∷ Id s ∷ Word n ∷ os) (suc (suc (suc (suc k)))) f o r en a e told =
    let told' : role_of form.Unseen o ≡ Some r = subst (λ g. role_of g o ≡ Some r) (all_unseen fs k f en a) told in
    from_stays (sets s) (signature_of (sets s) n) 0 os k o e (no_role o r told')
use_stays sets fs os k f o r en a e told = e

use_opened : (G : Table) (sets : ℕ → Set) (i : PlainInst) (k x : ℕ) (r : Role) → IsUse G i k x r
    → IsUse G (opened_inst sets i) k x r
use_opened G sets i k x r = by (nat_eq i.opcode EXT_INST) refl
  where
    by : (b : Bool) → nat_eq i.opcode EXT_INST ≡ b → IsUse G i k x r → IsUse G (if b then opened_by sets i else i) k x r
    by true e u =
        let call = eqb-true i.opcode EXT_INST e in
        let c = called G i u.forms call u.has in
        record {
          forms = u.forms;
          has = has_opened G sets i u.forms call u.has;
          form = u.form;
          operand = u.operand;
          form_at = u.form_at;
          operand_at = use_stays sets c.rest i.operands k u.form u.operand r c.ending
              (subst (λ gs. slice_get gs k ≡ Some u.form) c.same u.form_at) u.operand_at u.role;
          role = u.role;
          id = u.id;
        }
    by false e u = u

pub used : (G : Table) (sets : ℕ → Set) (is : List PlainInst) (n k x : ℕ) (r : Role) → IsUsedAt G is n k x r
    → IsUsedAt G (map (opened_inst sets) is) n k x r
used G sets is n k x r u = record {
  inst = opened_inst sets u.inst;
  there = opened_at (opened_inst sets) is n u.inst u.there;
  used = use_opened G sets u.inst k x r u.used;
}

mention_opened : (sets : ℕ → Set) (i : PlainInst) (k x : ℕ) → slice_get i.operands k ≡ Some (Mention x)
    → slice_get (opened_inst sets i).operands k ≡ Some (Mention x)
mention_opened sets i k x = by (nat_eq i.opcode EXT_INST)
  where
    by : (b : Bool) → slice_get i.operands k ≡ Some (Mention x)
        → slice_get (if b then opened_by sets i else i).operands k ≡ Some (Mention x)
    by true e = operand_stays sets i.operands k (Mention x) e (λ y same. cc)
    by false e = e

pub mentioned : (sets : ℕ → Set) (is : List PlainInst) (n k x : ℕ) → IsMentionedAt is n k x
    → IsMentionedAt (map (opened_inst sets) is) n k x
mentioned sets is n k x m = record {
  inst = opened_inst sets m.inst;
  there = opened_at (opened_inst sets) is n m.inst m.there;
  named = mention_opened sets m.inst k x m.named;
}

-- The uses of instructions other than OpExtInst are the same in alike lists.
pub used_elsewhere : (G : Table) (is js : List PlainInst) → Alike is js → (n k x : ℕ) (r : Role)
    → (u : IsUsedAt G is n k x r) → (u.inst.opcode ≡ EXT_INST → ⊥) → IsUsedAt G js n k x r
used_elsewhere G is js a n k x r u never =
    record { inst = u.inst; there = same_at is js a n u.inst u.there never; used = u.used }
