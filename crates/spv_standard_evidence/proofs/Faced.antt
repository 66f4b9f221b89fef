-- Interfaces that are wrong by what is in them, and what shows it.
use Rattle.std.proofs.Common.{if◌then◌else◌, ◌≡◌, ◌≤◌, ◌<◌, ◌+◌, ◌∙◌, ℕ, List, [], ◌∷◌, Bool, true, false, Option}
use Rattle.std.proofs.Common.{Some, None, MatchOption, length, nat_eq, sym, ap, subst, arith}
use Rattle.std.specs.Prelude.{slice_get}
use Rattle.std.proofs.lemmas.Option.{none-some, some_pair_parts}
use Rattle.spv_table.specs.Table.{Table}
use Rattle.spv_module.specs.declared.opcode.TheConstants as opcode
use Rattle.spv_module.specs.Operand.{Plain, Id, Text, Value, PlainInst}
use Rattle.spv_module.specs.declared.fault.Rule.{Rule}
use Rattle.spv_flow.proofs.lemmas.calls.Insts.{same_inst}
use Rattle.spv_interfaces.specs.Broken.{Broken}
use Rattle.spv_interfaces.specs.Interface.{IsInTree, IsMisfaced, IsNamedIn, IsTwiceIn, IsWrong, face_in, faced_by}
use Rattle.spv_interfaces.specs.inner.Entries.{HasInner, IsUnsound}
use Rattle.spv_interfaces.specs.inner.Wanted.{IsWanted}
use Rattle.spv_evidence.specs.declared.evidence.Evidence.{Evidence}
use Rattle.spv_evidence.specs.declared.evidence.Evidence.TheVariants.{Operand, Pair}
use Rattle.spv_standard_evidence.specs.Interfaces.{IsEvidence, Shows}

-- Three operands stand before an interface.
face_3 : (k m g : ℕ) (ps : List Plain) (f : ℕ) (os : List Plain) → face_in (Value k m ∷ Id g ∷ ps) ≡ Some (f, os)
    → length ps ≡ 1 + length os
face_3 k m g [] f os h = absurd (none-some (f, os) h)
face_3 k m g (Text t ∷ ps) f os h =
    let e : ps ≡ os = (some_pair_parts g f ps os h).1 in
    let l = ap length e in
    omega (arith, l)
face_3 k m g (_ ∷ ps) f os h = absurd (none-some (f, os) h)

face_2 : (k m : ℕ) (ps : List Plain) (f : ℕ) (os : List Plain) → face_in (Value k m ∷ ps) ≡ Some (f, os)
    → length ps ≡ 2 + length os
face_2 k m [] f os h = absurd (none-some (f, os) h)
face_2 k m (Id g ∷ ps) f os h = let l = face_3 k m g ps f os h in omega (arith, l)
face_2 k m (_ ∷ ps) f os h = absurd (none-some (f, os) h)

face_1 : (ps : List Plain) (f : ℕ) (os : List Plain) → face_in ps ≡ Some (f, os) → length ps ≡ 3 + length os
face_1 [] f os h = absurd (none-some (f, os) h)
face_1 (Value k m ∷ ps) f os h = let l = face_2 k m ps f os h in omega (arith, l)
face_1 (_ ∷ ps) f os h = absurd (none-some (f, os) h)

face_there : (b : Bool) (ps : List Plain) (f : ℕ) (os : List Plain)
    → (if b then face_in ps else None) ≡ Some (f, os) → face_in ps ≡ Some (f, os)
face_there true ps f os h = h
face_there false ps f os h = absurd (none-some (f, os) h)

pub faced_count : (i : PlainInst) (f : ℕ) (os : List Plain) → faced_by i ≡ Some (f, os)
    → length i.operands ≡ 3 + length os
faced_count i f os h = face_1 i.operands f os (face_there (nat_eq i.opcode opcode.ENTRY_POINT) i.operands f os h)

-- two operands that are one id
pub twice_by : (os : List Plain) (x first second : ℕ) → first < second → slice_get os first ≡ Some (Id x)
    → slice_get os second ≡ Some (Id x) → IsTwiceIn os x
twice_by os x first second l one other =
    record { first = first; second = second; order = l; one = one; other = other }

-- what is wrong by what is in it is shown
pub twice_told : (minor : ℕ) (is : List PlainInst) (os : List Plain) (first : ℕ) (o : Option Evidence) → first ≡ 3
    → 4 ≤ minor → MatchOption o (¬ ((x : ℕ) × IsTwiceIn os x))
    (λ e. (x : ℕ) × (t : IsTwiceIn os x) × (e ≡ Pair (first + t.first) (first + t.second)))
    → MatchOption o (¬ (IsUnsound minor is os)) (λ e. (G : Table) (f : ℕ) → Shows G minor is f os e)
twice_told minor is os first None three l h = never where
  never : IsUnsound minor is os → ⊥
  never (IsUnsound.twice m t) = h t
  never (IsUnsound.inner m t) = absurd (omega (arith, l, m))
twice_told minor is os first (Some e) three l (x, t, same) = λ G f.
    subst (λ (d : Evidence). Shows G minor is f os d)
    (sym (same ∙ ap (λ (n : ℕ). Pair (n + t.first) (n + t.second)) three)) (Shows.twice x t l)

pub inner_told : (minor : ℕ) (is : List PlainInst) (os : List Plain) (first : ℕ) (o : Option Evidence) → first ≡ 3
    → minor < 4 → MatchOption o (¬ (HasInner is os)) (λ e. (h : HasInner is os) × (e ≡ Operand (first + h.named.0)))
    → MatchOption o (¬ (IsUnsound minor is os)) (λ e. (G : Table) (f : ℕ) → Shows G minor is f os e)
inner_told minor is os first None three l h = never where
  never : IsUnsound minor is os → ⊥
  never (IsUnsound.twice m t) = absurd (omega (arith, l, m))
  never (IsUnsound.inner m t) = h t
inner_told minor is os first (Some e) three l (h, same) = λ G f.
    subst (λ (d : Evidence). Shows G minor is f os d)
    (sym (same ∙ ap (λ (n : ℕ). Operand (n + h.named.0)) three))
    (Shows.inner h.id h.class h.named l h.of h.not_input h.not_output)

-- what an interface lacks
pub record IsLacking (G : Table) (minor : ℕ) (is : List PlainInst) (f : ℕ) (os : List Plain) : Type 0 where
  pub id : ℕ
  pub wanted : IsWanted minor is id
  pub used : IsInTree G is f id
  pub unnamed : ¬ (IsNamedIn os id)

lacking_by : (G : Table) (minor : ℕ) (is : List PlainInst) (f : ℕ) (os : List Plain) → ¬ (IsUnsound minor is os)
    → IsWrong G minor is f os → IsLacking G minor is f os
lacking_by G minor is f os sound (IsWrong.twice x l t) = absurd (sound (IsUnsound.twice l (x, t)))
lacking_by G minor is f os sound (IsWrong.unnamed x l t never) =
    record { id = x; wanted = IsWanted.any l t.variable; used = t; unnamed = never }
lacking_by G minor is f os sound (IsWrong.inner x class l named of a b) =
    absurd (sound (IsUnsound.inner l record {
      id = x;
      class = class;
      named = named;
      of = of;
      not_input = a;
      not_output = b;
    }))
lacking_by G minor is f os sound (IsWrong.unnamed_outside x l t out never) =
    record { id = x; wanted = IsWanted.outside l out; used = t; unnamed = never }

-- of the instruction that is looked at
wrong_of : (G : Table) (minor : ℕ) (is : List PlainInst) (n f : ℕ) (os : List Plain) (i : PlainInst)
    → slice_get is n ≡ Some i → faced_by i ≡ Some (f, os) → IsMisfaced G minor is n → IsWrong G minor is f os
wrong_of G minor is n f os i there faced m =
    let e = same_inst is n m.inst i m.there there in
    let h : faced_by i ≡ Some (m.function, m.interface) =
    subst (λ (j : PlainInst). faced_by j ≡ Some (m.function, m.interface)) e m.faced in
    let p = some_pair_parts m.function f m.interface os (sym h ∙ faced) in
    subst (λ (ps : List Plain). IsWrong G minor is f ps) p.1
    (subst (λ (g : ℕ). IsWrong G minor is g m.interface) p.0 m.wrong)

pub lacking_of : (G : Table) (minor : ℕ) (is : List PlainInst) (n f : ℕ) (os : List Plain) (i : PlainInst)
    → slice_get is n ≡ Some i → faced_by i ≡ Some (f, os) → ¬ (IsUnsound minor is os) → IsMisfaced G minor is n
    → IsLacking G minor is f os
lacking_of G minor is n f os i there faced sound m =
    lacking_by G minor is f os sound (wrong_of G minor is n f os i there faced m)

pub not_faced : (G : Table) (minor : ℕ) (is : List PlainInst) (n : ℕ) (i : PlainInst) → slice_get is n ≡ Some i
    → faced_by i ≡ None → IsMisfaced G minor is n → ⊥
not_faced G minor is n i there faced m =
    let e = same_inst is n m.inst i m.there there in
    let h : faced_by i ≡ Some (m.function, m.interface) =
    subst (λ (j : PlainInst). faced_by j ≡ Some (m.function, m.interface)) e m.faced in
    none-some (m.function, m.interface) (sym faced ∙ h)

-- the evidence suffices
shown_wrong : (G : Table) (minor : ℕ) (is : List PlainInst) (f : ℕ) (os : List Plain) (e : Evidence)
    → Shows G minor is f os e → IsWrong G minor is f os
shown_wrong G minor is f os _ (Shows.twice x t l) = IsWrong.twice x l t
shown_wrong G minor is f os _ (Shows.inner x class n l of a b) = IsWrong.inner x class l n of a b
shown_wrong G minor is f os _ (Shows.unnamed x t calls l never s) = IsWrong.unnamed x l t never
shown_wrong G minor is f os _ (Shows.unnamed_outside x t calls l out never s) = IsWrong.unnamed_outside x l t out never

pub interfaces_suffice : (G : Table) (minor : ℕ) (is : List PlainInst) (r : Rule) (n : ℕ) (e : Evidence)
    → IsEvidence G minor is r n e → Broken G minor is r n
interfaces_suffice G minor is _ _ _ (IsEvidence.misfaced n f i os e there faced s) = Broken.misfaced n record {
  inst = i;
  there = there;
  function = f;
  interface = os;
  faced = faced;
  wrong = shown_wrong G minor is f os e s;
}
