-- The first operand of which what is asked does not hold.
use Rattle.std.proofs.Common.{◌≡◌, ◌≢◌, ◌∙◌, ◌<◌, ◌≤◌, ◌+◌, ◌↔◌, inl, inr, Bool, true, get_or, nat_eq, ℕ, zero, suc}
use Rattle.std.proofs.Common.{List, [], ◌∷◌, Option, Some, None, refl, sym, ap, subst, length, arith}
use Rattle.std.specs.Prelude.{slice_get, IsTrue, MatchOption, IsSomeAnd, false, if◌then◌else◌}
use Rattle.std.proofs.lemmas.Bool.{eqb-true, eq-eqb, ne_eqb, cases_lt}
use Rattle.std.proofs.lemmas.Option.{slice_get_within, some_pair_parts}
use Rattle.spv_module.specs.Operand.{Plain, PlainInst}
use Rattle.spv_module.specs.Operand as operand
use Rattle.spv_type_kinds.specs.Operands.{ids_in}
use Rattle.spv_type_forms.specs.Types.{IsData}
use Rattle.spv_module.specs.Module.{plain_operand, plain_operands}
use Rattle.spv_module.specs.declared.operand.Operand.{Operand}
use Rattle.spv_module.specs.declared.operand.Operand.TheVariants as code
use Rattle.spv_type_rules.specs.declared.declaration.Declaration.TheVariants as kind
use Rattle.spv_table.specs.Table.{Table}
use Rattle.spv_module.specs.declared.fault.Rule.TheVariants.{Y2}
use Rattle.spv_evidence.specs.declared.evidence.Evidence.TheVariants as evidence
use Rattle.spv_evidence.specs.declared.condition.Condition.{Condition}
use Rattle.spv_evidence.specs.declared.condition.Condition.TheVariants as condition
use Rattle.spv_type_evidence.specs.types.Evidence.{Shows}
use Rattle.spv_type_evidence.proofs.lemmas.types.Declaring.{asks_declares}
use Rattle.spv_type_rules.specs.declared.declaration.Declaration.{Declaration}
use Rattle.spv_type_forms.specs.declared.objects.Image.{Image}
use Rattle.spv_type_forms.specs.Objects.{image_in, image_of}
use Rattle.spv_type_rules.specs.Declaration.{declaration_of, DeclaresSoundly, IsLength, IsPointerAfter, IsSampled}
use Rattle.spv_type_rules.specs.Asked.{IsIntWidth, IsFloatWidth, IsVectorCount, IsPointee, IsReturned}
use Rattle.spv_type_rules.specs.inner.Declaration.{IsSoundDeclaration}
use Rattle.spv_readings.specs.Named.{IsDefinedBy}
use Rattle.spv_type_evidence.specs.types.Declaration.{AsksData, AsksImage, Asks, IsScalar, condition_after, condition_at}
use Rattle.spv_type_evidence.specs.types.inner.Operands.{int_in, float_in, vector_in, array_in, pointee_in, forward_in}
use Rattle.spv_type_evidence.specs.types.inner.Operands.{image_type_in, members_in, signature_in}
use Rattle.spv_type_rules.proofs.Same.{operand_there}
use Rattle.spv_type_evidence.specs.types.inner.First.{IsFirstOf}

-- what is the same at each number has the same first
pub first_moved : (P Q : ℕ → Type 0) (o : Option ℕ) → ((k : ℕ) → P k ↔ Q k) → IsFirstOf P o → IsFirstOf Q o
first_moved P Q None e h = λ k. (e k).0 (h k)
first_moved P Q (Some k) e h = (λ q. h.0 ((e k).1 q), λ j l. (e j).0 (h.1 j l))

-- The ids at the front of operands.

ids_back : (os : List Plain) (k t : ℕ) → slice_get (ids_in os) k ≡ Some t → slice_get os k ≡ Some (operand.Id t)
ids_back [] k t e = cc
ids_back (operand.Id x ∷ os) zero t e = ap Some (ap operand.Id (let q : x ≡ t = cc in q))
ids_back (operand.Id x ∷ os) (suc k) t e = ids_back os k t e
ids_back (_ ∷ os) k t e = cc

ids_forth : (os : List Plain) (k t : ℕ) → ((j : ℕ) → j < k → (u : ℕ) × (slice_get os j ≡ Some (operand.Id u)))
    → slice_get os k ≡ Some (operand.Id t) → slice_get (ids_in os) k ≡ Some t
ids_forth [] k t h e = cc
ids_forth (o ∷ os) zero t h e = let q : o ≡ operand.Id t = cc in rw q refl
ids_forth (o ∷ os) (suc k) t h e =
    let first = h 0 (omega arith) in
    let q : o ≡ operand.Id first.0 = let f = first.1 in cc in
    rw q (ids_forth os k t (λ j l. h (suc j) (omega arith)) e)

ids_stop : (os : List Plain) (k : ℕ) (o : Plain) → slice_get os k ≡ Some o → ((x : ℕ) → o ≢ operand.Id x) → (j t : ℕ)
    → slice_get (ids_in os) j ≡ Some t → j < k
ids_stop [] k o e never j t at = cc
ids_stop (operand.Id x ∷ os) zero o e never j t at = absurd (never x (let q : o ≡ operand.Id x = cc in q))
ids_stop (operand.Id x ∷ os) (suc k) o e never zero t at = omega arith
ids_stop (operand.Id x ∷ os) (suc k) o e never (suc j) t at = let l = ids_stop os k o e never j t at in omega arith
ids_stop (_ ∷ os) k o e never j t at = cc

-- Each of the first k operands is an id of which something holds.
pub record AreBefore (P : ℕ → ℕ → Type 0) (os : List Plain) (k : ℕ) : Type 0 where
  pub each : (j : ℕ) → j < k → (t : ℕ) × (slice_get os j ≡ Some (operand.Id t)) × P j t

-- what is asked of each of them, where the first is operand `first`
abbrev pub AsksEach : (ℕ → ℕ → Type 0) → ℕ → List Plain → ℕ → Type 0
AsksEach Q first os k = (j t : ℕ) → k ≡ first + j → slice_get (ids_in os) j ≡ Some t → Q j t

-- an operand that is no id ends them
ends_each : (Q : ℕ → ℕ → Type 0) (first k : ℕ) (os : List Plain) (o : Plain) → slice_get os k ≡ Some o
    → ((x : ℕ) → o ≢ operand.Id x) → AreBefore Q os k → (m : ℕ) → AsksEach Q first os m
ends_each Q first k os o e never before m = λ j t q at.
    let l = ids_stop os k o e never j t at in
    let b = before.each j l in
    let same : Some (operand.Id b.0) ≡ Some (operand.Id t) = sym b.1 ∙ ids_back os j t at in
    let it : b.0 ≡ t = cc in
    subst (Q j) it b.2

-- there is no operand after them
pub all_each : (Q : ℕ → ℕ → Type 0) (first k : ℕ) (os : List Plain) → length os ≤ k → AreBefore Q os k → (m : ℕ)
    → AsksEach Q first os m
all_each Q first k os past before m = λ j t q at.
    let there = ids_back os j t at in
    let w = slice_get_within os j (operand.Id t) there in
    let b = before.each j (omega arith) in
    let same : Some (operand.Id b.0) ≡ Some (operand.Id t) = sym b.1 ∙ there in
    let it : b.0 ≡ t = cc in
    subst (Q j) it b.2

-- of one of them it does not hold
pub one_fails : (Q : ℕ → ℕ → Type 0) (first k t : ℕ) (os : List Plain) → slice_get os k ≡ Some (operand.Id t)
    → (Q k t → ⊥) → AreBefore Q os k → IsFirstOf (AsksEach Q first os) (Some (first + k))
one_fails Q first k t os e never before = (
  λ a. never (a k t refl (ids_forth os k t (λ j l. let b = before.each j l in (b.0, b.1)) e)),
  λ m l j u q at.
      let b = before.each j (omega arith) in
      let same : Some (operand.Id b.0) ≡ Some (operand.Id u) = sym b.1 ∙ ids_back os j u at in
      let it : b.0 ≡ u = cc in
      subst (Q j) it b.2,
)

-- it is one of the ids
pub among_ids : (Q : ℕ → ℕ → Type 0) (k t : ℕ) (os : List Plain) → slice_get os k ≡ Some (operand.Id t)
    → AreBefore Q os k → k < length (ids_in os)
among_ids Q k t os e before =
    slice_get_within (ids_in os) k t (ids_forth os k t (λ j l. let b = before.each j l in (b.0, b.1)) e)

pub one_before : (P : ℕ → ℕ → Type 0) (os : List Plain) (k t : ℕ) → slice_get os k ≡ Some (operand.Id t) → P k t
    → AreBefore P os k → AreBefore P os (k + 1)
one_before P os k t e p before = record {
  each = λ j l. elim (cases_lt j k) [
    | inl u ↦ before.each j u
    | inr u ↦ (let same : j ≡ k = omega arith in (t, ap (slice_get os) same ∙ e, subst (λ m. P m t) (sym same) p))
  ];
}

-- Operands of the code.

pub id_there : (s : List Operand) (k t : ℕ) (d : Operand) → k < length s → get_or s k d ≡ code.Id t
    → slice_get (plain_operands s) k ≡ Some (operand.Id t)
id_there s k t d l e = operand_there s k d l ∙ ap (λ o. Some (plain_operand o)) e

no_id : (o : Operand) → ((x : ℕ) → o ≡ code.Id x → ⊥) → (x : ℕ) → plain_operand o ≢ operand.Id x
no_id (code.Id y) h x e = h y refl
no_id _ h x e = cc

pub ends_here : (Q : ℕ → ℕ → Type 0) (first k : ℕ) (s : List Operand) (d : Operand) → k < length s
    → ((x : ℕ) → get_or s k d ≡ code.Id x → ⊥) → AreBefore Q (plain_operands s) k
    → (m : ℕ) → AsksEach Q first (plain_operands s) m
ends_here Q first k s d l never before =
    ends_each Q first k (plain_operands s) (plain_operand (get_or s k d)) (operand_there s k d l)
    (no_id (get_or s k d) never) before

-- Two operands, and their kinds.

two_moved : (A B : Type 0) (a b : Bool) (o : Option ℕ) → (IsTrue a ↔ A) → (IsTrue b ↔ B)
    → IsFirstOf (λ k. (k ≡ 1 → IsTrue a) × (k ≡ 2 → IsTrue b)) o
    → IsFirstOf (λ k. (k ≡ 1 → A) × (k ≡ 2 → B)) o
two_moved A B a b o f g h =
    first_moved (λ k. (k ≡ 1 → IsTrue a) × (k ≡ 2 → IsTrue b)) (λ k. (k ≡ 1 → A) × (k ≡ 2 → B)) o
    (λ k. (λ p. (λ e. f.0 (p.0 e), λ e. g.0 (p.1 e)), λ p. (λ e. f.1 (p.0 e), λ e. g.1 (p.1 e))))
    h

-- one of the two that is asked
one_moved : (A : Type 0) (a b : Bool) (o : Option ℕ) → (IsTrue a ↔ A) → b ≡ true
    → IsFirstOf (λ k. (k ≡ 1 → IsTrue a) × (k ≡ 2 → IsTrue b)) o → IsFirstOf (λ k. k ≡ 1 → A) o
one_moved A a b o f y h =
    first_moved (λ k. (k ≡ 1 → IsTrue a) × (k ≡ 2 → IsTrue b)) (λ k. k ≡ 1 → A) o
    (λ k. (λ p e. f.0 (p.0 e), λ p. (λ e. f.1 (p e), λ e. y))) h

other_moved : (B : Type 0) (a b : Bool) (o : Option ℕ) → a ≡ true → (IsTrue b ↔ B)
    → IsFirstOf (λ k. (k ≡ 1 → IsTrue a) × (k ≡ 2 → IsTrue b)) o → IsFirstOf (λ k. k ≡ 2 → B) o
other_moved B a b o y g h =
    first_moved (λ k. (k ≡ 1 → IsTrue a) × (k ≡ 2 → IsTrue b)) (λ k. k ≡ 2 → B) o
    (λ k. (λ p e. g.0 (p.1 e), λ p. (λ e. y, λ e. g.1 (p e)))) h

pub int_first : (os : List Plain) (w s : ℕ) (a : Bool) (o : Option ℕ) → Some (w, s) ≡ int_in os
    → (IsTrue a ↔ IsIntWidth w)
    → IsFirstOf (λ k. (k ≡ 1 → IsTrue a) × (k ≡ 2 → IsTrue (nat_eq s 0))) o → IsFirstOf (Asks [] 0 kind.Int os) o
int_first (operand.Result t ∷ operand.Word u ∷ operand.Word v ∷ []) w s a o e f h =
    let parts = some_pair_parts w u s v e in
    let first = parts.0 in
    let second = parts.1 in
    let g : IsTrue a ↔ IsIntWidth u = subst (λ m. IsTrue a ↔ IsIntWidth m) first f in
    let k : IsTrue (nat_eq s 0) ↔ (v ≡ 0) = subst (λ m. IsTrue (nat_eq s 0) ↔ (m ≡ 0)) second
    (eqb-true s 0, eq-eqb s 0) in
    two_moved (IsIntWidth u) (v ≡ 0) a (nat_eq s 0) o g k h
int_first _ w s a o e f h = cc

pub float_first : (os : List Plain) (w : ℕ) (a : Bool) (o : Option ℕ) → Some w ≡ float_in os
    → (IsTrue a ↔ IsFloatWidth w) → IsFirstOf (λ k. (k ≡ 1 → IsTrue a) × (k ≡ 2 → IsTrue true)) o
    → IsFirstOf (Asks [] 0 kind.Float os) o
float_first (operand.Result t ∷ operand.Word u ∷ []) w a o e f h =
    let first : w ≡ u = cc in
    one_moved (IsFloatWidth u) a true o (subst (λ m. IsTrue a ↔ IsFloatWidth m) first f) refl h
float_first _ w a o e f h = cc

pub vector_first : (is : List PlainInst) (os : List Plain) (c m : ℕ) (a b : Bool) (o : Option ℕ)
    → Some (c, m) ≡ vector_in os → (IsTrue a ↔ IsScalar is c) → (IsTrue b ↔ IsVectorCount m)
    → IsFirstOf (λ k. (k ≡ 1 → IsTrue a) × (k ≡ 2 → IsTrue b)) o → IsFirstOf (Asks is 0 kind.Vector os) o
vector_first is (operand.Result t ∷ operand.Id u ∷ operand.Word v ∷ []) c m a b o e f g h =
    let parts = some_pair_parts c u m v e in
    let first = parts.0 in
    let second = parts.1 in
    two_moved (IsScalar is u) (IsVectorCount v) a b o (subst (λ x. IsTrue a ↔ IsScalar is x) first f)
    (subst (λ x. IsTrue b ↔ IsVectorCount x) second g) h
vector_first is _ c m a b o e f g h = cc

pub array_first : (is : List PlainInst) (os : List Plain) (c m : ℕ) (a b : Bool) (o : Option ℕ)
    → Some (c, m) ≡ array_in os → (IsTrue a ↔ IsData is c) → (IsTrue b ↔ IsLength is m)
    → IsFirstOf (λ k. (k ≡ 1 → IsTrue a) × (k ≡ 2 → IsTrue b)) o → IsFirstOf (Asks is 0 kind.Array os) o
array_first is (operand.Result t ∷ operand.Id u ∷ operand.Id v ∷ []) c m a b o e f g h =
    let parts = some_pair_parts c u m v e in
    let first = parts.0 in
    let second = parts.1 in
    two_moved (IsData is u) (IsLength is v) a b o (subst (λ x. IsTrue a ↔ IsData is x) first f)
    (subst (λ x. IsTrue b ↔ IsLength is x) second g) h
array_first is _ c m a b o e f g h = cc

pub pointer_first : (is : List PlainInst) (os : List Plain) (p : ℕ) (b : Bool) (o : Option ℕ) → Some p ≡ pointee_in os
    → (IsTrue b ↔ IsPointee is p)
    → IsFirstOf (λ k. (k ≡ 1 → IsTrue true) × (k ≡ 2 → IsTrue b)) o → IsFirstOf (Asks is 0 kind.Pointer os) o
pointer_first is (operand.Result t ∷ operand.Value j class ∷ operand.Id u ∷ []) p b o e g h =
    let first : p ≡ u = cc in
    other_moved (IsPointee is u) true b o refl (subst (λ x. IsTrue b ↔ IsPointee is x) first g) h
pointer_first is _ p b o e g h = cc

pub sampled_first : (is : List PlainInst) (os : List Plain) (p : ℕ) (a : Bool) (o : Option ℕ)
    → Some p ≡ image_type_in os → (IsTrue a ↔ IsSomeAnd (image_of is p) IsSampled)
    → IsFirstOf (λ k. (k ≡ 1 → IsTrue a) × (k ≡ 2 → IsTrue true)) o → IsFirstOf (Asks is 0 kind.SampledImage os) o
sampled_first is (operand.Result t ∷ operand.Id u ∷ []) p a o e f h =
    let first : p ≡ u = cc in
    one_moved (IsSomeAnd (image_of is u) IsSampled) a true o
    (subst (λ x. IsTrue a ↔ IsSomeAnd (image_of is x) IsSampled) first f) refl h
sampled_first is _ p a o e f h = cc

pub image_in_first : (is : List PlainInst) (os : List Plain) (m : Image) (o : Option ℕ) → Some m ≡ image_in os
    → IsFirstOf (λ k. AsksImage is k m) o → IsFirstOf (Asks is 0 kind.Image os) o
image_in_first is os m o e h = subst (λ p. IsFirstOf (λ k. IsSomeAnd p (AsksImage is k)) o) e h

pub forward_holds : (is : List PlainInst) (n : ℕ) (os : List Plain) (p class : ℕ) → Some (p, class) ≡ forward_in os
    → IsPointerAfter is n p class → (k : ℕ) → Asks is n kind.Forward os k
forward_holds is n (operand.Id u ∷ operand.Value j v ∷ []) p class e h k =
    let parts = some_pair_parts p u class v e in
    let first = parts.0 in
    let second = parts.1 in
    λ z. subst (λ x. IsPointerAfter is n u x) second (subst (λ x. IsPointerAfter is n x class) first h)
forward_holds is n _ p class e h k = cc

pub forward_fails : (is : List PlainInst) (n : ℕ) (os : List Plain) (p class : ℕ) → Some (p, class) ≡ forward_in os
    → (IsPointerAfter is n p class → ⊥) → IsFirstOf (Asks is n kind.Forward os) (Some 0)
forward_fails is n (operand.Id u ∷ operand.Value j v ∷ []) p class e never =
    let parts = some_pair_parts p u class v e in
    let first = parts.0 in
    let second = parts.1 in (
      λ h. never (subst (λ x. IsPointerAfter is n p x) (sym second)
          (subst (λ x. IsPointerAfter is n x v) (sym first) (h refl))),
      λ j l. absurd (omega arith),
    )
forward_fails is n _ p class e never = cc

pub struct_first : (is : List PlainInst) (os ms : List Plain) (o : Option ℕ) → Some ms ≡ members_in os
    → IsFirstOf (AsksData is 1 ms) o → IsFirstOf (Asks is 0 kind.Struct os) o
struct_first is (operand.Result t ∷ ps) ms o e h = let same : ms ≡ ps = cc in
    subst (λ qs. IsFirstOf (AsksData is 1 qs) o) same h
struct_first is _ ms o e h = cc

pub parameters_first : (is : List PlainInst) (os ps : List Plain) (r : ℕ) (o : Option ℕ)
    → Some (r, ps) ≡ signature_in os → IsReturned is r → IsFirstOf (AsksData is 2 ps) o
    → IsFirstOf (Asks is 0 kind.Function os) o
parameters_first is (operand.Result t ∷ operand.Id u ∷ qs) ps r o e f h =
    let parts = some_pair_parts r u ps qs e in
    let first = parts.0 in
    let rest = parts.1 in
    let g : IsReturned is u = subst (IsReturned is) first f in
    first_moved (AsksData is 2 qs) (λ k. (k ≡ 1 → IsReturned is u) × AsksData is 2 qs k) o
    (λ k. (λ a. (λ z. g, a), λ p. p.1)) (subst (λ rs. IsFirstOf (AsksData is 2 rs) o) rest h)
parameters_first is _ ps r o e f h = cc

pub returned_first : (is : List PlainInst) (os ps : List Plain) (r : ℕ) → Some (r, ps) ≡ signature_in os
    → (IsReturned is r → ⊥) → IsFirstOf (Asks is 0 kind.Function os) (Some 1)
returned_first is (operand.Result t ∷ operand.Id u ∷ qs) ps r e never =
    let parts = some_pair_parts r u ps qs e in
    let first = parts.0 in (
      λ h. never (subst (IsReturned is) (sym first) (h.0 refl)),
      λ j l. (λ z. absurd (omega arith), λ m x z at. absurd (omega arith)),
    )
returned_first is _ ps r e never = cc

-- what is asked of an operand after the first, where it is not of a forward pointer
unless_first : (b : Bool) (x y : Condition) → b ≡ false → (if b then x else y) ≡ y
unless_first true x y e = cc
unless_first false x y e = refl

pub condition_otherwise : (d : Declaration) (k : ℕ) → (d ≡ kind.Forward → ⊥) → (k ≡ 0 → ⊥)
    → condition_at d k ≡ condition_after d k
condition_otherwise kind.Forward k n e = absurd (n refl)
condition_otherwise d k n e = unless_first (nat_eq k 0) condition.Operands (condition_after d k) (ne_eqb k 0 e)

-- Y2, by the first operand that fails.

pub declaration_sound : (is : List PlainInst) (n : ℕ) (i : PlainInst) (d : Declaration)
    → Some d ≡ declaration_of i.opcode → ((k : ℕ) → Asks is n d i.operands k) → IsSoundDeclaration is n i
declaration_sound is n i d e h =
    subst (λ o. MatchOption o (Unit {0}) (λ c. DeclaresSoundly is n c i.operands)) e (asks_declares is n d i.operands h)

pub declaration_shows : (G : Table) (is : List PlainInst) (n k : ℕ) (i : PlainInst) (d : Declaration)
    → Some d ≡ declaration_of i.opcode → IsFirstOf (Asks is n d i.operands) (Some k)
    → (m : Option ℕ) → IsDefinedBy is i (Some k) m
    → Shows G is n i Y2 (evidence.Condition (condition_at d k) (Some k) m None None [])
declaration_shows G is n k i d e h m by =
    Shows.declaration k m (record { kind = d; declares = sym e; fails = h.0; before = h.1 }) by
