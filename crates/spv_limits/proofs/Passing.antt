-- What passes a limit, by its parts.
use Rattle.std.proofs.Common.{◌≡◌, ◌<◌, ◌≤◌, ◌∙◌, ◌⊎◌, ℕ, zero, suc, List, [], ◌∷◌, Bool, true, false, Some, length}
use Rattle.std.proofs.Common.{refl, sym, subst, inl, inr, arith}
use Rattle.std.specs.Prelude.{slice_get}
use Rattle.std.proofs.lemmas.Bool.{cases_lt}
use Rattle.std.proofs.lemmas.Option.{none-some, same_Some, slice_get_past}
use Rattle.spv_module.specs.Operand.{Plain, OfType, Result, Id, Word, Text, PlainInst}
use Rattle.spv_extended.specs.declared.set.Set.TheVariants.{OpenClStd}
use Rattle.spv_extended.specs.Sets.{set_in}
use Rattle.spv_limits.specs.declared.table.Limit.TheVariants as limit
use Rattle.spv_limits.specs.Counted.{character_count}
use Rattle.spv_limits.specs.Past.{IsPast, Passes}
use Rattle.spv_limits.specs.Past as past
use Rattle.spv_limits.specs.Table.{most}
use Rattle.spv_limits.specs.inner.Alone.{AreLong, HasTooMany, HasTooManyArguments, IsLong, IsStdCall, PassesAlone}
use Rattle.spv_limits.specs.inner.Alone as alone
use Rattle.spv_limits.specs.inner.Counting.{HasModeTooMany, IsAnswer, IsTooDeep, IsVariableTooMany}

pub answer_yes : (b : Bool) (P Q : Type 0) → b ≡ true → IsAnswer b P Q → P
answer_yes true P Q e h = h
answer_yes false P Q e h = absurd (let never : false ≡ true = e in cc)

pub answer_no : (b : Bool) (P Q : Type 0) → b ≡ false → IsAnswer b P Q → (¬ P) × Q
answer_no false P Q e h = h
answer_no true P Q e h = absurd (let never : true ≡ false = e in cc)

-- the text that is too long
pub record Long (os : List Plain) : Type 0 where
  pub place : ℕ
  pub text : List ℕ
  pub there : slice_get os place ≡ Some (Text text)
  pub over : most limit.Characters < character_count text

long_one : (o : Plain) (os : List Plain) → IsLong o → Long (o ∷ os)
long_one (Text t) os l = record { place = 0; text = t; there = refl; over = l }
long_one _ os l = absurd l

pub long_place : (os : List Plain) → AreLong os → Long os
long_place [] h = absurd h
long_place (o ∷ os) h = elim h [
  | inl a ↦ long_one o os a
  | inr b ↦ let r = long_place os b in record { place = suc r.place; text = r.text; there = r.there; over = r.over }
]

pub place_long : (os : List Plain) (p : ℕ) (t : List ℕ) → slice_get os p ≡ Some (Text t)
    → most limit.Characters < character_count t → AreLong os
place_long [] p t e l = absurd (none-some (Text t) e)
place_long (o ∷ os) zero t e l = inl (subst IsLong (sym (same_Some o (Text t) e)) l)
place_long (o ∷ os) (suc p) t e l = inr (place_long os p t e l)

-- the operands of a call
record Call (is : List PlainInst) (os : List Plain) : Type 0 where
  pub t : ℕ
  pub x : ℕ
  pub set : ℕ
  pub number : ℕ
  pub rest : List Plain
  pub all : os ≡ OfType t ∷ Result x ∷ Id set ∷ Word number ∷ rest
  pub of : set_in is set ≡ OpenClStd

call_parts : (is : List PlainInst) (os : List Plain) → IsStdCall is os → Call is os
call_parts is (OfType t ∷ Result x ∷ Id set ∷ Word number ∷ rest) h =
    record { t = t; x = x; set = set; number = number; rest = rest; all = refl; of = h }
call_parts is _ h = absurd h

many_passes : (is : List PlainInst) (n : ℕ) (i : PlainInst) → HasTooMany i → Passes is n i
many_passes is n i (alone.of_members e m) = past.members e m
many_passes is n i (alone.of_parameters e m) = past.parameters e m
many_passes is n i (alone.of_pairs e m) = past.pairs e m
many_passes is n i (alone.of_indexes h) = past.indexes h.0 h.1 h.2

pub alone_passes : (is : List PlainInst) (n : ℕ) (i : PlainInst) → PassesAlone is i → Passes is n i
alone_passes is n i h = elim h [
  | inl a ↦ many_passes is n i a
  | inr b ↦ elim b [
    | inl l ↦ let r = long_place i.operands l in past.text r.place r.text r.there r.over
    | inr c ↦
        let p = call_parts is i.operands c.2 in
        past.arguments p.t p.x p.set p.number p.rest c.0 p.all p.of c.1
  ]
]

pub deep_passes : (is : List PlainInst) (n : ℕ) (i : PlainInst) → IsTooDeep is n → Passes is n i
deep_passes is n i h = past.depth h.0 h.1 h.2

pub mode_passes : (is : List PlainInst) (n : ℕ) (i : PlainInst) → HasModeTooMany is n i → Passes is n i
mode_passes is n i h = past.modes h.0 h.1 h.2

pub variable_passes : (is : List PlainInst) (n : ℕ) (i : PlainInst) → IsVariableTooMany is n i → Passes is n i
variable_passes is n i h = elim h.1 [
  | inl g ↦ past.globals h.0 g.0 g.1
  | inr l ↦ past.locals h.0 l.0 l.1
]

passes_cases : (is : List PlainInst) (n : ℕ) (i : PlainInst) → Passes is n i
    → PassesAlone is i ⊎ IsTooDeep is n ⊎ HasModeTooMany is n i ⊎ IsVariableTooMany is n i
passes_cases is n i (past.text p t e l) = inl (inr (inl (place_long i.operands p t e l)))
passes_cases is n i (past.members e m) = inl (inl (alone.of_members e m))
passes_cases is n i (past.depth d h l) = inr (inl (d, h, l))
passes_cases is n i (past.parameters e m) = inl (inl (alone.of_parameters e m))
passes_cases is n i (past.indexes f e m) = inl (inl (alone.of_indexes (f, e, m)))
passes_cases is n i (past.pairs e m) = inl (inl (alone.of_pairs e m))
passes_cases is n i (past.arguments t x set number os e all of m) =
    inl (inr (inr (e, m, subst (IsStdCall is) (sym all) of)))
passes_cases is n i (past.modes f s l) = inr (inr (inl (f, s, l)))
passes_cases is n i (past.globals v o l) = inr (inr (inr (v, inl (o, l))))
passes_cases is n i (past.locals v o l) = inr (inr (inr (v, inr (o, l))))

pub none_passes : (is : List PlainInst) (n : ℕ) (i : PlainInst) → slice_get is n ≡ Some i → ¬ (PassesAlone is i)
    → ¬ (IsTooDeep is n) → ¬ (HasModeTooMany is n i) → ¬ (IsVariableTooMany is n i) → ¬ (IsPast is n)
none_passes is n i at a d m v h =
    let p = subst (λ (j : PlainInst). Passes is n j) (same_Some h.0 i (sym h.1 ∙ at)) h.2 in
    elim (passes_cases is n i p) [
      | inl x ↦ a x
      | inr y ↦ elim y [ inl x ↦ d x | inr z ↦ elim z [ inl x ↦ m x | inr x ↦ v x ] ]
    ]

pub last_answer : (is : List PlainInst) (n : ℕ) (i : PlainInst) (b : Bool) (D M V : Type 0) → slice_get is n ≡ Some i
    → ¬ (PassesAlone is i) → (¬ (IsTooDeep is n)) × D → (¬ (HasModeTooMany is n i)) × M
    → IsAnswer b (IsVariableTooMany is n i) V → IsAnswer b (IsPast is n) (D × M × V)
last_answer is n i true D M V at a d m v = (i, at, variable_passes is n i v)
last_answer is n i false D M V at a d m v = (none_passes is n i at a d.0 m.0 v.0, (d.1, m.1, v.1))

pub none_past : (is : List PlainInst) (n : ℕ) → ((k : ℕ) → k < n → ¬ (IsPast is k)) → length is ≤ n → (k : ℕ)
    → ¬ (IsPast is k)
none_past is n h l k m = elim (cases_lt k n) [
  | inl a ↦ h k a m
  | inr b ↦
      let past_all : length is ≤ k = omega arith in
      none-some m.0 (sym (slice_get_past is k past_all) ∙ m.1)
]
