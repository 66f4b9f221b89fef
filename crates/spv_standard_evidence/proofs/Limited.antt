-- Limits that show that O22 is broken.
use Rattle.std.proofs.Common.{◌≡◌, ◌≢◌, ◌<◌, ◌∙◌, ◌&&◌, ◌||◌, nat_eq, ◌↔◌, ℕ, List, Bool, true, false, Some, None, IsTrue, length}
use Rattle.std.proofs.Common.{refl, sym, subst, ap, inl, inr}
use Rattle.std.specs.Prelude.{slice_get}
use Rattle.std.proofs.lemmas.Bool.{cases_eq, eqb-true, ne_eqb, false≢true}
use Rattle.std.proofs.lemmas.Option.{none-some, same_Some, slice_get_within}
use Rattle.spv_module.specs.declared.opcode.TheConstants as opcode
use Rattle.spv_module.specs.Operand.{PlainInst}
use Rattle.spv_module.specs.declared.fault.Rule.{Rule}
use Rattle.spv_module.specs.declared.fault.Rule.TheVariants.{O22}
use Rattle.spv_evidence.specs.declared.evidence.Evidence.{Evidence}
use Rattle.spv_evidence.specs.declared.evidence.Evidence.TheVariants.{Past}
use Rattle.spv_limits.specs.declared.table.Limit.{Limit}
use Rattle.spv_limits.specs.declared.table.Limit.TheVariants as limit
use Rattle.spv_limits.specs.Broken.{Broken}
use Rattle.spv_limits.specs.Counted.{before_indexes, member_count}
use Rattle.spv_limits.specs.Depth.{IsDeep}
use Rattle.spv_limits.specs.Past.{IsInFunctions, Passes}
use Rattle.spv_limits.specs.Table.{most}
use Rattle.spv_limits.specs.inner.Alone.{AreLong}
use Rattle.spv_limits.proofs.Passing.{long_place, place_long}
use Rattle.spv_standard_evidence.specs.Limits.{IsEvidence, limit_by}
use Rattle.spv_standard_evidence.specs.inner.Limits.{limit_of}

-- an instruction that passes a limit
abbrev pub PassesBy : List PlainInst → ℕ → PlainInst → Limit → Type 0
PassesBy is n i l = (p : Passes is n i) × (limit_by p ≡ l)

-- a text is too long
pub long_passes : (is : List PlainInst) (n : ℕ) (i : PlainInst) → AreLong i.operands → PassesBy is n i limit.Characters
long_passes is n i h = let r = long_place i.operands h in (Passes.text r.place r.text r.there r.over, refl)

-- a struct is the instruction of an OpTypeStruct
struct_code : (is : List PlainInst) (n d : ℕ) (i : PlainInst) → slice_get is n ≡ Some i → IsDeep is n d
    → i.opcode ≡ opcode.TYPE_STRUCT
struct_code is n _ i there (IsDeep.alone m t ms s) =
    ap (λ (j : PlainInst). j.opcode) (same_Some i s.inst (sym there ∙ s.there)) ∙ s.opcode
struct_code is n _ i there (IsDeep.within m t k d ms s f e) =
    ap (λ (j : PlainInst). j.opcode) (same_Some i s.inst (sym there ∙ s.there)) ∙ s.opcode

-- another opcode has none; no other one gives a mode
no_indexes : (c : ℕ) → c ≢ opcode.ACCESS_CHAIN → c ≢ opcode.IN_BOUNDS_ACCESS_CHAIN → c ≢ opcode.COMPOSITE_EXTRACT
    → c ≢ opcode.PTR_ACCESS_CHAIN → c ≢ opcode.IN_BOUNDS_PTR_ACCESS_CHAIN → c ≢ opcode.COMPOSITE_INSERT
    → before_indexes c ≡ None
no_indexes c a b d g h k =
    rw (
      ne_eqb c opcode.ACCESS_CHAIN a,
      ne_eqb c opcode.IN_BOUNDS_ACCESS_CHAIN b,
      ne_eqb c opcode.COMPOSITE_EXTRACT d,
      ne_eqb c opcode.PTR_ACCESS_CHAIN g,
      ne_eqb c opcode.IN_BOUNDS_PTR_ACCESS_CHAIN h,
      ne_eqb c opcode.COMPOSITE_INSERT k,
    )
    refl

no_mode : (c : ℕ) → c ≢ opcode.EXECUTION_MODE → c ≢ opcode.EXECUTION_MODE_ID
    → (nat_eq c opcode.EXECUTION_MODE || nat_eq c opcode.EXECUTION_MODE_ID) ≡ false
no_mode c a b = rw (ne_eqb c opcode.EXECUTION_MODE a, ne_eqb c opcode.EXECUTION_MODE_ID b) refl

both_left : (a b : Bool) → (a && b) ≡ true → a ≡ true
both_left true b e = refl
both_left false b e = e

-- what has indexes is no struct, and nothing else that is limited
indexed : (c f : ℕ) (many local : Bool) → before_indexes c ≡ Some f → limit.Indexes ≡ limit_of c many local
indexed c f many local e = elim (cases_eq c opcode.ACCESS_CHAIN) [
  | inl a ↦ rw a refl
  | inr na ↦ elim (cases_eq c opcode.IN_BOUNDS_ACCESS_CHAIN) [
    | inl b ↦ rw b refl
    | inr nb ↦ elim (cases_eq c opcode.COMPOSITE_EXTRACT) [
      | inl d ↦ rw d refl
      | inr nd ↦ elim (cases_eq c opcode.PTR_ACCESS_CHAIN) [
        | inl g ↦ rw g refl
        | inr ng ↦ elim (cases_eq c opcode.IN_BOUNDS_PTR_ACCESS_CHAIN) [
          | inl h ↦ rw h refl
          | inr nh ↦ elim (cases_eq c opcode.COMPOSITE_INSERT) [
            | inl k ↦ rw k refl
            | inr nk ↦ absurd (none-some f (sym (no_indexes c na nb nd ng nh nk) ∙ e))
          ]
        ]
      ]
    ]
  ]
]

-- a mode is given by one of two opcodes
mode_code : (c : ℕ) (many local : Bool) → (nat_eq c opcode.EXECUTION_MODE || nat_eq c opcode.EXECUTION_MODE_ID) ≡ true
    → limit.Modes ≡ limit_of c many local
mode_code c many local e = elim (cases_eq c opcode.EXECUTION_MODE) [
  | inl a ↦ rw a refl
  | inr na ↦ elim (cases_eq c opcode.EXECUTION_MODE_ID) [
    | inl b ↦ rw b refl
    | inr nb ↦ absurd (false≢true (sym (no_mode c na nb) ∙ e))
  ]
]

-- the limit that is told is passed
pub passed_by : (is : List PlainInst) (n : ℕ) (i : PlainInst) (many local : Bool) → slice_get is n ≡ Some i
    → (IsTrue many ↔ (most limit.Members < member_count i.operands)) → (IsTrue local ↔ IsInFunctions is n)
    → ¬ (AreLong i.operands) → Passes is n i → PassesBy is n i (limit_of i.opcode many local)
passed_by is n i many local there m f long (Passes.text p t o h) = absurd (long (place_long i.operands p t o h))
passed_by is n i many local there m f long (Passes.members o h) = (Passes.members o h, rw (o, m.1 h) refl)
passed_by is n i true local there m f long (Passes.depth d h o) =
    let code = struct_code is n d i there h in (Passes.members code (m.0 refl), rw code refl)
passed_by is n i false local there m f long (Passes.depth d h o) =
    let code = struct_code is n d i there h in (Passes.depth d h o, rw code refl)
passed_by is n i many local there m f long (Passes.parameters o h) = (Passes.parameters o h, rw o refl)
passed_by is n i many local there m f long (Passes.indexes k o h) =
    (Passes.indexes k o h, indexed i.opcode k many local o)
passed_by is n i many local there m f long (Passes.pairs o h) = (Passes.pairs o h, rw o refl)
passed_by is n i many local there m f long (Passes.arguments t x set number os c o s h) =
    (Passes.arguments t x set number os c o s h, rw c refl)
passed_by is n i many local there m f long (Passes.modes g o h) =
    (Passes.modes g o h, mode_code i.opcode many local (both_left _ _ o))
passed_by is n i many true there m f long (Passes.globals v o h) = absurd (o (f.0 refl))
passed_by is n i many false there m f long (Passes.globals v o h) =
    let code = eqb-true i.opcode opcode.VARIABLE v in (Passes.globals v o h, rw code refl)
passed_by is n i many true there m f long (Passes.locals v o h) =
    let code = eqb-true i.opcode opcode.VARIABLE v in (Passes.locals v o h, rw code refl)
passed_by is n i many false there m f long (Passes.locals v o h) = absurd (false≢true (f.1 o))

-- and so the number shows it
pub past_shown : (is : List PlainInst) (n : ℕ) (i : PlainInst) (l : Limit) (m : ℕ) → slice_get is n ≡ Some i
    → PassesBy is n i l → m ≡ most l → IsEvidence is O22 n (Past m)
past_shown is n i l m there (p, e) same =
    subst (λ (k : ℕ). IsEvidence is O22 n (Past k)) (ap most e ∙ sym same) (IsEvidence.past n i p there)

pub past_inst : (is : List PlainInst) (n : ℕ) (i : PlainInst) → slice_get is n ≡ Some i → Broken is O22 n
    → Passes is n i
past_inst is n i there (Broken.past m h) =
    subst (λ (j : PlainInst). Passes is n j) (same_Some h.0 i (sym h.1 ∙ there)) h.2

pub limits_suffice : (is : List PlainInst) (r : Rule) (n : ℕ) (e : Evidence) → IsEvidence is r n e → Broken is r n
limits_suffice is _ _ _ (IsEvidence.past n i p t) = Broken.past n (i, t, p)

pub past_within : (is : List PlainInst) (n : ℕ) → Broken is O22 n → n < length is
past_within is n (Broken.past m h) = slice_get_within is m h.0 h.1
