-- Which rules an instruction can break, by its opcode.
use Rattle.std.proofs.Common.{◌≡◌, ◌≤◌, ◌⊎◌, ◌∙◌, ◌↔◌, ◌||◌, ℕ, List, [], Bool, true, false, Option, Some, None}
use Rattle.std.proofs.Common.{IsTrue, Contains, if◌then◌else◌, length, nat_eq, refl, sym, ap, subst, inl, inr, arith}
use Rattle.std.proofs.Common.{eq-eqb}
use Rattle.std.specs.Prelude.{slice_get}
use Rattle.std.proofs.lemmas.Bool.{false≢true}
use Rattle.std.proofs.lemmas.Option.{same_Some}
use Rattle.spv_table.specs.Table.{Table}
use Rattle.spv_module.specs.declared.opcode.TheConstants as opcode
use Rattle.spv_module.specs.declared.fault.Rule.{Rule}
use Rattle.spv_module.specs.declared.fault.Rule.TheVariants.{O16, O18, O19, O20, O23}
use Rattle.spv_module.specs.Operand.{PlainInst}
use Rattle.spv_layout.specs.First.{rank_of}
use Rattle.spv_kernel_operands.specs.Seats.{lines, scopes_of, semantics_of}
use Rattle.spv_kernel_operands.specs.Scopes.{IsMisscoped}
use Rattle.spv_kernel_operands.specs.Pointers.{IsMisatomic, IsMiswritten, is_any_atomic, is_atomic, is_write}
use Rattle.spv_kernel_operands.specs.Control.{IsMiscontrolled}
use Rattle.spv_kernel_operands.specs.Switch.{IsMisswitched}
use Rattle.spv_kernel_operands.specs.Objects.{IsVoidReturn, IsMadeElsewhere}
use Rattle.spv_kernel_operands.specs.Broken.{Broken, IsBrokenBy}
use Rattle.spv_kernel_operands.specs.inner.First.{AreKept, IsFirstAt, IsFirstInMemory}
use Rattle.spv_kernel_operands.proofs.Firsts.{by_rule, first_none, first_nowhere, first_of_inst, same_inst}

-- no operand of an opcode is a scope or semantics, and none of its instructions writes or is an atomic
pub record IsPlain (code : ℕ) : Type 0 where
  pub scopes : scopes_of code ≡ []
  pub semantics : semantics_of code ≡ []
  pub write : is_write code ≡ false
  pub atomic : is_any_atomic code ≡ false

none_among : (xs : List ℕ) (k : ℕ) → xs ≡ [] → ¬ (Contains xs k)
none_among xs k e h = absurd (omega (arith, h.1, ap length e))

pub unscoped : (is : List PlainInst) (i : PlainInst) → scopes_of i.opcode ≡ [] → semantics_of i.opcode ≡ []
    → is_any_atomic i.opcode ≡ false → ¬ (IsMisscoped is i)
unscoped is i a b c (IsMisscoped.scope k n s l) = none_among (scopes_of i.opcode) k a s.seat
unscoped is i a b c (IsMisscoped.group k n g first s two three) = none_among (scopes_of i.opcode) k a s.seat
unscoped is i a b c (IsMisscoped.order k n s o) = none_among (semantics_of i.opcode) k b s.seat
unscoped is i a b c (IsMisscoped.capable k n s o) = none_among (semantics_of i.opcode) k b s.seat
unscoped is i a b c (IsMisscoped.unequal n e v s) = false≢true (sym c ∙ ap is_any_atomic e)
unscoped is i a b c (IsMisscoped.clear n e v s) = false≢true (sym c ∙ ap is_any_atomic e)

or_false : (a b : Bool) → (a || b) ≡ false → IsTrue a → ⊥
or_false true b e t = false≢true (sym e)
or_false false b e t = false≢true t

both_false : (a b : Bool) → a ≡ false → b ≡ false → IsTrue (a || b) → ⊥
both_false true b e f t = false≢true (sym e)
both_false false true e f t = false≢true (sym f)
both_false false false e f t = false≢true t

pub unatomic : (G : Table) (is : List PlainInst) (i : PlainInst) → is_any_atomic i.opcode ≡ false
    → ¬ (IsMisatomic G is i)
unatomic G is i c h = or_false (is_atomic i.opcode) _ c h.called

pub kept : (G : Table) (is : List PlainInst) (i : PlainInst) → IsPlain i.opcode → AreKept G is i
kept G is i p = record {
  scopes = unscoped is i p.scopes p.semantics p.atomic;
  atomic = unatomic G is i p.atomic;
  written = λ h. both_false (is_write i.opcode) (is_any_atomic i.opcode) p.write p.atomic h.called;
  copied = λ h. false≢true (sym p.write ∙ ap is_write h.called);
}

-- two opcodes are not one
apart : (code k m : ℕ) → code ≡ k → nat_eq k m ≡ false → code ≡ m → ⊥
apart code k m e never f = false≢true (sym never ∙ eq-eqb k m (sym e ∙ f))

-- an opcode is none of those that one rule of O18 to O23 is on
pub record IsOther (code : ℕ) : Type 0 where
  pub loop : code ≡ opcode.LOOP_MERGE → ⊥
  pub branch : code ≡ opcode.BRANCH_CONDITIONAL → ⊥
  pub switch : code ≡ opcode.SWITCH → ⊥
  pub value : code ≡ opcode.RETURN_VALUE → ⊥
  pub sample : code ≡ opcode.IMAGE_SAMPLE_EXPLICIT_LOD → ⊥
  pub image : code ≡ opcode.IMAGE → ⊥

uncontrolled : (i : PlainInst) → (i.opcode ≡ opcode.LOOP_MERGE → ⊥) → (i.opcode ≡ opcode.BRANCH_CONDITIONAL → ⊥)
    → ¬ (IsMiscontrolled i)
uncontrolled i a b (IsMiscontrolled.loop e h) = a e
uncontrolled i a b (IsMiscontrolled.weights e h) = b e

unswitched : (is : List PlainInst) (i : PlainInst) → (i.opcode ≡ opcode.SWITCH → ⊥) → ¬ (IsMisswitched is i)
unswitched is i a (IsMisswitched.twice e h) = a e
unswitched is i a (IsMisswitched.wide e h) = a e

not_elsewhere : (is : List PlainInst) (n : ℕ) (i : PlainInst) → slice_get is n ≡ Some i
    → (i.opcode ≡ opcode.IMAGE_SAMPLE_EXPLICIT_LOD → ⊥) → (i.opcode ≡ opcode.IMAGE → ⊥) → ¬ (IsMadeElsewhere is n)
not_elsewhere is n i at a b h =
    let same : i ≡ h.inst = same_Some i h.inst (sym at ∙ h.there) in
    let code : i.opcode ≡ h.inst.opcode = ap (λ (j : PlainInst). j.opcode) same in
    elim h.called [ inl e ↦ a (code ∙ e) | inr e ↦ b (code ∙ e) ]

-- what holds of each rule that an instruction breaks, where none of O14 to O17 is
later_by : (G : Table) (is : List PlainInst) (i : PlainInst) (P : Rule → Type 0) → AreKept G is i
    → (IsMiscontrolled i → P O18) → (IsMisswitched is i → P O19) → (IsVoidReturn is i → P O20) → (q : Rule)
    → IsBrokenBy G is i q → P q
later_by G is i P k e f g = by_rule G is i P (λ h. absurd (k.scopes h)) (λ h. absurd (k.atomic h))
    (λ h. absurd (k.written h)) (λ h. absurd (k.copied h)) e f g

none_other : (G : Table) (is : List PlainInst) (n : ℕ) (i : PlainInst) → slice_get is n ≡ Some i → IsOther i.opcode
    → AreKept G is i → IsFirstAt G is n None
none_other G is n i at o k = first_nowhere G is n i at (first_none G is i k.scopes k.atomic k.written k.copied
    (uncontrolled i o.loop o.branch) (unswitched is i o.switch) (λ h. o.value h.called))
    (not_elsewhere is n i at o.sample o.image)

pub quiet_at : (G : Table) (is : List PlainInst) (n : ℕ) (i : PlainInst) → slice_get is n ≡ Some i → IsOther i.opcode
    → IsPlain i.opcode → (r : Rule) → ¬ (Broken G is r n)
quiet_at G is n i at o p = none_other G is n i at o (kept G is i p)

pub memory_at : (G : Table) (is : List PlainInst) (n : ℕ) (i : PlainInst) (o : Option Rule) → slice_get is n ≡ Some i
    → IsOther i.opcode → IsFirstInMemory G is i o → IsFirstAt G is n o
memory_at G is n i None at o h = none_other G is n i at o h
memory_at G is n i (Some r) at o h = first_of_inst G is n i r at h

-- where an instruction can break one rule alone
all_at : (G : Table) (is : List PlainInst) (n : ℕ) (i : PlainInst) (r : Rule) (P : Type 0) → slice_get is n ≡ Some i
    → ((q : Rule) → IsBrokenBy G is i q → (q ≡ r) × P) → (IsMadeElsewhere is n → (O23 ≡ r) × P) → (q : Rule)
    → Broken G is q n → (q ≡ r) × P
all_at G is _ i r P at own other _ (Broken.operands q n j t b) = own q (same_inst G is n i j q at t b)
all_at G is _ i r P at own other _ (Broken.elsewhere n e) = other e

alone_at : (G : Table) (is : List PlainInst) (n : ℕ) (r : Rule) (P : Type 0) (b : Bool) → IsTrue b ↔ P
    → (P → Broken G is r n) → ((q : Rule) → Broken G is q n → (q ≡ r) × P)
    → IsFirstAt G is n (if b then Some r else None)
alone_at G is n r P true told does only = (
  does (told.0 refl),
  λ q h. subst (λ (p : Rule). rank_of r ≤ rank_of p) (sym (only q h).0) (omega arith),
)
alone_at G is n r P false told does only = λ q h. false≢true (told.1 (only q h).1)

pub store_at : (G : Table) (is : List PlainInst) (n : ℕ) (i : PlainInst) (b : Bool) → slice_get is n ≡ Some i
    → i.opcode ≡ opcode.STORE → IsTrue b ↔ IsMiswritten is i → IsFirstAt G is n (if b then Some O16 else None)
unfolding lines
store_at G is n i b at op told = alone_at G is n O16 (IsMiswritten is i) b told
    (λ h. Broken.operands O16 n i at (IsBrokenBy.written h))
    (all_at G is n i O16 (IsMiswritten is i) at
    (by_rule G is i (λ q. (q ≡ O16) × IsMiswritten is i) (λ h. absurd (unscoped is i (ap scopes_of op)
    (ap semantics_of op) atomic h)) (λ h. absurd (unatomic G is i atomic h)) (λ h. (refl, h))
    (λ h. absurd (never opcode.COPY_MEMORY_SIZED refl h.called))
    (λ h. absurd (uncontrolled i (never opcode.LOOP_MERGE refl) (never opcode.BRANCH_CONDITIONAL refl) h))
    (λ h. absurd (unswitched is i (never opcode.SWITCH refl) h))
    (λ h. absurd (never opcode.RETURN_VALUE refl h.called)))
    (λ h. absurd (not_elsewhere is n i at (never opcode.IMAGE_SAMPLE_EXPLICIT_LOD refl) (never opcode.IMAGE refl) h)))
  where
    never : (m : ℕ) → nat_eq opcode.STORE m ≡ false → i.opcode ≡ m → ⊥
    never m = apart i.opcode opcode.STORE m op

    atomic : is_any_atomic i.opcode ≡ false
    atomic = ap is_any_atomic op

plain_loop : IsPlain opcode.LOOP_MERGE
unfolding lines
plain_loop = record { scopes = refl; semantics = refl; write = refl; atomic = refl }

plain_branch : IsPlain opcode.BRANCH_CONDITIONAL
unfolding lines
plain_branch = record { scopes = refl; semantics = refl; write = refl; atomic = refl }

plain_switch : IsPlain opcode.SWITCH
unfolding lines
plain_switch = record { scopes = refl; semantics = refl; write = refl; atomic = refl }

plain_value : IsPlain opcode.RETURN_VALUE
unfolding lines
plain_value = record { scopes = refl; semantics = refl; write = refl; atomic = refl }

plain_sample : IsPlain opcode.IMAGE_SAMPLE_EXPLICIT_LOD
unfolding lines
plain_sample = record { scopes = refl; semantics = refl; write = refl; atomic = refl }

plain_image : IsPlain opcode.IMAGE
unfolding lines
plain_image = record { scopes = refl; semantics = refl; write = refl; atomic = refl }

-- an instruction of the opcode is none of the others
control_by : (G : Table) (is : List PlainInst) (n : ℕ) (i : PlainInst) (b : Bool) (code : ℕ) → slice_get is n ≡ Some i
    → i.opcode ≡ code → IsPlain code → nat_eq code opcode.SWITCH ≡ false → nat_eq code opcode.RETURN_VALUE ≡ false
    → nat_eq code opcode.IMAGE_SAMPLE_EXPLICIT_LOD ≡ false → nat_eq code opcode.IMAGE ≡ false
    → IsTrue b ↔ IsMiscontrolled i → IsFirstAt G is n (if b then Some O18 else None)
control_by G is n i b code at op p no_switch no_value no_sample no_image told =
    alone_at G is n O18 (IsMiscontrolled i) b told (λ h. Broken.operands O18 n i at (IsBrokenBy.control h))
    (all_at G is n i O18 (IsMiscontrolled i) at
    (later_by G is i (λ q. (q ≡ O18) × IsMiscontrolled i) (kept G is i (subst IsPlain (sym op) p)) (λ h. (refl, h))
    (λ h. absurd (unswitched is i (never opcode.SWITCH no_switch) h))
    (λ h. absurd (never opcode.RETURN_VALUE no_value h.called)))
    (λ h. absurd (not_elsewhere is n i at (never opcode.IMAGE_SAMPLE_EXPLICIT_LOD no_sample)
    (never opcode.IMAGE no_image) h)))
  where
    never : (m : ℕ) → nat_eq code m ≡ false → i.opcode ≡ m → ⊥
    never m = apart i.opcode code m op

pub control_at : (G : Table) (is : List PlainInst) (n : ℕ) (i : PlainInst) (b : Bool) → slice_get is n ≡ Some i
    → (i.opcode ≡ opcode.LOOP_MERGE) ⊎ (i.opcode ≡ opcode.BRANCH_CONDITIONAL) → IsTrue b ↔ IsMiscontrolled i
    → IsFirstAt G is n (if b then Some O18 else None)
control_at G is n i b at (inl op) told =
    control_by G is n i b opcode.LOOP_MERGE at op plain_loop refl refl refl refl told
control_at G is n i b at (inr op) told =
    control_by G is n i b opcode.BRANCH_CONDITIONAL at op plain_branch refl refl refl refl told

pub switch_at : (G : Table) (is : List PlainInst) (n : ℕ) (i : PlainInst) (b : Bool) → slice_get is n ≡ Some i
    → i.opcode ≡ opcode.SWITCH → IsTrue b ↔ IsMisswitched is i → IsFirstAt G is n (if b then Some O19 else None)
switch_at G is n i b at op told = alone_at G is n O19 (IsMisswitched is i) b told
    (λ h. Broken.operands O19 n i at (IsBrokenBy.switch h))
    (all_at G is n i O19 (IsMisswitched is i) at
    (later_by G is i (λ q. (q ≡ O19) × IsMisswitched is i) (kept G is i (subst IsPlain (sym op) plain_switch))
    (λ h. absurd (uncontrolled i (never opcode.LOOP_MERGE refl) (never opcode.BRANCH_CONDITIONAL refl) h))
    (λ h. (refl, h)) (λ h. absurd (never opcode.RETURN_VALUE refl h.called)))
    (λ h. absurd (not_elsewhere is n i at (never opcode.IMAGE_SAMPLE_EXPLICIT_LOD refl) (never opcode.IMAGE refl) h)))
  where
    never : (m : ℕ) → nat_eq opcode.SWITCH m ≡ false → i.opcode ≡ m → ⊥
    never m = apart i.opcode opcode.SWITCH m op

pub return_at : (G : Table) (is : List PlainInst) (n : ℕ) (i : PlainInst) (b : Bool) → slice_get is n ≡ Some i
    → i.opcode ≡ opcode.RETURN_VALUE → IsTrue b ↔ IsVoidReturn is i → IsFirstAt G is n (if b then Some O20 else None)
return_at G is n i b at op told = alone_at G is n O20 (IsVoidReturn is i) b told
    (λ h. Broken.operands O20 n i at (IsBrokenBy.void h))
    (all_at G is n i O20 (IsVoidReturn is i) at
    (later_by G is i (λ q. (q ≡ O20) × IsVoidReturn is i) (kept G is i (subst IsPlain (sym op) plain_value))
    (λ h. absurd (uncontrolled i (never opcode.LOOP_MERGE refl) (never opcode.BRANCH_CONDITIONAL refl) h))
    (λ h. absurd (unswitched is i (never opcode.SWITCH refl) h)) (λ h. (refl, h)))
    (λ h. absurd (not_elsewhere is n i at (never opcode.IMAGE_SAMPLE_EXPLICIT_LOD refl) (never opcode.IMAGE refl) h)))
  where
    never : (m : ℕ) → nat_eq opcode.RETURN_VALUE m ≡ false → i.opcode ≡ m → ⊥
    never m = apart i.opcode opcode.RETURN_VALUE m op

image_by : (G : Table) (is : List PlainInst) (n : ℕ) (i : PlainInst) (b : Bool) (code : ℕ) → slice_get is n ≡ Some i
    → i.opcode ≡ code → IsPlain code → nat_eq code opcode.LOOP_MERGE ≡ false
    → nat_eq code opcode.BRANCH_CONDITIONAL ≡ false → nat_eq code opcode.SWITCH ≡ false
    → nat_eq code opcode.RETURN_VALUE ≡ false → IsTrue b ↔ IsMadeElsewhere is n
    → IsFirstAt G is n (if b then Some O23 else None)
image_by G is n i b code at op p no_loop no_branch no_switch no_value told =
    alone_at G is n O23 (IsMadeElsewhere is n) b told (λ h. Broken.elsewhere n h)
    (all_at G is n i O23 (IsMadeElsewhere is n) at
    (later_by G is i (λ q. (q ≡ O23) × IsMadeElsewhere is n) (kept G is i (subst IsPlain (sym op) p))
    (λ h. absurd (uncontrolled i (never opcode.LOOP_MERGE no_loop) (never opcode.BRANCH_CONDITIONAL no_branch) h))
    (λ h. absurd (unswitched is i (never opcode.SWITCH no_switch) h))
    (λ h. absurd (never opcode.RETURN_VALUE no_value h.called)))
    (λ h. (refl, h)))
  where
    never : (m : ℕ) → nat_eq code m ≡ false → i.opcode ≡ m → ⊥
    never m = apart i.opcode code m op

pub image_at : (G : Table) (is : List PlainInst) (n : ℕ) (i : PlainInst) (b : Bool) → slice_get is n ≡ Some i
    → (i.opcode ≡ opcode.IMAGE_SAMPLE_EXPLICIT_LOD) ⊎ (i.opcode ≡ opcode.IMAGE) → IsTrue b ↔ IsMadeElsewhere is n
    → IsFirstAt G is n (if b then Some O23 else None)
image_at G is n i b at (inl op) told =
    image_by G is n i b opcode.IMAGE_SAMPLE_EXPLICIT_LOD at op plain_sample refl refl refl refl told
image_at G is n i b at (inr op) told = image_by G is n i b opcode.IMAGE at op plain_image refl refl refl refl told
