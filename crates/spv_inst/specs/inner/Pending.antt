-- What the decoder keeps of what is due, as a list. (For the code alone.)
use Rattle.std.specs.Prelude.{◌≡◌, ◌++◌, ◌-◌, ◌/◌, ◌%◌, ◌^◌, ℕ, List, [], ◌∷◌, Bool}
use Rattle.std.specs.Prelude.{false, nat_eq, filter, map, unwrap_or}
use Rattle.spv_table.specs.declared.table.Enumerant.{Enumerant}
use Rattle.spv_table.specs.declared.table.Item as declared
use Rattle.spv_table.specs.Table.{Table, kind_of}
use Rattle.spv_inst.specs.declared.pending.Frame.{Frame}
use Rattle.spv_inst.specs.declared.pending.Frame.TheVariants.{Kinds, Bits}
use Rattle.spv_inst.specs.declared.pending.Pending.{Pending}
use Rattle.spv_inst.specs.declared.reader.Slot as code
use Rattle.spv_module.specs.Operand.{Plain, Value, Mask, Context}
use Rattle.spv_module.specs.Shape.{Slot, alone, AsParts, shape_of}
use Rattle.spv_module.specs.Spelling.{bits_from, parameters_of}
use Rattle.spv_inst.specs.Reading.{enumerants_at}
use Rattle.spv_inst.specs.Flat.{Due, OneOf, due}
pub use Rattle.spv_inst.specs.inner.Items.{items_of, settled}

-- a slot of the code
abbrev pub plain_slot : code.Slot → Slot
plain_slot s = record { kind = s.kind; paired = s.paired }

-- kinds in order, all bases of PairLiteralIntegerIdRef or none
abbrev pub slots_of : Bool → List ℕ → List Slot
slots_of paired ks = map (λ k. record { kind = k; paired = paired }) ks

-- the parameters of bits in order; of a bit without enumerant none
abbrev pub parameters_of_known : List Enumerant → List ℕ → List ℕ
parameters_of_known es [] = []
parameters_of_known es (b ∷ bs) = unwrap_or (parameters_of es b) [] ++ parameters_of_known es bs

-- the parameters of a mask's set bits from a position up, the smaller bit first
unfoldable pub parameters_from : Table → ℕ → ℕ → ℕ → List ℕ
parameters_from G kind mask position =
    parameters_of_known (enumerants_at (kind_of G kind))
    (filter (λ b. nat_eq (mask / b % 2) 1) (bits_from (32 - position) (2 ^ position)))

-- what a place in a parameter list makes due
abbrev pub frame_due : Table → Frame → List Due
frame_due G (Kinds left paired) = map OneOf (slots_of paired left.now)
frame_due G (Bits kind mask position) = map OneOf (slots_of false (parameters_from G kind mask position))

-- what such places make due, the last first
abbrev pub frames_due : Table → List Frame → List Due
frames_due G [] = []
frames_due G (f ∷ fs) = frames_due G fs ++ frame_due G f

-- kinds in order, and then the items of a pattern
abbrev pub due_first : List ℕ → List declared.Item → List Due
due_first ks is = map OneOf (map alone ks) ++ map due (items_of is)

-- what a stack of pending operands makes due: the open parameter lists, then the items left of the pattern
abbrev pub pending_due : Table → Pending → List Due
pending_due G a = frames_due G a.frames.items ++ map due (items_of a.items.left.now)

-- what is due with a slot in front: the slot, or in its place the bases of its Composite
pub data Opens (G : Table) (s : Slot) (ds : List Due) : List Due → Type 0 where
  leaf : Opens G s ds (OneOf s ∷ ds)
  parts : (ss : List Slot) → ((c : Context) → shape_of G c s ≡ AsParts ss) → Opens G s ds (map OneOf ss ++ ds)

-- what is due begins with a slot, and in its place a leaf is due
pub record LeadsTo (G : Table) (ds : List Due) (s : Slot) (es : List Due) : Type 0 where
  pub slot : Slot
  pub rest : List Due
  pub first : ds ≡ OneOf slot ∷ rest
  pub opened : Opens G slot rest (OneOf s ∷ es)

-- the parameters that an operand opens
abbrev pub opened_kinds : Table → Plain → List ℕ
opened_kinds G (Value k x) = unwrap_or (parameters_of (enumerants_at (kind_of G k)) x) []
opened_kinds G (Mask k x) = parameters_from G k x 0
opened_kinds G _ = []
