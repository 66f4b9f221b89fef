-- A module that all layers let through, and what they refuse.
use Rattle.std.proofs.Common.{◌≡◌, ◌↔◌, ℕ, List, Result, Ok, IfOk, drop, refl}
use Rattle.spv_words.specs.Header.{IsModule}
use Rattle.spv_words.specs.declared.words.Order.{Order}
use Rattle.spv_table.specs.Table.{Table}
use Rattle.spv_table.specs.declared.error.Memory.{Memory as OutOfMemory}
use Rattle.spv_module.specs.Operand.{PlainInst}
use Rattle.spv_extended.specs.declared.reach.Reach.{Reach}
use Rattle.spv_extended.specs.Broken as extended_rules
use Rattle.spv_extended.specs.Reach.{profile_of}
use Rattle.spv_std_types.specs.Broken as std_rules
use Rattle.spv_standard.specs.Broken as standard_rules
use Rattle.spv_inst.specs.Outcome.{IsDecodeFault, IsHeaderOf}
use Rattle.spv_module.specs.Module.{plain_insts}
use Rattle.spv_module.specs.declared.fault.Stop.{Stop}
use Rattle.spv_module.specs.declared.fault.Stop.TheVariants.{Fault as Faulty, Memory}
use Rattle.spv_layout.specs.Place.{IsShort}
use Rattle.spv_check.specs.Answer.{IsAnswer, IsFault, SaysValid, StopsAs}
use Rattle.spv_check.specs.Broken.{IsSound}
use Rattle.spv_check.specs.Checked.{AreParts, IsChecked, IsKept, program_of}
use Rattle.spv_check.specs.Program.{Program}
use Rattle.spv_check.specs.Reading.{IsReading}
use Rattle.spv_check.specs.Valid.{IsValid}
use Rattle.spv_check.specs.declared.checked.Verdict.{Verdict}
use Rattle.spv_check.specs.declared.checked.Verdict.TheVariants.{Valid, Fault}
use Rattle.spv_module.specs.declared.fault.Rule.{Rule}
use Rattle.spv_layout.specs.Broken as layout_rules
use Rattle.spv_layout.specs.First.{IsUnbroken}
use Rattle.spv_layout.specs.Plan.{IsPlan, IsLaidOut}
use Rattle.spv_layout.proofs.Seen.{seen_layout}
use Rattle.spv_ids.specs.Outcome.{AreIds}
use Rattle.spv_check.specs.types.Broken as type_rules
use Rattle.spv_type_rules.specs.roles.Outcome.{AreInRole}
use Rattle.spv_capabilities.specs.Keeps as capability_rules
use Rattle.spv_ops.specs.Typed.{IsTyped}
use Rattle.spv_type_rules.specs.Keeps as typing_rules
use Rattle.spv_check.specs.flow.Outcome.{IsFlow}
use Rattle.std.specs.Prelude.{Some, slice_get}
use Rattle.spv_check.specs.Fork.{fork_of}
use Rattle.spv_check.proofs.Firsts.{IsUpToCalls, sound}
use Rattle.spv_module.specs.declared.fault.Fault as fault
use Rattle.spv_check.specs.Verdict.{IsVerdict, fault_line, valid_line}
use Rattle.spv_check.proofs.Verdicts.{Laws, fault_invalid, fault_verdict, valid_of, valid_verdict}
use Rattle.spv_module.specs.declared.module.Module.{Module}
use Rattle.spv_layout.specs.declared.place.Place.{Place}
use Rattle.spv_layout.specs.Stage as stages
use Rattle.spv_ids.specs.declared.ids.Ids.{Ids}
use Rattle.spv_check.specs.declared.flow.Flow.{Flow}

-- what all layers answered of a module
pub kept_of : (G : Table) (reach : Reach) (p : Program) (ids : Ids) (flow : Flow) → IsShort p.insts
    → IsLaidOut (profile_of reach) G p.insts → AreIds G p.bound p.insts ids
    → AreInRole G p.insts
    → ((r : Rule) (n : ℕ) (i : PlainInst) → slice_get p.insts n ≡ Some i → capability_rules.Keeps G p.insts r n i)
    → ((r : Rule) (n : ℕ) (i : PlainInst) → slice_get p.insts n ≡ Some i
    → typing_rules.Keeps (IsTyped G p.insts) p.insts r n i)
    → IsUnbroken (type_rules.Broken G p.insts) stages.of_roles
    × IsUnbroken (type_rules.Broken G p.insts) stages.of_types → IsFlow (fork_of reach) G p.insts flow
    → ((r : Rule) (n : ℕ) → ¬ (extended_rules.Broken reach p.insts r n))
    → ((r : Rule) (n : ℕ) → ¬ (std_rules.Broken reach p.insts r n))
    → ((r : Rule) (n : ℕ) → ¬ (standard_rules.Broken G reach p.insts r n)) → IsKept G reach p
kept_of G reach p ids flow w a b r c t u f x y z = record {
  few = w;
  laid_out = a;
  ids = b.unbroken;
  roles = r;
  capabilities = c;
  rules = t;
  types = u;
  branches = f.branches;
  values = f.values;
  calls = f.calls;
  extended = x;
  std_types = y;
  standard = z;
}

pub parts_of : (G : Table) (reach : Reach) (m : Module) (places : List Place) (ids : Ids) (flow : Flow)
    → IsKept G reach (program_of m) → IsPlan G (plain_insts m) places
    → AreIds G m.header.bound (plain_insts m) ids → IsFlow (fork_of reach) G (plain_insts m) flow
    → AreParts G reach (program_of m) m places ids flow
parts_of G reach m places ids flow k a b f =
    record { bound = refl; insts = refl; kept = k; plan = a; numbered = b; flowing = f }

-- no rule is broken but, it may be, Y9, Y10 and the rules O
pub up_to_calls : (G : Table) (reach : Reach) (bound : ℕ) (is : List PlainInst) (ids : Ids) (flow : Flow)
    → ((q : Rule) (m : ℕ) → ¬ (layout_rules.Broken (profile_of reach) G is q m)) → AreIds G bound is ids
    → IsUnbroken (type_rules.Broken G is) stages.of_roles × IsUnbroken (type_rules.Broken G is) stages.of_types
    → IsFlow (fork_of reach) G is flow → IsUpToCalls G reach bound is
up_to_calls G reach bound is ids flow u a t f = record {
  before = record { of_layout = u; of_ids = a.unbroken; of_roles = t.0; of_types = t.1 };
  branches = f.branches;
  values = f.values;
  calls = f.calls;
}

pub sound_of : (G : Table) (reach : Reach) (p : Program)
    → ((q : Rule) (m : ℕ) → ¬ (layout_rules.Broken (profile_of reach) G p.insts q m)) → IsKept G reach p
    → IsSound G reach p.bound p.insts
sound_of G reach p u k =
    let most : IsUpToCalls G reach p.bound p.insts = record {
      before = record { of_layout = u; of_ids = k.ids; of_roles = k.types.0; of_types = k.types.1 };
      branches = k.branches;
      values = k.values;
      calls = k.calls;
    } in
    sound G reach p.bound p.insts most k.extended k.std_types k.standard

pub checked_of : (G : Table) (reach : Reach) (words : List ℕ) (m : Module) (p : Program) → p ≡ program_of m
    → IsReading G reach (plain_insts m) (drop 5 words) → IsHeaderOf words m.header
    → IsSound G reach p.bound p.insts → IsChecked G reach words p
checked_of G reach words m p e l h s = record { reading = rw e l; bound = rw e h.bound; sound = s }

-- parts under one table, as far as the module was looked at, are those under any that is kept
pub parts_under : (G H : Table) (reach past : Reach) (p : Program) (m : Module) (places : List Place) (ids : Ids)
    (flow : Flow) → IsKept G reach p → AreParts H past p m places ids flow → AreParts G reach p m places ids flow
parts_under G H reach past p m places ids flow k a = record {
  bound = a.bound;
  insts = a.insts;
  kept = k;
  plan = record {
    fits = λ n i h. (k.laid_out.fits n i h).shape;
    layout = seen_layout (profile_of reach) p.insts k.laid_out.layout;
    count = a.plan.count;
    place = a.plan.place;
  };
  numbered = record { unbroken = k.ids; each = a.numbered.each };
  flowing = record { branches = k.branches; values = k.values; calls = k.calls; definitions = a.flowing.definitions };
}

-- a verdict on words is valid exactly where their bytes are
pub exactly : Laws → (G : Table) (reach : Reach) (bytes words : List ℕ) (order : Order) (v : Verdict)
    → IsModule order bytes words → IsAnswer G reach words v → SaysValid v ↔ IsValid G reach bytes
exactly laws G reach bytes words order (Valid c) h a = (λ t. valid_of G reach bytes words order c h a, λ v. tt)
exactly laws G reach bytes words order (Fault f) h a =
    (λ t. absurd t, λ v. fault_invalid laws G reach bytes words order f h a v)

-- what a stop of the layers comes to
pub dead_answer : (G : Table) (reach : Reach) (words : List ℕ) (s : Stop) (r : Result Verdict OutOfMemory) → StopsAs s r
    → IsDecodeFault G words s → IfOk r (λ v. IsAnswer G reach words v)
dead_answer G reach words Memory (Ok v) e d = absurd e
dead_answer G reach words Memory r e d = tt
dead_answer G reach words (Faulty f) r e d = rw e (IsFault.dead d.0 d.1)

-- and so it is valid exactly where the bytes are
pub exactly_ok : Laws
    → (G : Table) (reach : Reach) (bytes words : List ℕ) (order : Order) (r : Result Verdict OutOfMemory)
    → IsModule order bytes words → IfOk r (λ v. IsAnswer G reach words v)
    → IfOk r (λ v. SaysValid v ↔ IsValid G reach bytes)
exactly_ok laws G reach bytes words order (Ok v) h a = exactly laws G reach bytes words order v h a
exactly_ok laws G reach bytes words order r h a = tt

-- the lines of what `check` answers
pub valid_judged : (G : Table) (reach : Reach) (bytes words : List ℕ) (order : Order) (v : Verdict) (p : Program)
    → v ≡ Valid p → IsModule order bytes words → IsAnswer G reach words v → IsVerdict G reach bytes valid_line
valid_judged G reach bytes words order v p e h a = valid_verdict G reach bytes words order p h (rw e at a)

pub fault_judged : (G : Table) (reach : Reach) (bytes words : List ℕ) (order : Order) (v : Verdict) (f : fault.Fault)
    → v ≡ Fault f → IsModule order bytes words → IsAnswer G reach words v
    → IsVerdict G reach bytes (fault_line f.rule f.inst f.word)
fault_judged G reach bytes words order v f e h a = fault_verdict G reach bytes words order f h (rw e at a)
